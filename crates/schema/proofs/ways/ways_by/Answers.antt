-- The table so far is that of the types below `a`.
use mathlib.Core.Path.{refl}
use native.Mathlib.Omega.{arith}
use Rattle.schema.specs.Spread.{ways_by}
use Rattle.schema.specs.Value.{up_from}
use Rattle.schema.proofs.WaysLaws.{ways_next}
use Rattle.schema.proofs.ways.ways_by.Goals as goal

pub loop-a-init : goal.loop-a-init
unfolding ways_by up_from
loop-a-init c = refl

pub loop-a-preserved : goal.loop-a-preserved
loop-a-preserved c =
    let a = c.args in
    rw (c.loop-a.invariant, c.ways_of.ensures) (ways_next a.nillable.now a.types c.requires a.live.now c.loop-a.a (omega arith))
