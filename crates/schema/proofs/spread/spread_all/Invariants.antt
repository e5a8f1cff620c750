-- What is left of the round, over what has grown so far, gives what the whole round gives.
use Prim.Native.Nat.{◌-◌}
use mathlib.Core.Path.{◌≡◌}
use lib.ListN.{length}
use Rattle.sdtd.specs.Limits.{most_types}
use Rattle.schema.specs.Spread.{spread_all}
use Rattle.schema.specs.Value.{offset}
use Rattle.schema.specs.Going.{steps_by, tells_by, round}
use Rattle.schema.proofs.spread.spread_all.Given as goal

abbrev pub invariant-loop-a : goal.invariant-loop-a
invariant-loop-a l =
    let v = l.schema in
    (l.start ≡ offset v.steps l.a)
    × (spread_all v.steps (steps_by l.way v) (tells_by l.way v l.initial.ways) l.a l.start (v.types - l.a) l.sets ≡ round l.way v l.initial.ways l.initial.sets)
    × (l.ways ≡ tells_by l.way v l.initial.ways l.sets) × (length l.sets ≡ most_types)
