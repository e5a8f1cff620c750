-- The steps over the set so far settle where they settle over the first one; each time that they change it leaves fewer states absent.
use Prim.Native.Nat.{◌^◌, ◌<◌}
use mathlib.Core.Path.{◌≡◌}
use Rattle.sdtd.specs.Limits.{most_states}
use Rattle.schema.specs.Spread.{settle_set}
use Rattle.schema.specs.Going.{steps_by}
use Rattle.schema.proofs.Bits.{absent}
use Rattle.schema.proofs.spread.settle_set.Given as goal

abbrev pub invariant-loop-settled : goal.invariant-loop-settled
invariant-loop-settled l =
    (l.settled < 2 ^ most_states)
    × (settle_set l.ways (steps_by l.way l.schema l.span.start l.span.n) l.settled ≡ settle_set l.ways (steps_by l.way l.schema l.span.start l.span.n) l.set)

abbrev pub decreases-loop-settled : goal.decreases-loop-settled
decreases-loop-settled l = absent l.settled
