-- The types before the place `at` of the queue are gone over.
use Prim.Native.Nat.{◌-◌}
use Rattle.sdtd.specs.Limits.{most_types}
use Rattle.schema.specs.Spread.{steps_in}
use Rattle.schema.specs.Value.{steps_of}
use Rattle.schema.proofs.ReachLaws.{Visited}
use Rattle.schema.proofs.reach.reached_types.Given as goal

abbrev pub invariant-loop-at : goal.invariant-loop-at
invariant-loop-at l =
    Visited (steps_in l.accepted.schema.now.steps (steps_of l.accepted.schema.now.from l.accepted.schema.now.by l.accepted.schema.now.to) l.accepted.schema.now.types) l.found.ways l.forward l.found.live l.roots l.at l.types

abbrev pub decreases-loop-at : goal.decreases-loop-at
decreases-loop-at l = most_types - l.at
