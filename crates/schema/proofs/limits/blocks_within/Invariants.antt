-- The types from a on fit exactly when all do.
use mathlib.Core.Logic.{◌↔◌}
use Prim.Native.Nat.{◌-◌, ◌≤◌}
use Rattle.sdtd.specs.Limits.{most_steps}
use Rattle.schema.specs.Value.{steps_of}
use Rattle.schema.specs.Limits.{BlocksFit}
use Rattle.schema.proofs.limits.blocks_within.Given as goal

abbrev pub invariant-loop-a : goal.invariant-loop-a
invariant-loop-a l =
    let v = l.schema in
    (l.start ≤ most_steps)
    × (BlocksFit v.tag v.states v.accepting v.steps (steps_of v.from v.by v.to) v.tags v.types l.a l.start (v.types - l.a)
    ↔ BlocksFit v.tag v.states v.accepting v.steps (steps_of v.from v.by v.to) v.tags v.types 0 0 v.types)
