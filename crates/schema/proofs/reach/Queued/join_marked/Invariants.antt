-- What the types from a on leave is what all leave.
use Prim.Native.Nat.{◌-◌}
use mathlib.Core.Path.{◌≡◌}
use Rattle.sdtd.specs.Limits.{most_types}
use Rattle.schema.specs.Spread.{join_marked}
use Rattle.schema.proofs.reach.Queued.join_marked.Given as goal

abbrev pub invariant-loop-a : goal.invariant-loop-a
invariant-loop-a l = join_marked l.marked l.a (most_types - l.a) l.self ≡ join_marked l.marked 0 most_types l.initial.self
