-- `before` counts the steps of the types so far.
use mathlib.Core.Path.{◌≡◌}
use Prim.Native.Nat.{◌*◌, ◌≤◌}
use Rattle.schema.specs.Value.{offset}
use Rattle.schema.proofs.value.Schema.span.Given as goal

abbrev pub invariant-loop-b : goal.invariant-loop-b
invariant-loop-b l = (l.before ≡ offset l.self.steps l.b) × (l.before ≤ 65536 * l.b)
