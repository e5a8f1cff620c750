-- The table so far has the places of the types below `a`.
use Prim.Native.Nat.{ℕ, ◌+◌, ◌<◌}
use mathlib.Core.Path.{◌≡◌, ◌∙◌}
use mathlib.Core.List.{List}
use native.Mathlib.Decide.{ℕ_discrete}
use native.Mathlib.Omega.{arith}
use lib.ListN.{length, set, length-set}
use lib.Seq.{get_or-set_same, get_or-set_other}
use Rattle.schema.specs.Value.{offset}
use Rattle.schema.specs.Spread.{Starts}
use Rattle.schema.proofs.Rounds.{offset_more, steps_fit}
use Rattle.schema.proofs.reach.starts.Goals as goal

-- one place more
more : (steps table : List ℕ) (a start : ℕ) → start ≡ offset steps a → a < length table → Starts steps a table
    → Starts steps (a + 1) (set table a start)
more steps table a start e l h k b =
    elim (ℕ_discrete k a) [
      | yes q ↦ rw q (get_or-set_same table a start 0 l ∙ e)
      | no d ↦ get_or-set_other table a k start 0 d ∙ h k (omega arith)
    ]

pub overflow_add-start : goal.overflow_add-start
overflow_add-start c =
    let v = c.args.accepted.now.schema.now in
    omega (arith, c.args.accepted.now.steps, steps_fit v.steps c.loop-a.a v.types (omega arith))

pub loop-a-preserved : goal.loop-a-preserved
loop-a-preserved c =
    let i = c.loop-a.invariant in
    let v = c.args.accepted.now.schema.now in (
      rw c.from-start.ensures (offset_more v.steps c.loop-a.a _ i.0),
      length-set c.loop-a.starts c.loop-a.a c.loop-a.start ∙ i.1,
      more v.steps c.loop-a.starts c.loop-a.a c.loop-a.start i.0 (omega arith) i.2,
    )
