-- `competition::rivals::rivals_at` meets its contract. The loop's invariant: no entry of the left row before has a rival in the right row.
use Prim.Native.Nat.{ℕ, ◌<◌}
use lib.ListN.{get_or}
use Rattle.competition.specs.Rivals.{IsRival}
use Rattle.competition.proofs.rivals.rivals_at.Given as goal

abbrev pub invariant-loop-e : goal.invariant-loop-e
invariant-loop-e l = (n : ℕ) → n < l.e-index → (k : ℕ) → ¬ IsRival l.fn.right (get_or l.left n 0) k
