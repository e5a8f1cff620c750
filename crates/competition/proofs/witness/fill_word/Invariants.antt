-- `competition::witness::fill_word` meets its contract. The loop's invariant: `left` is the length of the word to i, and that word before the
-- part of the buffer from `left` on is the claim. The measure is i.
use mathlib.Core.Path.{◌≡◌}
use mathlib.Core.List.{List, ◌++◌}
use Prim.Native.Nat.{ℕ, ◌≤◌}
use lib.ListN.{length, drop}
use Rattle.competition.specs.Found.{word_to}
use Rattle.competition.specs.declared.queue.Found.{Found}
use Rattle.competition.proofs.witness.fill_word.Given as goal

abbrev pub Filling : List Found → ℕ → ℕ → List ℕ → List ℕ → ℕ → ℕ → Type 0
Filling queue at n out₀ out left i =
    (i ≤ at)
    × (left ≡ length (word_to i queue i))
    × (length out ≡ length out₀)
    × (left ≤ length out)
    × (word_to i queue i ++ drop left out ≡ word_to at queue at ++ drop n out₀)

abbrev pub invariant-loop-i : goal.invariant-loop-i
invariant-loop-i l = Filling l.queue l.at l.n l.initial.out l.out l.left l.i

abbrev pub decreases-loop-i : goal.decreases-loop-i
decreases-loop-i l = l.i
