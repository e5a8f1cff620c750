-- `competition::witness::word_length` meets its contract. The loop's invariant: i is at most `at`, and what is counted so far and the length
-- of the word to i are together the length of the word to `at`. The measure is i.
use mathlib.Core.Path.{◌≡◌}
use Prim.Native.Nat.{◌+◌, ◌≤◌}
use lib.ListN.{length}
use Rattle.competition.specs.Found.{word_to}
use Rattle.competition.proofs.witness.word_length.Given as goal

abbrev pub invariant-loop-i : goal.invariant-loop-i
invariant-loop-i l = (l.i ≤ l.at) × (l.n + length (word_to l.i l.queue l.i) ≡ length (word_to l.at l.queue l.at))

abbrev pub decreases-loop-i : goal.decreases-loop-i
decreases-loop-i l = l.i
