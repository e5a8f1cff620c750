-- The queue of the pair search: pairs found, each with the type by which it was found and the place of the pair that it was found from.
use Rattle.std.specs.Prelude.{List, ℕ, suc, zero, ◌+◌, ◌<◌, ◌≤◌, []}
use Rattle.std.specs.Prelude.{cond, ◌∷◌, ◌++◌, eqb, get_or, set}
use Rattle.sdtd.specs.Numbered.{type_no}
use Rattle.competition.specs.declared.queue.Found.{Found}
use Rattle.competition.specs.declared.queue.Queue.{Queue}

-- the pair p, q, found by the type j from the pair at the place `at`
abbrev pub pair_found : ℕ → ℕ → ℕ → ℕ → Found
pair_found p q j at = record { first = p; second = q; by = type_no j; parent = at }

-- the pair of start states, found from nothing
abbrev pub start : Found
start = pair_found 0 0 0 0

-- what stands at a place of the queue
abbrev pub found_at : List Found → ℕ → Found
found_at queue i = get_or queue i start

-- only the pair of start states
abbrev pub started : Queue → Queue
started q = record { found = set q.found 0 start; count = 1 }

-- the queue with one pair more
abbrev pub joined : Queue → Found → Queue
joined q x = record { found = set q.found q.count x; count = q.count + 1 }

-- the types on the way from the first pair of the queue to the pair at the place i, where `fuel` is at least i
unfoldable pub word_to : ℕ → List Found → ℕ → List ℕ
word_to zero queue i = []
word_to (suc fuel) queue i = cond (eqb i 0) [] (word_to fuel queue (found_at queue i).parent ++ ((found_at queue i).by.0 ∷ []))

-- each pair up to the place `at` was found from an earlier one
abbrev pub Linked : List Found → ℕ → Type 0
Linked queue at = (i : ℕ) → 0 < i → i ≤ at → (found_at queue i).parent < i
