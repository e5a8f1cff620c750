-- What the private steps of the pair search compute.
use Rattle.std.specs.Prelude.{Bool, cond, true, false, List, ℕ, eqb, ltb, fold, get_or, set}
use Rattle.sdtd.specs.Limits.{most_pairs}
use Rattle.sdtd.specs.Competition.{pair_number}
use Rattle.schema.specs.Rows.{to_in, by_in}
use Rattle.competition.specs.Found.{pair_found, joined}
use Rattle.competition.specs.declared.queue.Found.{Found}
use Rattle.competition.specs.declared.queue.Queue.{Queue}

-- which pairs are reached, and the queue of those
pub record Marks : Type 0 where
  pub reached : List Bool
  pub queue : Queue

abbrev pub marks : List Bool → Queue → Marks
marks reached queue = record { reached = reached; queue = queue }

-- the pair joins the queue, unless it is reached already or the queue is full
unfoldable pub mark_of : Marks → Found → Marks
mark_of m x =
    cond (get_or m.reached (pair_number x.first x.second) false) m
    (cond (ltb m.queue.count most_pairs)
    (marks (set m.reached (pair_number x.first x.second) true) (joined m.queue x))
    m)

-- the pair that the entries e and f of rows lead to, if they are of one type, from the pair at the place `at`
abbrev pub mark_both : ℕ → ℕ → Marks → ℕ → Marks
mark_both e at m f = cond (eqb (by_in f) (by_in e)) (mark_of m (pair_found (to_in e) (to_in f) (by_in e) at)) m

-- the pairs that e leads to with the entries of a row, from the pair at the place `at`
abbrev pub mark_with : List ℕ → ℕ → Marks → ℕ → Marks
mark_with row at m e = fold (mark_both e at) m row

-- one step of the search: the pairs that an entry of the left row leads to with one of the right row, from the pair at the place `at`
abbrev pub mark_rows : List ℕ → List ℕ → ℕ → Marks → Marks
mark_rows left right at m = fold (mark_with right at) m left
