-- Where the queue is full or a row is empty nothing is marked.
use Rattle.std.proofs.Common.{rules}
use mathlib.Core.Path.{◌≡◌, refl, sym}
use mathlib.Core.Bool.{Bool, true, false, cond}
use mathlib.Core.List.{List, [], ◌∷◌}
use Prim.Native.Nat.{ℕ, ◌≤◌}
use native.Mathlib.Omega.{arith}
use borrow.Author.Tests.{le-ltb}
use lib.Dec.{eqb}
use lib.ListN.{length, get_or}
use Rattle.std.proofs.lemmas.List.Folds.{fold_stays}
use Rattle.sdtd.specs.Limits.{most_pairs}
use Rattle.sdtd.specs.Competition.{pair_number}
use Rattle.schema.specs.Rows.{by_in, to_in}
use Rattle.competition.specs.Found.{pair_found}
use Rattle.competition.specs.Marks.{Marks, mark_of, mark_both, mark_with, mark_rows}
use Rattle.competition.specs.declared.queue.Found.{Found}
use Rattle.competition.proofs.marks.Step.search_from.Goals as goal

module _ (m : Marks) (full : most_pairs ≤ m.queue.count) where
  -- a full queue takes no pair
  of_full : (x : Found) → mark_of m x ≡ m
  unfolding mark_of
  of_full x = rw (le-ltb m.queue.count most_pairs full) (same (get_or m.reached (pair_number x.first x.second) false))
    where
      same : (b : Bool) → cond b m m ≡ m
      same true = refl
      same false = refl

  both_full : (e at f : ℕ) → mark_both e at m f ≡ m
  both_full e at f = go (eqb (by_in f) (by_in e))
    where
      go : (b : Bool) → cond b (mark_of m (pair_found (to_in e) (to_in f) (by_in e) at)) m ≡ m
      go true = of_full (pair_found (to_in e) (to_in f) (by_in e) at)
      go false = refl

  rows_full : (left right : List ℕ) (at : ℕ) → mark_rows left right at m ≡ m
  rows_full left right at = fold_stays (mark_with right at) m (λ e. fold_stays (mark_both e at) m (both_full e at) right) left

-- a row with no entry marks nothing
none_marked : (m : Marks) (left right : List ℕ) (at : ℕ) → length right ≡ 0 → mark_rows left right at m ≡ m
none_marked m left [] at e = fold_stays (mark_with [] at) m (λ x. refl) left
none_marked m left (y ∷ right) at e = absurd (omega arith)

pub returns-then-is_full : goal.returns-then-is_full
returns-then-is_full c = let a = c.args in sym (rows_full _ (search rules) a.left.now a.right.now a.self.now.at)

pub returns-then-is_empty-2 : goal.returns-then-is_empty-2
returns-then-is_empty-2 c = let a = c.args in sym (none_marked _ a.left.now a.right.now a.self.now.at (search rules))
