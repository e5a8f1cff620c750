-- Laws of numbers put into a table one after another, and of the entries that are kept and picked.
use mathlib.Core.Path.{◌≡◌, refl, ap, ◌∙◌}
use mathlib.Core.Bool.{Bool, true, false, cond}
use mathlib.Core.List.{List, [], ◌∷◌, ◌++◌}
use Prim.Native.Nat.{ℕ, zero, suc, ◌+◌, ◌≤◌, ◌<◌}
use native.Mathlib.Nat.{add-zero}
use native.Mathlib.Decide.{dec_lt, ℕ_discrete}
use native.Mathlib.Omega.{arith}
use borrow.Author.Tests.{lt-ltb, le-ltb, eq-eqb, ne_eqb}
use lib.Dec.{eqb, ltb}
use lib.ListN.{length, get_or, set, length-set, length-append}
use lib.Seq.{get_or-set_same, get_or-set_other}
use Rattle.sdtd.specs.Schema.{Step}
use Rattle.schema.specs.Rows.{from_in}
use Rattle.schema.specs.Putting.{put_all}
use Rattle.schema.specs.RowMaking.{counts_by, entry_by, counted_step, counted, picked}

pub put_long : (xs : List ℕ) (at : ℕ) (t : List ℕ) → length (put_all xs at t) ≡ length t
unfolding put_all
put_long [] at t = refl
put_long (x ∷ xs) at t = put_long xs (suc at) (set t at x) ∙ length-set t at x

pub put_append : (xs ys : List ℕ) (at : ℕ) (t : List ℕ) → put_all (xs ++ ys) at t ≡ put_all ys (at + length xs) (put_all xs at t)
unfolding put_all
put_append [] ys at t = ap (λ (n : ℕ). put_all ys n t) (omega arith)
put_append (x ∷ xs) ys at t =
    put_append xs ys (suc at) (set t at x) ∙ ap (λ (n : ℕ). put_all ys n (put_all xs (suc at) (set t at x))) (omega arith)

-- what stands before the place stays
pub put_before : (xs : List ℕ) (at : ℕ) (t : List ℕ) (k : ℕ) → k < at → get_or (put_all xs at t) k 0 ≡ get_or t k 0
unfolding put_all
put_before [] at t k l = refl
put_before (x ∷ xs) at t k l =
    put_before xs (suc at) (set t at x) k (omega arith) ∙ get_or-set_other t at k x 0 (λ e. omega arith)

-- what stands past the last place stays
pub put_past : (xs : List ℕ) (at : ℕ) (t : List ℕ) (k : ℕ) → at + length xs ≤ k → get_or (put_all xs at t) k 0 ≡ get_or t k 0
unfolding put_all
put_past [] at t k l = refl
put_past (x ∷ xs) at t k l =
    put_past xs (suc at) (set t at x) k (omega arith) ∙ get_or-set_other t at k x 0 (λ e. omega arith)

-- what is put stands there
pub put_there : (xs : List ℕ) (at : ℕ) (t : List ℕ) (k : ℕ) → at + length xs ≤ length t → k < length xs
    → get_or (put_all xs at t) (at + k) 0 ≡ get_or xs k 0
unfolding put_all
put_there [] at t k l h = absurd (omega arith)
put_there (x ∷ xs) at t zero l h =
    rw add-zero (put_before xs (suc at) (set t at x) at (omega arith) ∙ get_or-set_same t at x 0 (omega arith))
put_there (x ∷ xs) at t (suc k) l h =
    ap (λ (n : ℕ). get_or (put_all xs (suc at) (set t at x)) n 0) (omega arith)
    ∙ put_there xs (suc at) (set t at x) k (rw length-set (omega arith)) (omega arith)

pub counted-cons : (tag ways : List ℕ) (own : ℕ) (s : Step) (ss : List Step)
    → counted tag ways own (s ∷ ss) ≡ counted_step tag ways own s ++ counted tag ways own ss
unfolding counted
counted-cons tag ways own s ss = go (counts_by ways own s)
  where
    go : (b : Bool)
        → cond b (entry_by tag ways s ∷ counted tag ways own ss) (counted tag ways own ss) ≡ cond b (entry_by tag ways s ∷ []) [] ++ counted tag ways own ss
    go true = refl
    go false = refl

pub counted_one : (tag ways : List ℕ) (own : ℕ) (s : Step) → length (counted_step tag ways own s) ≤ 1
counted_one tag ways own s = go (counts_by ways own s)
  where
    go : (b : Bool) → length (cond b (entry_by tag ways s ∷ []) []) ≤ 1
    go true = omega arith
    go false = omega arith

-- the steps that count are no more than the steps
pub counted_most : (tag ways : List ℕ) (own : ℕ) (ss : List Step) → length (counted tag ways own ss) ≤ length ss
unfolding counted
counted_most tag ways own [] = omega arith
counted_most tag ways own (s ∷ ss) =
    omega (
      arith,
      ap length (counted-cons tag ways own s ss),
      length-append (counted_step tag ways own s) (counted tag ways own ss),
      counted_one tag ways own s,
      counted_most tag ways own ss,
    )

-- how many of the entries lead from the state p or a larger one
unfoldable pub from_on : ℕ → List ℕ → ℕ
from_on p [] = 0
from_on p (e ∷ es) = cond (ltb (from_in e) p) 0 1 + from_on p es

-- those from p, and those from a larger state
pub from_split : (p : ℕ) (es : List ℕ) → length (picked p es) + from_on (suc p) es ≡ from_on p es
unfolding picked from_on
from_split p [] = refl
from_split p (e ∷ es) = go (from_split p es) (dec_lt (from_in e) p) (ℕ_discrete (from_in e) p)
  where
    go : length (picked p es) + from_on (suc p) es ≡ from_on p es → Dec (from_in e < p) → Dec (from_in e ≡ p)
        → length (cond (eqb (from_in e) p) (e ∷ picked p es) (picked p es)) + (cond (ltb (from_in e) (suc p)) 0 1 + from_on (suc p) es)
        ≡ cond (ltb (from_in e) p) 0 1 + from_on p es
    go h (yes l) d =
        rw (ne_eqb (from_in e) p (λ q. omega arith), lt-ltb (from_in e) (suc p) (omega arith), lt-ltb (from_in e) p l)
        (omega arith)
    go h (no n) (yes q) =
        rw (eq-eqb (from_in e) p q, lt-ltb (from_in e) (suc p) (omega arith), le-ltb (from_in e) p (omega arith))
        (omega arith)
    go h (no n) (no d) =
        rw (ne_eqb (from_in e) p d, le-ltb (from_in e) (suc p) (omega arith), le-ltb (from_in e) p (omega arith))
        (omega arith)

pub from_most : (p : ℕ) (es : List ℕ) → from_on p es ≤ length es
unfolding from_on
from_most p [] = omega arith
from_most p (e ∷ es) = go (from_most p es) (ltb (from_in e) p)
  where
    go : from_on p es ≤ length es → (b : Bool) → cond b 0 1 + from_on p es ≤ suc (length es)
    go h true = omega arith
    go h false = omega arith

-- what is left, put into t from the place `at` on, makes the whole and ends at the place `end`
pub record Putting (left : List ℕ) (at : ℕ) (t whole : List ℕ) (end : ℕ) : Type 0 where
  pub same : put_all left at t ≡ whole
  pub ends : at + length left ≡ end

-- the first part of what is left has been put
pub put_part : (xs ys : List ℕ) {at : ℕ} {t whole : List ℕ} {end : ℕ} → Putting (xs ++ ys) at t whole end
    → Putting ys (at + length xs) (put_all xs at t) whole end
put_part xs ys {at} {t} p =
    record { same = rw put_append at p.same; ends = omega (arith, p.ends, length-append xs ys) }

pub put_none : {at : ℕ} {t whole : List ℕ} {end : ℕ} → Putting [] at t whole end → (t ≡ whole) × (at ≡ end)
unfolding put_all
put_none p = (p.same, omega (arith, p.ends))
