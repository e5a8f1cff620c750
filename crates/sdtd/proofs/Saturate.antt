-- Saturation: of finitely many candidates, those that a rule derives are added to a table one after another. That ends in a table from
-- which the rule derives no further candidate. The rule need not be monotone.
use mathlib.Core.Path.{◌≡◌, refl, sym, subst}
use mathlib.Core.Logic.{◌⊎◌, inl, inr, ⊎_elim}
use mathlib.Core.Bool.{Bool, true, false}
use mathlib.Core.List.Memᴰ
use mathlib.Core.List.{List, [], ◌∷◌, Memᴰ}
use Prim.Native.Nat.{ℕ, zero, suc, ◌≤◌}
use native.Mathlib.Omega.{arith}
use lib.ListN.{length}
use lib.Dec.{T}

-- The rule derives each entry of the table from the entries that were there before it, which stand after it.
pub data Built {A : Type 0} (adds : List A → A → Bool) : List A → Type 0 where
  no_entry : Built adds []
  entry : {t : List A} {x : A} → Built adds t → T (adds t x) → Built adds (x ∷ t)

-- What holds of each candidate that is derived from entries of which it holds, holds of all entries.
pub built_sound : {A : Type 0} {adds : List A → A → Bool} (P : A → Type 0)
    → ((t : List A) (x : A) → ((y : A) → Memᴰ y t → P y) → T (adds t x) → P x)
    → {t : List A} → Built adds t → (x : A) → Memᴰ x t → P x
built_sound P rule no_entry x m = absurd (Memᴰ.not-nil m)
built_sound P rule (entry {t = t} {x = y} g d) x m =
    let before = built_sound P rule g in
    ⊎_elim (λ e. subst P (sym e) (rule t y before d)) (before x) (Memᴰ.cases_cons m)

-- A table that grew by the rule and has every candidate that the rule derives from it.
pub record Saturated {A : Type 0} (adds : List A → A → Bool) (candidates : List A) : Type 0 where
  pub table : List A
  pub built : Built adds table
  pub closed : (x : A) → Memᴰ x candidates → T (adds table x) → Memᴰ x table

-- a member that passes the test, and the others
record Picked {A : Type 0} (f : A → Bool) (xs : List A) : Type 0 where
  member : A
  passes : T (f member)
  others : List A
  all : (x : A) → Memᴰ x xs → (x ≡ member) ⊎ Memᴰ x others
  fewer : length xs ≡ suc (length others)

-- no member passes the test
abbrev NonePasses : {A : Type 0} → (A → Bool) → List A → Type 0
NonePasses {A} f xs = (x : A) → Memᴰ x xs → ¬ T (f x)

pick : {A : Type 0} (f : A → Bool) (xs : List A) → Picked f xs ⊎ NonePasses f xs
pick f [] = inr (λ x m. absurd (Memᴰ.not-nil m))
pick {A} f (y ∷ ys) = by_test (f y) refl (pick f ys)
  where
    by_test : (b : Bool) → f y ≡ b → Picked f ys ⊎ NonePasses f ys → Picked f (y ∷ ys) ⊎ NonePasses f (y ∷ ys)
    by_test true e r =
        inl (record { member = y; passes = rw e tt; others = ys; all = λ x m. Memᴰ.cases_cons m; fewer = refl })
    by_test false e (inl p) =
        inl (record {
          member = p.member;
          passes = p.passes;
          others = y ∷ p.others;
          all = λ x m.
              ⊎_elim
              (λ h. inr (Memᴰ.head h))
              (λ k. ⊎_elim (λ h. inl h) (λ l. inr (Memᴰ.tail l)) (p.all x k))
              (Memᴰ.cases_cons m);
          fewer = omega (arith, p.fewer);
        })
    by_test false e (inr n) =
        inr (λ x m. ⊎_elim (λ h t. subst T e (subst (λ (z : A). T (f z)) h t)) (n x) (Memᴰ.cases_cons m))

module _ {A : Type 0} (adds : List A → A → Bool) (candidates : List A) where
  -- from the table t on, where the candidates besides its entries are among the remaining ones, which are at most n
  saturate_from : (n : ℕ) (remaining : List A) → length remaining ≤ n → (t : List A) → Built adds t
      → ((x : A) → Memᴰ x candidates → Memᴰ x t ⊎ Memᴰ x remaining) → Saturated adds candidates
  saturate_from zero [] h t g covered =
      record { table = t; built = g; closed = λ x m d. ⊎_elim (λ k. k) (λ k. absurd (Memᴰ.not-nil k)) (covered x m) }
  saturate_from zero (y ∷ ys) h t g covered = absurd (omega arith)
  saturate_from (suc n) remaining h t g covered =
      ⊎_elim
      (λ p.
      saturate_from n p.others (omega (arith, p.fewer)) (p.member ∷ t) (entry g p.passes) (λ x m.
      ⊎_elim
      (λ k. inl (Memᴰ.tail k))
      (λ k. ⊎_elim (λ e. inl (Memᴰ.head e)) (λ l. inr l) (p.all x k))
      (covered x m)))
      (λ none. record { table = t; built = g; closed = λ x m d. ⊎_elim (λ k. k) (λ k. absurd (none x k d)) (covered x m) })
      (pick (adds t) remaining)

  pub saturate : Saturated adds candidates
  saturate = saturate_from (length candidates) candidates (omega arith) [] no_entry (λ x m. inr m)
