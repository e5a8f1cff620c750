-- Laws of lists that are gathered number by number, and of lists that rise.
use native.Mathlib.Numerals.{add-one}
use mathlib.Core.Path.{◌≡◌, refl, sym, subst, ap, ◌∙◌}
use mathlib.Core.Logic.{◌↔◌, ⊎_elim}
use mathlib.Core.Bool.{Bool, true, false, cond}
use mathlib.Core.List.{List, [], ◌∷◌, ◌++◌, Memᴰ, append-nil, append_assoc}
use Prim.Native.Nat.{ℕ, zero, suc, ◌+◌, ◌≤◌, ◌<◌}
use native.Mathlib.Decide.{ℕ_discrete}
use native.Mathlib.Omega.{arith}
use lib.Dec.{T}
use Rattle.sdtd.specs.Lists.{of_each, Rising, RisingFrom}

-- one number more, at the end
pub each_last : {A : Type 0} (f : ℕ → List A) (s n : ℕ) → of_each f s (suc n) ≡ of_each f s n ++ f (s + n)
unfolding of_each
each_last f s zero = rw (let e : s + 0 ≡ s = omega arith in e) (append-nil (f s))
each_last f s (suc n) =
    let e : s + suc n ≡ suc s + n = omega arith in
    rw e (ap (λ (l : List _). f s ++ l) (each_last f (suc s) n) ∙ sym (append_assoc (f s) (of_each f (suc s) n) (f (suc s + n))))

-- the numbers below i, one more
pub each_more : {A : Type 0} (f : ℕ → List A) (i : ℕ) → of_each f 0 (i + 1) ≡ of_each f 0 i ++ f i
each_more f i =
    let z : 0 + i ≡ i = omega arith in
    rw (add-one i) (rw z at (each_last f 0 i))

-- where nothing is made of any number, nothing is made of all
pub each_none : {A : Type 0} (f : ℕ → List A) → ((k : ℕ) → f k ≡ []) → (s n : ℕ) → of_each f s n ≡ []
unfolding of_each
each_none f e s zero = refl
each_none f e s (suc n) = rw (e s, each_none f e (suc s) n)

-- what is made of each number is the same where it is the same of each
pub each_same : {A : Type 0} (f g : ℕ → List A) (s n : ℕ) → ((k : ℕ) → s ≤ k → k < s + n → f k ≡ g k) → of_each f s n ≡ of_each g s n
unfolding of_each
each_same f g s zero h = refl
each_same f g s (suc n) h =
    rw (h s (omega arith) (omega arith), each_same f g (suc s) n (λ k l m. h k (omega arith) (omega arith)))

-- x is given by f of one of the n numbers from s on.
pub record OfSome {A : Type 0} (f : ℕ → List A) (s n : ℕ) (x : A) : Type 0 where
  pub at : ℕ
  pub least : s ≤ at
  pub below : at < s + n
  pub given : Memᴰ x (f at)

module _ {A : Type 0} where
  pub mem-of_each : (f : ℕ → List A) (s n : ℕ) (x : A) → Memᴰ x (of_each f s n) ↔ OfSome f s n x
  unfolding of_each
  mem-of_each f s zero x = (λ m. absurd (mathlib.Core.List.Memᴰ.not-nil m), λ o. absurd (omega (arith, o.least, o.below)))
  mem-of_each f s (suc n) x =
      let r = mem-of_each f (suc s) n x in
      let now : Memᴰ x (f s) → OfSome f s (suc n) x =
      λ m. record { at = s; least = omega arith; below = omega arith; given = m } in
      let later : OfSome f (suc s) n x → OfSome f s (suc n) x =
      λ o. record { at = o.at; least = omega (arith, o.least); below = omega (arith, o.below); given = o.given } in
      let here : (o : OfSome f s (suc n) x) → o.at ≡ s → Memᴰ x (f s ++ of_each f (suc s) n) =
      λ o e. mathlib.Core.List.Memᴰ.append_left (of_each f (suc s) n) (rw e at o.given) in
      let there : (o : OfSome f s (suc n) x) → ¬ (o.at ≡ s) → Memᴰ x (f s ++ of_each f (suc s) n) =
      λ o d.
      mathlib.Core.List.Memᴰ.append_right (f s)
      (r.1 (record { at = o.at; least = omega (arith, o.least); below = omega (arith, o.below); given = o.given })) in (
        λ m. ⊎_elim now (λ k. later (r.0 k)) (mathlib.Core.List.Memᴰ.append_cases (f s) m),
        λ o. elim (ℕ_discrete o.at s) [ yes e ↦ here o e | no d ↦ there o d ],
      )

  -- the member of a list that a test allows
  pub mem-cond : (b : Bool) (x y : A) → Memᴰ x (cond b (y ∷ []) []) ↔ (T b × (x ≡ y))
  mem-cond true x y = (λ m. (tt, mathlib.Core.List.Memᴰ.eq_of_singleton m), λ p. mathlib.Core.List.Memᴰ.head p.1)
  mem-cond false x y = (λ m. absurd (mathlib.Core.List.Memᴰ.not-nil m), λ p. absurd p.0)

-- Each member is in the relation to all that come after it.
module _ {A : Type 0} (R : A → A → Type 0) where
  abbrev pub Sorted : List A → Type 0
  Sorted [] = Unit
  Sorted (x ∷ xs) = ((y : A) → Memᴰ y xs → R x y) × Sorted xs

  sorted_append : (xs ys : List A) → Sorted xs → Sorted ys → ((x y : A) → Memᴰ x xs → Memᴰ y ys → R x y) → Sorted (xs ++ ys)
  sorted_append [] ys s t h = t
  sorted_append (x ∷ xs) ys s t h = (
    λ y m. ⊎_elim (s.0 y) (h x y (mathlib.Core.List.Memᴰ.head refl)) (mathlib.Core.List.Memᴰ.append_cases xs m),
    sorted_append xs ys s.1 t (λ z y k. h z y (mathlib.Core.List.Memᴰ.tail k)),
  )

  -- what is gathered is sorted, if each part is and the parts are in order
  pub sorted_of_each : (f : ℕ → List A) → ((k : ℕ) → Sorted (f k))
      → ((k l : ℕ) (x y : A) → k < l → Memᴰ x (f k) → Memᴰ y (f l) → R x y) → (s n : ℕ) → Sorted (of_each f s n)
  unfolding of_each
  sorted_of_each f each across s zero = tt
  sorted_of_each f each across s (suc n) =
      sorted_append (f s) (of_each f (suc s) n) (each s) (sorted_of_each f each across (suc s) n)
      (λ x y m k. let o = (mem-of_each f (suc s) n y).0 k in across s o.at x y o.least m o.given)

  pub sorted_cond : (b : Bool) (x : A) → Sorted (cond b (x ∷ []) [])
  sorted_cond true x = (λ y m. absurd (mathlib.Core.List.Memᴰ.not-nil m), tt)
  sorted_cond false x = tt

  rising_from : (x : A) (xs : List A) → ((y : A) → Memᴰ y xs → R x y) → Sorted xs → RisingFrom R x xs
  rising_from x [] h s = tt
  rising_from x (y ∷ ys) h s = (h y (mathlib.Core.List.Memᴰ.head refl), rising_from y ys s.0 s.1)

  -- a sorted list rises
  pub sorted_rising : (xs : List A) → Sorted xs → Rising R xs
  sorted_rising [] s = tt
  sorted_rising (x ∷ xs) s = rising_from x xs s.0 s.1

-- For a strict order a list that rises is sorted, and its members determine it.
module _ {A : Type 0} {R : A → A → Type 0} (trans : (x y z : A) → R x y → R y z → R x z) (strict : (x : A) → R x x → ⊥) where
  from_sorted : (x : A) (xs : List A) → RisingFrom R x xs → Sorted R (x ∷ xs)
  from_sorted x [] r = (λ y m. absurd (mathlib.Core.List.Memᴰ.not-nil m), tt)
  from_sorted x (y ∷ ys) r =
      let s = from_sorted y ys r.1 in
      (λ z m. ⊎_elim (λ e. subst (R x) (sym e) r.0) (λ k. trans x y z r.0 (s.0 z k)) (mathlib.Core.List.Memᴰ.cases_cons m), s)

  rising_sorted : (xs : List A) → Rising R xs → Sorted R xs
  rising_sorted [] r = tt
  rising_sorted (x ∷ xs) r = from_sorted x xs r

  same_head : (x y : A) (xs ys : List A) → Sorted R (x ∷ xs) → Sorted R (y ∷ ys) → Memᴰ x (y ∷ ys) → Memᴰ y (x ∷ xs) → x ≡ y
  same_head x y xs ys s t m k =
      ⊎_elim (λ e. e) (λ i. ⊎_elim sym (λ j. absurd (strict x (trans x y x (s.0 y j) (t.0 x i)))) (mathlib.Core.List.Memᴰ.cases_cons k))
      (mathlib.Core.List.Memᴰ.cases_cons m)

  same_tail : (x : A) (xs ys : List A) → Sorted R (x ∷ xs) → ((z : A) → Memᴰ z (x ∷ xs) → Memᴰ z (x ∷ ys)) → (z : A)
      → Memᴰ z xs → Memᴰ z ys
  same_tail x xs ys s h z m =
      ⊎_elim (λ e. absurd (strict x (subst (R x) e (s.0 z m)))) (λ k. k) (mathlib.Core.List.Memᴰ.cases_cons (h z (mathlib.Core.List.Memᴰ.tail m)))

  sorted_same : (xs ys : List A) → Sorted R xs → Sorted R ys → ((z : A) → Memᴰ z xs → Memᴰ z ys)
      → ((z : A) → Memᴰ z ys → Memᴰ z xs) → xs ≡ ys
  sorted_same [] [] s t h k = refl
  sorted_same [] (y ∷ ys) s t h k = absurd (mathlib.Core.List.Memᴰ.not-nil (k y (mathlib.Core.List.Memᴰ.head refl)))
  sorted_same (x ∷ xs) [] s t h k = absurd (mathlib.Core.List.Memᴰ.not-nil (h x (mathlib.Core.List.Memᴰ.head refl)))
  sorted_same (x ∷ xs) (y ∷ ys) s t h k =
      let e = same_head x y xs ys s t (h x (mathlib.Core.List.Memᴰ.head refl)) (k y (mathlib.Core.List.Memᴰ.head refl)) in
      let t' : Sorted R (x ∷ ys) = rw e t in
      let h' : (z : A) → Memᴰ z (x ∷ xs) → Memᴰ z (x ∷ ys) = rw (← e) at h in
      let k' : (z : A) → Memᴰ z (x ∷ ys) → Memᴰ z (x ∷ xs) = rw (← e) at k in
      rw e (ap (y ∷◌) (sorted_same xs ys s.1 t.1 (same_tail x xs ys s h') (same_tail x ys xs t' k')))

  pub rising_same : (xs ys : List A) → Rising R xs → Rising R ys → ((z : A) → Memᴰ z xs ↔ Memᴰ z ys) → xs ≡ ys
  rising_same xs ys r s h = sorted_same xs ys (rising_sorted xs r) (rising_sorted ys s) (λ z. (h z).0) (λ z. (h z).1)
