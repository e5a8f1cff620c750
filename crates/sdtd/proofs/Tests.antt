-- Tests on lists that compute, with what they say.
use mathlib.Core.Path.{◌≡◌, refl, sym, subst}
use mathlib.Core.Logic.{◌↔◌, ◌⊎◌, inl, inr, ⊎_elim}
use mathlib.Core.Bool.{Bool, true, false, not, ◌&&◌, ◌||◌}
use mathlib.Core.List.Memᴰ
use mathlib.Core.List.{List, [], ◌∷◌, Memᴰ}
use Prim.Native.Nat.{ℕ, zero, suc, ◌≤◌, ◌<◌}
use native.Mathlib.Decide.{ℕ_discrete}
use native.Mathlib.Omega.{arith}
use lib.Dec.{T, eqb, eqb→eq, eqb_refl, leb, leb→le, le→leb, ltb, ltb→lt, lt→ltb}

-- The test passes exactly if the statement holds.
pub record Means (b : Bool) (A : Type 0) : Type 0 where
  pub says : T b → A
  pub passes : A → T b

pub means_iff : {b : Bool} {A B : Type 0} → Means b A → B ↔ A → Means b B
means_iff m e = record { says = λ t. e.1 (m.says t); passes = λ x. m.passes (e.0 x) }

-- a test of the statement
abbrev pub Decision : Type 0 → Type 0
Decision A = (b : Bool) × Means b A

pub decision : {b : Bool} {A : Type 0} → Means b A → Decision A
decision {b} m = (b, m)

pub decided : {b : Bool} {A : Type 0} → Means b A → A ⊎ (¬ A)
decided {b = true} m = inl (m.says tt)
decided {b = false} m = inr m.passes

pub to_dec : {b : Bool} {A : Type 0} → Means b A → Dec A
to_dec {b = true} m = yes (m.says tt)
to_dec {b = false} m = no m.passes

pub itself : (b : Bool) → Means b (T b)
itself b = record { says = λ t. t; passes = λ t. t }

pub eq_means : (m n : ℕ) → Means (eqb m n) (m ≡ n)
eq_means m n = record { says = eqb→eq m n; passes = λ e. subst (λ (k : ℕ). T (eqb m k)) e (eqb_refl m) }

pub lt_means : (m n : ℕ) → Means (ltb m n) (m < n)
lt_means m n = record { says = ltb→lt m n; passes = lt→ltb m n }

pub le_means : (m n : ℕ) → Means (leb m n) (m ≤ n)
le_means m n = record { says = leb→le m n; passes = le→leb m n }

-- flags
pub true_means : (b : Bool) → Means b (b ≡ true)
true_means true = record { says = λ t. refl; passes = λ e. tt }
true_means false = record { says = λ t. absurd t; passes = λ e. subst T (sym e) tt }

pub false_means : (b : Bool) → Means (not b) (b ≡ false)
false_means true = record { says = λ t. absurd t; passes = λ e. subst T e tt }
false_means false = record { says = λ t. refl; passes = λ e. tt }

pub and_means : {a b : Bool} {A B : Type 0} → Means a A → Means b B → Means (a && b) (A × B)
and_means {a = true} m n = record { says = λ t. (m.says tt, n.says t); passes = λ p. n.passes p.1 }
and_means {a = false} m n = record { says = λ t. absurd t; passes = λ p. m.passes p.0 }

pub or_means : {a b : Bool} {A B : Type 0} → Means a A → Means b B → Means (a || b) (A ⊎ B)
or_means {a = true} m n = record { says = λ t. inl (m.says tt); passes = λ p. tt }
or_means {a = false} m n = record { says = λ t. inr (n.says t); passes = λ p. ⊎_elim (λ x. absurd (m.passes x)) n.passes p }

pub not_means : {b : Bool} {A : Type 0} → Means b A → Means (not b) (¬ A)
not_means {b = true} m = record { says = λ t x. t; passes = λ n. n (m.says tt) }
not_means {b = false} m = record { says = λ t x. m.passes x; passes = λ n. tt }

infixr 25 ◌⇒◌
abbrev pub ◌⇒◌ : Bool → Bool → Bool
true ⇒ b = b
false ⇒ b = true

pub if_means : {a b : Bool} {A B : Type 0} → Means a A → Means b B → Means (a ⇒ b) (A → B)
if_means {a = true} m n = record { says = λ t x. n.says t; passes = λ f. n.passes (f (m.says tt)) }
if_means {a = false} m n = record { says = λ t x. absurd (m.passes x); passes = λ f. tt }

-- every number below k has the property
pub below_decided : {P : ℕ → Type 0} → ((n : ℕ) → Decision (P n)) → (k : ℕ) → Decision ((n : ℕ) → n < k → P n)
below_decided d zero = (true, record { says = λ t n h. absurd (omega arith); passes = λ h. tt })
below_decided {P} d (suc k) =
    decision
    (means_iff (and_means (d k).1 (below_decided d k).1) (
      λ h. (h k (omega arith), λ n l. h n (omega arith)),
      λ p n l. elim (ℕ_discrete n k) [ yes e ↦ subst P (sym e) p.0 | no e ↦ p.1 n (omega arith) ],
    ))

-- some member of the list has the property
pub record Found {A : Type 0} (P : A → Type 0) (xs : List A) : Type 0 where
  pub member : A
  pub given : Memᴰ member xs
  pub holds : P member

found_tail : {A : Type 0} {P : A → Type 0} {x : A} {xs : List A} → Found P xs → Found P (x ∷ xs)
found_tail r = record { member = r.member; given = Memᴰ.tail r.given; holds = r.holds }

found_cons : {A : Type 0} {P : A → Type 0} {x : A} {xs : List A} → Found P (x ∷ xs) → P x ⊎ Found P xs
found_cons {P = P} r =
    ⊎_elim
    (λ e. inl (subst P e r.holds))
    (λ m. inr (record { member = r.member; given = m; holds = r.holds }))
    (Memᴰ.cases_cons r.given)

module _ {A : Type 0} where
  abbrev pub every : (A → Bool) → List A → Bool
  every f [] = true
  every f (x ∷ xs) = f x && every f xs

  abbrev pub any : (A → Bool) → List A → Bool
  any f [] = false
  any f (x ∷ xs) = f x || any f xs

  pub every_means : {f : A → Bool} {P : A → Type 0} → ((x : A) → Means (f x) (P x)) → (xs : List A)
      → Means (every f xs) ((x : A) → Memᴰ x xs → P x)
  every_means m [] = record { says = λ t x h. absurd (Memᴰ.not-nil h); passes = λ h. tt }
  every_means {P = P} m (y ∷ xs) =
      let r = and_means (m y) (every_means m xs) in
      record {
        says = λ t x h. ⊎_elim (λ e. subst P (sym e) (r.says t).0) (λ k. (r.says t).1 x k) (Memᴰ.cases_cons h);
        passes = λ h. r.passes (h y (Memᴰ.head refl), λ x k. h x (Memᴰ.tail k));
      }

  pub any_means : {f : A → Bool} {P : A → Type 0} → ((x : A) → Means (f x) (P x)) → (xs : List A) → Means (any f xs) (Found P xs)
  any_means m [] = record { says = λ t. absurd t; passes = λ r. absurd (Memᴰ.not-nil r.given) }
  any_means m (y ∷ xs) =
      let r = or_means (m y) (any_means m xs) in
      record {
        says = λ t. ⊎_elim (λ p. record { member = y; given = Memᴰ.head refl; holds = p }) found_tail (r.says t);
        passes = λ q. r.passes (found_cons q);
      }

-- y in front, if the test passes
abbrev keep : Bool → ℕ → List ℕ → List ℕ
keep true y ys = y ∷ ys
keep false y ys = ys

module _ {A : Type 0} where
  -- the images of the members that pass the test
  abbrev pub collect : (A → Bool) → (A → ℕ) → List A → List ℕ
  collect f g [] = []
  collect f g (x ∷ xs) = keep (f x) (g x) (collect f g xs)

keep-mem : {b : Bool} {A : Type 0} {x y : ℕ} {ys : List ℕ} → Means b A → Memᴰ y (keep b x ys) ↔ ((A × (y ≡ x)) ⊎ Memᴰ y ys)
keep-mem {b = true} m = (
  λ h. ⊎_elim (λ e. inl (m.says tt, e)) (λ k. inr k) (Memᴰ.cases_cons h),
  λ s. ⊎_elim (λ p. Memᴰ.head p.1) (λ k. Memᴰ.tail k) s,
)
keep-mem {b = false} m = (λ h. inr h, λ s. ⊎_elim (λ p. absurd (m.passes p.0)) (λ k. k) s)

pub collect-mem : {A : Type 0} {f : A → Bool} {P : A → Type 0} → ((x : A) → Means (f x) (P x)) → (g : A → ℕ) (xs : List A) (y : ℕ)
    → Memᴰ y (collect f g xs) ↔ Found (λ x. P x × (y ≡ g x)) xs
collect-mem m g [] y = (λ h. absurd (Memᴰ.not-nil h), λ r. absurd (Memᴰ.not-nil r.given))
collect-mem m g (x ∷ xs) y =
    let k = keep-mem (m x) in
    let r = collect-mem m g xs y in (
      λ h. ⊎_elim (λ p. record { member = x; given = Memᴰ.head refl; holds = p }) (λ t. found_tail (r.0 t)) (k.0 h),
      λ q. k.1 (⊎_elim (λ p. inl p) (λ t. inr (r.1 t)) (found_cons q)),
    )

-- x is a member
abbrev pub memb : ℕ → List ℕ → Bool
memb x xs = any (eqb x) xs

pub memb_means : (x : ℕ) (xs : List ℕ) → Means (memb x xs) (Memᴰ x xs)
memb_means x xs =
    let m = any_means (eq_means x) xs in
    record {
      says = λ t. let r = m.says t in Memᴰ.cast r.holds r.given;
      passes = λ h. m.passes (record { member = x; given = h; holds = refl });
    }
