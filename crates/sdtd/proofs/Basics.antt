-- Small laws of tests and lists, for this crate and those above it.
use mathlib.Core.Path.{◌≡◌, refl, sym, ◌∙◌}
use mathlib.Core.Logic.{◌≢◌}
use mathlib.Core.Bool.{Bool, true, false, true≢false, cond, ◌&&◌}
use mathlib.Core.List.{List, [], ◌∷◌, cons≢nil, Memᴰ}
use Prim.Native.Nat.{ℕ, zero, suc, ◌<◌}
use native.Mathlib.Omega.{arith}
use lib.Dec.{T}
use lib.ListN.{length, get_or}

-- a test that passes is true, one that does not is false
pub is_true : (b : Bool) → T b → b ≡ true
is_true true t = refl
is_true false t = absurd t

pub is_false : (b : Bool) → ¬ T b → b ≡ false
is_false true n = absurd (n tt)
is_false false n = refl

-- one that is not false is true, and none is both
pub not_false-true : (b : Bool) → b ≢ false → b ≡ true
not_false-true true n = refl
not_false-true false n = absurd (n refl)

pub not_both : {b : Bool} → b ≡ true → b ≡ false → ⊥
not_both t f = true≢false (sym t ∙ f)

-- two tests that pass together are one
pub same_test : (a b : Bool) → (T a → T b) → (T b → T a) → a ≡ b
same_test true true f g = refl
same_test false false f g = refl
same_test true false f g = absurd (f tt)
same_test false true f g = absurd (g tt)

-- the two parts of a test
pub and_parts : (a b : Bool) → T (a && b) → T a × T b
and_parts true b t = (tt, t)
and_parts false b t = absurd t

pub and_both : (a b : Bool) → T a → T b → T (a && b)
and_both true b s t = t
and_both false b s t = absurd s

-- What holds of both values holds of the one that a test chooses; each may be asked for only where the test chooses it.
module _ {A : Type 0} (P : A → Type 0) where
  pub cond_both : (b : Bool) (x y : A) → P x → P y → P (cond b x y)
  cond_both true x y p q = p
  cond_both false x y p q = q

  pub cond_either : (b : Bool) {x y : A} → (T b → P x) → (¬ T b → P y) → P (cond b x y)
  cond_either true f g = f tt
  cond_either false f g = g (λ t. t)

-- the entry at a place inside the list is a member
pub get_or_member : {A : Type 0} (xs : List A) (i : ℕ) (d : A) → i < length xs → Memᴰ (get_or xs i d) xs
get_or_member [] i d l = absurd (omega arith)
get_or_member (x ∷ xs) zero d l = Memᴰ.head refl
get_or_member (x ∷ xs) (suc i) d l = Memᴰ.tail (get_or_member xs i d (omega arith))

-- a pair, written along a list of facts
infixr 25 ◌&◌
pub ◌&◌ : {A B : Type 0} → A → B → A × B
a & b = (a, b)

-- whether a list is empty is decided
pub none_decided : {A : Type 0} (l : List A) → Dec (l ≡ [])
none_decided [] = yes refl
none_decided (x ∷ l) = no cons≢nil
