-- The lowest state of a set: the machine counts zeros to find it, and takes it out by `&`. What is left of the set, and its list of states.
use mathlib.Core.Path.{◌≡◌, refl, sym, ap, subst, ◌∙◌}
use mathlib.Core.Bool.{false}
use mathlib.Core.List.{[], ◌∷◌}
use Prim.Native.Nat.{ℕ, zero, suc, ◌+◌, ◌-◌, ◌/◌, ◌%◌, ◌^◌, ◌≤◌, ◌<◌}
use native.Mathlib.Decide.{dec_lt, ℕ_discrete}
use native.Mathlib.Nat.{add-div_right, div-one, div-eq_of_lt, div-div-eq-div-mul, pow-suc, pow-succ'}
use native.Mathlib.Omega.{arith}
use borrow.Author.Tests.{eq-eqb, ne_eqb}
use lib.Bits.{bit_and, and_step, and_self}
use lib.Count.{under, count_trailing_zeros}
use lib.Dec.{T, eqb→eq}
use lib.Pow.{pow_pos}
use Rattle.sdtd.specs.Limits.{most_states}
use Rattle.sdtd.proofs.Basics.{is_true, is_false}
use Rattle.schema.specs.States.{member, members_below, members}
use Rattle.schema.proofs.Bits.{member_none, member_kept}

digit_next : (s x : ℕ) → x / 2 ^ suc s % 2 ≡ x / 2 / 2 ^ s % 2
digit_next s x = ap (λ (n : ℕ). x / n % 2) (pow-succ' 2 s) ∙ ap (λ (n : ℕ). n % 2) (sym (div-div-eq-div-mul x 2 (2 ^ s)))

abbrev Lowest : ℕ → ℕ → ℕ → Type 0
Lowest k n t = (t < k) × (n / 2 ^ t % 2 ≡ 1) × ((s : ℕ) → s < t → n / 2 ^ s % 2 ≡ 0)

lowest_under : (k n d t : ℕ) → n % 2 ≡ d → (d ≡ 0 → Lowest k (n / 2) t) → Lowest (suc k) n (under d t)
lowest_under k n zero t e r = (omega (arith, (r refl).0), digit_next t n ∙ (r refl).1, low)
  where
    low : (s : ℕ) → s < suc t → n / 2 ^ s % 2 ≡ 0
    low zero l = omega (arith, div-one n)
    low (suc s) l = digit_next s n ∙ (r refl).2 s (omega arith)
lowest_under k n (suc d) t e r = (omega arith, omega (arith, div-one n), λ s l. absurd (omega arith))

lowest : (k n : ℕ) → 0 < n → n < 2 ^ k → Lowest k n (count_trailing_zeros k n)
unfolding count_trailing_zeros
lowest zero n p l = absurd (omega arith)
lowest (suc k) n p l =
    lowest_under k n (n % 2) (count_trailing_zeros k (n / 2)) refl (λ e. lowest k (n / 2) (omega arith) (omega (arith, pow-suc 2 k)))

pub smallest_member : (k x : ℕ) → 0 < x → x < 2 ^ k → (count_trailing_zeros k x < k) × T (member (count_trailing_zeros k x) x)
smallest_member k x p l =
    let r = lowest k x p l in
    (r.0, subst T (sym (eq-eqb (x / 2 ^ count_trailing_zeros k x % 2) 1 r.1)) tt)

pub none_smaller : (k x : ℕ) → 0 < x → x < 2 ^ k → (q : ℕ) → q < count_trailing_zeros k x → member q x ≡ false
none_smaller k x p l q m = ne_eqb (x / 2 ^ q % 2) 1 (λ e. omega (arith, (lowest k x p l).2 q m))

lowest_out : (k n d t : ℕ) → 0 < n → n % 2 ≡ d → (d ≡ 0 → bit_and (n / 2) (n / 2 - 1) ≡ n / 2 - 2 ^ t) → bit_and n (n - 1) ≡ n - 2 ^ under d t
lowest_out k n zero t p e r =
    let h : (n - 1) / 2 ≡ n / 2 - 1 = omega arith in
    and_step n (n - 1) ∙ rw h (omega (arith, r refl, pow-suc 2 t))
lowest_out k n (suc d) t p e r =
    let h : (n - 1) / 2 ≡ n / 2 = omega arith in
    and_step n (n - 1) ∙ rw (h, and_self) (omega arith)

pub smallest_out : (k n : ℕ) → 0 < n → n < 2 ^ k → bit_and n (n - 1) ≡ n - 2 ^ count_trailing_zeros k n
unfolding count_trailing_zeros
smallest_out zero n p l = absurd (omega arith)
smallest_out (suc k) n p l =
    lowest_out k n (n % 2) (count_trailing_zeros k (n / 2)) p refl (λ e. smallest_out k (n / 2) (omega arith) (omega (arith, pow-suc 2 k)))

-- a set without one of its members
module _ (p x : ℕ) (m : T (member p x)) where
  odd : x / 2 ^ p % 2 ≡ 1
  odd = eqb→eq (x / 2 ^ p % 2) 1 m

  pub member_most : 2 ^ p ≤ x
  member_most = elim (dec_lt x (2 ^ p)) [ yes h ↦ absurd (omega (arith, odd, div-eq_of_lt h)) | no h ↦ omega arith ]

  without_even : (x - 2 ^ p) / 2 ^ p % 2 ≡ 0
  without_even =
      let back : x - 2 ^ p + 2 ^ p ≡ x = omega (arith, member_most) in
      let one_less = rw back at (add-div_right (x - 2 ^ p) (pow_pos p)) in
      omega (arith, odd, one_less)

  pub without_own : member p (x - 2 ^ p) ≡ false
  without_own = ne_eqb ((x - 2 ^ p) / 2 ^ p % 2) 1 (λ e. omega (arith, without_even))

  pub without_other : (q : ℕ) → ¬ (q ≡ p) → member q (x - 2 ^ p) ≡ member q x
  without_other q n =
      let back : x - 2 ^ p + 2 ^ p ≡ x = omega (arith, member_most) in
      sym (rw back at (member_kept p q (x - 2 ^ p) without_own n))

-- the list of the states of a set, the lowest first
below_none : (n x : ℕ) → ((q : ℕ) → q < n → member q x ≡ false) → members_below n x ≡ []
unfolding members_below
below_none zero x h = refl
below_none (suc n) x h = rw (below_none n x (λ q l. h q (omega arith)), h n (omega arith)) refl

module _ (t x y : ℕ) (has : T (member t x)) (none : (q : ℕ) → q < t → member q x ≡ false) (out : member t y ≡ false)
    (same : (q : ℕ) → ¬ (q ≡ t) → member q y ≡ member q x) where
  below_first : (n : ℕ) → t < n → members_below n x ≡ t ∷ members_below n y
  unfolding members_below
  below_first zero l = absurd (omega arith)
  below_first (suc n) l =
      elim (ℕ_discrete n t) [
        | yes e ↦
            let xs = below_none t x none in
            let ys = below_none t y (λ q m. same q (omega arith) ∙ none q m) in
            rw (e, xs, ys, is_true (member t x) has, out) refl
        | no d ↦ rw (below_first n (omega arith), same n d) refl
      ]

pub members_none : (x : ℕ) → x ≡ 0 → members x ≡ []
members_none x e = below_none most_states x (λ q l. rw e (is_false (member q 0) (member_none q)))

pub members_first : (x : ℕ) → 0 < x → x < 2 ^ most_states
    → members x ≡ count_trailing_zeros most_states x ∷ members (bit_and x (x - 1))
members_first x p l =
    let t = count_trailing_zeros most_states x in
    let r = smallest_member most_states x p l in
    rw (smallest_out most_states x p l)
    (below_first t x (x - 2 ^ t) r.1 (none_smaller most_states x p l) (without_own t x r.1) (without_other t x r.1) most_states r.0)
