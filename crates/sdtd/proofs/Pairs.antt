-- Pair numbers: each unordered pair of states below n has a number below n (n + 1) / 2 of its own.
use mathlib.Core.Path.{◌≡◌, refl, sym, ap, subst₂}
use mathlib.Core.Logic.{◌⊎◌, inl, inr, ⊎_elim}
use Prim.Native.Nat.{ℕ, suc, ◌+◌, ◌*◌, ◌/◌, ◌≤◌, ◌<◌, min, max}
use native.Mathlib.Nat.{min_comm, max_comm, mul-le-mul, le_antisymm}
use native.Mathlib.Decide.{ℕ_discrete, dec_le}
use native.Mathlib.Omega.{arith}
use Rattle.sdtd.specs.Limits.{most_states, most_pairs, most_word, least_witness}
use Rattle.sdtd.specs.Competition.{pair_number}

-- "Pairs (0,0), (3,1), (31,31): 0, 7, 527", and two with an even larger state
pub pair_samples :
    (pair_number 0 0 ≡ 0) × (pair_number 3 1 ≡ 7) × (pair_number 31 31 ≡ 527) × (pair_number 1 2 ≡ 4) × (pair_number 30 30 ≡ 495)
pair_samples = (refl, refl, refl, refl, refl)

-- for m < n, the numbers of the pairs whose larger state is m are below those of the pairs whose larger state is n
rows : (m n : ℕ) → m < n → m * (m + 1) / 2 + m < n * (n + 1) / 2
rows m n h =
    let products : suc m * (suc m + 1) ≤ n * (n + 1) = mul-le-mul h (omega arith) in
    omega arith

pub pair_swap_number : (s t : ℕ) → pair_number s t ≡ pair_number t s
pair_swap_number s t = rw (max_comm s t, min_comm s t)

pub pair_below : (n s t : ℕ) → s < n → t < n → pair_number s t < n * (n + 1) / 2
pair_below n s t h k = omega (arith, rows (max s t) n (omega arith))

pub pair_below_most : (s t : ℕ) → s < most_states → t < most_states → pair_number s t < most_pairs
pair_below_most s t h k = pair_below most_states s t h k

-- p, q and p', q' are the same unordered pair
abbrev pub SamePair : ℕ → ℕ → ℕ → ℕ → Type 0
SamePair p q p' q' = ((p ≡ p') × (q ≡ q')) ⊎ ((p ≡ q') × (q ≡ p'))

-- of two pairs with one number, the first pair's larger state is at most the second's
larger : (s t s' t' : ℕ) → pair_number s t ≡ pair_number s' t' → max s t ≤ max s' t'
larger s t s' t' e = elim (dec_le (max s t) (max s' t')) [ yes h ↦ h | no h ↦ omega (arith, rows (max s' t') (max s t) (omega arith)) ]

-- two states are known from the larger and the smaller
same_pair : (s t s' t' : ℕ) → max s t ≡ max s' t' → min s t ≡ min s' t' → SamePair s t s' t'
same_pair s t s' t' e f = elim (ℕ_discrete s s') [ yes p ↦ inl (p, omega arith) | no p ↦ inr (omega arith, omega arith) ]

-- equal numbers mean the same unordered pair
pub pair_one_number : (s t s' t' : ℕ) → pair_number s t ≡ pair_number s' t' → SamePair s t s' t'
pair_one_number s t s' t' e =
    let large : max s t ≡ max s' t' = le_antisymm (larger s t s' t' e) (larger s' t' s t (sym e)) in
    same_pair s t s' t' large (omega (arith, ap (λ (m : ℕ). m * (m + 1) / 2) large))

-- what holds of a pair of states in either order holds of each pair with its number
pub pair_either : {P : ℕ → ℕ → Type 0} → ((s t : ℕ) → P s t → P t s) → (s t s' t' : ℕ) → pair_number s t ≡ pair_number s' t' → P s t → P s' t'
pair_either {P} swap s t s' t' e h =
    ⊎_elim (λ o. subst₂ P o.0 o.1 h) (λ o. swap t' s' (subst₂ P o.0 o.1 h)) (pair_one_number s t s' t' e)

-- Document 01's numbers agree: the pairs of states, words of fewer types than pairs, and 5 bytes and the longest word.
pub numbers_agree : (most_pairs ≡ most_states * (most_states + 1) / 2) × (suc most_word ≡ most_pairs) × (least_witness ≡ 5 + most_word)
numbers_agree = (refl, refl, refl)
