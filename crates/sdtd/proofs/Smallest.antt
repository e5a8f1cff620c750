-- The smallest number with a decided property.
use mathlib.Core.Path.{subst}
use mathlib.Core.Logic.{◌⊎◌, inl, inr, ⊎_elim}
use Prim.Native.Nat.{ℕ, zero, suc, ◌≤◌, ◌<◌}
use native.Mathlib.Decide.{dec_lt}
use native.Mathlib.Omega.{arith}

-- the smallest number with the property
pub record Smallest (P : ℕ → Type 0) : Type 0 where
  pub number : ℕ
  pub holds : P number
  pub smallest : (n : ℕ) → P n → number ≤ n

-- where no number below n has it, each that has it is n or more
at_least : {P : ℕ → Type 0} {n : ℕ} → ((m : ℕ) → m < n → ¬ P m) → (m : ℕ) → P m → n ≤ m
at_least {n = n} none m p = elim (dec_lt m n) [ yes h ↦ absurd (none m h p) | no h ↦ omega arith ]

module _ {P : ℕ → Type 0} (decided : (n : ℕ) → P n ⊎ (¬ P n)) where
  -- the smallest is found, or no number below n has the property
  search_below : (n : ℕ) → Smallest P ⊎ ((m : ℕ) → m < n → ¬ P m)
  search_below zero = inr (λ m h. absurd (omega arith))
  search_below (suc n) =
      ⊎_elim
      (λ s. inl s)
      (λ none.
      ⊎_elim
      (λ p. inl (record { number = n; holds = p; smallest = at_least none }))
      (λ q. inr (λ m h p. elim (dec_lt m n) [ yes k ↦ none m k p | no k ↦ q (subst P (omega arith) p) ]))
      (decided n))
      (search_below n)

  pub smallest_of : (n : ℕ) → P n → Smallest P
  smallest_of n p = ⊎_elim (λ s. s) (λ none. record { number = n; holds = p; smallest = at_least none }) (search_below n)
