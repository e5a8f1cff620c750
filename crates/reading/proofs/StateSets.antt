-- Sets of states as numbers: one for each decided property, and how large the states of a set are.
use mathlib.Core.Path.{sym, subst}
use mathlib.Core.Logic.{◌↔◌, inl, inr, ⊎_elim}
use mathlib.Core.Bool.{Bool}
use Prim.Native.Nat.{ℕ, zero, suc, ◌/◌, ◌%◌, ◌^◌, ◌≤◌, ◌<◌}
use native.Mathlib.Nat.{le_trans, div-eq_of_lt, pow-suc}
use native.Mathlib.Decide.{dec_lt, ℕ_discrete}
use native.Mathlib.Omega.{arith}
use lib.Dec.{T, eqb→eq}
use lib.Pow.{pow_mono}
use Rattle.sdtd.specs.Limits.{most_states}
use Rattle.sdtd.proofs.Tests.{Means, decided}
use Rattle.schema.specs.States.{member, insert}
use Rattle.schema.proofs.Bits.{member_none, insert_below, member-insert}

below_power : (n : ℕ) → n < 2 ^ n
below_power zero = omega arith
below_power (suc n) = omega (arith, pow-suc 2 n, below_power n)

-- a state of a set, of whatever size, is below the set's number
pub member_under : (s x : ℕ) → T (member s x) → s < x
member_under s x m = elim (dec_lt s x) [ yes l ↦ l | no l ↦ absurd (high (omega arith)) ]
  where
    high : x ≤ s → ⊥
    high l = omega (arith, div-eq_of_lt (le_trans (below_power x) (pow_mono l)), eqb→eq (x / 2 ^ s % 2) 1 m)

-- the set of the states below n that have the property
pub record SetBelow (P : ℕ → Type 0) (n : ℕ) : Type 0 where
  pub set : ℕ
  pub small : set < 2 ^ most_states
  pub states : (q : ℕ) → T (member q set) ↔ ((q < n) × P q)

module _ {P : ℕ → Type 0} {n : ℕ} (s : SetBelow P n) where
  -- with the next state, or without it
  with_next : n < most_states → P n → SetBelow P (suc n)
  with_next l p =
      record {
        set = insert n s.set;
        small = insert_below n s.set s.small;
        states = λ q. (
          λ t.
              ⊎_elim
              (λ k. let h = (s.states q).0 k in (omega arith, h.1))
              (λ e. (omega arith, subst P (sym e.0) p))
              ((member-insert n q s.set s.small).0 t),
          λ h.
              (member-insert n q s.set s.small).1
              (elim (ℕ_discrete q n) [ yes e ↦ inr (e, l) | no d ↦ inl ((s.states q).1 (omega arith, h.1)) ]),
        );
      }

  without_next : ¬ P n → SetBelow P (suc n)
  without_next d =
      record {
        set = s.set;
        small = s.small;
        states = λ q. (
          λ t. let h = (s.states q).0 t in (omega arith, h.1),
          λ h. elim (ℕ_discrete q n) [ yes e ↦ absurd (d (subst P e h.1)) | no e ↦ (s.states q).1 (omega arith, h.1) ],
        );
      }

-- there is one for a decided property
pub decided_set : {P : ℕ → Type 0} {f : ℕ → Bool} → ((q : ℕ) → Means (f q) (P q)) → (n : ℕ) → n ≤ most_states → SetBelow P n
decided_set m zero l =
    record { set = 0; small = omega arith; states = λ q. (λ t. absurd (member_none q t), λ h. absurd (omega arith)) }
decided_set m (suc n) l =
    let s = decided_set m n (omega arith) in
    ⊎_elim (with_next s (omega arith)) (without_next s) (decided (m n))
