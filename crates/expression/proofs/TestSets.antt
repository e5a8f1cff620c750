-- The states that pass a test, as a set.
use mathlib.Core.Path.{◌≡◌, refl}
use mathlib.Core.Logic.{◌↔◌, inl, inr, ⊎_elim}
use mathlib.Core.Bool.{Bool, true, false, cond}
use Prim.Native.Nat.{ℕ, zero, suc, ◌^◌, ◌≤◌, ◌<◌}
use native.Mathlib.Decide.{ℕ_discrete}
use native.Mathlib.Omega.{arith}
use lib.Dec.{T}
use Rattle.sdtd.specs.Limits.{most_states}
use Rattle.schema.specs.States.{member, insert}
use Rattle.schema.proofs.Bits.{member_none, insert_below, member-insert}
use Rattle.sdtd.proofs.Basics.{cond_both}
use Rattle.expression.specs.Expression.{Expression}
use Rattle.expression.specs.Automaton.{uses, StepTo, Ends}
use Rattle.expression.specs.Tests.{leads, accepts}
use Rattle.expression.specs.Answer.{set_of}
use Rattle.expression.proofs.TestLaws.{leads_means, accepts_means, leads_below, accepts_below}

module _ (t : ℕ → Bool) where
  pub set_below : (n : ℕ) → set_of t n < 2 ^ most_states
  unfolding set_of
  set_below zero = omega arith
  set_below (suc n) = cond_both (λ x. x < 2 ^ most_states) (t n) _ _ (insert_below n (set_of t n) (set_below n)) (set_below n)

  pub member_set : (n q : ℕ) → n ≤ most_states → T (member q (set_of t n)) ↔ (T (t q) × (q < n))
  unfolding set_of
  member_set zero q l = (λ m. absurd (member_none q m), λ p. absurd (omega arith))
  member_set (suc n) q l = by_test (member_set n q (omega arith)) (t n) refl
    where
      by_test : (T (member q (set_of t n)) ↔ (T (t q) × (q < n))) → (b : Bool) → t n ≡ b
          → T (member q (cond b (insert n (set_of t n)) (set_of t n))) ↔ (T (t q) × (q < suc n))
      by_test before true e =
          let m = member-insert n q (set_of t n) (set_below n) in (
            λ h. ⊎_elim (λ k. ((before.0 k).0, omega (arith, (before.0 k).1))) (λ k. (rw (k.0, e) tt, omega arith)) (m.0 h),
            λ p. elim (ℕ_discrete q n) [
              | yes d ↦ m.1 (inr (d, l))
              | no d ↦ m.1 (inl (before.1 (p.0, omega arith)))
            ],
          )
      by_test before false e = (
        λ h. ((before.0 h).0, omega (arith, (before.0 h).1)),
        λ p. elim (ℕ_discrete q n) [
          | yes d ↦ absurd (rw (d, e) at p.0)
          | no d ↦ before.1 (p.0, omega arith)
        ],
      )

-- The automaton that is read: its sets say which use can come next, and where a word can end.
module _ (e : Expression) (few : uses e < most_states) where
  pub next_says : (p q : ℕ) → T (member q (set_of (leads e p) most_states)) ↔ StepTo e p q
  next_says p q =
      let m = member_set (leads e p) most_states q (omega arith) in
      let s = leads_means e p q in (
        λ h. s.says (m.0 h).0,
        λ h. m.1 (s.passes h, omega (arith, (leads_below e p q (s.passes h)).1)),
      )

  pub accepting_says : (q : ℕ) → T (member q (set_of (accepts e) most_states)) ↔ Ends e q
  accepting_says q =
      let m = member_set (accepts e) most_states q (omega arith) in
      let s = accepts_means e q in (
        λ h. s.says (m.0 h).0,
        λ h. m.1 (s.passes h, omega (arith, accepts_below e q (s.passes h))),
      )
