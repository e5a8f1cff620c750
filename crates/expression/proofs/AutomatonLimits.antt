-- What the computed automaton has: which steps, by which types and between which states, and which accepting states.
use mathlib.Core.Path.{◌≡◌, refl, sym}
use mathlib.Core.Logic.{◌↔◌}
use mathlib.Core.Bool.{false, cond, ◌&&◌}
use mathlib.Core.List.{List, [], ◌∷◌, Memᴰ}
use Prim.Native.Nat.{ℕ, suc, ◌≤◌, ◌<◌, pred}
use native.Mathlib.Omega.{arith}
use lib.Dec.{T, eqb}
use Rattle.sdtd.specs.Limits.{most_types}
use Rattle.sdtd.specs.Schema.{Step, step}
use Rattle.sdtd.proofs.Basics.{get_or_member}
use Rattle.sdtd.proofs.Tests.{itself, eq_means, and_means}
use Rattle.expression.specs.Expression.{Expression}
use Rattle.expression.specs.Automaton.{named, uses, type_of_use}
use Rattle.expression.specs.Tests.{leads, accepts, steps_by, steps_from, all_steps, automaton}
use Rattle.expression.proofs.UseTypes.{named-uses}
use Rattle.sdtd.proofs.EachLaws.{mem-of_each, mem-cond}
use Rattle.expression.proofs.TestLaws.{leads_below, accepts_below}

-- the type of a use is one that the expression names
pub use_named : (e : Expression) (q : ℕ) → 1 ≤ q → q < suc (uses e) → Memᴰ (type_of_use e q) (named e)
use_named e q l b = get_or_member (named e) (pred q) 0 (rw (named-uses e) (omega arith))

module _ (e : Expression) where
  -- what `steps_by` has for the use q
  abbrev pub step_if : ℕ → ℕ → ℕ → List Step
  step_if p j q = cond (eqb (type_of_use e q) j && leads e p q) (step p j q ∷ []) []

  pub mem-step_if : (p j q : ℕ) (s : Step)
      → Memᴰ s (step_if p j q) ↔ ((type_of_use e q ≡ j) × T (leads e p q) × (s ≡ step p j q))
  mem-step_if p j q s =
      let c = mem-cond (eqb (type_of_use e q) j && leads e p q) s (step p j q) in
      let m = and_means (eq_means (type_of_use e q) j) (itself (leads e p q)) in (
        λ k. let h = m.says (c.0 k).0 in (h.0, h.1, (c.0 k).1),
        λ h. c.1 (m.passes (h.0, h.1), h.2),
      )

  pub mem-steps_by : (p j : ℕ) (s : Step)
      → Memᴰ s (steps_by e p j) ↔ ((s.from ≡ p) × (s.by ≡ j) × (s.by ≡ type_of_use e s.to) × T (leads e s.from s.to))
  mem-steps_by p j s = (
    λ m.
        let o = (mem-of_each (step_if p j) 1 (uses e) s).0 m in
        let h = (mem-step_if p j o.at s).0 o.given in
        rw h.2 (refl, refl, sym h.0, h.1),
    λ h.
        let b = leads_below e s.from s.to h.3 in
        rw (← h.0, ← h.1)
        ((mem-of_each (step_if s.from s.by) 1 (uses e) s).1
        (record {
          at = s.to;
          least = b.0;
          below = omega (arith, b.1);
          given = (mem-step_if s.from s.by s.to s).1 (sym h.2, h.3, refl);
        })),
  )

  pub mem-steps_from : (p : ℕ) (s : Step)
      → Memᴰ s (steps_from e p)
      ↔ ((s.from ≡ p) × (s.by ≡ type_of_use e s.to) × T (leads e s.from s.to) × (s.by < most_types))
  mem-steps_from p s = (
    λ m.
        let o = (mem-of_each (steps_by e p) 0 most_types s).0 m in
        let h = (mem-steps_by p o.at s).0 o.given in
        (h.0, h.2, h.3, omega (arith, o.below, h.1)),
    λ h.
        (mem-of_each (steps_by e p) 0 most_types s).1
        (record {
          at = s.by;
          least = omega arith;
          below = omega (arith, h.3);
          given = (mem-steps_by p s.by s).1 (h.0, refl, h.1, h.2);
        }),
  )

  -- The steps are those that the test of a step allows, by the type of the use, where that type is below the limit.
  pub mem_steps : (s : Step)
      → Memᴰ s (all_steps e) ↔ ((s.by ≡ type_of_use e s.to) × T (leads e s.from s.to) × (s.by < most_types))
  mem_steps s = (
    λ m.
        let o = (mem-of_each (steps_from e) 0 (suc (uses e)) s).0 m in
        let h = (mem-steps_from o.at s).0 o.given in
        (h.1, h.2, h.3),
    λ h.
        (mem-of_each (steps_from e) 0 (suc (uses e)) s).1
        (record {
          at = s.from;
          least = omega arith;
          below = omega (arith, (leads_below e s.from s.to h.1).2);
          given = (mem-steps_from s.from s).1 (refl, h.0, h.1, h.2);
        }),
  )

  -- .. between states of the automaton, by types that the expression names
  pub steps_inside : (s : Step) → Memᴰ s (all_steps e)
      → (s.from < suc (uses e)) × (1 ≤ s.to) × (s.to < suc (uses e)) × Memᴰ s.by (named e)
  steps_inside s m =
      let h = (mem_steps s).0 m in
      let b = leads_below e s.from s.to h.1 in
      (b.2, b.0, b.1, rw h.0 (use_named e s.to b.0 b.1))

  -- The accepting states are those that the test of an end allows.
  abbrev pub end_if : ℕ → List ℕ
  end_if q = cond (accepts e q) (q ∷ []) []

  pub mem-accepting : (q : ℕ) → Memᴰ q (automaton 0 false e).accepting ↔ T (accepts e q)
  mem-accepting q = (
    λ m.
        let o = (mem-of_each end_if 0 (suc (uses e)) q).0 m in
        let c = (mem-cond (accepts e o.at) q o.at).0 o.given in
        rw c.1 c.0,
    λ t.
        (mem-of_each end_if 0 (suc (uses e)) q).1
        (record {
          at = q;
          least = omega arith;
          below = omega (arith, accepts_below e q t);
          given = (mem-cond (accepts e q) q q).1 (t, refl);
        }),
  )
