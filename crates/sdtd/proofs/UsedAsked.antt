-- The questions whether each type is used, among ordered questions: the first type that is not used decides; and they are decided.
use mathlib.Core.Path.{◌≡◌, sym, subst}
use mathlib.Core.Logic.{◌↔◌, ◌⊎◌, inl, inr, ⊎_elim}
use mathlib.Core.Bool.{Bool}
use mathlib.Core.List.{List, ◌++◌}
use Prim.Native.Nat.{ℕ, zero, suc, ◌+◌, ◌≤◌, ◌<◌}
use native.Mathlib.Decide.{ℕ_discrete}
use native.Mathlib.Omega.{arith}
use lib.ListN.{length}
use Rattle.sdtd.specs.Schema.{Schema}
use Rattle.sdtd.specs.Trim.{Used, Useful}
use Rattle.sdtd.specs.Answer.{Question, Ordered}
use Rattle.sdtd.specs.Reduced.{EveryTypeUsed, used_asked, TellsUsed}
use Rattle.sdtd.proofs.Answers.{AllHold, Decided}
use Rattle.sdtd.proofs.Tests.{means_iff, Decision, decision, to_dec}
use Rattle.sdtd.proofs.Trimming.{used_useful}
use Rattle.sdtd.proofs.Ambiguity.{useful_used}
use Rattle.sdtd.proofs.ReachedTypes.{useful_decided}

-- a type is used exactly if it is reached and bears a tree
pub used_is_useful : {S : Schema} {a : ℕ} → Used S a ↔ Useful S a
used_is_useful = (used_useful, useful_used)

-- so it is decided whether it is used
pub used_decided : (S : Schema) (a : ℕ) → Decision (Used S a)
used_decided S a = decision (means_iff (useful_decided S a).1 used_is_useful)

pub used_dec : (S : Schema) (a : ℕ) → Dec (Used S a)
used_dec S a = to_dec (used_decided S a).1

-- a test that tells which types are used
pub used_test : (S : Schema) → (kept : ℕ → Bool) × TellsUsed S kept
used_test S = (λ a. (used_decided S a).0, λ a. ((used_decided S a).1.says, (used_decided S a).1.passes))

-- each of the n types from a on is used
abbrev pub UsedFrom : Schema → ℕ → ℕ → Type 0
UsedFrom S a n = (b : ℕ) → a ≤ b → b < a + n → Used S b

-- Of the n types from a on there is one that is not used, and the answer is the refusal of the first of these.
pub record FirstUnused {A : Type 0} (S : Schema) (a n : ℕ) (refusal : ℕ → A) (x : A) : Type 0 where
  pub type : ℕ
  pub from : a ≤ type
  pub below : type < a + n
  pub unused : ¬ Used S type
  pub before : (b : ℕ) → a ≤ b → b < type → Used S b
  pub answer : x ≡ refusal type

used_more : {S : Schema} (a n : ℕ) → Used S a → UsedFrom S (suc a) n → UsedFrom S a (suc n)
used_more {S} a n u all b l h = elim (ℕ_discrete b a) [ yes e ↦ subst (Used S) (sym e) u | no e ↦ all b (omega arith) (omega arith) ]

used_fewer : {S : Schema} (a n : ℕ) → UsedFrom S a (suc n) → Used S a × UsedFrom S (suc a) n
used_fewer a n all = (all a (omega arith) (omega arith), λ b l h. all b (omega arith) (omega arith))

module _ {A : Type 0} (refusal : ℕ → A) (S : Schema) where
  -- the first is not used
  unused_here : (a n : ℕ) {x : A} → ¬ Used S a → x ≡ refusal a → FirstUnused S a (suc n) refusal x
  unused_here a n u e =
      record { type = a; from = omega arith; below = omega arith; unused = u; before = λ b l h. absurd (omega arith); answer = e }

  -- the first is used
  unused_later : (a n : ℕ) {x : A} → Used S a → FirstUnused S (suc a) n refusal x → FirstUnused S a (suc n) refusal x
  unused_later a n u f =
      record {
        type = f.type;
        from = omega (arith, f.from);
        below = omega (arith, f.below);
        unused = f.unused;
        before = λ b l h. elim (ℕ_discrete b a) [ yes e ↦ subst (Used S) (sym e) u | no e ↦ f.before b (omega arith) h ];
        answer = f.answer;
      }

  unused_from : (a n : ℕ) {x : A} → FirstUnused S a (suc n) refusal x
      → ((¬ Used S a) × (x ≡ refusal a)) ⊎ (Used S a × FirstUnused S (suc a) n refusal x)
  unused_from a n {x} f = elim (ℕ_discrete f.type a) [
    | yes e ↦ inl (subst (λ k. ¬ Used S k) e f.unused, subst (λ k. x ≡ refusal k) e f.answer)
    | no e ↦ inr (
      f.before a (omega arith) (omega (arith, f.from)),
      record {
        type = f.type;
        from = omega (arith, f.from);
        below = omega (arith, f.below);
        unused = f.unused;
        before = λ b l h. f.before b (omega arith) h;
        answer = f.answer;
      },
    )
  ]

  -- all of these questions hold exactly if each of the types is used
  pub used_asked_hold : (a n : ℕ) → AllHold (used_asked refusal S a n) ↔ UsedFrom S a n
  used_asked_hold a zero = (λ h b l k. absurd (omega arith), λ all. tt)
  used_asked_hold a (suc n) =
      let r = used_asked_hold (suc a) n in (
        λ h. used_more a n h.0 (r.0 h.1),
        λ all. let f = used_fewer a n all in (f.0, r.1 f.1),
      )

  -- .. those of all types exactly if every type is used
  pub every_type_asked : AllHold (used_asked refusal S 0 (length S.blocks)) ↔ EveryTypeUsed S
  every_type_asked =
      let r = used_asked_hold 0 (length S.blocks) in (
        λ h a l. r.0 h a (omega arith) (omega arith),
        λ all. r.1 (λ a l h. all a (omega arith)),
      )

  module _ (qs : List (Question A)) (accepted : A → Type 0) where
    -- The first type that is not used decides; where each is used, the questions after these do.
    pub used_asked_lem : (a n : ℕ) (x : A)
        → Ordered (used_asked refusal S a n ++ qs) accepted x ↔ (FirstUnused S a n refusal x ⊎ (UsedFrom S a n × Ordered qs accepted x))
    used_asked_lem a zero x = (
      λ o. inr (λ b l h. absurd (omega arith), o),
      λ s. ⊎_elim (λ f. absurd (omega (arith, f.from, f.below))) (λ p. p.1) s,
    )
    used_asked_lem a (suc n) x =
        let r = used_asked_lem (suc a) n x in (
          λ o.
              ⊎_elim
              (λ p. inl (unused_here a n p.0 p.1))
              (λ p. ⊎_elim (λ f. inl (unused_later a n p.0 f)) (λ q. inr (used_more a n p.0 q.0, q.1)) (r.0 p.1))
              o,
          λ s.
              ⊎_elim
              (λ f. ⊎_elim (λ p. inl p) (λ p. inr (p.0, r.1 (inl p.1))) (unused_from a n f))
              (λ p. let f = used_fewer a n p.0 in inr (f.0, r.1 (inr (f.1, p.1))))
              s,
        )

    -- They are decided where the questions after them are, which are asked only where each type is used.
    pub used_asked_decided : (a n : ℕ) → (UsedFrom S a n → Decided qs accepted) → Decided (used_asked refusal S a n ++ qs) accepted
    used_asked_decided a zero d = d (λ b l h. absurd (omega arith))
    used_asked_decided a (suc n) d = (used_dec S a, λ u. used_asked_decided (suc a) n (λ all. d (used_more a n u all)))

    -- the same of all types
    pub every_type_ordered : (x : A)
        → Ordered (used_asked refusal S 0 (length S.blocks) ++ qs) accepted x
        ↔ (FirstUnused S 0 (length S.blocks) refusal x ⊎ (EveryTypeUsed S × Ordered qs accepted x))
    every_type_ordered x =
        let r = used_asked_lem 0 (length S.blocks) x in (
          λ o. ⊎_elim (λ f. inl f) (λ p. inr (λ a l. p.0 a (omega arith) (omega arith), p.1)) (r.0 o),
          λ s. r.1 (⊎_elim (λ f. inl f) (λ p. inr (λ a l h. p.0 a (omega arith), p.1)) s),
        )
