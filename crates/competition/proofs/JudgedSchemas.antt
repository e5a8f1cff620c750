-- What each verdict on a schema means, where of its first n types it is asked whether they are used.
use mathlib.Core.Path.{◌≡◌, refl}
use mathlib.Core.Logic.{◌⊎◌, inl, inr, ⊎_elim, ◌≢◌}
use mathlib.Core.Bool.{Bool, true, false}
use mathlib.Core.List.{List, [], ◌∷◌}
use Prim.Native.Nat.{ℕ, ◌≤◌, ◌<◌}
use Rattle.std.specs.Prelude.{Some, None, Err}
use Rattle.sdtd.specs.declared.TypeNo.{TypeNo}
use native.Mathlib.Omega.{arith}
use lib.ListN.{length, get_or}
use Rattle.sdtd.specs.Limits.{least_witness}
use Rattle.sdtd.specs.Schema.{Schema, WithinLimits}
use Rattle.sdtd.specs.Trim.{SomeRootBears}
use Rattle.sdtd.specs.Reduced.{TellsUsed}
use Rattle.sdtd.specs.Answer.{Question, Ordered, Verdict, fine, refused_at, question_number}
use Rattle.sdtd.proofs.Verdicts.{other_number, refused_not_fine}
use Rattle.sdtd.proofs.UsedAsked.{UsedFrom, FirstUnused, used_asked_lem}
use Rattle.competition.specs.Questions.{competition_asked}
use Rattle.competition.specs.Search.{questions_of, JudgedBy, judged_of, why_of}
use Rattle.competition.specs.declared.verdict.Judged.{Judged}
use Rattle.competition.specs.declared.verdict.Judged.TheVariants.{ShortBuffer, Outside, NoRootBears, Unused, Competes}
use Rattle.competition.specs.Queue.{CompetesMeans}
use Rattle.competition.specs.Unused.{FirstUnmarked}
use Rattle.competition.proofs.Answers.{written_competes}

-- the question after those of the types
abbrev last : Schema → List (Question Verdict)
last S = competition_asked (refused_at 9 0) S ∷ []

module _ (S : Schema) (was : List ℕ) (n : ℕ) where
  abbrev Means : List ℕ → Verdict → Type 0
  Means is r = JudgedBy (questions_of S was n) S was is r

  -- a refusal by another number leaves the buffer as it was
  unwritten : (m p : ℕ) → ¬ (m ≡ 9) → Ordered (questions_of S was n) (λ a. a ≡ fine) (refused_at m p) → Means was (refused_at m p)
  unwritten m p d a = record { answer = a; written = λ e. absurd (other_number refl d e); unchanged = λ o. refl }

  pub short_judged : length was < least_witness → Means was (refused_at 1 0)
  short_judged l = unwritten 1 0 (λ e. omega arith) (inl (λ h. omega arith, refl))

  module _ (long : least_witness ≤ length was) where
    pub outside_judged : ¬ WithinLimits S → Means was (refused_at 10 0)
    outside_judged o = unwritten 10 0 (λ e. omega arith) (inr (long, inl (o, refl)))

    module _ (within : WithinLimits S) where
      pub treeless_judged : ¬ SomeRootBears S → Means was (refused_at 8 0)
      treeless_judged d = unwritten 8 0 (λ e. omega arith) (inr (long, inr (within, inl (d, refl))))

      module _ (bears : SomeRootBears S) (used : List Bool) (tells : TellsUsed S (λ a. get_or used a false)) where
        -- an answer to the questions of the types and the last
        types_asked : (x : Verdict) → FirstUnused S 0 n (λ a. refused_at 24 a) x ⊎ (UsedFrom S 0 n × Ordered (last S) (λ a. a ≡ fine) x)
            → Ordered (questions_of S was n) (λ a. a ≡ fine) x
        types_asked x o =
            inr (long, inr (within, inr (bears, (used_asked_lem (λ a. refused_at 24 a) S (last S) (λ a. a ≡ fine) 0 n x).1 o)))

        -- the first type that is not marked is the first that is not used
        pub unused_judged : (r : ℕ) → FirstUnmarked used n (Some r) → Means was (refused_at 24 r)
        unused_judged r first =
            let f : FirstUnused S 0 n (λ a. refused_at 24 a) (refused_at 24 r) =
            record {
              type = r;
              from = omega arith;
              below = omega (arith, first.0);
              unused = λ u. first.1 ((tells r).1 u);
              before = λ b z h. (tells b).0 (first.2 b h);
              answer = refl;
            } in
            unwritten 24 r (λ e. omega arith) (types_asked (refused_at 24 r) (inl f))

        module _ (none : FirstUnmarked used n None) where
          all_used : UsedFrom S 0 n
          all_used b z h = (tells b).0 (none b (omega arith))

          pub competing_judged : {is : List ℕ} → CompetesMeans S was is true → Means is (refused_at 9 0)
          competing_judged w =
              record {
                answer = types_asked (refused_at 9 0) (inr (all_used, inl (λ m. m (written_competes w), refl)));
                written = λ e. w;
                unchanged = λ d. absurd (d refl);
              }

          pub restrained_judged : {is : List ℕ} → CompetesMeans S was is false → Means is fine
          restrained_judged m =
              record {
                answer = types_asked fine (inr (all_used, inr (m.0, refl)));
                written = λ e. refused_not_fine e refl;
                unchanged = λ d. m.1;
              }

-- where no type is asked about, none is unused
pub none_asked : (S : Schema) (was is : List ℕ) (a : TypeNo) → JudgedBy (questions_of S was 0) S was is (judged_of {A = Unit {0}} (Err (Unused a))) → ⊥
none_asked S was is a j =
    ⊎_elim (no 1 (λ e. omega arith))
    (λ o. ⊎_elim (no 10 (λ e. omega arith))
    (λ p. ⊎_elim (no 8 (λ e. omega arith))
    (λ q. ⊎_elim (no 9 (λ e. omega arith)) (λ r. refused_not_fine refl r.1) q.1) p.1) o.1)
    j.answer
  where
    no : {P : Type 0} (n : ℕ) → (24 ≢ n) → (P × (refused_at 24 a.0 ≡ refused_at n 0)) → ⊥
    no n different x = other_number {p = a.0} refl different x.1

-- so each answer of the code is that of a question
pub why_judged : (S : Schema) (was is : List ℕ) (x : Judged) → JudgedBy (questions_of S was 0) S was is (judged_of {A = Unit {0}} (Err x))
    → JudgedBy (questions_of S was 0) S was is (refused_at (question_number (why_of x)) 0)
why_judged S was is ShortBuffer j = j
why_judged S was is Outside j = j
why_judged S was is NoRootBears j = j
why_judged S was is (Unused a) j = absurd (none_asked S was is a j)
why_judged S was is Competes j = j
