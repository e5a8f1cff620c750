-- The answers to the questions after DONE, case by case.
use mathlib.Core.Path.{◌≡◌}
use mathlib.Core.Logic.{◌↔◌, ◌⊎◌, inl, inr, ⊎_elim}
use mathlib.Core.List.{[], ◌∷◌, ◌++◌}
use lib.ListN.{length, get_or}
use Rattle.sdtd.specs.Trim.{SomeRootBears}
use Rattle.sdtd.specs.Reduced.{EveryTypeUsed, used_asked}
use Rattle.sdtd.specs.Competition.{Competition}
use Rattle.sdtd.specs.Answer.{Ordered, Verdict, fine, refused_at}
use Rattle.sdtd.proofs.UsedAsked.{FirstUnused, every_type_ordered}
use Rattle.competition.specs.Questions.{competition_asked}
use Rattle.commands.specs.File.{Stated, states, schema_by, type_place, unknown}
use Rattle.schema_file.specs.Answer.{AnswerBy}

-- of the types of the schema stated there is one that is not used, and the answer is 24 at the TYPE of the first of these
abbrev pub UnusedAt : Stated → Verdict → Type 0
UnusedAt g a = FirstUnused (schema_by g) 0 (length (schema_by g).blocks) (λ k. refused_at 24 (type_place g k)) a

-- which question decides, and the answer
pub data AfterDone (g : Stated) (a : Verdict) : Type 0 where
  unknown_type : ¬ (unknown g ≡ []) → a ≡ refused_at 7 (get_or (unknown g) 0 0) → AfterDone g a
  treeless : unknown g ≡ [] → ¬ SomeRootBears (schema_by g) → a ≡ refused_at 8 0 → AfterDone g a
  unused : unknown g ≡ [] → SomeRootBears (schema_by g) → UnusedAt g a → AfterDone g a
  competing : unknown g ≡ [] → SomeRootBears (schema_by g) → EveryTypeUsed (schema_by g) → ¬ (¬ Competition (schema_by g)) → a ≡ refused_at 9 0
      → AfterDone g a
  accepted : unknown g ≡ [] → SomeRootBears (schema_by g) → EveryTypeUsed (schema_by g) → ¬ Competition (schema_by g) → a ≡ fine → AfterDone g a

module _ (g : Stated) (a : Verdict) where
  -- question 9 alone
  abbrev LastAsked : Type 0
  LastAsked = Ordered (competition_asked (refused_at 9 0) (schema_by g) ∷ []) (λ b. b ≡ fine) a

  used_then :
      Ordered
      (used_asked (λ k. refused_at 24 (type_place g k)) (schema_by g) 0 (length (schema_by g).blocks)
      ++ (competition_asked (refused_at 9 0) (schema_by g) ∷ []))
      (λ b. b ≡ fine) a
      ↔ (UnusedAt g a ⊎ (EveryTypeUsed (schema_by g) × LastAsked))
  used_then =
      every_type_ordered (λ k. refused_at 24 (type_place g k)) (schema_by g) (competition_asked (refused_at 9 0) (schema_by g) ∷ []) (λ b. b ≡ fine) a

  pub after_cases : AnswerBy (states g) a → AfterDone g a
  after_cases (inl o) = unknown_type o.0 o.1
  after_cases (inr (k, inl o)) = treeless k o.0 o.1
  after_cases (inr (k, inr (b, o))) =
      ⊎_elim (λ f. unused k b f)
      (λ p. ⊎_elim (λ c. competing k b p.0 c.0 c.1) (λ n. accepted k b p.0 n.0 n.1) p.1)
      (used_then.0 o)

  pub after_answer : AfterDone g a → AnswerBy (states g) a
  after_answer (unknown_type n e) = inl (n, e)
  after_answer (treeless k n e) = inr (k, inl (n, e))
  after_answer (unused k b f) = inr (k, inr (b, used_then.1 (inl f)))
  after_answer (competing k b u c e) = inr (k, inr (b, used_then.1 (inr (u, inl (c, e)))))
  after_answer (accepted k b u n e) = inr (k, inr (b, used_then.1 (inr (u, inr (n, e)))))
