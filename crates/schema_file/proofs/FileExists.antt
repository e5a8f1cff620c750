-- A schema file has exactly one answer, and for that answer there is a buffer after the call.
use mathlib.Core.Path.{◌≡◌, refl}
use mathlib.Core.Logic.{inl, inr, ⊎_elim}
use mathlib.Core.List.{List, [], ◌∷◌, ◌++◌}
use Prim.Native.Nat.{ℕ, ◌≤◌}
use native.Mathlib.Omega.{arith}
use lib.ListN.{length, drop}
use Rattle.sdtd.specs.Limits.{least_witness}
use Rattle.sdtd.specs.Schema.{Schema as Meaning, WithinLimits}
use Rattle.sdtd.specs.Answer.{ask, Verdict, fine, refused_at}
use Rattle.sdtd.specs.Competition.{Competition}
use Rattle.sdtd.proofs.Answers.{Decided, ordered_exists}
use Rattle.sdtd.proofs.Tests.{to_dec, le_means}
use Rattle.sdtd.proofs.Verdicts.{other_number, refused_not_fine}
use Rattle.sdtd.proofs.Roots.{some_root_bears_means}
use Rattle.sdtd.proofs.LiveStates.{live_table}
use Rattle.sdtd.proofs.Basics.{none_decided}
use Rattle.sdtd.proofs.Competing.{competition_decided, restrained_decided}
use Rattle.sdtd.proofs.Witnesses.{witness_exists}
use Rattle.sdtd.proofs.UsedAsked.{used_asked_decided}
use Rattle.competition.specs.Questions.{competition_asked}
use Rattle.competition.specs.Search.{Written}
use Rattle.commands.specs.File.{Stated, Commands, stopped, states, commands, schema_by, type_place, unknown}
use Rattle.schema_file.specs.Answer.{after_done, AnswerBy, AnswerIs, BufferBy}
use Rattle.commands.proofs.Passing.{stopped_before}
use Rattle.commands.proofs.StatedLimits.{stated_within}
use Rattle.schema_file.proofs.AfterDone.{AfterDone, unknown_type, treeless, unused, competing, accepted, after_cases}
use Rattle.schema_file.proofs.FileAnswers.{file_unique}

-- the questions after DONE are decided
after_decided : (g : Stated) → Decided (after_done g) (λ b. b ≡ fine)
after_decided g = (
  none_decided (unknown g),
  λ k. (
    to_dec (some_root_bears_means (live_table (schema_by g)).1),
    λ b.
        used_asked_decided (λ a. refused_at 24 (type_place g a)) (schema_by g) (competition_asked (refused_at 9 0) (schema_by g) ∷ []) (λ c. c ≡ fine)
        0 (length (schema_by g).blocks) (λ u. (restrained_decided (schema_by g), λ n. (fine, refl))),
  ),
)

-- there is an answer where the buffer is long enough
by_exists : (k : Commands) → (a : Verdict) × AnswerBy k a
by_exists (stopped n p) = (refused_at n p, refl)
by_exists (states g) = ordered_exists (λ b. b ≡ fine) (after_done g) (after_decided g)

pub file_exists : (file was : List ℕ) → (a : Verdict) × AnswerIs file was a
file_exists file was =
    ordered_exists (AnswerBy (commands file)) (ask (refused_at 1 0) (least_witness ≤ length was) ∷ [])
    (to_dec (le_means least_witness (length was)), λ l. by_exists (commands file))

-- Every file has exactly one answer by the ordered questions.
pub one_file_answer : (file was : List ℕ) → (a : Verdict) × AnswerIs file was a × ((b : Verdict) → AnswerIs file was b → a ≡ b)
one_file_answer file was = let r = file_exists file was in (r.0, r.1, λ b s. file_unique file was r.1 s)

-- a witness written over the first bytes of the buffer
written_exists : (S : Meaning) (was : List ℕ) → WithinLimits S → Competition S → (is : List ℕ) × Written S was is
written_exists S was w c =
    let x = witness_exists S w c in
    (x.0 ++ drop (length x.0) was, record { bytes = x.0; witness = x.1; filled = refl })

-- on every answer but 9 the buffer as it was; on 9 one with a witness
unchanged : (k : Commands) (was : List ℕ) {a : Verdict} → ¬ (a ≡ refused_at 9 0) → BufferBy k was was a
unchanged k was d = (λ q. absurd (d q), λ e. refl)

filled : (g : Stated) {was is : List ℕ} {a : Verdict} → a ≡ refused_at 9 0 → Written (schema_by g) was is → BufferBy (states g) was is a
filled g e w = (λ q. w, λ d. absurd (d e))

after_buffer : (file was : List ℕ) (g : Stated) (a : Verdict) → commands file ≡ states g → AfterDone g a
    → (is : List ℕ) × BufferBy (states g) was is a
after_buffer file was g a e (unknown_type n o) = (was, unchanged (states g) was (other_number o (λ z. omega arith)))
after_buffer file was g a e (treeless k n o) = (was, unchanged (states g) was (other_number o (λ z. omega arith)))
after_buffer file was g a e (unused k b f) = (was, unchanged (states g) was (other_number f.answer (λ z. omega arith)))
after_buffer file was g a e (competing k b u d o) =
    ⊎_elim
    (λ c. let x = written_exists (schema_by g) was (stated_within file g e k) c in (x.0, filled g o x.1))
    (λ n. absurd (d n))
    (competition_decided (schema_by g))
after_buffer file was g a e (accepted k b u n o) = (was, unchanged (states g) was (λ q. refused_not_fine q o))

by_buffer : (file was : List ℕ) (k : Commands) (a : Verdict) → commands file ≡ k → AnswerBy k a → (is : List ℕ) × BufferBy k was is a
by_buffer file was (stopped n p) a e r =
    (was, unchanged (stopped n p) was (other_number r (λ z. stopped_before file e (omega arith) (omega arith))))
by_buffer file was (states g) a e r = after_buffer file was g a e (after_cases g a r)

pub buffer_exists : (file was : List ℕ) (a : Verdict) → AnswerIs file was a → (is : List ℕ) × BufferBy (commands file) was is a
buffer_exists file was a (inl o) = (was, unchanged (commands file) was (other_number o.1 (λ z. omega arith)))
buffer_exists file was a (inr o) = by_buffer file was (commands file) a refl o.1
