-- Texts of what would have been taken that are printed for the same files.
use mathlib.Core.Path.{◌≡◌, refl, sym, ap, subst, ◌∙◌}
use mathlib.Core.Logic.{◌⊎◌, ◌≢◌}
use mathlib.Core.List.{List}
use Prim.Native.Nat.{ℕ}
use lib.ListN.{take, replicate}
use Rattle.sdtd.specs.Limits.{least_witness}
use Rattle.std.specs.Prelude.{Result, Ok, Err}
use Rattle.sdtd.specs.Answer.{refused_at, question_number, verdict_of}
use Rattle.sdtd.specs.declared.Refusal.{Refusal}
use Rattle.schema.specs.declared.value.Schema.{Schema}
use Rattle.typing.specs.ExpectedJob.{ExpectedJobMeans}
use Rattle.schema_file.specs.Answer.{AnswerIs}
use Rattle.expected.specs.declared.Expected.{Expected}
use Rattle.typing.proofs.ExpectedJobs.{expected_refusal, one_expected_job}
use Rattle.report.specs.ExpectedText.{expected_text_of}
use Rattle.report.specs.Report.{most_schema, PrintedBy}
use Rattle.report.specs.ExpectedReport.{ExpectedPrinted}
use Rattle.report.proofs.WitnessLaws.{NineTexts, from_expected, one_or_nine}
use Rattle.report.proofs.PrintedLaws.{other_refused, one_printed}

-- only a refusal with 9 prints of the witness
by_answer : (v w : List ℕ) (job : Result Expected Refusal) → ((e : Refusal) → job ≡ Err e → question_number e.why ≢ 9)
    → expected_text_of v job ≡ expected_text_of w job
by_answer v w (Ok e) h = refl
by_answer v w (Err e) h = other_refused v w e.place (h e refl)

-- a job that refuses the schema has the schema file's answer
refusal_answer : {file events was is : List ℕ} {e : Refusal} → ExpectedJobMeans file events was is (Err e)
    → AnswerIs file was (refused_at (question_number e.why) e.place)
refusal_answer {file} {was = was} j =
    subst (λ (r : Result Schema Refusal). AnswerIs file was (verdict_of r)) (expected_refusal j) j.schema_file.answer

-- the texts of two jobs on the same files
one_expected : {file events s t : List ℕ} → ExpectedPrinted file events s → ExpectedPrinted file events t → (s ≡ t) ⊎ NineTexts file s t
one_expected {file} a b =
    let same = one_expected_job a.means b.means in
    let was : List ℕ = replicate least_witness 0 in
    one_or_nine (from_expected a) (from_expected b)
    (λ d.
    a.prints
    ∙ by_answer a.witness b.witness a.job
    (λ e q n.
    d e.place
    (subst (λ (k : ℕ). AnswerIs file was (refused_at k e.place)) n (refusal_answer (subst (ExpectedJobMeans _ _ _ a.witness) q a.means))))
    ∙ ap (expected_text_of b.witness) same
    ∙ sym b.prints)

-- Two texts that are printed for the same files are one; or the schema file is answered 9, and they differ at most in J and K.
pub one_expected_text : {schema events s t : List ℕ} → PrintedBy ExpectedPrinted schema events s → PrintedBy ExpectedPrinted schema events t
    → (s ≡ t) ⊎ NineTexts (take most_schema schema) s t
one_expected_text = one_printed one_expected
