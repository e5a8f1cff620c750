-- What the job of what would have been taken answers, by the schema file's answer: one answer, and what it says of documents.
use mathlib.Core.Path.{◌≡◌, refl, sym, ap, subst, ◌∙◌}
use mathlib.Core.List.{List}
use Prim.Native.Nat.{ℕ}
use native.Mathlib.Omega.{arith}
use lib.ListN.{length}
use Rattle.std.specs.Prelude.{Result, Ok, Err}
use Rattle.sdtd.specs.Schema.{Schema as Meaning}
use Rattle.sdtd.specs.Answer.{verdict_of}
use Rattle.sdtd.specs.declared.Refusal.{Refusal}
use Rattle.sdtd.proofs.Verdicts.{refused_not_fine, same_refusals}
use Rattle.schema.specs.Value.{meaning}
use Rattle.schema.specs.declared.value.Schema.{Schema}
use Rattle.commands.specs.File.{commands}
use Rattle.schema_file.specs.Answer.{FileMeans}
use Rattle.schema_file.proofs.FileAnswers.{file_unique, accepted_file}
use Rattle.reading.specs.EventFile.{number_of}
use Rattle.reading.proofs.EventTheory.{event_file_meets}
use Rattle.expected.specs.Expected.{ExpectedMeans}
use Rattle.expected.specs.declared.Expected.{Expected}
use Rattle.expected.proofs.AnswerLaws.{expected_number}
use Rattle.expected.proofs.TableLaws.{Tables, expected_tables}
use Rattle.typing.specs.ExpectedJob.{ExpectedJobMeans, WholeFile, ExpectedJobMeets}
use Rattle.typing.proofs.EventNumbers.{Range, walk_range, room_for_half}
use Rattle.typing.proofs.Jobs.{one_meaning}
use Rattle.typing.proofs.ExpectingMet.{expecting_met}

-- a job that is refused has the schema file's refusal
module _ {file events was is : List ℕ} {e : Refusal} (j : ExpectedJobMeans file events was is (Err e)) where
  refusal_by : (f : Result Schema Refusal) → j.file ≡ f → j.file ≡ Err e
  refusal_by (Err d) q =
      let s = j.refused d q in
      let same : d ≡ e = cc in q ∙ ap Err same
  refusal_by (Ok v) q =
      let (x, s, m) = j.accepted v q in
      let z : ◌≡◌ {A = ℕ} 0 1 = cc in absurd (omega arith)

  pub expected_refusal : j.file ≡ Err e
  expected_refusal = refusal_by j.file refl

-- What the job's call promises fixes its answer.
module _ {file events was is₁ is₂ : List ℕ} {r₁ r₂ : Result Expected Refusal} (j : ExpectedJobMeans file events was is₁ r₁)
    (k : ExpectedJobMeans file events was is₂ r₂) where
  by_files : (f g : Result Schema Refusal) → j.file ≡ f → k.file ≡ g → verdict_of f ≡ verdict_of g
      → FileMeans file was is₁ f → FileMeans file was is₂ g → r₁ ≡ r₂
  by_files (Err d) (Err e) p q same m n =
      let one : Err d ≡ Err e = same_refusals refl (sym same) in j.refused d p ∙ one ∙ sym (k.refused e q)
  by_files (Err d) (Ok w) p q same m n = refused_not_fine refl same
  by_files (Ok v) (Err e) p q same m n = refused_not_fine refl (sym same)
  by_files (Ok v) (Ok w) p q same m n =
      let (x, s, d) = j.accepted v p in
      let (y, t, e) = k.accepted w q in
      let one = one_meaning (commands file) v w m.schema n.schema in
      let answer = expecting_met.one w events in
      let only = answer.only x (subst (λ (S : Meaning). ExpectedMeans S events x) one d) ∙ sym (answer.only y e) in
      s ∙ ap Ok only ∙ sym t

  pub one_expected_job : r₁ ≡ r₂
  one_expected_job = by_files j.file k.file refl refl (file_unique file was j.schema_file.answer k.schema_file.answer) j.schema_file k.schema_file

-- A job whose schema is accepted.
record Accepted (file events was is : List ℕ) (x : Expected) : Type 0 where
  value : Schema
  read : FileMeans file was is (Ok value)
  means : ExpectedMeans (meaning value) events x

module _ {file events was is : List ℕ} {x : Expected} (j : ExpectedJobMeans file events was is (Ok x)) where
  read_by : (f : Result Schema Refusal) → j.file ≡ f → Accepted file events was is x
  read_by (Err d) q =
      let s = j.refused d q in
      let z : ◌≡◌ {A = ℕ} 0 1 = cc in absurd (omega arith)
  read_by (Ok v) q =
      let (y, s, m) = j.accepted v q in
      let same : y ≡ x = cc in
      record {
        value = v;
        read = subst (FileMeans file was is) q j.schema_file;
        means = subst (ExpectedMeans (meaning v) events) same m;
      }

  was_read : Accepted file events was is x
  was_read = read_by j.file refl

  -- The counts are at most the tables' lengths, and the entries past them are 0.
  pub job_tables : Tables x
  job_tables = expected_tables was_read.means

  taken_whole : x.number ≡ 0 → WholeFile (meaning was_read.value) events x
  taken_whole z =
      let room = length events in
      let means = was_read.means in
      let m = event_file_meets (accepted_file was_read.read).schema events room means.passage means.passes in
      let same = room_for_half (meaning was_read.value) events room means.passage means.passes (omega arith) in
      let done = m.zero_taken (ap number_of same ∙ sym (expected_number means) ∙ z) in
      let (d, bytes, valid, enough) = m.taken_exactly.0 done in
      record {
        document = d;
        bytes = bytes;
        valid = valid;
        empty = expecting_met.taken_whole was_read.value events x means z;
      }

  -- Its answer is by valid documents, its number 0 or 11 to 19, and 0 of valid documents alone.
  pub expected_meets : ExpectedJobMeets file events x
  expected_meets =
      let v = was_read.value in
      let m = expecting_met.accepted file was is v was_read.read events x was_read.means in
      let number : x.number ≡ number_of m.passage.verdict =
      ap (λ (e : Expected). e.number) m.laid_out ∙ ap number_of m.verdict in
      record {
        schema = meaning v;
        stated = (accepted_file was_read.read).states;
        meets = m;
        number = subst (Range 11 19) (sym number) (walk_range (meaning v) events m.passage m.judged);
        whole = taken_whole;
      }

  -- It leaves the witness buffer as it was.
  pub expected_witness : is ≡ was
  expected_witness = was_read.read.buffer.1 (λ q. refused_not_fine q refl)
