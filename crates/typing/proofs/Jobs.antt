-- What the whole job answers, by the schema file's answer: one answer, and what it says of documents.
use mathlib.Core.Path.{◌≡◌, refl, sym, ap, subst, ◌∙◌}
use mathlib.Core.Logic.{◌⊎◌, ◌≢◌}
use mathlib.Core.List.{List, []}
use Prim.Native.Nat.{ℕ, ◌*◌, ◌≤◌}
use native.Mathlib.Omega.{arith}
use lib.ListN.{length}
use Rattle.std.specs.Prelude.{Result, Ok, Err}
use Rattle.sdtd.specs.Schema.{Schema as Meaning}
use Rattle.schema.specs.Value.{meaning}
use Rattle.schema.specs.declared.value.Schema.{Schema}
use Rattle.commands.specs.File.{Commands, stopped, states, commands}
use Rattle.commands.specs.Value.{StatedValue}
use Rattle.schema_file.specs.Answer.{OfStated, FileMeans}
use Rattle.sdtd.specs.Answer.{refused_at, question_number, verdict_of}
use Rattle.sdtd.specs.declared.Refusal.{Refusal}
use Rattle.sdtd.proofs.Verdicts.{refused_not_fine, same_refusals}
use Rattle.schema_file.proofs.FileAnswers.{file_unique, accepted_file}
use Rattle.schema_file.proofs.OneWitness.{AnsweredNine}
use Rattle.events.specs.Events.{events_of}
use Rattle.reading.specs.EventFile.{verdict_with, types_with, EventsMean}
use Rattle.reading.specs.declared.event_file.EventFile.{EventFile}
use Rattle.reading.proofs.EventWalk.{events_unique}
use Rattle.reading.proofs.EventTheory.{event_file_meets}
use Rattle.typing.specs.Job.{JobMeans, JobMeets}
use Rattle.events.specs.Outline.{outline}
use Rattle.events.proofs.Outlines.{outline_depths}
use Rattle.typing.proofs.Lines.{line_tags, lines_enough}
use Rattle.typing.proofs.EventNumbers.{Range, judged_range, always_enough}

-- a job that is refused has the schema file's refusal
module _ {file events was_witness is_witness was_types is_types : List ℕ} {e : Refusal}
    (j : JobMeans file events was_witness is_witness was_types is_types (Err e)) where
  refusal_by : (f : Result Schema Refusal) → j.file ≡ f → j.file ≡ Err e
  refusal_by (Err d) q =
      let s = (j.refused d q).0 in
      let same : d ≡ e = cc in q ∙ ap Err same
  refusal_by (Ok v) q =
      let (d, s, m) = j.accepted v q in
      let z : ◌≡◌ {A = ℕ} 0 1 = cc in absurd (omega arith)

  pub job_refusal : j.file ≡ Err e
  job_refusal = refusal_by j.file refl

-- a job that refuses the schema with 9 left a witness as the schema file's call does
pub job_nine : {file events was_witness is_witness was_types is_types : List ℕ} {e : Refusal} → question_number e.why ≡ 9
    → JobMeans file events was_witness is_witness was_types is_types (Err e) → AnsweredNine file is_witness
job_nine {was_witness = was} {e = e} nine j =
    record {
      was = was;
      read = j.file;
      means = j.schema_file;
      place = e.place;
      answer = ap verdict_of (job_refusal j) ∙ ap (λ (n : ℕ). refused_at n e.place) nine;
    }

-- two values of the schema that the commands state mean one schema
pub one_meaning : (k : Commands) (v w : Schema) → OfStated k (λ g. StatedValue g v) → OfStated k (λ g. StatedValue g w)
    → meaning v ≡ meaning w
one_meaning (stopped n p) v w s t = absurd s
one_meaning (states g) v w s t = s.schema ∙ sym t.schema

-- What the job's call promises fixes its answer and each byte of the types' buffer.
module _ {file events was_witness is₁ is₂ was_types types₁ types₂ : List ℕ} {r₁ r₂ : Result EventFile Refusal}
    (j : JobMeans file events was_witness is₁ was_types types₁ r₁) (k : JobMeans file events was_witness is₂ was_types types₂ r₂) where
  by_files : (f g : Result Schema Refusal) → j.file ≡ f → k.file ≡ g → verdict_of f ≡ verdict_of g
      → FileMeans file was_witness is₁ f → FileMeans file was_witness is₂ g → (r₁ ≡ r₂) × (types₁ ≡ types₂)
  by_files (Err d) (Err e) p q same m n =
      let x = j.refused d p in
      let y = k.refused e q in
      let one : Err d ≡ Err e = same_refusals refl (sym same) in
      (x.0 ∙ one ∙ sym y.0, x.1 ∙ sym y.1)
  by_files (Err d) (Ok w) p q same m n = refused_not_fine refl same
  by_files (Ok v) (Err e) p q same m n = refused_not_fine refl (sym same)
  by_files (Ok v) (Ok w) p q same m n =
      let (d, s, x) = j.accepted v p in
      let (e, t, y) = k.accepted w q in
      let one = one_meaning (commands file) v w m.schema n.schema in
      let u = events_unique (subst (λ (S : Meaning). EventsMean S events was_types types₁ d) one x) y in
      (s ∙ ap Ok u.0 ∙ sym t, u.1)

  pub one_job : (r₁ ≡ r₂) × (types₁ ≡ types₂)
  one_job =
      by_files j.file k.file refl refl (file_unique file was_witness j.schema_file.answer k.schema_file.answer) j.schema_file k.schema_file

-- A job that read its events: the schema that it accepted.
record Accepted (file events was_witness is_witness was_types is_types : List ℕ) (e : EventFile) : Type 0 where
  value : Schema
  read : FileMeans file was_witness is_witness (Ok value)
  means : EventsMean (meaning value) events was_types is_types e

module _ {file events was_witness is_witness was_types is_types : List ℕ} {e : EventFile}
    (j : JobMeans file events was_witness is_witness was_types is_types (Ok e)) where
  read_by : (f : Result Schema Refusal) → j.file ≡ f → Accepted file events was_witness is_witness was_types is_types e
  read_by (Err d) q =
      let s = (j.refused d q).0 in
      let z : ◌≡◌ {A = ℕ} 0 1 = cc in absurd (omega arith)
  read_by (Ok v) q =
      let (d, s, n) = j.accepted v q in
      let same : d ≡ e = cc in
      record {
        value = v;
        read = subst (FileMeans file was_witness is_witness) q j.schema_file;
        means = subst (EventsMean (meaning v) events was_types is_types) same n;
      }

  was_read : Accepted file events was_witness is_witness was_types is_types e
  was_read = read_by j.file refl

  -- It meets demands 2 and 3, and its lines belong to the openings taken.
  pub job_meets : JobMeets file events was_types is_types e
  job_meets =
      let m = was_read.means in
      let a = accepted_file was_read.read in
      record {
        schema = meaning was_read.value;
        stated = a.states;
        verdict = verdict_with (length was_types) m.passage;
        types = types_with (length was_types) m.passage;
        told = m.told;
        meets = event_file_meets a.schema events (length was_types) m.passage m.passes;
        lines = line_tags m;
        levels = outline_depths [] (events_of events);
      }

  -- Each opening that the count counts has its line in the outline of the events.
  pub job_lines : e.count ≤ length (outline 0 (events_of events))
  job_lines = lines_enough was_read.means

  -- Its number is 0, or 11 to 20: "10 never comes".
  pub job_range : (e.number ≡ 0) ⊎ ((11 ≤ e.number) × (e.number ≤ 20))
  job_range = subst (Range 11 20) (sym job_meets.told.number) (judged_range job_meets.meets)

  -- A byte for every two of the event file is always enough.
  pub job_enough : length events ≤ 2 * length was_types → e.number ≢ 20
  job_enough = always_enough was_read.means

  -- It leaves the witness buffer as it was.
  pub job_witness : is_witness ≡ was_witness
  job_witness = was_read.read.buffer.1 (λ q. refused_not_fine q refl)
