-- Texts that are printed for the same files, and the texts of samples.
use mathlib.Core.Path.{◌≡◌, refl, sym, ap, subst, ◌∙◌}
use mathlib.Core.Logic.{◌⊎◌, inl, ◌≢◌}
use mathlib.Core.List.{List, ◌++◌}
use Prim.Native.Nat.{ℕ, ◌≤◌}
use native.Mathlib.Decide.{dec_le}
use native.Mathlib.Omega.{arith}
use borrow.Author.Tests.{ne_eqb}
use lib.ListN.{length, take, drop, replicate, length-append, length-replicate}
use lib.Seq.{take_all, length-take-le}
use Rattle.sdtd.specs.Limits.{least_witness}
use Rattle.schema_file.specs.Answer.{AnswerIs, FileMeans}
use Rattle.schema_file.specs.Samples.{FileSample, file_r, file_choice}
use Rattle.std.specs.Prelude.{Result, Ok, Err}
use Rattle.sdtd.specs.Answer.{fine, refused_at, question_number, verdict_of}
use Rattle.sdtd.specs.declared.Refusal.{Refusal}
use Rattle.sdtd.proofs.Verdicts.{told_value}
use Rattle.schema.specs.declared.value.Schema.{Schema}
use Rattle.reading.specs.declared.event_file.EventFile.{EventFile}
use Rattle.events.specs.Events.{events_of}
use Rattle.typing.specs.Job.{JobMeans}
use Rattle.events.specs.Outline.{outline}
use Rattle.typing.specs.Samples.{EventSample, SchemaGets, EventsGet, first, second}
use Rattle.typing.proofs.Jobs.{job_refusal, one_job, job_meets, job_lines, job_enough}
use Rattle.typing.proofs.SamplesHold.{samples_hold}
use Rattle.std.specs.Fmt.{digits}
use Rattle.report.specs.Text.{refusal_line, rivals, witness_line, opening_line, last_line, schema_refused_text, events_text, text_of}
use Rattle.report.specs.Report.{most_schema, most_events, types_held, JobPrinted, PrintedBy, Printed}
use Rattle.report.specs.Samples.{PrintedSamples}
use Rattle.report.proofs.WitnessLaws.{NineTexts, from_job, one_or_nine}

-- only a refusal with 9 prints of the witness
pub other_refused : (v w : List ℕ) {n : ℕ} (p : ℕ) → n ≢ 9 → schema_refused_text v n p ≡ schema_refused_text w n p
other_refused v w {n} p d = rw (ne_eqb n 9 d)

by_types : (events types v w : List ℕ) (job : Result EventFile Refusal) → ((e : Refusal) → job ≡ Err e → question_number e.why ≢ 9)
    → text_of events v types job ≡ text_of events w types job
by_types events types v w (Ok e) h = refl
by_types events types v w (Err e) h = other_refused v w e.place (h e refl)

-- a job that refuses the schema has the schema file's answer
job_answer : {file events was_witness is_witness was_types is_types : List ℕ} {e : Refusal}
    → JobMeans file events was_witness is_witness was_types is_types (Err e) → AnswerIs file was_witness (refused_at (question_number e.why) e.place)
job_answer {file} {was_witness = was} j = subst (λ (r : Result Schema Refusal). AnswerIs file was (verdict_of r)) (job_refusal j) j.schema_file.answer

-- the texts of two jobs on the same files
one_job_text : {file events s t : List ℕ} → JobPrinted file events s → JobPrinted file events t → (s ≡ t) ⊎ NineTexts file s t
one_job_text {file} {events} a b =
    let same = one_job a.means b.means in
    let was : List ℕ = replicate least_witness 0 in
    one_or_nine (from_job a) (from_job b)
    (λ d.
    a.prints
    ∙ by_types events a.types a.witness b.witness a.job
    (λ e q n.
    d e.place
    (subst (λ (k : ℕ). AnswerIs file was (refused_at k e.place)) n (job_answer (subst (JobMeans _ _ _ a.witness _ a.types) q a.means))))
    ∙ (λ i. text_of events b.witness (same.1 i) (same.0 i))
    ∙ sym b.prints)

-- two texts that a program prints for the same files, where this holds of its jobs' texts
pub one_printed : {Prints : List ℕ → List ℕ → List ℕ → Type 0} {schema events s t : List ℕ}
    → (Prints (take most_schema schema) events s → Prints (take most_schema schema) events t → (s ≡ t) ⊎ NineTexts (take most_schema schema) s t)
    → PrintedBy Prints schema events s → PrintedBy Prints schema events t → (s ≡ t) ⊎ NineTexts (take most_schema schema) s t
one_printed {events = events} one x y =
    elim (dec_le (length events) most_events) [
      | yes k ↦ one (x.answered k) (y.answered k)
      | no n ↦ inl (x.too_long (omega arith) ∙ sym (y.too_long (omega arith)))
    ]

-- Two texts that are printed for the same files are one; or the schema file is answered 9, and they differ at most in J and K.
pub one_text : {schema events s t : List ℕ} → Printed schema events s → Printed schema events t
    → (s ≡ t) ⊎ NineTexts (take most_schema schema) s t
one_text = one_printed one_job_text

-- the types buffer holds a type for each opening that the count counts
held : {file events was_witness is_witness was_types is_types : List ℕ} {e : EventFile}
    → JobMeans file events was_witness is_witness was_types is_types (Ok e) → e.count ≤ length is_types
held {was_types = was} j =
    let m = job_meets j in
    let long = ap length m.told.buffer ∙ length-append m.types (drop (length m.types) was) in
    omega (arith, m.told.count, long)

-- Each opening taken has its line: there is a type and an opening of the events for each that the count counts.
pub every_line : {schema events text : List ℕ} {e : EventFile} (a : JobPrinted schema events text) → a.job ≡ Ok e
    → (length (take e.count a.types) ≡ e.count) × (e.count ≤ length (outline 0 (events_of events)))
every_line {e = e} a q =
    let j = subst (JobMeans _ _ _ a.witness _ a.types) q a.means in
    (length-take-le e.count a.types (held j), job_lines j)

-- the job on a short schema file
pub short_job : {Prints : List ℕ → List ℕ → List ℕ → Type 0} {file events text : List ℕ} → length file ≤ most_schema → length events ≤ most_events
    → PrintedBy Prints file events text → Prints file events text
short_job {file = file} short long x = rw (take_all most_schema file short) at (x.answered long)

pub long_enough : (n : ℕ) → n ≤ length (replicate {A = ℕ} n 0)
long_enough n = omega (arith, length-replicate {A = ℕ} n 0)

-- The program's buffer is enough for its events: it never prints 20.
pub never_20 : {schema events text : List ℕ} {e : EventFile} → length events ≤ most_events → (a : JobPrinted schema events text)
    → a.job ≡ Ok e → e.number ≢ 20
never_20 long a q =
    job_enough (subst (JobMeans _ _ _ a.witness _ a.types) q a.means) (omega (arith, long_enough types_held))

-- the text of a sample whose schema is accepted
read_prints : (file : FileSample) (s : EventSample) → file.answer ≡ fine → SchemaGets file × EventsGet file s
    → length file.bytes ≤ most_schema → length s.bytes ≤ most_events → length s.types ≤ types_held → {text : List ℕ}
    → Printed file.bytes s.bytes text
    → (w : List ℕ) × (text ≡ text_of s.bytes w (s.types ++ drop (length s.types) (replicate types_held 0))
    (Ok (record { number = s.number; place = s.place; count = length s.types })))
read_prints file s is_fine (schema, events) short long room x =
    let a = short_job short long x in
    let j = a.means in
    let (v, is) = told_value ((schema _ _ _ (long_enough least_witness) j.schema_file).0 ∙ is_fine) in
    let (e, q, m) = j.accepted v is in
    let read = subst (FileMeans file.bytes (replicate least_witness 0) a.witness) is j.schema_file in
    let held : length s.types ≤ length (replicate {A = ℕ} types_held 0) = omega (arith, long_enough types_held) in
    let got = events _ _ v (long_enough least_witness) read _ _ e held m in
    (a.witness, a.prints ∙ (λ i. text_of s.bytes a.witness (got.1 i) ((q ∙ ap (λ (e : EventFile). Ok e) got.0) i)))

-- the text of a sample whose schema is refused
refused_prints : (file : FileSample) (n p : ℕ) → file.answer ≡ refused_at n p → SchemaGets file → length file.bytes ≤ most_schema
    → {events : List ℕ} → length events ≤ most_events → {text : List ℕ} → Printed file.bytes events text
    → text ≡ schema_refused_text (file.witness ++ drop (length file.witness) (replicate least_witness 0)) n p
refused_prints file n p answer schema short {events} long x =
    let a = short_job short long x in
    let f = from_job a in
    let got = schema _ _ _ (long_enough least_witness) f.means in
    f.refused (got.0 ∙ answer) ∙ ap (λ (w : List ℕ). schema_refused_text w n p) got.1

pub printed_samples : PrintedSamples
unfolding digits refusal_line rivals witness_line opening_line last_line events_text
printed_samples = (
  λ other x. (read_prints file_r first refl samples_hold.0 (omega arith) (omega arith) (omega arith) x).1,
  λ other x. (read_prints file_r second refl samples_hold.1.0 (omega arith) (omega arith) (omega arith) x).1,
  λ events long other x. refused_prints file_choice 9 0 refl samples_hold.1.1.1.0 (omega arith) long x,
)
