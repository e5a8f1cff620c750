-- The answer is read back from its numbers: a schema file's is 0 to 9 or 21 to 24, and no refusal has the number 0, so 0 is accepted alone.
use mathlib.Core.Path.{◌≡◌, refl, sym, ap, subst, ◌∙◌}
use mathlib.Core.Logic.{◌⊎◌, inl, inr, ⊎_elim}
use mathlib.Core.List.{List}
use Prim.Native.Nat.{ℕ, ◌≤◌}
use native.Mathlib.Omega.{arith}
use Rattle.std.specs.Prelude.{Result, Ok, Err}
use Rattle.commands.specs.File.{Stated, Commands, stopped, states, commands}
use Rattle.commands.proofs.Passing.{stopped_number, stopped_least}
use Rattle.sdtd.proofs.Verdicts.{verdict_number, refused_not_fine}
use Rattle.schema_file.specs.Answer.{AnswerBy, AnswerIs}
use Rattle.sdtd.specs.Answer.{Verdict, fine, refused_at, verdict_of, question_number}
use Rattle.sdtd.specs.declared.Refusal.{Refusal}
use Rattle.schema.specs.declared.value.Schema.{Schema}
use Rattle.reading.specs.declared.event_file.EventFile.{EventFile}
use Rattle.schema_file.proofs.AfterDone.{AfterDone, unknown_type, treeless, unused, competing, accepted, after_cases}
use Rattle.schema_file.proofs.OneWitness.{AnsweredNine}
use Rattle.typing.specs.Job.{JobMeans}
use Rattle.typing.proofs.Jobs.{job_nine}
use Rattle.typestock_c.specs.Numbers.{schema_numbers, document_numbers}
use Rattle.typestock_c.specs.Exports.{SchemaMeans, DocumentMeans}
use Rattle.typestock_c.specs.declared.TypestockSchema.{TypestockSchema}
use Rattle.typestock_c.specs.declared.TypestockDocument.{TypestockDocument}

-- the numbers that a schema file gets
abbrev pub SchemaNumber : ℕ → Type 0
SchemaNumber n = (n ≤ 9) ⊎ ((21 ≤ n) × (n ≤ 24))

-- one of them, but 0
record InRange (n : ℕ) : Type 0 where
  above : 1 ≤ n
  among : SchemaNumber n

-- accepted, or refused with one of these numbers
abbrev Known : Verdict → Type 0
Known a = (a ≡ fine) ⊎ InRange (verdict_number a)

numbered : {a : Verdict} {n p : ℕ} → a ≡ refused_at n p → 1 ≤ n → SchemaNumber n → InRange (verdict_number a)
numbered e l m = subst InRange (sym (ap verdict_number e)) (record { above = l; among = m })

-- a command is refused with 2 to 6 or 21 to 23, and after them come 7 to 9 and 24
known_after : (g : Stated) (a : Verdict) → AfterDone g a → Known a
known_after g a (unknown_type n e) = inr (numbered e (omega arith) (inl (omega arith)))
known_after g a (treeless k n e) = inr (numbered e (omega arith) (inl (omega arith)))
known_after g a (unused k b f) = inr (numbered f.answer (omega arith) (inr (omega arith)))
known_after g a (competing k b u c e) = inr (numbered e (omega arith) (inl (omega arith)))
known_after g a (accepted k b u n e) = inl e

known_by : (file : List ℕ) (k : Commands) (a : Verdict) → commands file ≡ k → AnswerBy k a → Known a
known_by file (stopped n p) a e r =
    inr (numbered r (omega (arith, stopped_least file e)) (⊎_elim (λ l. inl (omega arith)) (λ l. inr (omega arith)) (stopped_number file e).1))
known_by file (states g) a e r = known_after g a (after_cases g a r)

known : (file was : List ℕ) (a : Verdict) → AnswerIs file was a → Known a
known file was a (inl o) = inr (numbered o.1 (omega arith) (inl (omega arith)))
known file was a (inr o) = known_by file (commands file) a refl o.1

numbers_among : (a : Verdict) → Known a → SchemaNumber (schema_numbers a).number
numbers_among fine k = inl (omega arith)
numbers_among (refused_at n p) (inl f) = refused_not_fine refl f
numbers_among (refused_at n p) (inr r) = r.among

-- A schema's number is 0 to 9 or 21 to 24.
pub schema_range : {file was is : List ℕ} {r : TypestockSchema} → SchemaMeans file was is r → SchemaNumber r.number
schema_range {file} {was} m =
    subst (λ (x : TypestockSchema). SchemaNumber x.number) (sym m.numbers)
    (numbers_among (verdict_of m.read) (known file was (verdict_of m.read) m.means.answer))

accepted_by : (a : Verdict) → Known a → (schema_numbers a).number ≡ 0 → a ≡ fine
accepted_by a (inl f) z = f
accepted_by fine (inr r) z = refl
accepted_by (refused_at n p) (inr r) z = absurd (omega (arith, r.above))

-- A schema that is answered 0 is accepted.
pub zero_accepted : {file was is : List ℕ} {r : TypestockSchema} (m : SchemaMeans file was is r) → r.number ≡ 0
    → verdict_of m.read ≡ fine
zero_accepted {file} {was} m z =
    accepted_by (verdict_of m.read) (known file was (verdict_of m.read) m.means.answer)
    (sym (ap (λ (x : TypestockSchema). x.number) m.numbers) ∙ z)

nine_by : (a : Verdict) → (schema_numbers a).number ≡ 9 → a ≡ refused_at 9 (schema_numbers a).place
nine_by fine z = absurd (omega arith)
nine_by (refused_at n p) z = ap (λ (k : ℕ). refused_at k p) z

-- A schema that is answered 9 left a witness, of the A and the n of every other call on the file (`one_witness`).
pub schema_nine : {file was is : List ℕ} {r : TypestockSchema} → SchemaMeans file was is r → r.number ≡ 9 → AnsweredNine file is
schema_nine {was = was} m z =
    record {
      was = was;
      read = m.read;
      means = m.means;
      place = (schema_numbers (verdict_of m.read)).place;
      answer = nine_by (verdict_of m.read) (sym (ap (λ (x : TypestockSchema). x.number) m.numbers) ∙ z);
    }

-- A job's numbers where its schema is refused: the schema's, 1 to 9 or 21 to 24, and its place, twice, and no opening.
pub record RefusedNumbers (r : TypestockDocument) : Type 0 where
  pub above : 1 ≤ r.schema_number
  pub among : SchemaNumber r.schema_number
  pub same_number : r.number ≡ r.schema_number
  pub same_place : r.place ≡ r.schema_place
  pub no_opening : r.count ≡ 0

-- A job read its events, or has those numbers.
read_or_refused : {schema events was_witness is_witness was_types is_types : List ℕ} {r : TypestockDocument}
    (m : DocumentMeans schema events was_witness is_witness was_types is_types r) (f : Result Schema Refusal) → m.means.file ≡ f
    → ((e : EventFile) × (m.job ≡ Ok e)) ⊎ RefusedNumbers r
read_or_refused m (Ok v) q = let (e, s, h) = m.means.accepted v q in inl (e, s)
read_or_refused {schema} {was_witness = was_witness} m (Err d) q =
    let told : verdict_of m.means.file ≡ refused_at (question_number d.why) d.place = ap verdict_of q in
    inr (subst RefusedNumbers (sym (m.numbers ∙ ap document_numbers (m.means.refused d q).0))
    (⊎_elim (refused_not_fine told)
    (λ r.
    record {
      above = omega (arith, r.above, ap verdict_number told);
      among = subst SchemaNumber (ap verdict_number told) r.among;
      same_number = refl;
      same_place = refl;
      no_opening = refl;
    })
    (known schema was_witness (verdict_of m.means.file) m.means.schema_file.answer)))

module _ {schema events was_witness is_witness was_types is_types : List ℕ} {r : TypestockDocument}
    (m : DocumentMeans schema events was_witness is_witness was_types is_types r) where
  pub read_or_not : ((e : EventFile) × (m.job ≡ Ok e)) ⊎ RefusedNumbers r
  read_or_not = read_or_refused m m.means.file refl

  -- A job whose schema is answered 0 read its events.
  pub zero_read : r.schema_number ≡ 0 → (e : EventFile) × (m.job ≡ Ok e)
  zero_read z = ⊎_elim (λ e. e) (λ h. absurd (omega arith)) read_or_not

  -- So did one whose document is answered 0.
  pub zero_taken : r.number ≡ 0 → (e : EventFile) × (m.job ≡ Ok e)
  zero_taken z = ⊎_elim (λ e. e) (λ h. absurd (omega arith)) read_or_not

document_nine_by : {schema events was_witness is_witness was_types is_types : List ℕ} (job : Result EventFile Refusal)
    → JobMeans schema events was_witness is_witness was_types is_types job → (document_numbers job).schema_number ≡ 9
    → AnsweredNine schema is_witness
document_nine_by (Err e) j z = job_nine z j
document_nine_by (Ok e) j z = absurd (omega arith)

-- So did a job whose schema is answered 9.
pub document_nine : {schema events was_witness is_witness was_types is_types : List ℕ} {r : TypestockDocument}
    → DocumentMeans schema events was_witness is_witness was_types is_types r → r.schema_number ≡ 9 → AnsweredNine schema is_witness
document_nine m z =
    document_nine_by m.job m.means (sym (ap (λ (x : TypestockDocument). x.schema_number) m.numbers) ∙ z)
