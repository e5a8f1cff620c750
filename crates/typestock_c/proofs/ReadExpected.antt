-- What the numbers of what would have been taken tell: the schema file's own answer, the range of the event file's number, what 0 says, and which
-- entries count.
use mathlib.Core.Path.{◌≡◌, refl, sym, ap, subst, ◌∙◌}
use mathlib.Core.Logic.{◌⊎◌, ◌≢◌, inl, inr, ⊎_elim}
use mathlib.Core.Bool.{false}
use mathlib.Core.List.{List}
use Prim.Native.Nat.{ℕ, zero, suc, ◌≤◌}
use native.Mathlib.Omega.{arith}
use lib.ListN.{length, replicate}
use Rattle.std.specs.Prelude.{Result, Ok, Err}
use Rattle.sdtd.specs.Limits.{most_levels}
use Rattle.sdtd.specs.Schema.{Schema as Meaning}
use Rattle.sdtd.specs.Document.{Event}
use Rattle.sdtd.specs.Calls.{ValidWithin}
use Rattle.sdtd.specs.Answer.{question_number, verdict_of}
use Rattle.sdtd.specs.declared.Refusal.{Refusal}
use Rattle.sdtd.proofs.Verdicts.{number_some}
use Rattle.schema.specs.declared.value.Schema.{Schema}
use Rattle.commands.specs.File.{StatesSchema}
use Rattle.schema_file.proofs.OneWitness.{AnsweredNine}
use Rattle.events.specs.Events.{bytes_of}
use Rattle.expected.specs.Expected.{nothing, laid_out, most_openings}
use Rattle.expected.specs.declared.Expected.{Expected}
use Rattle.expected.proofs.TableLaws.{Counted, Tables, laid_tables}
use Rattle.typing.specs.ExpectedJob.{ExpectedJobMeans, ExpectedJobMeets}
use Rattle.typing.proofs.ExpectedJobs.{expected_meets, job_tables}
use Rattle.typestock_c.specs.Numbers.{schema_numbers, expected_numbers}
use Rattle.typestock_c.specs.Exports.{SchemaMeans, ExpectedDocumentMeans}
use Rattle.typestock_c.specs.declared.TypestockSchema.{TypestockSchema}
use Rattle.typestock_c.specs.declared.TypestockExpected.{TypestockExpected}
use Rattle.typestock_c.proofs.ReadBack.{SchemaNumber, schema_range, schema_nine}

-- the schema file's two numbers
abbrev pub schema_in : TypestockExpected → TypestockSchema
schema_in r = record { number = r.schema_number; place = r.schema_place }

-- beside both numbers with their places nothing is open or listed
abbrev pub nothing_beside : ℕ → ℕ → ℕ → ℕ → TypestockExpected
nothing_beside k l n p =
    record {
      schema_number = k;
      schema_place = l;
      number = n;
      place = p;
      depth = 0;
      types = replicate most_levels 0;
      count = 0;
      tags = replicate most_openings 0;
      nils = replicate most_openings false;
      closes = false;
      finishes = false;
    }

-- the schema's number and place in both answers
abbrev pub twice : ℕ → ℕ → TypestockExpected
twice n p = nothing_beside n p n p

-- The numbers where the schema is refused: the schema's, 1 to 9 or 21 to 24, and its place, twice, and 0 in all else.
pub record RefusedExpected (r : TypestockExpected) : Type 0 where
  pub above : 1 ≤ r.schema_number
  pub among : SchemaNumber r.schema_number
  pub nothing_else : r ≡ twice r.schema_number r.schema_place

-- The numbers under an accepted schema, and what they say: `meets` that they are by valid documents, and that 0 is a whole one's.
pub record ReadExpected (schema events : List ℕ) (r : TypestockExpected) : Type 0 where
  pub answer : Expected
  pub numbers : r ≡ expected_numbers (Ok answer)
  pub meets : ExpectedJobMeets schema events answer
  -- 0, or 11 to 19: never 20
  pub range : (r.number ≡ 0) ⊎ ((11 ≤ r.number) × (r.number ≤ 19))

-- What 0 for the event file says: under the schema that the file states it is a valid document, nested at most 64 deep, and all else is 0 but the
-- place, which is the event file's length.
pub record WholeExpected (schema_file events : List ℕ) (r : TypestockExpected) : Type 0 where
  pub schema : Meaning
  pub stated : StatesSchema schema_file schema
  pub document : List Event
  pub bytes : events ≡ bytes_of document
  pub valid : ValidWithin schema document
  pub nothing_else : r ≡ nothing_beside 0 0 0 (length events)

-- The counts are at most the tables' lengths, and the entries past them are 0.
pub record CountedEntries (r : TypestockExpected) : Type 0 where
  pub types : Counted most_levels 0 r.depth r.types
  pub tags : Counted most_openings 0 r.count r.tags
  pub nils : Counted most_openings false r.count r.nils

-- the numbers that the event file's field can have: the schema's where that is refused, and never 10 or 20
abbrev pub ExpectedNumber : ℕ → Type 0
ExpectedNumber n = SchemaNumber n ⊎ ((11 ≤ n) × (n ≤ 19))

module _ {schema events was is : List ℕ} {r : TypestockExpected} (m : ExpectedDocumentMeans schema events was is r) where
  by_job : {job : Result Expected Refusal} → m.job ≡ job → r ≡ expected_numbers job
  by_job q = m.numbers ∙ ap expected_numbers q

  schema_by : (f : Result Schema Refusal) → m.means.file ≡ f → schema_in r ≡ schema_numbers (verdict_of f)
  schema_by (Ok v) q = let (x, s, k) = m.means.accepted v q in ap schema_in (by_job s)
  schema_by (Err e) q = ap schema_in (by_job (m.means.refused e q))

  -- The first two numbers are those of `typestock_check_schema` on the same file and buffer.
  pub schema_told : SchemaMeans schema was is (schema_in r)
  schema_told = record { read = m.means.file; means = m.means.schema_file; numbers = schema_by m.means.file refl }

  -- Where the first is 9 the buffer has a witness.
  pub expected_nine : r.schema_number ≡ 9 → AnsweredNine schema is
  expected_nine z = schema_nine schema_told z

  zero_by : (job : Result Expected Refusal) → m.job ≡ job → r.schema_number ≡ 0 → ReadExpected schema events r
  zero_by (Ok x) q z =
      let meets = expected_meets (subst (ExpectedJobMeans schema events was is) q m.means) in
      let same = by_job q in
      let number = ap (λ (n : TypestockExpected). n.number) same in
      record {
        answer = x;
        numbers = same;
        meets = meets;
        range = subst (λ (n : ℕ). (n ≡ 0) ⊎ ((11 ≤ n) × (n ≤ 19))) (sym number) meets.number;
      }
  zero_by (Err e) q z =
      let number = ap (λ (n : TypestockExpected). n.schema_number) (by_job q) in
      absurd (omega (arith, number_some e.why))

  -- Where it is 0 the schema is accepted, and the rest is the event file's.
  pub zero_read : r.schema_number ≡ 0 → ReadExpected schema events r
  zero_read z = zero_by m.job refl z

  refused_by : (job : Result Expected Refusal) → m.job ≡ job → r.schema_number ≢ 0 → r ≡ twice r.schema_number r.schema_place
  refused_by (Ok x) q n = absurd (n (ap (λ (n : TypestockExpected). n.schema_number) (by_job q)))
  refused_by (Err e) q n =
      let same : r ≡ twice (question_number e.why) e.place = by_job q in
      let x = ap (λ (x : TypestockExpected). x.schema_number) same in
      let y = ap (λ (x : TypestockExpected). x.schema_place) same in
      same ∙ (λ i. twice (sym x i) (sym y i))

  -- Where it is not, the schema's number and place stand once more, and nothing else is told.
  pub not_zero_refused : r.schema_number ≢ 0 → RefusedExpected r
  not_zero_refused n =
      record {
        above = omega (arith, n);
        among = schema_range schema_told;
        nothing_else = refused_by m.job refl n;
      }

  counted_by : (job : Result Expected Refusal) → m.job ≡ job → CountedEntries (expected_numbers job)
  counted_by (Ok x) q =
      let t = job_tables (subst (ExpectedJobMeans schema events was is) q m.means) in
      record { types = t.types; tags = t.tags; nils = t.nils }
  counted_by (Err e) q =
      let t : Tables (laid_out e.place (nothing (verdict_of {A = Expected} (Err e)))) =
      laid_tables e.place (nothing (verdict_of {A = Expected} (Err e))) (omega arith) (omega arith) in
      record { types = t.types; tags = t.tags; nils = t.nils }

  -- So it is whatever the schema's answer is.
  pub counted_entries : CountedEntries r
  counted_entries = subst CountedEntries (sym m.numbers) (counted_by m.job refl)

  read_by : (n : ℕ) → r.schema_number ≡ n → ReadExpected schema events r ⊎ (RefusedExpected r × (r.number ≡ r.schema_number))
  read_by zero q = inl (zero_read q)
  read_by (suc n) q =
      let x = not_zero_refused (λ z. omega arith) in
      inr (x, ap (λ (x : TypestockExpected). x.number) x.nothing_else)

  -- The event file's number is 0 to 9, 11 to 19 or 21 to 24: never 10, and never 20.
  pub expected_range : ExpectedNumber r.number
  expected_range =
      ⊎_elim (λ x. ⊎_elim (λ z. inl (inl (omega arith))) (λ l. inr l) x.range)
      (λ x. inl (subst SchemaNumber (sym x.1) x.0.among))
      (read_by r.schema_number refl)

  -- 0 is said of no document but one that is taken whole.
  pub zero_whole : r.number ≡ 0 → WholeExpected schema events r
  zero_whole z =
      ⊎_elim
      (λ x.
      let number = ap (λ (y : TypestockExpected). y.number) x.numbers in
      let w = x.meets.whole (sym number ∙ z) in
      record {
        schema = x.meets.schema;
        stated = x.meets.stated;
        document = w.document;
        bytes = w.bytes;
        valid = w.valid;
        nothing_else = x.numbers ∙ ap (λ (e : Expected). expected_numbers (Ok e)) w.empty;
      })
      (λ (x, same). absurd (omega (arith, x.above)))
      (read_by r.schema_number refl)
