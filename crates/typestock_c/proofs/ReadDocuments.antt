-- What a document's numbers tell: their range, and what 0 says of the bytes and of the types written.
use mathlib.Core.Path.{◌≡◌, sym, ap, subst, ◌∙◌}
use mathlib.Core.Logic.{◌⊎◌, ◌≢◌, ⊎_elim}
use mathlib.Core.List.{List, ◌++◌}
use Prim.Native.Nat.{ℕ, ◌*◌, ◌≤◌}
use native.Mathlib.Omega.{arith}
use lib.ListN.{length, drop}
use Rattle.std.specs.Prelude.{Ok}
use Rattle.sdtd.specs.Schema.{Schema as Meaning}
use Rattle.sdtd.specs.Document.{Event, openings, Valid, types_of}
use Rattle.sdtd.specs.Calls.{ValidWithin}
use Rattle.sdtd.proofs.Typed.{openings_types}
use Rattle.commands.specs.File.{StatesSchema}
use Rattle.events.specs.Events.{bytes_of}
use Rattle.reading.specs.EventFile.{number_of, place_of}
use Rattle.reading.specs.declared.event_file.EventFile.{EventFile}
use Rattle.typing.specs.Job.{JobMeans, JobMeets}
use Rattle.typing.proofs.Jobs.{job_meets, job_range, job_enough}
use Rattle.typestock_c.specs.Numbers.{document_numbers}
use Rattle.typestock_c.specs.Exports.{DocumentMeans}
use Rattle.typestock_c.specs.declared.TypestockDocument.{TypestockDocument}
use Rattle.typestock_c.proofs.ReadBack.{RefusedNumbers, read_or_not, zero_read, zero_taken}

-- The numbers of a job that read its events, and what they say.
pub record ReadNumbers (schema events was_types is_types : List ℕ) (r : TypestockDocument) : Type 0 where
  pub answer : EventFile
  pub numbers : r ≡ document_numbers (Ok answer)
  pub meets : JobMeets schema events was_types is_types answer
  -- 0, or 11 to 20
  pub range : (r.number ≡ 0) ⊎ ((11 ≤ r.number) × (r.number ≤ 20))
  -- not 20 where the types buffer has a byte for every two of the event file
  pub enough : length events ≤ 2 * length was_types → r.number ≢ 20

-- What a document's 0 says: the bytes are those of a valid document, nested at most 64 deep, of the schema that the file states, and the types
-- written are its typing's.
pub record TakenDocument (schema_file events was_types is_types : List ℕ) (r : TypestockDocument) : Type 0 where
  pub schema : Meaning
  pub stated : StatesSchema schema_file schema
  pub document : List Event
  pub bytes : events ≡ bytes_of document
  pub valid : ValidWithin schema document
  pub types : (w : Valid schema document) → is_types ≡ types_of w ++ drop (length (types_of w)) was_types
  pub count : r.count ≡ openings document
  pub place : r.place ≡ length events

taken : {schema events was_types is_types : List ℕ} {r : TypestockDocument} → ReadNumbers schema events was_types is_types r → r.number ≡ 0
    → TakenDocument schema events was_types is_types r
taken {events = events} {was_types} x z =
    let j = x.meets in
    let number : number_of j.verdict ≡ 0 =
    sym j.told.number ∙ sym (ap (λ (n : TypestockDocument). n.number) x.numbers) ∙ z in
    let all_fine = j.meets.zero_taken number in
    let (d, bytes, valid, room) = j.meets.taken_exactly.0 all_fine in
    let typed : (w : Valid j.schema d) → j.types ≡ types_of w = λ w. j.meets.types all_fine d bytes w in
    let v : Valid j.schema d = record { tree = valid.tree; is_document = valid.is_document; typing = valid.typing } in
    record {
      schema = j.schema;
      stated = j.stated;
      document = d;
      bytes = bytes;
      valid = valid;
      types = λ w. j.told.buffer ∙ ap (λ (ts : List ℕ). ts ++ drop (length ts) was_types) (typed w);
      count = ap (λ (n : TypestockDocument). n.count) x.numbers ∙ j.told.count ∙ ap length (typed v) ∙ sym (openings_types v);
      place = ap (λ (n : TypestockDocument). n.place) x.numbers ∙ j.told.place ∙ ap (place_of (length events)) all_fine;
    }

module _ {schema events was_witness is_witness was_types is_types : List ℕ} {r : TypestockDocument}
    (m : DocumentMeans schema events was_witness is_witness was_types is_types r) where
  read : (e : EventFile) → m.job ≡ Ok e → ReadNumbers schema events was_types is_types r
  read e q =
      let j = subst (JobMeans schema events was_witness is_witness was_types is_types) q m.means in
      let same : r ≡ document_numbers (Ok e) = m.numbers ∙ ap document_numbers q in
      let number : r.number ≡ e.number = ap (λ (x : TypestockDocument). x.number) same in
      record {
        answer = e;
        numbers = same;
        meets = job_meets j;
        range = subst (λ (n : ℕ). (n ≡ 0) ⊎ ((11 ≤ n) × (n ≤ 20))) (sym number) (job_range j);
        enough = λ h. subst (λ (n : ℕ). n ≢ 20) (sym number) (job_enough j h);
      }

  -- A document whose schema is answered 0 has an event file's answer.
  pub read_numbers : r.schema_number ≡ 0 → ReadNumbers schema events was_types is_types r
  read_numbers z = let (e, q) = zero_read m z in read e q

  -- One whose schema is not has the schema's numbers once more.
  pub refused_numbers : r.schema_number ≢ 0 → RefusedNumbers r
  refused_numbers n =
      ⊎_elim (λ (e, q). absurd (n (ap (λ (x : TypestockDocument). x.schema_number) (read e q).numbers))) (λ h. h) (read_or_not m)

  -- A byte of the types buffer for every two of the event file is always enough.
  pub never_no_room : length events ≤ 2 * length was_types → r.number ≢ 20
  never_no_room h =
      ⊎_elim (λ (e, q). (read e q).enough h)
      (λ k z.
      let n = k.same_number in
      ⊎_elim (λ l. absurd (omega arith)) (λ l. absurd (omega arith)) k.among)
      (read_or_not m)

  -- A document that is answered 0 is valid, and the types written are its typing's.
  pub zero_valid : r.number ≡ 0 → TakenDocument schema events was_types is_types r
  zero_valid z = let (e, q) = zero_taken m z in taken (read e q) z
