-- The whole job of what would have been taken: a schema file, and under an accepted schema what would have been taken where the event file is refused.
use Rattle.std.specs.Prelude.{◌≡◌, ◌⊎◌, List, ℕ, ◌≤◌, length, Result, Ok, Err}
use Rattle.sdtd.specs.Schema.{Schema as Meaning}
use Rattle.sdtd.specs.Document.{Event}
use Rattle.sdtd.specs.Calls.{ValidWithin}
use Rattle.schema.specs.Value.{meaning}
use Rattle.sdtd.specs.Answer.{fine}
use Rattle.sdtd.specs.declared.Refusal.{Refusal}
use Rattle.commands.specs.File.{StatesSchema}
use Rattle.schema_file.specs.Answer.{FileMeans}
use Rattle.schema.specs.declared.value.Schema.{Schema}
use Rattle.events.specs.Events.{bytes_of}
use Rattle.expected.specs.Expected.{nothing, laid_out, ExpectedMeans}
use Rattle.expected.specs.Meaning.{ExpectedMeets}
use Rattle.expected.specs.declared.Expected.{Expected}

-- What the job's call answers, and what the witness buffer holds after it, by the schema file's own answer. Under a refused schema no event is read,
-- and the answer is its refusal. Under an accepted one it is the event file's.
pub record ExpectedJobMeans (schema_bytes events was is : List ℕ) (r : Result Expected Refusal) : Type 0 where
  pub file : Result Schema Refusal
  pub schema_file : FileMeans schema_bytes was is file
  pub refused : (e : Refusal) → file ≡ Err e → r ≡ Err e
  pub accepted : (v : Schema) → file ≡ Ok v → (x : Expected) × (r ≡ Ok x) × ExpectedMeans (meaning v) events x

-- What 0 says of the event file: its bytes are those of a valid document, nested at most 64 deep, and nothing is open or listed.
pub record WholeFile (S : Meaning) (events : List ℕ) (e : Expected) : Type 0 where
  pub document : List Event
  pub bytes : events ≡ bytes_of document
  pub valid : ValidWithin S document
  pub empty : e ≡ laid_out (length events) (nothing fine)

-- What a job under an accepted schema says of documents: the file states a schema, by whose valid documents the answer is; its number is 0, of such
-- documents alone, or 11 to 19.
pub record ExpectedJobMeets (schema_bytes events : List ℕ) (e : Expected) : Type 0 where
  pub schema : Meaning
  pub stated : StatesSchema schema_bytes schema
  pub meets : ExpectedMeets schema events e
  pub number : (e.number ≡ 0) ⊎ ((11 ≤ e.number) × (e.number ≤ 19))
  pub whole : e.number ≡ 0 → WholeFile schema events e
