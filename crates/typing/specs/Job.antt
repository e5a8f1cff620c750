-- The whole job: a schema file, and under an accepted schema an event file.
use Rattle.std.specs.Prelude.{◌≡◌, List, [], map, ℕ, length, take, Result, Ok, Err}
use Rattle.sdtd.specs.Schema.{Schema as Meaning, tag_of}
use Rattle.schema.specs.Value.{meaning}
use Rattle.commands.specs.File.{StatesSchema}
use Rattle.schema_file.specs.Answer.{FileMeans}
use Rattle.sdtd.specs.Answer.{Verdict}
use Rattle.sdtd.specs.declared.Refusal.{Refusal}
use Rattle.schema.specs.declared.value.Schema.{Schema}
use Rattle.events.specs.Events.{events_of}
use Rattle.reading.specs.EventFile.{EventsTold, EventsMean}
use Rattle.reading.specs.EventMeaning.{EventFileMeets}
use Rattle.reading.specs.declared.event_file.EventFile.{EventFile}
use Rattle.events.specs.Outline.{Line, outline, by_depth}

-- What the job's call answers, and what each buffer holds after it, by the answer to the schema file: `schema_file` says what the witness
-- buffer holds.
pub record JobMeans (schema_bytes events was_witness is_witness was_types is_types : List ℕ) (r : Result EventFile Refusal) : Type 0 where
  pub file : Result Schema Refusal
  pub schema_file : FileMeans schema_bytes was_witness is_witness file
  -- "A refused schema prints only `schema refused N at P`": no event is read, and no type is given out
  pub refused : (e : Refusal) → file ≡ Err e → (r ≡ Err e) × (is_types ≡ was_types)
  -- under an accepted schema the event file's answer: "number (0 for taken), a place (of the refused event; the file's length for 0) and the
  -- count of openings taken"
  pub accepted : (v : Schema) → file ≡ Ok v → (e : EventFile) × (r ≡ Ok e) × EventsMean (meaning v) events was_types is_types e

-- What a job that read its events says of documents: the file states a schema, under which the events' verdict and types, which the answer
-- and the types' buffer tell, meet demands 2 and 3.
pub record JobMeets (schema_bytes events was_types is_types : List ℕ) (e : EventFile) : Type 0 where
  pub schema : Meaning
  pub stated : StatesSchema schema_bytes schema
  pub verdict : Verdict
  pub types : List ℕ
  pub told : EventsTold events was_types is_types verdict types e
  pub meets : EventFileMeets schema (length was_types) events verdict types
  -- "Each middle line has the opening's level, tag and type": the first lines of the outline, one for each type, have the types' tags
  pub lines : map (λ (l : Line). l.tag) (take (length types) (outline 0 (events_of events))) ≡ map (tag_of schema) types
  -- and a line's level is the number of elements that are open once its own is
  pub levels : outline 0 (events_of events) ≡ by_depth [] (events_of events)
