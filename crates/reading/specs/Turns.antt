-- What the private turns of a walk over an event file compute.
use Rattle.std.specs.Prelude.{◌≡◌, Bool, true, false, cond, ◌&&◌, List, ℕ, ◌^◌, ◌<◌, leb, length, get_or, Option, Some, None, MatchOption, Result, Ok, Err}
use Rattle.sdtd.specs.Limits.{most_states}
use Rattle.sdtd.specs.Schema.{WithinLimits}
use Rattle.sdtd.specs.Answer.{Answer, refused, typed, taken, question_number}
use Rattle.sdtd.specs.declared.Refused.{Refused}
use Rattle.sdtd.specs.declared.TypeNo.{TypeNo}
use Rattle.schema.specs.Value.{meaning, SetsFit}
use Rattle.schema.specs.Trimming.{LiveExactly, WaysExactly}
use Rattle.schema.specs.declared.value.Schema.{Schema}
use Rattle.events.specs.declared.decoder.Event.{Event as FileEvent}
use Rattle.events.specs.declared.decoder.Event.TheVariants.{Open, Close, Finish}
use Rattle.events.specs.Events.{kind_of, events_of}
use Rattle.reading.specs.declared.value.Reading.{Reading}
use Rattle.reading.specs.declared.event_file.Trimmed.{Trimmed}
use Rattle.reading.specs.declared.event_file.WalkEnd.{WalkEnd}
use Rattle.reading.specs.declared.tables.Tables.{Tables}
use Rattle.reading.specs.Levels.{fresh, Within}
use Rattle.reading.specs.Questions.{Next}
use Rattle.reading.specs.Passage.{Passage, Passes}
use Rattle.reading.specs.EventFile.{by_calls, number_of, place_of, EventsMean}
use Rattle.reading.specs.Heads.{HeadsMean}
use Rattle.reading.specs.Steps.{open_by_rows, close_step_in, finish_step}

-- document 01's answer to an event of any kind, for the code's
abbrev pub answer_of : Result (Option TypeNo) Refused → Answer
answer_of (Ok (Some j)) = typed j.0
answer_of (Ok None) = taken
answer_of (Err why) = refused (question_number why)

-- one event on the reading r, by the tables of the schema
unfoldable pub answer_by : Tables → Reading → FileEvent → Next
answer_by t r (Open κ g) = open_by_rows t r (kind_of κ) g.0
answer_by t r (Close g) = close_step_in t.heads.now t.tags r g.0
answer_by t r Finish = finish_step r

-- what a walk comes to at the place `at` where no event stands: the file is taken whole if it ends there and is finished
abbrev pub end_number : Bool → ℕ → ℕ → ℕ
end_number finished end at = cond (finished && leb end at) 0 19

-- an event file under a schema outside the limits: 19 where the first bytes are no event, else 10
abbrev pub outside_number : Option FileEvent → ℕ
outside_number (Some e) = 10
outside_number None = 19

-- the tables of a schema inside the limits, and a reading inside them; sets are sets of states
pub record EndTables (v : Schema) (r : Reading) (t : Trimmed) : Type 0 where
  pub within : Within (meaning v) r
  pub below : (n : ℕ) → get_or r.sets n 0 < 2 ^ most_states
  pub sets : SetsFit v
  pub live : LiveExactly (meaning v) t.found.live
  pub ways : WaysExactly (meaning v) t.found.ways
  pub heads : HeadsMean v t.heads

-- What is known where a walk with no buffer has ended: the passage of the file has its number, place and reading.
pub record Ended (v : Schema) (file : List ℕ) (r : WalkEnd) : Type 0 where
  pub passage : Passage Reading
  pub passes : Passes (by_calls (meaning v)) fresh 0 (events_of file) passage
  pub number : r.told.number ≡ number_of passage.verdict
  pub place : r.told.place ≡ place_of (length file) passage.verdict
  pub reading : r.reading ≡ passage.last
  pub trimmed : MatchOption r.trimmed (¬ WithinLimits (meaning v)) (EndTables v r.reading)

-- a walk over an event file: where the buffer bounds it, the event file's answer
pub record Walks (v : Schema) (file was is : List ℕ) (bounded : Bool) (r : WalkEnd) : Type 0 where
  pub answers : bounded ≡ true → EventsMean (meaning v) file was is r.told
  pub ended : bounded ≡ false → Ended v file r
