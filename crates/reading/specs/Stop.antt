-- Where a walk over an event file stops, and what would have been taken there: document 02, Req 07.
use Rattle.std.specs.Prelude.{◌≡◌, ◌↔◌, Bool, false, List, ℕ, T, length, get_or}
use Rattle.sdtd.specs.Limits.{most_tags}
use Rattle.sdtd.specs.Schema.{Schema}
use Rattle.sdtd.specs.Tree.{plain, nil}
use Rattle.sdtd.specs.Document.{Event, opening, closing, finish}
use Rattle.sdtd.specs.Calls.{IsTaken}
use Rattle.events.specs.Events.{events_of}
use Rattle.reading.specs.declared.value.Reading.{Reading}
use Rattle.reading.specs.declared.stop.Stop.{Stop}
use Rattle.reading.specs.Levels.{fresh}
use Rattle.reading.specs.Questions.{CallMeans, Next}
use Rattle.reading.specs.Passage.{Passage, Passes}
use Rattle.reading.specs.EventFile.{by_calls, number_of, place_of}

-- The call x on the reading r would be taken, "as the reading decides".
abbrev pub WouldTake : Schema → Reading → Event → Type 0
WouldTake S r x = (n : Next) × CallMeans S r x n × IsTaken (n.answer)

-- an entry for each tag says whether it has the property, and no other number has it
pub record TellsTags (P : ℕ → Type 0) (flags : List Bool) : Type 0 where
  pub entries : length flags ≡ most_tags
  pub exactly : (g : ℕ) → T (get_or flags g false) ↔ P g

-- What is told of the walk that comes to the passage p: its number and place, the reading where it stopped, and which calls would have been
-- taken on that reading, an opening of each tag plainly and as nil, a closing of some tag, a finish.
pub record StopTold (S : Schema) (file : List ℕ) (p : Passage Reading) (r : Stop) : Type 0 where
  pub number : r.number ≡ number_of p.verdict
  pub place : r.place ≡ place_of (length file) p.verdict
  pub reading : r.reading ≡ p.last
  pub opens : TellsTags (λ g. WouldTake S p.last (opening plain g)) r.opens
  pub opens_nil : TellsTags (λ g. WouldTake S p.last (opening nil g)) r.opens_nil
  pub closes : T r.closes ↔ ((g : ℕ) × WouldTake S p.last (closing g))
  pub finishes : T r.finishes ↔ WouldTake S p.last finish

-- "the file is walked with no types' buffer, so without 20": the bare passage is told.
pub record StopMeans (S : Schema) (file : List ℕ) (r : Stop) : Type 0 where
  pub passage : Passage Reading
  pub passes : Passes (by_calls S) fresh 0 (events_of file) passage
  pub told : StopTold S file passage r
