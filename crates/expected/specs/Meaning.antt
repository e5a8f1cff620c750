-- What the answer says under an accepted schema, by valid documents: demand 3's words for the calls that would have been taken.
use Rattle.std.specs.Prelude.{◌≡◌, ◌↔◌, ℕ, ◌≤◌, T, length}
use mathlib.Core.List.{List, [], ◌∷◌, ◌++◌, map, reverse, Memᴰ}
use Rattle.sdtd.specs.Limits.{most_levels}
use Rattle.sdtd.specs.Lists.{Rising}
use Rattle.sdtd.specs.Schema.{Schema}
use Rattle.sdtd.specs.Tree.{Kind}
use Rattle.sdtd.specs.Document.{Event, opening, closing, finish, Valid, type_at, BeginningOf, Begins}
use Rattle.sdtd.specs.Reading.{OpenElement, open_elements}
use Rattle.sdtd.specs.Calls.{deepest}
use Rattle.events.specs.Events.{events_of}
use Rattle.reading.specs.Passage.{Passage, Passes}
use Rattle.reading.specs.EventMeaning.{by_documents}
use Rattle.expected.specs.declared.Expected.{Expected}
use Rattle.expected.specs.Expected.{Before, Answered, laid_out}

-- "the events taken before it, with this one, begin a valid document of any depth and do not open a 65th level"
pub record BeginsWithin (S : Schema) (e : List Event) (x : Event) : Type 0 where
  pub begins : Begins S (e ++ (x ∷ []))
  pub nested : deepest (e ++ (x ∷ [])) ≤ most_levels

-- the types that a document's typing gives the elements that are open after the events e, from the root down
abbrev pub open_types_in : {S : Schema} {d : List Event} → List Event → Valid S d → List ℕ
open_types_in e v = map (λ (x : OpenElement). type_at v x.place) (reverse (open_elements e))

-- What holds of the answer to an event file under an accepted schema. The events taken are those of the passage in which each event is judged by
-- demand 3's questions.
pub record ExpectedMeets (S : Schema) (file : List ℕ) (r : Expected) : Type 0 where
  pub passage : Passage (List Event)
  pub judged : Passes (by_documents S) [] 0 (events_of file) passage
  pub begins : Begins S passage.last
  pub answered : Answered
  pub laid_out : r ≡ laid_out (length file) answered
  pub verdict : answered.verdict ≡ passage.verdict
  -- "each tag with each kind of opening that would have been taken at that point, rising by tag, plain before nil"
  pub listed : (κ : Kind) (g : ℕ) → Memᴰ (record { kind = κ; tag = g }) answered.openings ↔ BeginsWithin S passage.last (opening κ g)
  pub rising : Rising Before answered.openings
  -- "whether a closing or a finish would have been": "A finish is taken exactly when they are a whole one."
  pub closes : T answered.closes ↔ ((g : ℕ) × BeginsWithin S passage.last (closing g))
  pub finishes : T answered.finishes ↔ Valid S (passage.last ++ (finish ∷ []))
  -- "the types of the open elements from the root down": those that every typing of every valid document with that beginning gives them
  pub types : (d : List Event) (v : Valid S d) → BeginningOf passage.last d → answered.types ≡ open_types_in passage.last v
