-- Bytes of an event file as events: document 01, "The event file", with the event 23 of document 02, Req 05.
use Rattle.std.specs.Prelude.{◌≡◌, cond, List, [], ◌∷◌, ℕ, ◌+◌, ◌-◌, eqb, length, get_or, drop, Option, Some, None}
use Rattle.std.specs.Iterator.{Count, at_most, YieldsFirst}
use Rattle.sdtd.specs.Tree.{Kind, plain, nil}
use Rattle.sdtd.specs.Document.{Event, opening, closing, finish}
use Rattle.sdtd.specs.declared.Tag.{Tag}
use Rattle.sdtd.specs.Numbered.{tag_no}
use Rattle.events.specs.declared.decoder.Kind.{Kind as FileKind}
use Rattle.events.specs.declared.decoder.Kind.TheVariants.{Plain, Nil}
use Rattle.events.specs.declared.decoder.Event.{Event as FileEvent}
use Rattle.events.specs.declared.decoder.Event.TheVariants.{Open, Close, Finish}
use Rattle.events.specs.declared.walker.Walker.{Walker}

-- The events that the bytes begin with, and what follows them: no byte (`ends`), or bytes that are none of the four with its operand inside
-- the file (`stray`).
pub data Events : Type 0 where
  ends : Events
  stray : Events
  event : Event → Events → Events

-- "21 OPEN (tag), 22 CLOSE (tag), 2F FINISH."; "Event 23 (tag) opens an element as nil".
abbrev pub events_of : List ℕ → Events
events_of [] = ends
events_of (b ∷ []) = cond (eqb b 0x2f) (event finish ends) stray
events_of (b ∷ (g ∷ rest)) =
    cond (eqb b 0x21) (event (opening plain g) (events_of rest))
    (cond (eqb b 0x22) (event (closing g) (events_of rest))
    (cond (eqb b 0x23) (event (opening nil g) (events_of rest))
    (cond (eqb b 0x2f) (event finish (events_of (g ∷ rest))) stray)))

-- The bytes of a list of events: "21 OPEN (tag), 22 CLOSE (tag), 2F FINISH."; "Event 23 (tag) opens an element as nil".
abbrev pub bytes_of : List Event → List ℕ
bytes_of [] = []
bytes_of (opening plain g ∷ d) = 0x21 ∷ g ∷ bytes_of d
bytes_of (opening nil g ∷ d) = 0x23 ∷ g ∷ bytes_of d
bytes_of (closing g ∷ d) = 0x22 ∷ g ∷ bytes_of d
bytes_of (finish ∷ d) = 0x2f ∷ bytes_of d

-- the documents' kind and event for each case of the code's
abbrev pub kind_of : FileKind → Kind
kind_of Plain = plain
kind_of Nil = nil

abbrev pub event_of : FileEvent → Event
event_of (Open κ g) = opening (kind_of κ) g.0
event_of (Close g) = closing g.0
event_of Finish = finish

-- and back
abbrev pub file_event : Event → FileEvent
file_event (opening plain g) = Open Plain (tag_no g)
file_event (opening nil g) = Open Nil (tag_no g)
file_event (closing g) = Close (tag_no g)
file_event finish = Finish

-- the byte past the place i as a tag: an event with a tag has it there
abbrev pub operand : List ℕ → ℕ → Tag
operand file i = tag_no (get_or file (i + 1) 0)

-- how many bytes an event has
abbrev pub size_of : Event → ℕ
size_of (opening κ g) = 2
size_of (closing g) = 2
size_of finish = 1

abbrev pub size : FileEvent → ℕ
size e = size_of (event_of e)

-- the events up to the end, or to the first bytes that are none of the four; and the first of them
abbrev pub file_events : Events → List FileEvent
file_events ends = []
file_events stray = []
file_events (event x es) = file_event x ∷ file_events es

abbrev pub first_event : Events → Option FileEvent
first_event ends = None
first_event stray = None
first_event (event x es) = Some (file_event x)

-- "is it one of the three with its operand inside the file?", with 23 one of four: the event at the place i; none where the file ends, where
-- the byte begins none of the four, or where its operand runs past the end.
abbrev pub event_at : List ℕ → ℕ → Option FileEvent
event_at file i = first_event (events_of (drop i file))

-- "gives one event after another": where a walker stands after the event at the place i; where there is none, it stays
abbrev pub size_here : Option FileEvent → ℕ
size_here None = 0
size_here (Some e) = size e

abbrev pub place_after : List ℕ → ℕ → ℕ
place_after file i = i + size_here (event_at file i)

-- the events from the walker's place on, of which there are no more than bytes
abbrev pub events_left : Walker → List FileEvent
events_left w = file_events (events_of (drop w.at w.events.now))

abbrev pub bytes_left : Walker → Count
bytes_left w = at_most (length w.events.now - w.at)

-- A walker gives the event at its place, the first of those left, and then stands past it, over the same bytes.
pub record Steps (w : Walker) (r : Option FileEvent) (v : Walker) : Type 0 where
  pub yields : YieldsFirst events_left w r v
  pub events : v.events ≡ w.events
  pub event : r ≡ event_at w.events.now w.at
  pub place : v.at ≡ place_after w.events.now w.at
