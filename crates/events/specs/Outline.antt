-- The openings of an event file in order, plain and nil ones, with their levels.
use Rattle.std.specs.Prelude.{◌≡◌, List, [], ◌∷◌, ◌++◌, ℕ, suc, ◌+◌, ◌-◌, ◌^◌, min, drop, Option, Some, None}
use Rattle.sdtd.specs.Document.{Event, opening, closing, finish}
use Rattle.sdtd.specs.Reading.{depth}
use Rattle.events.specs.Events.{Events, ends, stray, event, events_of, size_of}
use Rattle.sdtd.specs.declared.Tag.{Tag}
use Rattle.sdtd.specs.Numbered.{tag_no}
use Rattle.events.specs.declared.outline.Cursor.{Cursor}

-- One level more. A cursor's level stays at the largest number that it can hold; from a file's start on no level comes near it.
abbrev pub deeper : ℕ → ℕ
deeper level = min (level + 1) (2 ^ 64 - 1)

-- One level less; a closing where no element is open leaves none open.
abbrev pub shallower : ℕ → ℕ
shallower level = level - 1

-- The first opening among the events that begin at the place `at`, where `level` elements are open, and the cursor past it: closings and
-- finishes are passed over; there is none where the file ends or goes on with a byte that begins no event.
abbrev pub first_opening : ℕ → ℕ → Events → Option (Tag × Cursor)
first_opening level at ends = None
first_opening level at stray = None
first_opening level at (event (opening κ g) es) =
    Some (tag_no g, record { at = at + size_of (opening κ g); level = deeper level })
first_opening level at (event (closing g) es) = first_opening (shallower level) (at + size_of (closing g)) es
first_opening level at (event finish es) = first_opening level (at + size_of finish) es

-- the first opening from the cursor on
abbrev pub next_opening : List ℕ → Cursor → Option (Tag × Cursor)
next_opening file c = first_opening c.level c.at (events_of (drop c.at file))

-- "Each middle line has the opening's level, tag and type": the first two of them.
pub record Line : Type 0 where
  pub level : ℕ
  pub tag : ℕ

-- The level and tag of each opening among the events in order, where `level` elements are open before them: "The root is level 1."
abbrev pub outline : ℕ → Events → List Line
outline level ends = []
outline level stray = []
outline level (event (opening κ g) es) = record { level = suc level; tag = g } ∷ outline (suc level) es
outline level (event (closing g) es) = outline (shallower level) es
outline level (event finish es) = outline level es

-- The same by the events e before them: a line's level is the number of elements that are open once its own is.
abbrev pub by_depth : List Event → Events → List Line
by_depth e ends = []
by_depth e stray = []
by_depth e (event (opening κ g) es) =
    record { level = depth (e ++ (opening κ g ∷ [])); tag = g } ∷ by_depth (e ++ (opening κ g ∷ [])) es
by_depth e (event (closing g) es) = by_depth (e ++ (closing g ∷ [])) es
by_depth e (event finish es) = by_depth (e ++ (finish ∷ [])) es

-- The lines are those of the openings that are found one after another, each from the cursor past the one before, and there are no more.
abbrev pub OpeningsInTurn : List ℕ → Cursor → List Line → Type 0
OpeningsInTurn file c [] = next_opening file c ≡ None
OpeningsInTurn file c (l ∷ ls) =
    (next : Cursor) × (next_opening file c ≡ Some (tag_no l.tag, next)) × (next.level ≡ l.level) × OpeningsInTurn file next ls

-- a cursor at a file's start
abbrev pub start : Cursor
start = record { at = 0; level = 0 }
