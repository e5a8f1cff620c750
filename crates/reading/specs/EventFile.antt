-- Event files: document 01's section of that name.
use Rattle.std.specs.Prelude.{◌≡◌, true, List, [], ◌∷◌, ◌++◌, map, ℕ, zero, suc, length, get_or, take, drop}
use Rattle.sdtd.specs.Schema.{Schema}
use Rattle.sdtd.specs.Answer.{Answer, refused, typed, taken, Verdict, fine, refused_at}
use Rattle.reading.specs.declared.value.Reading.{Reading}
use Rattle.reading.specs.declared.event_file.EventFile.{EventFile}
use Rattle.events.specs.Events.{events_of}
use Rattle.reading.specs.Levels.{fresh}
use Rattle.reading.specs.Questions.{gives, CallMeans}
use Rattle.reading.specs.Passage.{TakenCall, Passage, Answerer, Passes}

-- "gives one event after another to a fresh reading": each event is answered as its call on the reading kept, and what the call hands back
-- is kept.
abbrev pub by_calls : Schema → Answerer Reading
by_calls S = record { Answers = λ r x a after. CallMeans S r x (gives a after); Finished = λ r. r.finished ≡ true }

-- a type given to an opening: the place of the opening, and the type
pub record GivenType : Type 0 where
  pub place : ℕ
  pub type : ℕ

-- the type that the answer to the event at the place `at` gives, if any
abbrev pub type_given : ℕ → Answer → List GivenType
type_given at (refused n) = []
type_given at (typed j) = record { place = at; type = j } ∷ []
type_given at taken = []

-- the types that the calls give, in order: "Opening (tag) answers the type"
abbrev pub types_given : List TakenCall → List GivenType
types_given [] = []
types_given (c ∷ cs) = type_given c.place c.exchange.answer ++ types_given cs

-- "for an opening, last: is a byte of the buffer left? No: 20." The verdict v on a file whose openings are given the types, with `room` bytes
-- of the buffer left: 20 at the first opening that has no byte, which stops the walk there.
abbrev pub with_room : ℕ → List GivenType → Verdict → Verdict
with_room room [] v = v
with_room zero (t ∷ ts) v = refused_at 20 t.place
with_room (suc room) (t ∷ ts) v = with_room room ts v

-- the verdict of a passage with a buffer of `room` bytes
abbrev pub verdict_with : {A : Type 0} → ℕ → Passage A → Verdict
verdict_with room p = with_room room (types_given p.calls) p.verdict

-- the types of the openings taken, which have a byte each
abbrev pub types_with : {A : Type 0} → ℕ → Passage A → List ℕ
types_with room p = take room (map (λ (t : GivenType). t.type) (types_given p.calls))

-- "a number (0 for taken)"
abbrev pub number_of : Verdict → ℕ
number_of fine = 0
number_of (refused_at n p) = n

-- "a place (of the refused event; the file's length for 0)"
abbrev pub place_of : ℕ → Verdict → ℕ
place_of end fine = end
place_of end (refused_at n p) = p

-- the bytes of the types in the buffer: a type's is its number
abbrev pub type_bytes : List ℕ → List ℕ
type_bytes ts = ts

-- the types that stand in the buffer, read back, and the one at a place
abbrev pub stored_types : List ℕ → List ℕ
stored_types buffer = buffer

abbrev pub stored_type : List ℕ → ℕ → ℕ
stored_type buffer i = get_or (stored_types buffer) i 0

-- What the answer says, by the verdict and the types of the openings taken: "a number (0 for taken), a place (of the refused event; the
-- file's length for 0) and the count of openings taken. Types go to a lent buffer, a byte for each opening taken; the rest is unchanged."
pub record EventsTold (file was is : List ℕ) (v : Verdict) (ts : List ℕ) (r : EventFile) : Type 0 where
  pub number : r.number ≡ number_of v
  pub place : r.place ≡ place_of (length file) v
  pub count : r.count ≡ length ts
  pub buffer : is ≡ type_bytes ts ++ drop (length (type_bytes ts)) was

-- What the event file's call answers: the walk from a fresh reading, with the buffer laid on it.
pub record EventsMean (S : Schema) (file was is : List ℕ) (r : EventFile) : Type 0 where
  pub passage : Passage Reading
  pub passes : Passes (by_calls S) fresh 0 (events_of file) passage
  pub told : EventsTold file was is (verdict_with (length was) passage) (types_with (length was) passage) r
