-- What the answer to an event file says under an accepted schema: document 01's section "The event file", with demand 3's questions about
-- valid documents as the reading's questions, and demand 2 of the whole file.
use Rattle.std.specs.Prelude.{◌≡◌, ◌↔◌, ℕ, ◌≤◌}
use mathlib.Core.List.{List, [], ◌++◌, Memᴰ}
use Rattle.sdtd.specs.Schema.{Schema}
use Rattle.sdtd.specs.Document.{Event, finish, openings, Valid, types_of}
use Rattle.sdtd.specs.Answer.{Verdict, fine}
use Rattle.sdtd.specs.Reading.{Right}
use Rattle.sdtd.specs.Calls.{if_taken, ValidWithin}
use Rattle.events.specs.Events.{events_of, bytes_of}
use Rattle.reading.specs.Passage.{Passage, Answerer, Passes}
use Rattle.reading.specs.EventFile.{verdict_with, types_with, number_of}

-- The same walk, with the events taken kept in the reading's place: each event gets the answer that is right "for the events taken before it
-- and its own".
abbrev pub by_documents : Schema → Answerer (List Event)
by_documents S =
    record { Answers = λ e x a after. Right S e x a × (after ≡ e ++ if_taken a x); Finished = λ e. Memᴰ finish e }

-- What holds of the verdict on an event file and of the types given out, with a buffer of `room` bytes.
pub record EventFileMeets (S : Schema) (room : ℕ) (file : List ℕ) (v : Verdict) (ts : List ℕ) : Type 0 where
  -- number and place are those of the first event, or of the file's end, of whose ordered questions one is answered no
  pub passage : Passage (List Event)
  pub judged : Passes (by_documents S) [] 0 (events_of file) passage
  pub verdict : v ≡ verdict_with room passage
  pub given : ts ≡ types_with room passage
  -- "0 for taken": no refusal has the number 0
  pub zero_taken : number_of v ≡ 0 → v ≡ fine
  -- Demand 2: the events are "taken whole, through [their] finish, exactly when [they are] the tag stream of a valid tree [..] nested at
  -- most 64 deep", the file has no other byte, and the buffer has "a byte for each opening"
  pub taken_exactly : (v ≡ fine) ↔ ((d : List Event) × (file ≡ bytes_of d) × ValidWithin S d × (openings d ≤ room))
  -- "the types given out are then that tree's typing"
  pub types : v ≡ fine → (d : List Event) → file ≡ bytes_of d → (w : Valid S d) → ts ≡ types_of w
