-- The demands, and what could not be tested, as statements about the promises that the calls are proved to keep: `FileMeans` is the promise
-- of `schema_file::read`, `CallMeans` that of `Reading::open`, `open_nil`, `close` and `finish`, `EventsMean` that of `reading::read_events`,
-- `fresh` that of `Reading::fresh`, and `TrimMeans` that of `schema::trim`. What the words mean (valid, begins, ambiguous, competition,
-- trimmed) is in `crates/sdtd/specs/`. `proofs/DemandsMet.antt` proves them.
use Rattle.std.specs.Prelude.{◌≡◌, ◌↔◌, ℕ, ◌≤◌, length, take, Result, Ok}
use mathlib.Core.List.{List, Memᴰ}
use Rattle.sdtd.specs.Limits.{least_witness}
use Rattle.sdtd.specs.Schema.{Block}
use Rattle.sdtd.specs.Schema.{Schema as Meaning}
use Rattle.sdtd.specs.Tree.{Tree, IsTyping}
use Rattle.sdtd.specs.Document.{Event, Valid, SomeValid, openings, types_of, BeginningOf, Ambiguous}
use Rattle.sdtd.specs.Trim.{Trimmed}
use Rattle.sdtd.specs.Reduced.{EveryTypeUsed}
use Rattle.sdtd.specs.Answer.{refused, Verdict, refused_at, verdict_of}
use Rattle.sdtd.specs.declared.Refusal.{Refusal}
use Rattle.sdtd.specs.Calls.{Exchange, ListMeets, WholeMeets}
use Rattle.schema.specs.Value.{meaning}
use Rattle.schema.specs.Trimming.{TrimMeans, trimmed_by_tables}
use Rattle.schema.specs.declared.value.Schema.{Schema}
use Rattle.schema.specs.declared.tables.Trimming.{Trimming}
use Rattle.commands.specs.File.{commands, StatesSchema}
use Rattle.commands.specs.Written.{Written}
use Rattle.schema_file.specs.Answer.{AnswerIs, BufferBy, FileMeans, FirstUnusedAt, Demand3File}
use Rattle.reading.specs.Levels.{fresh}
use Rattle.reading.specs.Questions.{CallMeans, Next}
use Rattle.reading.specs.Calls.{Called}
use Rattle.events.specs.Events.{events_of}
use Rattle.reading.specs.Passage.{Passes}
use Rattle.reading.specs.EventFile.{by_calls, EventsTold, EventsMean}
use Rattle.reading.specs.EventMeaning.{EventFileMeets}
use Rattle.reading.specs.declared.value.Reading.{Reading}
use Rattle.reading.specs.declared.event_file.EventFile.{EventFile}

-- exactly one thing has the property
pub record One {A : Type 0} (P : A → Type 0) : Type 0 where
  pub it : A
  pub has : P it
  pub only : (other : A) → P other → other ≡ it

-- what the event file's call leaves: its answer, and the buffer
pub record AnswerAndBuffer : Type 0 where
  pub answer : EventFile
  pub buffer : List ℕ

-- Demand 1: "A schema file, an event or an event file may hold anything at all. Each gets one of [the] answers by its ordered
-- questions. A refused event leaves the reading unchanged; what each lent byte holds afterwards is stated there."
pub record Demand1 : Type 0 where
  -- a schema file has one answer, whatever its bytes and the buffer's are; what the buffer holds after that answer can be had, and what the
  -- call leaves there is that
  pub file : (file was : List ℕ) → One (AnswerIs file was)
  pub lent : (file was : List ℕ) (a : Verdict) → AnswerIs file was a → (is : List ℕ) × BufferBy (commands file) was is a
  pub left : (file was is : List ℕ) (r : Result Schema Refusal) → FileMeans file was is r → BufferBy (commands file) was is (verdict_of r)
  -- a call has one answer, with the whole reading beside it, whatever the schema value and the reading are
  pub call : (v : Schema) (r : Reading) (x : Event) → One (CallMeans (meaning v) r x)
  pub unchanged : (v : Schema) (r : Reading) (x : Event) (n : Next) (number : ℕ) → CallMeans (meaning v) r x n
      → n.answer ≡ refused number → n.reading ≡ r
  -- an event file has one passage, whatever the schema value and the bytes are: one verdict, one list of calls taken, and one reading where
  -- the walk stops; and so, whatever the buffer, its call has one answer, and each byte of the buffer after it is fixed
  pub events : (v : Schema) (file : List ℕ) → One (Passes (by_calls (meaning v)) fresh 0 (events_of file))
  pub events_lent : (v : Schema) (file was : List ℕ) → One (λ (a : AnswerAndBuffer). EventsMean (meaning v) file was a.buffer a.answer)

-- Demand 2: "Under an accepted schema, an event list is taken whole, through its finish, exactly when it is the tag stream of a valid tree,
-- by the published definition of specialised DTDs, nested at most 64 deep; the types given out are then that tree's typing."
abbrev pub Demand2 : Type 0
Demand2 =
    (file was is : List ℕ) (v : Schema) → FileMeans file was is (Ok v)
    → (xs : List Exchange) → Called (meaning v) fresh xs
    → WholeMeets (meaning v) xs

-- Demand 2 of event files: the answer tells a verdict and types that meet it. One is answered 0 exactly when its bytes are the encoding of
-- the document of a valid tree nested at most 64 deep and the buffer has a byte for each opening; the types written are then that tree's
-- typing.
abbrev pub Demand2File : Type 0
Demand2File =
    (file was is : List ℕ) (v : Schema) → FileMeans file was is (Ok v)
    → (events lent after : List ℕ) (r : EventFile) → EventsMean (meaning v) events lent after r
    → (a : Verdict) × (types : List ℕ) × EventsTold events lent after a types r × EventFileMeets (meaning v) (length lent) events a types

-- Demand 3 of a file and what its call gave.
pub record Demand3Of (file was : List ℕ) (r : Result Schema Refusal) : Type 0 where
  -- "Suppose a schema file passes [..] questions 1 to 7 and at least one document is valid under it. It is refused for competition
  -- exactly when two valid documents [..] agree in every event through some opening tag and differ in that element's type. Otherwise it is
  -- accepted". "[T]he two-document statement covers the first opening tag too". "The third demand supposes these three passed too": 21 to 23
  -- are among the questions that `StatesSchema` has passed. "[T]he third demand supposes a file without" a type that no valid document uses.
  pub refused_exactly : (S : Meaning) → least_witness ≤ length was → StatesSchema file S → SomeValid S → EveryTypeUsed S → Demand3File S (verdict_of r)
  -- "A file with a type that no valid document uses is refused from now on"; "after 8, such a file gets 24, place that of the first such TYPE"
  pub every_used : (v : Schema) → r ≡ Ok v → EveryTypeUsed (meaning v)
  pub unused_refused : least_witness ≤ length was → (p : ℕ) → (verdict_of r ≡ refused_at 24 p) ↔ FirstUnusedAt file p
  -- "The accepted schema is the one that the file states": each block is begun by a TYPE, and has the automaton of the expression after it if
  -- that has state count 0
  pub states : (v : Schema) → r ≡ Ok v → StatesSchema file (meaning v)
  pub written : (v : Schema) → r ≡ Ok v → (b : Block) → Memᴰ b (meaning v).blocks → Written file b
  -- "and then what follows holds for every list of opening, closing and finishing calls from a fresh reading, with any tags and refused
  -- calls included, where each call gets the reading as the last one left it." "A nil opening [..] stands in the third demand's lists as an
  -- opening call."
  pub calls : (v : Schema) → r ≡ Ok v → (xs : List Exchange) → Called (meaning v) fresh xs → ListMeets (meaning v) xs

abbrev pub Demand3 : Type 0
Demand3 = (file was is : List ℕ) (r : Result Schema Refusal) → FileMeans file was is r → Demand3Of file was r

-- "What could not be tested", of a file and what its call gave.
pub record NotTestableOf (file : List ℕ) (r : Result Schema Refusal) : Type 0 where
  -- "That no schema we accept has two readings"
  pub one_reading : (v : Schema) → r ≡ Ok v → ¬ Ambiguous (meaning v)
  -- "That a refused schema had to be refused": for competition
  pub had_to_be : verdict_of r ≡ refused_at 9 0 → (S : Meaning) × StatesSchema file S × Ambiguous S
  -- "That an element typed early keeps its type, however the supplier goes on": whatever follows the events e in valid documents, each
  -- opening of e has one type in all of them. Demand 3 says that this type is given out.
  pub keeps_type : (v : Schema) → r ≡ Ok v
      → (e d₁ d₂ : List Event) (v₁ : Valid (meaning v) d₁) (v₂ : Valid (meaning v) d₂) → BeginningOf e d₁ → BeginningOf e d₂
      → take (openings e) (types_of v₁) ≡ take (openings e) (types_of v₂)
  -- "That trimming unused types loses no document": a schema that a file states, accepted or not, can be trimmed, and the tables that
  -- `schema::trim` promises trim it; every trimmed schema, that of the tables included, has the same documents and typings
  pub trimmed : (S : Meaning) → StatesSchema file S → (S' : Meaning) × Trimmed S S'
  pub by_tables : (S : Meaning) → StatesSchema file S → (t : Trimming) → TrimMeans S t → Trimmed S (trimmed_by_tables t S)
  pub same_documents : (S S' : Meaning) → StatesSchema file S → Trimmed S S' → (d : List Event) → Valid S d ↔ Valid S' d
  pub same_typings : (S S' : Meaning) → StatesSchema file S → Trimmed S S'
      → (tree typed : Tree) → IsTyping S tree typed ↔ IsTyping S' tree typed

abbrev pub NotTestable : Type 0
NotTestable = (file was is : List ℕ) (r : Result Schema Refusal) → FileMeans file was is r → NotTestableOf file r
