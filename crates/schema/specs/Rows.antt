-- Rows: the steps of a schema that count, a row of numbers for each state of each type.
use Rattle.std.specs.Prelude.{◌≡◌, ◌↔◌, ℕ, suc, ◌+◌, ◌*◌, ◌/◌, ◌%◌, ◌≤◌, ◌<◌, length, get_or}
use Rattle.std.specs.List.{slice_range}
use mathlib.Core.List.{List, Memᴰ}
use Rattle.sdtd.specs.Limits.{most_tags, most_types, most_states, most_steps}
use Rattle.sdtd.specs.Schema.{Step, Schema, block_of, tag_of}
use Rattle.sdtd.specs.Trim.{Bears, Live}
use Rattle.schema.specs.Ways.{most_ways, WaysFor}

-- the step s of the type a counts, in rows: it is by a tree-bearing type, into a live state
pub record Counts (S : Schema) (a : ℕ) (s : Step) : Type 0 where
  pub given : Memᴰ s (block_of S a).steps
  pub bears : Bears S s.by
  pub live : Live S a s.to

-- an entry has room for so many types
abbrev pub type_room : ℕ
type_room = 512

-- An entry is one number. From the lowest digit on: a step's state `from`, its state `to`, its type, that type's tag, and by which kinds of
-- opening the type bears a tree.
abbrev pub entry : ℕ → ℕ → ℕ → ℕ → ℕ → ℕ
entry from to by tag ways = from + most_states * (to + most_states * (by + type_room * (tag + most_tags * ways)))

abbrev pub from_in : ℕ → ℕ
from_in e = e % most_states

abbrev pub to_in : ℕ → ℕ
to_in e = e / most_states % most_states

-- of an entry that no step has, the remainder
abbrev pub by_in : ℕ → ℕ
by_in e = e / (most_states * most_states) % most_types

abbrev pub tag_in : ℕ → ℕ
tag_in e = e / (most_states * most_states * type_room) % most_tags

abbrev pub ways_in : ℕ → ℕ
ways_in e = e / (most_states * most_states * type_room * most_tags) % most_ways

-- the entry of a step of the schema, where its type bears a tree in these ways
abbrev pub entry_of : Schema → Step → ℕ → ℕ
entry_of S s ways = entry s.from s.to s.by (tag_of S s.by) ways

-- a row for each state of each type
abbrev pub most_rows : ℕ
most_rows = most_types * most_states

-- the row of the state p of the type a, among all rows
abbrev pub row_place : ℕ → ℕ → ℕ
row_place a p = most_states * a + p

-- the entry e stands in the row i, where `begins` says at which entry each row begins
pub record InRow (entries begins : List ℕ) (i e : ℕ) : Type 0 where
  pub place : ℕ
  pub least : get_or begins i 0 ≤ place
  pub most : place < get_or begins (suc i) 0
  pub is : get_or entries place 0 ≡ e

-- the entry e is that of a step of the type a that counts and leads from the state p
pub record EntryFor (S : Schema) (a p e : ℕ) : Type 0 where
  pub step : Step
  pub counts : Counts S a step
  pub from : step.from ≡ p
  pub ways : ℕ
  pub opened : WaysFor S step.by ways
  pub is : e ≡ entry_of S step ways

-- each row begins, and so ends, inside the table of entries
abbrev pub RowsInside : List ℕ → Type 0
RowsInside begins = (i : ℕ) → get_or begins i 0 ≤ most_steps

-- An entry stands in a row exactly for a step that counts. Each row lies inside the table; what stands in no row is 0, and so are the beginnings
-- past the rows of the last type. Where the rows stand, and in which order their entries, is free.
pub record RowsMean (S : Schema) (entries begins : List ℕ) : Type 0 where
  pub inside : RowsInside begins
  pub exact : (a p e : ℕ) → p < most_states → InRow entries begins (row_place a p) e ↔ EntryFor S a p e
  pub rest : (k : ℕ) → ((i : ℕ) → get_or begins i 0 ≤ k → ¬ (k < get_or begins (suc i) 0)) → get_or entries k 0 ≡ 0
  pub past : (i : ℕ) → most_states * length S.blocks < i → get_or begins i 0 ≡ 0

-- the row of the state p of the type a
abbrev pub row_of : List ℕ → List ℕ → ℕ → ℕ → List ℕ
row_of entries begins a p = slice_range entries (get_or begins (row_place a p) 0) (get_or begins (suc (row_place a p)) 0)
