-- What a reading keeps: "for each of 64 levels, the element's type and a set of live states".
use Rattle.std.specs.Prelude.{false, ℕ, pred, ◌<◌, ◌≤◌, T, length, get_or, replicate}
use Rattle.sdtd.specs.Limits.{most_levels}
use Rattle.sdtd.specs.Schema.{Schema, block_of, WithinLimits}
use Rattle.schema.specs.States.{member, no_states}
use Rattle.reading.specs.declared.value.Reading.{Reading}

-- "A fresh reading has taken no event."
abbrev pub fresh : Reading
fresh = record { depth = 0; rooted = false; finished = false; types = replicate most_levels 0; sets = replicate most_levels no_states }

-- the innermost open level's element and its states; they are asked for only where a level is open
abbrev pub inner_type : Reading → ℕ
inner_type r = get_or r.types (pred r.depth) 0

abbrev pub inner_set : Reading → ℕ
inner_set r = get_or r.sets (pred r.depth) no_states

-- a level's type and each state of its set are below their counts
pub record LevelWithin (S : Schema) (a set : ℕ) : Type 0 where
  pub type : a < length S.blocks
  pub states : (q : ℕ) → T (member q set) → q < (block_of S a).states

-- The reading's part of "are the counts in the schema and the reading handed over inside this paper's limits, and is each tag, type and
-- state in their used entries and open levels below its count?"
pub record LevelsWithin (S : Schema) (r : Reading) : Type 0 where
  pub depth : r.depth ≤ most_levels
  pub levels : (n : ℕ) → n < r.depth → LevelWithin S (get_or r.types n 0) (get_or r.sets n no_states)

-- question 10, whole
pub record Within (S : Schema) (r : Reading) : Type 0 where
  pub schema : WithinLimits S
  pub reading : LevelsWithin S r
