-- What the tables of a trimming say: document 01, "Trimming".
use Rattle.std.specs.Prelude.{◌≡◌, Bool, false, ◌&&◌, ◌↔◌, ℕ, suc, ◌<◌, T, Option, MatchOption, get_or, replicate}
use mathlib.Core.List.{List, Memᴰ, map}
use Rattle.sdtd.specs.Limits.{most_types, most_steps}
use Rattle.sdtd.specs.Schema.{Schema, WithinLimits}
use Rattle.sdtd.specs.Trim.{Live, Reached, trimmed_by_tests}
use Rattle.sdtd.specs.Reduced.{TellsUsed}
use Rattle.schema.specs.Value.{up_from}
use Rattle.schema.specs.States.{member, no_states}
use Rattle.schema.specs.Ways.{bears_in, WaysFor}
use Rattle.schema.specs.Rows.{most_rows, RowsMean}
use Rattle.schema.specs.declared.tables.Trimming.{Trimming}
use Rattle.schema.specs.declared.tables.LiveStates.{LiveStates}

-- the table has exactly the live states
abbrev pub LiveExactly : Schema → List ℕ → Type 0
LiveExactly S table = (a q : ℕ) → T (member q (get_or table a 0)) ↔ Live S a q

-- the table tells exactly by which kinds of opening types bear a tree
abbrev pub WaysExactly : Schema → List ℕ → Type 0
WaysExactly S table = (j : ℕ) → WaysFor S j (get_or table j 0)

-- the table, which has an entry for each number below `most_types`, marks exactly the types of the list
abbrev pub MarksExactly : List ℕ → List Bool → Type 0
MarksExactly types table = (a : ℕ) → T (get_or table a false) ↔ ((a < most_types) × Memᴰ a types)

-- each table is exactly the definition
pub record Exact (S : Schema) (t : Trimming) : Type 0 where
  pub live : LiveExactly S t.live
  pub ways : WaysExactly S t.ways
  pub reached : (a : ℕ) → T (get_or t.reached a false) ↔ Reached S a

-- The schema trimmed by the tables: a type is kept that is in `reached` and bears a tree by `ways`, and of it each step by a type that bears one
-- between states in `live`.
abbrev pub trimmed_by_tables : Trimming → Schema → Schema
trimmed_by_tables t S =
    trimmed_by_tests
    (record {
      reached = λ a. get_or t.reached a false;
      bears = bears_in t.ways;
      live = λ a q. member q (get_or t.live a 0);
    })
    S

-- outside the limits: tables of nothing
abbrev pub nothing : Trimming
nothing =
    record {
      inside = false;
      live = replicate most_types no_states;
      ways = replicate most_types 0;
      reached = replicate most_types false;
    }

-- exactly the definitions inside the limits, and nothing outside them
pub record TrimMeans (S : Schema) (t : Trimming) : Type 0 where
  pub inside : T t.inside ↔ WithinLimits S
  pub exact : WithinLimits S → Exact S t
  pub outside : ¬ WithinLimits S → t ≡ nothing

-- the live states of a schema inside the limits and in which ways its types bear a tree, and nothing outside them
abbrev pub LiveMeans : Schema → Option LiveStates → Type 0
LiveMeans S r = MatchOption r (¬ WithinLimits S) (λ t. WithinLimits S × LiveExactly S t.live × WaysExactly S t.ways)

-- the tables lent have the rows of a schema inside the limits, and zeros outside them
pub record RowsLent (S : Schema) (entries begins : List ℕ) : Type 0 where
  pub rows : WithinLimits S → RowsMean S entries begins
  pub outside : ¬ WithinLimits S → (entries ≡ replicate most_steps 0) × (begins ≡ replicate (suc most_rows) 0)

-- of each type, whether the tables say that it is reached and bears a tree
abbrev pub used_in : Trimming → List Bool
used_in t = map (λ a. get_or t.reached a false && bears_in t.ways a) (up_from 0 most_types)

-- which types a valid document uses, of a schema inside the limits; none outside them
pub record UsedMeans (S : Schema) (used : List Bool) : Type 0 where
  pub exact : WithinLimits S → TellsUsed S (λ a. get_or used a false)
  pub outside : ¬ WithinLimits S → used ≡ replicate most_types false
