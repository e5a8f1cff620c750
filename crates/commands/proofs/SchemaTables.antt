-- The tables that STEPs, FINALs and TYPEs fill, as one value.
use mathlib.Core.List.{List}
use Prim.Native.Nat.{ℕ}
use Rattle.schema.specs.declared.value.Schema.{Schema}

-- The tables: of each type its tag, state count, accepting states and number of steps; of each step its parts.
pub record SchemaTables : Type 0 where
  pub tag : List ℕ
  pub states : List ℕ
  pub accepting : List ℕ
  pub counts : List ℕ
  pub from : List ℕ
  pub by : List ℕ
  pub to : List ℕ

-- those of a schema
abbrev pub tables_of : Schema → SchemaTables
tables_of v =
    record { tag = v.tag; states = v.states; accepting = v.accepting; counts = v.steps; from = v.from; by = v.by; to = v.to }
