-- What the private makers of rows compute.
use Rattle.std.specs.Prelude.{Bool, cond, ◌&&◌, List, [], ◌∷◌, ℕ, zero, suc, ◌+◌, ◌%◌, eqb, ltb, length, get_or, set, replicate}
use Rattle.sdtd.specs.Limits.{most_types, most_steps}
use Rattle.sdtd.specs.Schema.{Step}
use Rattle.schema.specs.Putting.{put_all}
use Rattle.schema.specs.States.{member}
use Rattle.schema.specs.Ways.{most_ways, bears_in}
use Rattle.schema.specs.Rows.{entry, from_in, most_rows}

-- a step counts, by a table that tells in which ways types bear a tree and by the live states of the type that has it
unfoldable pub counts_by : List ℕ → ℕ → Step → Bool
counts_by ways own s = bears_in ways (s.by % most_types) && member s.to own

-- its entry, by a table of tags and one of ways
abbrev pub entry_by : List ℕ → List ℕ → Step → ℕ
entry_by tag ways s = entry s.from s.to s.by (get_or tag (s.by % most_types) 0) (get_or ways (s.by % most_types) 0 % most_ways)

-- the step's entry, if it counts
abbrev pub counted_step : List ℕ → List ℕ → ℕ → Step → List ℕ
counted_step tag ways own s = cond (counts_by ways own s) (entry_by tag ways s ∷ []) []

-- the entries of the steps that count, in the order of the steps
unfoldable pub counted : List ℕ → List ℕ → ℕ → List Step → List ℕ
counted tag ways own [] = []
counted tag ways own (s ∷ ss) = cond (counts_by ways own s) (entry_by tag ways s ∷ counted tag ways own ss) (counted tag ways own ss)

-- the entries that lead from the state p
unfoldable pub picked : ℕ → List ℕ → List ℕ
picked p [] = []
picked p (e ∷ es) = cond (eqb (from_in e) p) (e ∷ picked p es) (picked p es)

-- entries, and where each row of them begins
pub record RowTables : Type 0 where
  pub entries : List ℕ
  pub begins : List ℕ

abbrev pub row_tables : List ℕ → List ℕ → RowTables
row_tables entries begins = record { entries = entries; begins = begins }

-- tables of zeros
abbrev pub no_rows : RowTables
no_rows = row_tables (replicate most_steps 0) (replicate (suc most_rows) 0)

-- the row i, put where the rows before it end
unfoldable pub add_row : List ℕ → ℕ → RowTables → RowTables
add_row es i t =
    row_tables (put_all es (get_or t.begins i 0) t.entries) (set t.begins (suc i) (get_or t.begins i 0 + length es))

-- the row of the state p among the entries of a type; a type has no entry from a state of `states` or more
abbrev pub row_by : List ℕ → ℕ → ℕ → List ℕ
row_by es states p = cond (ltb p states) (picked p es) []

-- the rows of k states from the state p on, the first of them the row i
unfoldable pub add_rows : List ℕ → ℕ → ℕ → ℕ → ℕ → RowTables → RowTables
add_rows es states i p zero t = t
add_rows es states i p (suc k) t = add_rows es states (suc i) (suc p) k (add_row (row_by es states p) i t)
