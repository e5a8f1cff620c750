-- The loop's invariant: the rows of the states that are left, over what came so far, give what all of them give.
use mathlib.Core.Path.{◌≡◌}
use mathlib.Core.List.{List}
use Prim.Native.Nat.{ℕ, ◌≤◌}
use Rattle.std.specs.List.{flat_map}
use Rattle.sdtd.specs.Limits.{most_types}
use Rattle.schema.specs.Rows.{row_of}
use Rattle.schema.specs.States.{members}
use Rattle.schema.specs.StatesLeft.{states_left}
use Rattle.schema.specs.declared.row.Rows.{Rows}
use Rattle.reading.specs.Coming.{none_yet, Move, joins, row_moves}
use Rattle.reading.specs.Sought.{kind_sought, tag_sought}
use Rattle.reading.specs.declared.sought.Sought.{Sought}
use Rattle.reading.proofs.coming.coming_rows.Given as goal

-- the moves at the state p
abbrev pub moves : Rows → ℕ → Sought → ℕ → List Move
moves rows a o p = row_moves (kind_sought o.n) (tag_sought o.n) (row_of rows.entries.now rows.begins.now a p)

abbrev pub invariant-loop-q : goal.invariant-loop-q
invariant-loop-q l =
    (l.least.of ≤ most_types)
    × (joins (flat_map (moves l.rows l.a.0 l.o) (states_left l.q-iterator)) l.least
    ≡ joins (flat_map (moves l.rows l.a.0 l.o) (members l.fn.states.0)) none_yet)
