-- The rows left, put after those made so far, make the whole; past the states that the type has each row ends where the rows so far do.
use mathlib.Core.Path.{◌≡◌}
use Prim.Native.Nat.{◌+◌, ◌*◌, ◌≤◌, min}
use lib.ListN.{get_or}
use Rattle.sdtd.specs.Limits.{most_states}
use Rattle.schema.specs.RowMaking.{row_tables, add_rows}
use Rattle.schema.proofs.RowTurns.{RowsLeft}
use Rattle.schema.proofs.rows.type_rows.Given as goal

abbrev pub invariant-loop-p : goal.invariant-loop-p
invariant-loop-p l =
    let whole = add_rows l.kept l.states (most_states * l.a) 0 most_states (row_tables l.fn.entries l.fn.begins) in
    RowsLeft l.kept l.states (most_states * l.a) l.p (row_tables l.entries l.begins) whole

abbrev pub invariant-loop-q : goal.invariant-loop-q
invariant-loop-q l =
    let whole = add_rows l.kept l.states (most_states * l.a) 0 most_states (row_tables l.fn.entries l.fn.begins) in
    (min l.states most_states ≤ l.q) × (get_or l.begins (most_states * l.a + l.q) 0 ≡ l.end)
    × RowsLeft l.kept l.states (most_states * l.a) l.q (row_tables l.entries l.begins) whole
