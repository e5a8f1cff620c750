-- The rows of the types below `a` are laid, and reach no further than their steps.
use mathlib.Core.Path.{◌≡◌}
use Prim.Native.Nat.{◌*◌}
use lib.ListN.{length}
use Rattle.sdtd.specs.Limits.{most_states, most_steps}
use Rattle.schema.specs.Value.{offset}
use Rattle.schema.specs.RowMaking.{row_tables}
use Rattle.schema.proofs.RowsLaid.{RowsAdded}
use Rattle.schema.proofs.RowsExact.{row_at}
use Rattle.schema.proofs.rows.make_rows.Given as goal

abbrev pub invariant-loop-a : goal.invariant-loop-a
invariant-loop-a l =
    (l.start ≡ offset l.schema.steps l.a) × (length l.kept ≡ most_steps)
    × RowsAdded (row_at l.schema l.found.ways l.found.live) (most_states * l.a) l.start (row_tables l.entries l.begins)
