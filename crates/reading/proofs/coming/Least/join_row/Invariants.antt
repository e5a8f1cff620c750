-- The loop's invariant: the entries that are left, over what came so far, give what all of them give.
use mathlib.Core.Path.{◌≡◌}
use Prim.Native.Nat.{◌≤◌}
use lib.ListN.{drop}
use Rattle.sdtd.specs.Limits.{most_types}
use Rattle.reading.specs.Coming.{joins, row_moves}
use Rattle.reading.specs.Sought.{kind_sought, tag_sought}
use Rattle.reading.proofs.coming.Least.join_row.Given as goal

abbrev pub invariant-loop-e : goal.invariant-loop-e
invariant-loop-e l =
    (l.self.of ≤ most_types)
    × (joins (row_moves (kind_sought l.o.n) (tag_sought l.o.n) (drop l.e-index l.row)) l.self
    ≡ joins (row_moves (kind_sought l.o.n) (tag_sought l.o.n) l.row) l.initial.self)
