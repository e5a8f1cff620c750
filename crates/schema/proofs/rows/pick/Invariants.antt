-- What is left of the entries kept, put after those picked so far, makes the whole.
use Prim.Native.Nat.{◌+◌, ◌≤◌}
use lib.ListN.{length, drop}
use Rattle.sdtd.specs.Limits.{most_steps}
use Rattle.schema.specs.Putting.{put_all}
use Rattle.schema.specs.RowMaking.{picked}
use Rattle.schema.proofs.PuttingLaws.{Putting}
use Rattle.schema.proofs.rows.pick.Given as goal

abbrev pub invariant-loop-e : goal.invariant-loop-e
invariant-loop-e l =
    (l.at + length (picked l.p l.kept) ≤ most_steps)
    × Putting (picked l.p (drop l.e-index l.kept)) l.past l.entries (put_all (picked l.p l.kept) l.at l.initial.entries) (l.at + length (picked l.p l.kept))
