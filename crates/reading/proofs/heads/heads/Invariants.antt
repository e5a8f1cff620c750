-- The numbers of the types below i are laid, and nothing opens yet.
use Prim.Native.Nat.{◌≤◌}
use Rattle.sdtd.specs.Limits.{most_types}
use Rattle.reading.proofs.RootMeans.{HeadsBelow, counts}
use Rattle.reading.proofs.heads.heads.Given as goal

abbrev pub invariant-loop-i : goal.invariant-loop-i
invariant-loop-i l = (l.schema.types ≤ most_types) × HeadsBelow l.schema l.i (counts 0 0) l.all
