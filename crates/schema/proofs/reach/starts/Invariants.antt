-- The table so far has the places of the types below `a`.
use mathlib.Core.Path.{◌≡◌}
use lib.ListN.{length}
use Rattle.sdtd.specs.Limits.{most_types}
use Rattle.schema.specs.Value.{offset}
use Rattle.schema.specs.Spread.{Starts}
use Rattle.schema.proofs.reach.starts.Given as goal

abbrev pub invariant-loop-a : goal.invariant-loop-a
invariant-loop-a l =
    let steps = l.schema.steps in
    (l.start ≡ offset steps l.a) × (length l.starts ≡ most_types) × Starts steps l.a l.starts
