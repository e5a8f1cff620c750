-- The table so far is that of the types below `a`.
use mathlib.Core.Path.{◌≡◌}
use Rattle.schema.specs.Spread.{ways_by}
use Rattle.schema.proofs.ways.ways_by.Given as goal

abbrev pub invariant-loop-a : goal.invariant-loop-a
invariant-loop-a l = l.ways ≡ ways_by l.nillable l.a l.live
