-- The sets so far are those after some rounds; each round that changes them leaves fewer states absent.
use mathlib.Core.Path.{◌≡◌}
use Rattle.schema.specs.Going.{tells_by, round}
use Rattle.schema.proofs.Bits.{absent_in}
use Rattle.schema.proofs.Rounds.{Turn}
use Rattle.schema.proofs.SpreadLaws.{Sets}
use Rattle.schema.proofs.spread.settle.Given as goal

abbrev pub invariant-loop-way : goal.invariant-loop-way
invariant-loop-way l =
    Turn Sets (round l.way l.accepted.schema.now l.initial.ways) l.initial.sets l.sets
    × (l.ways ≡ tells_by l.way l.accepted.schema.now l.initial.ways l.sets)

abbrev pub decreases-loop-way : goal.decreases-loop-way
decreases-loop-way l = absent_in l.sets
