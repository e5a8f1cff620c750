-- The proof of the cycle of calls {choice, factor, sequence}. The measure: the bytes left, three times, and 2 for `choice` and 1 for `sequence`,
-- since each calls the next at the same place, and `factor` calls `choice` behind a 30.
use Prim.Native.Nat.{◌+◌, ◌-◌, ◌*◌, ◌≤◌}
use lib.ListN.{length}
use Rattle.expression.specs.Parsing.{NextSequence, SequenceTaken}
use Rattle.expression.proofs.parsers.+choice_factor_sequence.Given as goal

abbrev pub decreases-choice : goal.decreases-choice
decreases-choice l = 3 * (length l.file.now - l.at) + 2

abbrev pub decreases-factor : goal.decreases-factor
decreases-factor l = 3 * (length l.file.now - l.at)

abbrev pub decreases-sequence : goal.decreases-sequence
decreases-sequence l = 3 * (length l.file.now - l.at) + 1

abbrev pub invariant-choice-loop-other : goal.invariant-choice-loop-other
invariant-choice-loop-other l = (l.at ≤ l.from) × NextSequence l.file l.at l.depth l.uses l.initial.tables l.tables l.read l.from

abbrev pub decreases-choice-loop-other : goal.decreases-choice-loop-other
decreases-choice-loop-other l = length l.file - l.from

abbrev pub invariant-sequence-loop-one : goal.invariant-sequence-loop-one
invariant-sequence-loop-one l = SequenceTaken l.file l.at l.depth l.uses l.initial.tables l.tables l.read

abbrev pub decreases-sequence-loop-one : goal.decreases-sequence-loop-one
decreases-sequence-loop-one l = length l.file - l.read.at
