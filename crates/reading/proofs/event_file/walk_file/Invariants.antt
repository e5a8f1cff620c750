-- The loop's invariant: the walk is sound, up to the walker's place. The measure is what is left of the file.
use Rattle.std.proofs.Common.{◌≡◌, ◌-◌, length}
use Rattle.schema.specs.Value.{meaning}
use Rattle.reading.proofs.StepSound.{going_at}
use Rattle.reading.proofs.LayLaws.{LaidSound}
use Rattle.reading.proofs.event_file.walk_file.Given as goal

abbrev pub invariant-loop-event : goal.invariant-loop-event
invariant-loop-event l =
    (l.walker.events.now ≡ l.events) × (l.place ≡ l.walker.at)
    × LaidSound l.bounded (meaning l.schema) l.events l.initial.out (going_at l.walker.at l.reading) l.count l.out

abbrev pub decreases-loop-event : goal.decreases-loop-event
decreases-loop-event l = length l.events - l.walker.at
