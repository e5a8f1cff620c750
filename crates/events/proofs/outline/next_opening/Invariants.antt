-- `events::outline::next_opening` meets its contract: from where the walker stands, what is found is what was sought.
use Rattle.std.proofs.Common.{◌≡◌, ◌-◌, length}
use Rattle.events.specs.Outline.{next_opening}
use Rattle.events.proofs.Outlines.{cursor}
use Rattle.events.proofs.outline.next_opening.Given as goal

abbrev pub invariant-loop-event : goal.invariant-loop-event
invariant-loop-event l =
    (l.walker.events.now ≡ l.events) × (next_opening l.events (cursor l.walker.at l.level) ≡ next_opening l.events l.fn.from)

abbrev pub decreases-loop-event : goal.decreases-loop-event
decreases-loop-event l = length l.events - l.walker.at
