-- `events::outline::next_opening` meets its contract: by each event that the walker gives.
use Rattle.events.proofs.Outlines.{passed}
use Rattle.events.proofs.outline.next_opening.Goals as goal

pub returns-in-Open : goal.returns-in-Open
returns-in-Open c =
    let e = c.in-Some.ensures in
    rw c.saturating_add.ensures (passed c.args.events.now c.loop-event.level c.loop-event.walker.at c.loop-event.invariant e.event e.place c.in-Open.is)

pub loop-event-preserved-in-Close : goal.loop-event-preserved-in-Close
loop-event-preserved-in-Close c =
    let i = c.loop-event.invariant in
    let e = c.in-Some.ensures in
    (rw e.events i.0, rw c.saturating_sub-level.ensures (passed c.args.events.now c.loop-event.level c.loop-event.walker.at i e.event e.place c.in-Close.is))

pub loop-event-preserved : goal.loop-event-preserved
loop-event-preserved c =
    let i = c.loop-event.invariant in
    let e = c.in-Some.ensures in
    (rw e.events i.0, passed c.args.events.now c.loop-event.level c.loop-event.walker.at i e.event e.place c.in-Finish.is)
