-- `schema::tables::live` meets its contract: inside the limits the table that the rounds settle at has exactly the live states.
use borrow.Author.Rules.{rules}
use Rattle.schema.proofs.LimitLaws.{within_room, passed, failed}
use Rattle.schema.proofs.FirstTables.{Fits}
use Rattle.schema.proofs.WaysLaws.{ways_exactly}
use Rattle.schema.proofs.TablesExact.{live_exactly}
use Rattle.schema.proofs.tables.live.Goals as goal

pub returns-then-not-within-clause-means : goal.returns-then-not-within-clause-means
returns-then-not-within-clause-means c = failed c.within.result c.if-not-within.true-raw c.within.ensures.limits

pub invariant_of-accepted : goal.invariant_of-accepted
invariant_of-accepted c =
    let room = within_room _ (passed c.within.result c.if-not-within.false-raw c.within.ensures.limits) in
    record { types = room.types; steps = room.steps }

pub returns-clause-means : goal.returns-clause-means
returns-clause-means c =
    let fits : Fits c.args.schema.now = record { accepting_long = search rules; accepting_below = c.within.ensures.sets } in
    let within = passed c.within.result c.if-not-within.false-raw c.within.ensures.limits in
    let ends = c.live_states.ensures in
    let live = live_exactly fits within ends.0 in
    (within, live, rw ends.1 (ways_exactly _ (within_room _ within).types _ live))
