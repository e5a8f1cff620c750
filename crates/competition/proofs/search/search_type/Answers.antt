-- `competition::search::search_type` meets its contract.
use Rattle.std.proofs.Common.{rules}
use native.Mathlib.Numerals.{add-one}
use Rattle.competition.proofs.Queues.{search_first, search_next, search_done, search_rivals}
use Rattle.competition.proofs.search.search_type.Goals as goal

pub loop-at-init : goal.loop-at-init
loop-at-init c = rw c.restart.ensures (search_first c.args.queue.now (search rules))

pub returns-in-Some : goal.returns-in-Some
returns-in-Some c =
    search_rivals c.loop-at.invariant c.loop-at-test.true
    (rw (c.row-left.ensures, c.row-right.ensures, c.in-Some.is) at c.rivals_at.ensures)

pub loop-at-preserved : goal.loop-at-preserved
loop-at-preserved c =
    rw (add-one, c.search_from.ensures, c.row-left.ensures, c.row-right.ensures)
    (search_next c.loop-at.invariant c.loop-at-test.true
    (rw (c.row-left.ensures, c.row-right.ensures, c.in_default.is) at c.rivals_at.ensures))

pub returns : goal.returns
returns c = (c.loop-at.reached, search_done c.loop-at.invariant c.loop-at-test.false)
