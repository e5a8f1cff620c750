-- `report::program::report` meets its contract: the page begins at the buffer's start.
use borrow.Author.Rules.{rules}
use Rattle.report.proofs.ReportLaws.{reported}
use Rattle.report.proofs.program.report.Goals as goal

pub returns : goal.returns
returns c =
    let same = c.put_answer.ensures.whole.laid.0 in
    reported (c.new-page.ensures.bytes, c.new-page.ensures.place) c.put_answer.ensures (search rules) c.held.ensures
