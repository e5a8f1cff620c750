-- `report::openings::put_openings` meets its contract. The loop's invariant: the lines that are left are those of the types that are left and of
-- the openings found from the cursor on.
use Rattle.report.proofs.OpeningLaws.{Left}
use Rattle.report.proofs.openings.put_openings.Given as goal

abbrev pub invariant-loop-type_no : goal.invariant-loop-type_no
invariant-loop-type_no l = Left l.events l.types l.initial.page l.page l.cursor l.type_no-index
