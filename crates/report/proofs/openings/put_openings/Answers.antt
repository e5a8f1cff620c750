-- `report::openings::put_openings` meets its contract, turn by turn.
use mathlib.Core.Path.{refl, sym, ◌∙◌}
use native.Mathlib.Omega.{arith}
use Rattle.report.proofs.OpeningLaws.{all_left, turn_left, ended}
use Rattle.report.proofs.openings.put_openings.Goals as goal

pub loop-type_no-init : goal.loop-type_no-init
loop-type_no-init c = all_left c.args.events.now c.args.types.now c.args.page.now (omega arith)

pub loop-type_no-preserved : goal.loop-type_no-preserved
loop-type_no-preserved c =
    turn_left c.loop-type_no.invariant c.loop-type_no-test.true (sym c.in-Some.is ∙ c.next_opening.ensures) c.put_opening.new.page _ refl
    c.put_opening.ensures

pub returns-in_default : goal.returns-in_default
returns-in_default c = turn_left c.loop-type_no.invariant c.loop-type_no-test.true (sym c.in_default.is ∙ c.next_opening.ensures)

pub returns : goal.returns
returns c = ended c.loop-type_no.invariant c.loop-type_no-test.false
