-- `report::program::counted` meets its contract: the first bytes, as many as count.
use native.Mathlib.Omega.{arith}
use Rattle.report.specs.Report.{most_schema}
use Rattle.report.proofs.ReportLaws.{cut}
use Rattle.report.proofs.program.counted.Goals as goal

pub returns : goal.returns
returns c = (c.if-events-gt-MOST_EVENTS.false, cut c.args.schema.now most_schema _ (omega (arith, c.min.ensures)))
