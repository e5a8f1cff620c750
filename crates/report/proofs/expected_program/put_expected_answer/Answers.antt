-- `report::expected_program::put_expected_answer` meets its contract: by the events' length.
use mathlib.Core.Path.{refl}
use Rattle.report.proofs.ReportLaws.{laid_job}
use Rattle.report.proofs.expected_program.put_expected_answer.Goals as goal

pub returns : goal.returns
returns c =
    let job = c.expect_document-job in
    let (long, counted) = c.in-Some.ensures in
    laid_job long
    (record { witness = job.new.witness; job = job.result; means = rw counted at job.ensures; prints = refl })
    c.put_expected_job.ensures
