-- `report::program::put_job` meets its contract: by the job.
use native.Mathlib.Omega.{arith}
use Rattle.report.proofs.ReportLaws.{laid_within}
use Rattle.report.proofs.program.put_job.Goals as goal

pub returns-in-Err : goal.returns-in-Err
returns-in-Err c = rw c.in-Err.is (laid_within (omega arith) c.put_schema_refused.ensures)
