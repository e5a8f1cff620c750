-- A finish is asked.
use mathlib.Core.Logic.Iff
use Rattle.sdtd.specs.Document.{finish}
use Rattle.schema.specs.Value.{meaning}
use Rattle.reading.specs.Questions.{gives}
use Rattle.reading.specs.Calls.{taken_of}
use Rattle.reading.proofs.StepLaws.{finish_step_means}
use Rattle.reading.proofs.Asking.{ok_took, taken_told}
use Rattle.reading.proofs.stop.would_finish.Goals as goal

pub returns : goal.returns
returns c =
    rw c.is_ok.ensures.value
    (Iff.trans (ok_took c.step_finish.result)
    (taken_told (meaning c.args.schema.now) c.args.reading finish (gives (taken_of c.step_finish.result) c.step_finish.new.self)
    (rw c.step_finish.ensures (finish_step_means c.requires))))
