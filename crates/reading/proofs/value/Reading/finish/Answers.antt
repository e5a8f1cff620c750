-- `finish` meets its contract: question 10, then the step.
use Rattle.reading.proofs.StepLaws.{finish_step_means}
use Rattle.reading.proofs.value.Reading.finish.Goals as goal

pub returns : goal.returns
returns c = rw c.step_finish-answer.ensures (finish_step_means (c.if-not-both_within.ensures.ten.0 tt))
