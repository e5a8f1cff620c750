-- The tags of the steps passed are marked.
use Rattle.reading.proofs.AskingOpens.{yet_none, yet_next, yet_all}
use Rattle.reading.proofs.stop.openings_span.Goals as goal

pub loop-step-init : goal.loop-step-init
loop-step-init c = rw (c.into_iter-step-iterator.ensures.into_iter_gives, c.steps_in-step-items.ensures) (yet_none _ _, yet_none _ _)

pub loop-step-preserved : goal.loop-step-preserved
loop-step-preserved c =
    let i = c.loop-step.invariant in
    let left = c.in-Some.ensures.steps in
    (yet_next _ _ left i.0 c.mark_step.ensures.0, yet_next _ _ left i.1 c.mark_step.ensures.1)

pub returns : goal.returns
returns c =
    let i = c.loop-step.invariant in
    let left = c.in-None.ensures.steps.0 in
    (yet_all _ _ left i.0, yet_all _ _ left i.1)
