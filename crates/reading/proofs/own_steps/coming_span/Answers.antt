-- The moves of the steps that are left, over what came so far, give what all of them give.
use mathlib.Core.Path.{ap, ◌∙◌}
use Rattle.reading.specs.Coming.{coming_of}
use Rattle.reading.proofs.ComingLaws.{joins_most, joins_first, joins_none_left}
use Rattle.reading.proofs.own_steps.coming_span.Invariants.{moves}
use Rattle.reading.proofs.own_steps.coming_span.Goals as goal

pub loop-step-preserved : goal.loop-step-preserved
loop-step-preserved c =
    let a = c.args in
    let i = c.loop-step.invariant in
    (joins_most _ _ _ c.join_step.ensures i.0, joins_first (moves a.schema.now.tag a.ways.now a.asked) _ c.in-Some.ensures.steps c.join_step.ensures i.1)

pub returns : goal.returns
returns c =
    c.coming.ensures
    ∙ ap coming_of (joins_none_left (moves c.args.schema.now.tag c.args.ways.now c.args.asked) _ c.in-None.ensures.steps.0 c.loop-step.invariant.1)
