-- `schema_writer::blocks::put_steps` meets its contract, step after step.
use mathlib.Core.Path.{◌∙◌}
use Rattle.schema_writer.specs.Laying.{kept_by}
use Rattle.schema_writer.proofs.LeftLaws.{steps_turn, steps_end}
use Rattle.schema_writer.proofs.blocks.put_steps.Goals as goal

pub loop-step-preserved : goal.loop-step-preserved
loop-step-preserved c = (
  c.put_step.ensures.0 ∙ c.loop-step.invariant.0,
  steps_turn (kept_by c.args.kept.now.kept) _ c.in-Some.ensures.steps c.put_step.ensures.1 c.loop-step.invariant.1,
)

pub returns : goal.returns
returns c = (c.loop-step.invariant.0, steps_end (kept_by c.args.kept.now.kept) c.in-None.ensures.steps.0 c.loop-step.invariant.1)
