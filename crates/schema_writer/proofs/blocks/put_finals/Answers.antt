-- `schema_writer::blocks::put_finals` meets its contract, FINAL after FINAL.
use mathlib.Core.Path.{◌∙◌}
use Rattle.schema_writer.proofs.LeftLaws.{finals_turn, finals_end}
use Rattle.schema_writer.proofs.blocks.put_finals.Goals as goal

pub loop-q-preserved : goal.loop-q-preserved
loop-q-preserved c = (
  c.put_command.ensures.0 ∙ c.loop-q.invariant.0,
  finals_turn _ c.in-Some.ensures.steps c.put_command.ensures.1 c.loop-q.invariant.1,
)

pub returns : goal.returns
returns c = (c.loop-q.invariant.0, finals_end c.in-None.ensures.steps.0 c.loop-q.invariant.1)
