-- `report::lines::put_witness` meets its contract: piece after piece.
use mathlib.Core.Path.{◌∙◌}
use Rattle.text.proofs.PageLaws.{laid_then}
use Rattle.report.specs.Text.{witness_line}
use Rattle.report.proofs.lines.put_witness.Goals as goal

pub returns : goal.returns
unfolding witness_line
returns c = (
  c.end_line.ensures.0 ∙ c.numbered.ensures.0 ∙ c.put_rivals.ensures.0,
  laid_then _ _ _ c.put_rivals.ensures.1 (laid_then _ _ _ c.numbered.ensures.1 c.end_line.ensures.1),
)
