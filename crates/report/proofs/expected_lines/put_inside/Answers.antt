-- `report::expected_lines::put_inside` meets its contract: piece after piece.
use mathlib.Core.Path.{◌∙◌}
use Rattle.text.proofs.PageLaws.{laid_then}
use Rattle.report.specs.ExpectedText.{inside_line}
use Rattle.report.proofs.expected_lines.put_inside.Goals as goal

pub returns : goal.returns
unfolding inside_line
returns c = (
  c.end_line.ensures.0 ∙ c.put_spaced.ensures.0 ∙ c.bytes.ensures.0,
  laid_then _ _ _ c.bytes.ensures.1 (laid_then _ _ _ c.put_spaced.ensures.1 c.end_line.ensures.1),
)
