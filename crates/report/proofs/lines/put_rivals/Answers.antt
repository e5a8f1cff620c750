-- `report::lines::put_rivals` meets its contract: piece after piece.
use mathlib.Core.Path.{◌∙◌}
use Rattle.text.proofs.PageLaws.{laid_then}
use Rattle.report.specs.Text.{rivals}
use Rattle.report.proofs.lines.put_rivals.Goals as goal

pub returns : goal.returns
unfolding rivals
returns c =
    let of = rw c.from.ensures at c.numbered.ensures.1 in
    let gives = rw c.from-2.ensures at c.numbered-2.ensures.1 in
    let other = rw c.from-3.ensures at c.numbered-3.ensures.1 in
    (c.numbered-3.ensures.0 ∙ c.numbered-2.ensures.0 ∙ c.numbered.ensures.0, laid_then _ _ _ (laid_then _ _ _ of gives) other)
