-- `report::lines::put_last` meets its contract: by the number.
use mathlib.Core.Path.{◌∙◌}
use borrow.Author.Tests.{eq-eqb, ne_eqb}
use Rattle.text.proofs.PageLaws.{laid_then}
use Rattle.report.specs.Text.{last_line}
use Rattle.report.proofs.lines.put_last.Goals as goal

pub returns-then-e-eq0 : goal.returns-then-e-eq0
unfolding last_line
returns-then-e-eq0 c =
    rw (eq-eqb _ 0 c.if-e-eq0.true)
    (c.end_line.ensures.0 ∙ c.numbered.ensures.0, laid_then _ _ _ c.numbered.ensures.1 c.end_line.ensures.1)

pub returns-else-e-eq0 : goal.returns-else-e-eq0
unfolding last_line
returns-else-e-eq0 c = rw (ne_eqb _ 0 c.if-e-eq0.false) c.put_refusal.ensures
