-- `trimschema::put_refused` meets its contract: piece after piece.
use mathlib.Core.Path.{◌∙◌}
use Rattle.text.proofs.PageLaws.{laid_then}
use Rattle.trimschema.specs.Line.{refused_line}
use Rattle.trimschema.proofs.put_refused.Goals as goal

pub returns : goal.returns
unfolding refused_line
returns c =
    let words = rw (c.from.ensures, c.number.ensures) at c.numbered.ensures.1 in
    (c.end_line.ensures.0 ∙ c.numbered.ensures.0, laid_then _ _ _ words c.end_line.ensures.1)
