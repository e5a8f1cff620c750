-- `schema_writer::blocks::put_step` meets its contract: by whether the step's type is kept.
use mathlib.Core.Path.{refl, sym, ap, ◌∙◌}
use Rattle.command.specs.Command.{bytes_of}
use Rattle.text.specs.Page.{sheet, laid}
use Rattle.text.proofs.PageLaws.{laid_none}
use Rattle.schema_writer.specs.Laying.{kept_by}
use Rattle.schema_writer.proofs.LeftLaws.{step_stays, step_goes}
use Rattle.schema_writer.proofs.blocks.put_step.Goals as goal

pub returns-then-has_type : goal.returns-then-has_type
returns-then-has_type c =
    let a = c.args in
    let s = a.step in
    let e = step_stays (kept_by a.kept.now.kept) s.from s.by.0 s.to (sym c.has_type.ensures ∙ c.if-has_type.true) in
    (c.put_command.ensures.0, c.put_command.ensures.1 ∙ ap (laid (sheet a.page.now)) (ap bytes_of c.relabelled.ensures ∙ sym e))

pub returns-else-has_type : goal.returns-else-has_type
returns-else-has_type c =
    let a = c.args in
    let s = a.step in
    rw (step_goes (kept_by a.kept.now.kept) s.from s.by.0 s.to (sym c.has_type.ensures ∙ c.if-has_type.false)) (refl, sym (laid_none (sheet a.page.now)))
