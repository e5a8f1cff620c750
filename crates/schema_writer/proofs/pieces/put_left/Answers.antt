-- `schema_writer::pieces::put_left` meets its contract: by whether the command stays.
use mathlib.Core.Path.{refl, sym, ap, ◌∙◌}
use Rattle.command.specs.Command.{bytes_of}
use Rattle.text.specs.Page.{sheet, laid}
use Rattle.text.proofs.PageLaws.{laid_none}
use Rattle.schema_writer.specs.Laying.{kept_by}
use Rattle.schema_writer.proofs.LeftLaws.{left_stays, left_goes}
use Rattle.schema_writer.proofs.pieces.put_left.Goals as goal

pub returns-then-stays : goal.returns-then-stays
returns-then-stays c =
    let a = c.args in
    let e = left_stays (kept_by a.kept.now.kept) a.types a.command (sym c.stays.ensures ∙ c.if-stays.true) in
    (c.put_command.ensures.0, c.put_command.ensures.1 ∙ ap (laid (sheet a.page.now)) (ap bytes_of c.relabelled.ensures ∙ sym e))

pub returns-else-stays : goal.returns-else-stays
returns-else-stays c =
    let a = c.args in
    rw (left_goes (kept_by a.kept.now.kept) a.types a.command (sym c.stays.ensures ∙ c.if-stays.false)) (refl, sym (laid_none (sheet a.page.now)))
