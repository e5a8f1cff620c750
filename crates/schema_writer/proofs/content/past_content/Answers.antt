-- `schema_writer::content::past_content` meets its contract: by what becomes of the expression.
use mathlib.Core.Bool.{true, false}
use mathlib.Core.Path.{sym, ◌∙◌}
use native.Mathlib.Omega.{arith}
use Rattle.commands.proofs.ExpressionReads.{found, uses_few}
use Rattle.schema_writer.proofs.ContentLaws.{read_ok, past_whole, ends_inside}
use Rattle.schema_writer.proofs.content.past_content.Goals as goal

pub names_dropped-requires : goal.names_dropped-requires
names_dropped-requires c =
    let read = rw (read_ok _ (sym c.ok.ensures.value ∙ c.in_ok-read.was)) at c.read_content.ensures in
    uses_few (found _ _ _ read)

pub overflow_add-result : goal.overflow_add-result
overflow_add-result c =
    let read = rw (read_ok _ (sym c.ok.ensures.value ∙ c.in_ok-read.was)) at c.read_content.ensures in
    omega (arith, ends_inside (found _ _ _ read), c.well_formed)

pub returns-then-names_dropped : goal.returns-then-names_dropped
returns-then-names_dropped c =
    let read = rw (read_ok _ (sym c.ok.ensures.value ∙ c.in_ok-read.was)) at c.read_content.ensures in
    past_whole _ (found _ _ _ read) {b = true} (sym c.if-names_dropped.true ∙ c.names_dropped.ensures)

pub returns-else-names_dropped : goal.returns-else-names_dropped
returns-else-names_dropped c =
    let read = rw (read_ok _ (sym c.ok.ensures.value ∙ c.in_ok-read.was)) at c.read_content.ensures in
    past_whole _ (found _ _ _ read) {b = false} (sym c.if-names_dropped.false ∙ c.names_dropped.ensures)
