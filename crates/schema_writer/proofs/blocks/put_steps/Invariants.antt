-- `schema_writer::blocks::put_steps` meets its contract. The loop's invariant: with the steps that are left the page is what all of them make of it.
use mathlib.Core.Path.{◌≡◌}
use Rattle.schema.specs.Steps.{left}
use Rattle.text.specs.Page.{sheet, laid}
use Rattle.schema_writer.specs.Laying.{kept_by}
use Rattle.schema_writer.proofs.LeftLaws.{step_bytes}
use Rattle.schema_writer.proofs.blocks.put_steps.Given as goal

abbrev pub invariant-loop-step : goal.invariant-loop-step
invariant-loop-step l =
    (l.page.out.ghost_name ≡ l.initial.page.out.ghost_name)
    × (laid (sheet l.page) (step_bytes (kept_by l.kept.kept) (left l.step-iterator))
    ≡ laid (sheet l.initial.page) (step_bytes (kept_by l.kept.kept) (left l.steps)))
