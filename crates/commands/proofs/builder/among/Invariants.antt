-- The loop's invariant: with the steps that are left gone over, all are.
use mathlib.Core.Path.{◌≡◌}
use mathlib.Core.Bool.{false}
use Rattle.schema.specs.Steps.{left}
use Rattle.commands.specs.Building.{found_in}
use Rattle.commands.proofs.builder.among.Given as goal

abbrev pub invariant-loop-other : goal.invariant-loop-other
invariant-loop-other l =
    found_in l.step.from l.step.by.0 l.step.to l.found (left l.other-iterator) ≡ found_in l.step.from l.step.by.0 l.step.to false (left l.fn.steps)
