-- The moves of the steps that are left, over what came so far, give what all of them give.
use mathlib.Core.Path.{◌≡◌}
use mathlib.Core.List.{List}
use Prim.Native.Nat.{ℕ, ◌≤◌}
use Rattle.std.specs.List.{flat_map}
use Rattle.sdtd.specs.Limits.{most_types}
use Rattle.sdtd.specs.Schema.{Step}
use Rattle.events.specs.Events.{kind_of}
use Rattle.schema.specs.Steps.{left}
use Rattle.schema.specs.Value.{steps_of}
use Rattle.reading.specs.declared.own_steps.Asked.{Asked}
use Rattle.reading.specs.Coming.{none_yet, Move, joins, step_moves}
use Rattle.reading.proofs.own_steps.coming_span.Given as goal

abbrev pub moves : List ℕ → List ℕ → Asked → Step → List Move
moves tag ways asked s = step_moves tag ways asked.own.0 asked.states.0 (kind_of asked.opening.kind) asked.opening.tag.0 s

abbrev pub invariant-loop-step : goal.invariant-loop-step
invariant-loop-step l =
    (l.least.of ≤ most_types)
    × (joins (flat_map (moves l.schema.tag l.ways l.asked) (left l.step-iterator)) l.least
    ≡ joins (flat_map (moves l.schema.tag l.ways l.asked) (steps_of l.schema.from l.schema.by l.schema.to l.fn.span.start l.fn.span.n)) none_yet)
