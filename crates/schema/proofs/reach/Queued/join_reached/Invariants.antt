-- What is left of the steps, over the marks and the queue so far, gives what all of them give.
use mathlib.Core.Path.{◌≡◌}
use Rattle.schema.specs.Spread.{reach_steps}
use Rattle.schema.specs.Steps.{left}
use Rattle.schema.proofs.reach.Queued.join_reached.Given as goal

abbrev pub invariant-loop-step : goal.invariant-loop-step
invariant-loop-step l =
    reach_steps l.ways l.forward l.live (left l.step-iterator) l.self ≡ reach_steps l.ways l.forward l.live (left l.fn.steps) l.initial.self
