-- The tags of the steps passed are marked.
use Rattle.sdtd.specs.Tree.{plain, nil}
use Rattle.schema.specs.Steps.{left}
use Rattle.schema.specs.Value.{steps_of}
use Rattle.reading.specs.Asking.{taken_by}
use Rattle.reading.proofs.AskingOpens.{MarksYet}
use Rattle.reading.proofs.stop.openings_span.Given as goal

abbrev pub invariant-loop-step : goal.invariant-loop-step
invariant-loop-step l =
    MarksYet (taken_by l.schema l.ways l.among plain) (steps_of l.schema.from l.schema.by l.schema.to l.fn.span.start l.fn.span.n)
    (left l.step-iterator) l.found.opens
    × MarksYet (taken_by l.schema l.ways l.among nil) (steps_of l.schema.from l.schema.by l.schema.to l.fn.span.start l.fn.span.n)
    (left l.step-iterator) l.found.opens_nil
