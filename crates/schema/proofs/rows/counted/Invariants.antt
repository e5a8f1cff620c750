-- What is left of the steps, put after the entries kept so far, makes the whole.
use Prim.Native.Nat.{◌+◌, ◌≤◌}
use lib.ListN.{length}
use Rattle.sdtd.specs.Limits.{most_steps}
use Rattle.schema.specs.Value.{steps_of}
use Rattle.schema.specs.Steps.{left}
use Rattle.schema.specs.Putting.{put_all}
use Rattle.schema.specs.RowMaking.{counted}
use Rattle.schema.proofs.PuttingLaws.{Putting}
use Rattle.schema.proofs.rows.counted.Given as goal

abbrev pub invariant-loop-step : goal.invariant-loop-step
invariant-loop-step l =
    let all = counted l.schema.tag l.ways l.own (steps_of l.schema.from l.schema.by l.schema.to l.fn.span.start l.fn.span.n) in
    (l.n + length (left l.step-iterator) ≤ most_steps)
    × Putting (counted l.schema.tag l.ways l.own (left l.step-iterator)) l.n l.kept (put_all all 0 l.initial.kept) (length all)
