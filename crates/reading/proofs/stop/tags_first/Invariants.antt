-- The loop's invariant: the tags below g are told, and no other yet.
use lib.Dec.{T}
use Rattle.events.specs.Events.{kind_of}
use Rattle.reading.specs.Steps.{coming_first}
use Rattle.reading.specs.Asking.{comes}
use Rattle.reading.proofs.Asking.{ToldBelow}
use Rattle.reading.proofs.stop.tags_first.Given as goal

abbrev pub invariant-loop-g : goal.invariant-loop-g
invariant-loop-g l = ToldBelow (λ k. T (comes (coming_first l.heads l.rooted (kind_of l.kind) k))) l.g l.flags
