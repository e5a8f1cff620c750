-- The roots before the place i are laid.
use mathlib.Core.Path.{◌≡◌}
use Rattle.events.specs.Events.{kind_of}
use Rattle.reading.specs.Heads.{add_roots}
use Rattle.reading.proofs.heads.lay_roots.Given as goal

abbrev pub invariant-loop-i : goal.invariant-loop-i
invariant-loop-i l = l.heads ≡ add_roots l.initial.heads l.schema.tag l.ways (kind_of l.kind) l.schema.root l.i
