-- `schema::roots::root_types` meets its contract. The loop's invariant: the roots before the place i are marked.
use Rattle.schema.proofs.RootLaws.{MarksFirst}
use Rattle.schema.proofs.roots.root_types.Given as goal

abbrev pub invariant-loop-i : goal.invariant-loop-i
invariant-loop-i l = MarksFirst l.root l.i l.marked
