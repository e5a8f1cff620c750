-- `schema_writer::content::names_dropped` meets its contract. The loop's invariant: whether one of the uses that are
-- left names a type that is not kept decides.
use mathlib.Core.Path.{◌≡◌}
use Prim.Native.Nat.{◌+◌, ◌-◌}
use Rattle.commands.specs.Laying.{names_from}
use Rattle.schema_writer.specs.Left.{names_dropped}
use Rattle.schema_writer.specs.Laying.{kept_by}
use Rattle.schema_writer.proofs.content.names_dropped.Given as goal

abbrev pub invariant-loop-q : goal.invariant-loop-q
invariant-loop-q l =
    let left = names_from l.read.types l.read.places l.q (l.read.uses + 1 - l.q) in
    names_dropped (kept_by l.kept.kept) left ≡ names_dropped (kept_by l.kept.kept) (names_from l.read.types l.read.places 1 l.read.uses)
