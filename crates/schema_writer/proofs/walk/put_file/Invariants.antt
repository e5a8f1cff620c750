-- `schema_writer::walk::put_file` meets its contract. The loop's invariant: with what is left of the file from the place on the page is what all of it
-- makes of it. The measure is what is left of the file: a command ends inside it, and so does an expression.
use Prim.Native.Nat.{◌-◌}
use lib.ListN.{length}
use Rattle.schema.specs.Value.{meaning}
use Rattle.schema_writer.specs.Laying.{kept_by}
use Rattle.schema_writer.proofs.FileLaws.{Walked}
use Rattle.schema_writer.proofs.walk.put_file.Given as goal

abbrev pub invariant-loop-command : goal.invariant-loop-command
invariant-loop-command l = Walked (kept_by l.kept.kept) (meaning l.schema) l.file l.initial.page l.page l.at l.types

abbrev pub decreases-loop-command : goal.decreases-loop-command
decreases-loop-command l = length l.file - l.at
