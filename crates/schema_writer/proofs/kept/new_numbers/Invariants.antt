-- `schema_writer::kept::new_numbers` meets its contract. The loop's invariant: the table has the numbers of the types so far.
use Rattle.schema_writer.proofs.NumberLaws.{Numbered}
use Rattle.schema_writer.proofs.kept.new_numbers.Given as goal

abbrev pub invariant-loop-a : goal.invariant-loop-a
invariant-loop-a l = Numbered l.kept l.numbers l.n l.a
