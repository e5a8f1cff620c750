-- `schema_writer::kept::new_numbers` meets its contract. The loop's invariant: the table has the numbers of the types so far.
use native.Mathlib.Omega.{arith}
use Rattle.schema_writer.proofs.NumberLaws.{none_numbered, one_numbered, all_numbered}
use Rattle.schema_writer.proofs.kept.new_numbers.Goals as goal

pub loop-a-init : goal.loop-a-init
loop-a-init c = none_numbered _ _ (omega arith)

pub loop-a-preserved : goal.loop-a-preserved
loop-a-preserved c = one_numbered c.loop-a.invariant c.loop-a-test.true c.from-n.ensures

pub returns : goal.returns
returns c = all_numbered c.loop-a.invariant c.loop-a-test.false
