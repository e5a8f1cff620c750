-- `pairtable::main` is safe and ends: the constant passes the table's test.
use Rattle.pairs.proofs.TableRule.{passes}
use Rattle.pairtable.proofs.main.Goals as goal

pub table_text-n-requires : goal.table_text-n-requires
table_text-n-requires c = passes _ tt tt
