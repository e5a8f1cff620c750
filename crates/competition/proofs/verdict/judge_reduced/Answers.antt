-- `competition::verdict::judge_reduced` meets its contract: the schema has as many types as its value says.
use Rattle.schema.proofs.Values.{types_count}
use Rattle.competition.proofs.verdict.judge_reduced.Goals as goal

pub returns : goal.returns
returns c = rw (types_count _) (rw c.from-types.ensures at c.judge_types.ensures)
