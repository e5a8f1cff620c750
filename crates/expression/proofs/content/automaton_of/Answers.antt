-- `automaton_of` meets its contract: the tables are arrays of 32 numbers of 32 bits.
use native.Mathlib.Omega.{arith}
use Rattle.std.proofs.Common.{rules}
use Rattle.expression.proofs.ContentLaws.{automaton_whole}
use Rattle.expression.proofs.content.automaton_of.Goals as goal

pub returns : goal.returns
returns c =
    λ e names r. automaton_whole c.args.tables c.args.read e names r (omega arith) (search rules) (omega arith) (omega arith)
    c.accepting_of.result c.accepting_of.ensures
