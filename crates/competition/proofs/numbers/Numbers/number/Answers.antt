-- `competition::numbers::Numbers::number` meets its contract, by the table's rule.
use Rattle.sdtd.proofs.Pairs.{pair_below_most}
use Rattle.competition.proofs.numbers.Numbers.number.Goals as goal

pub returns-clause-below : goal.returns-clause-below
returns-clause-below c =
    rw (c.from.ensures, c.number_in.ensures, c.args.self.now.rule.rule c.args.s c.args.t c.requires.0 c.requires.1) (pair_below_most c.args.s c.args.t c.requires.0 c.requires.1)
