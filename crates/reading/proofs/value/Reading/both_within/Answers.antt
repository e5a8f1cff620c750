-- `both_within` meets its contract.
use Rattle.schema.proofs.LimitLaws.{within_room}
use Rattle.reading.proofs.LevelLaws.{levels_fit}
use Rattle.reading.proofs.value.Reading.both_within.Goals as goal

pub returns-clause-ten : goal.returns-clause-ten
returns-clause-ten c =
    let schema = c.if-not-within.ensures.limits.0 tt in
    let fit = levels_fit _ (within_room _ schema).types c.args.self.now in (
      λ t. record { schema = schema; reading = fit.0 (c.levels_within.ensures.0 t) },
      λ w. c.levels_within.ensures.1 (fit.1 w.reading),
    )
