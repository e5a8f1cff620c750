-- `open_as` meets its contract: question 10, then the step.
use mathlib.Core.Path.{refl}
use mathlib.Core.Logic.{inl}
use borrow.Author.Rules.{rules}
use Rattle.events.specs.Events.{kind_of}
use Rattle.schema.proofs.FirstTables.{Fits}
use Rattle.schema.proofs.LimitLaws.{within_room}
use Rattle.reading.specs.Levels.{Within}
use Rattle.schema.specs.Value.{meaning}
use Rattle.reading.proofs.LevelLaws.{levels_fit}
use Rattle.reading.proofs.StepLaws.{stands_own, open_steps_means}
use Rattle.reading.proofs.value.Reading.open_as.Goals as goal

pub returns-then-not-levels_within : goal.returns-then-not-levels_within
returns-then-not-levels_within c =
    inl (
      λ w. c.if-not-levels_within.ensures.1 ((levels_fit c.args.schema.now (within_room _ w.schema).types c.args.self).1 w.reading),
      rw (c.refused-then-not-levels_within.ensures.0, c.refused-then-not-levels_within.ensures.1) refl,
    )

pub step_open_own-answer-requires : goal.step_open_own-answer-requires
step_open_own-answer-requires c =
    let inside = c.in-Some.ensures.means.0 in
    let fits : Fits c.args.schema.now =
    record { accepting_long = search rules; accepting_below = c.in-Some.ensures.sets } in
    let fit = levels_fit c.args.schema.now (within_room _ inside).types c.args.self in
    stands_own fits (record { schema = inside; reading = fit.0 (c.if-not-levels_within.ensures.0 tt) })

pub returns : goal.returns
returns c =
    let inside = c.in-Some.ensures.means.0 in
    let fits : Fits c.args.schema.now =
    record { accepting_long = search rules; accepting_below = c.in-Some.ensures.sets } in
    let fit = levels_fit c.args.schema.now (within_room _ inside).types c.args.self in
    let within : Within (meaning c.args.schema.now) c.args.self =
    record { schema = inside; reading = fit.0 (c.if-not-levels_within.ensures.0 tt) } in
    rw c.step_open_own-answer.ensures
    (open_steps_means fits within c.in-Some.found.live c.in-Some.found.ways c.in-Some.ensures.means.1 c.in-Some.ensures.means.2
    c.heads-heads.ensures (kind_of c.args.o.kind) c.args.o.tag.0)
