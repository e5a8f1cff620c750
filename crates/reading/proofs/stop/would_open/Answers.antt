-- `reading::stop::would_open` meets its contract: by what the reading is, and inside an element by its type's own steps.
use mathlib.Core.Path.{refl}
use native.Mathlib.Omega.{arith}
use borrow.Author.Rules.{rules}
use Rattle.sdtd.specs.Tree.{plain, nil}
use Rattle.schema.proofs.FirstTables.{Fits}
use Rattle.reading.proofs.LevelLaws.{sub_one}
use Rattle.reading.proofs.StepLaws.{stands_own}
use Rattle.reading.proofs.AskingOpens.{tells_finished, tells_full, tells_first, tells_inside}
use Rattle.reading.proofs.stop.would_open.Goals as goal

pub returns-then-at : goal.returns-then-at
returns-then-at c =
    (tells_finished c.requires plain c.if-at.true, tells_finished c.requires nil c.if-at.true)

pub returns-then-at-ge-LEVELS : goal.returns-then-at-ge-LEVELS
returns-then-at-ge-LEVELS c =
    (tells_full c.requires plain c.if-at-ge-LEVELS.true, tells_full c.requires nil c.if-at-ge-LEVELS.true)

pub tags_first-opens-requires : goal.tags_first-opens-requires
tags_first-opens-requires c =
    let fits : Fits c.args.schema.now =
    record { accepting_long = search rules; accepting_below = c.requires.sets } in
    (stands_own fits c.requires.within).0

pub tags_first-opens_nil-requires : goal.tags_first-opens_nil-requires
tags_first-opens_nil-requires c =
    let fits : Fits c.args.schema.now =
    record { accepting_long = search rules; accepting_below = c.requires.sets } in
    (stands_own fits c.requires.within).0

pub returns-then-at-eq0 : goal.returns-then-at-eq0
returns-then-at-eq0 c = (
  tells_first c.requires plain c.if-at.false (omega arith) (omega arith) c.tags_first-opens.ensures,
  tells_first c.requires nil c.if-at.false (omega arith) (omega arith) c.tags_first-opens_nil.ensures,
)

pub returns : goal.returns
returns c =
    let fits : Fits c.args.schema.now = record { accepting_long = search rules; accepting_below = c.requires.sets } in
    let marks = rw c.from.ensures at c.openings_span.ensures in
    let level = sub_one c.args.at.now.depth in (
      tells_inside c.requires plain c.if-at.false (omega arith) fits (omega arith) _ _ _ _ level refl c.span.ensures.start c.span.ensures.n marks.0,
      tells_inside c.requires nil c.if-at.false (omega arith) fits (omega arith) _ _ _ _ level refl c.span.ensures.start c.span.ensures.n marks.1,
    )
