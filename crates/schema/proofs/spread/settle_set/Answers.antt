-- The steps over the set so far settle where they settle over the first one; each time that they change it leaves fewer states absent.
use mathlib.Core.Path.{sym, ◌∙◌}
use borrow.Author.Rules.{rules}
use Rattle.schema.proofs.GoingLaws.{spread_left}
use Rattle.schema.proofs.Rounds.{settle_first, settle_less, settle_last}
use Rattle.schema.proofs.spread.settle_set.Goals as goal

pub returns-then-grown-settled : goal.returns-then-grown-settled
returns-then-grown-settled c =
    let a = c.args in
    let grown = c.spread_set-grown.ensures ∙ spread_left a.ways.now a.way a.schema.now _ a.span.start a.span.n c.loop-settled.settled c.steps_in.ensures in
    sym (settle_last _ _ _ _ grown c.if-grown-settled.true) ∙ c.loop-settled.invariant.1

pub loop-settled-smaller : goal.loop-settled-smaller
loop-settled-smaller c =
    let a = c.args in
    let grown = c.spread_set-grown.ensures ∙ spread_left a.ways.now a.way a.schema.now _ a.span.start a.span.n c.loop-settled.settled c.steps_in.ensures in
    settle_less _ _ _ _ c.loop-settled.invariant.0 grown c.if-grown-settled.false

pub loop-settled-preserved : goal.loop-settled-preserved
loop-settled-preserved c =
    let a = c.args in
    let grown = c.spread_set-grown.ensures ∙ spread_left a.ways.now a.way a.schema.now _ a.span.start a.span.n c.loop-settled.settled c.steps_in.ensures in
    (search rules, settle_first _ _ _ _ c.loop-settled.invariant.0 grown ∙ c.loop-settled.invariant.1)
