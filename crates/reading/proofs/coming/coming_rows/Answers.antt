-- A turn takes the row of the first of the states that are left.
use mathlib.Core.Path.{ap, ◌∙◌}
use Rattle.reading.specs.Coming.{coming_of}
use Rattle.reading.proofs.ComingLaws.{joins_most, joins_first, joins_none_left}
use Rattle.reading.proofs.coming.coming_rows.Invariants.{moves}
use Rattle.reading.proofs.coming.coming_rows.Goals as goal

pub loop-q-preserved : goal.loop-q-preserved
loop-q-preserved c =
    let a = c.args in
    let i = c.loop-q.invariant in
    let turn = rw c.row.ensures at c.join_row.ensures in
    (joins_most _ _ _ turn i.0, joins_first (moves a.rows.now a.a.0 a.o) _ c.in-Some.ensures.steps turn i.1)

pub returns : goal.returns
returns c =
    let a = c.args in
    c.coming.ensures ∙ ap coming_of (joins_none_left (moves a.rows.now a.a.0 a.o) _ c.in-None.ensures.steps.0 c.loop-q.invariant.1)
