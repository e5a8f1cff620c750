-- What is left of the round, over what has grown so far, gives what the whole round gives.
use mathlib.Core.Path.{◌∙◌}
use native.Mathlib.Omega.{arith}
use lib.ListN.{length-set}
use Rattle.schema.proofs.GoingLaws.{told_next}
use Rattle.schema.proofs.Rounds.{offset_more, steps_fit}
use Rattle.schema.proofs.SpreadLaws.{round_turn, round_done}
use Rattle.schema.proofs.spread.spread_all.Goals as goal

pub invariant_of-span : goal.invariant_of-span
invariant_of-span c =
    let v = c.args.accepted.now.schema.now in
    record { inside = omega (arith, c.args.accepted.now.steps, steps_fit v.steps c.loop-a.a v.types (omega arith)) }

pub overflow_add-start : goal.overflow_add-start
overflow_add-start c =
    let v = c.args.accepted.now.schema.now in
    omega (arith, c.args.accepted.now.steps, steps_fit v.steps c.loop-a.a v.types (omega arith))

pub loop-a-preserved : goal.loop-a-preserved
loop-a-preserved c =
    let i = c.loop-a.invariant in
    let v = c.args.accepted.now.schema.now in
    let settled = rw (i.2, c.from-n.ensures) at c.settle_set-settled.ensures in
    let told = told_next c.args.way v c.args.ways.now c.loop-a.sets c.loop-a.a c.settle_set-settled.result c.args.accepted.now.types i.3 (omega arith) in rw c.from-n.ensures (
      offset_more v.steps c.loop-a.a _ i.0,
      round_turn _ _ _ _ _ _ _ _ _ (omega arith) settled i.1,
      rw (c.tell_anew.ensures, i.2) told,
      length-set c.loop-a.sets _ _ ∙ i.3,
    )

pub returns : goal.returns
returns c =
    let i = c.loop-a.invariant in
    (round_done _ _ _ _ _ _ _ _ (omega arith) i.1, i.2)
