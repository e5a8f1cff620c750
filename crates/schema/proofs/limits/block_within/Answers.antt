-- `schema::limits::block_within` meets its contract.
use native.Mathlib.Omega.{arith}
use lib.ListN.{get_or}
use Rattle.schema.proofs.Bits.{states_below}
use Rattle.schema.proofs.LimitLaws.{all_members, passed, failed}
use Rattle.schema.proofs.limits.block_within.Goals as goal

pub returns-then-not-below : goal.returns-then-not-below
returns-then-not-below c =
    let below = states_below (get_or c.args.schema.now.states c.args.a 0) (get_or c.args.schema.now.accepting c.args.a 0) (omega arith) (c.requires.0 c.args.a) in
    (λ f. absurd f, λ w. absurd (failed c.below.result c.if-not-below.true-raw c.below.ensures (below.0 w.accepting_below)))

pub returns : goal.returns
returns c =
    let below = states_below (get_or c.args.schema.now.states c.args.a 0) (get_or c.args.schema.now.accepting c.args.a 0) (omega arith) (c.requires.0 c.args.a) in
    let steps = rw c.steps_in.ensures at c.steps_within.ensures in
    let all = all_members _ _ in (
      λ t. record {
        tag_below = omega arith;
        states_least = omega arith;
        states_most = omega arith;
        accepting_below = below.1 (passed c.below.result c.if-not-below.false-raw c.below.ensures);
        steps_within = all.0 (steps.0 t);
      },
      λ w. steps.1 (all.1 w.steps_within),
    )
