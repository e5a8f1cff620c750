-- The types from a on fit exactly when all do.
use native.Mathlib.Omega.{arith}
use borrow.Author.Rules.{rules}
use Rattle.schema.proofs.LimitLaws.{stops, goes_on, blocks_none, blocks_full, blocks_next}
use Rattle.schema.proofs.limits.blocks_within.Goals as goal

pub returns-then-start-n : goal.returns-then-start-n
returns-then-start-n c = (
  λ f. absurd f,
  λ w.
      let left = c.loop-a.invariant.1.1 w in
      omega (arith, blocks_full _ _ _ _ _ _ _ c.loop-a.a c.loop-a.start _ c.from-n.ensures (omega arith) left),
)

pub returns-then-not-block_within : goal.returns-then-not-block_within
returns-then-not-block_within c =
    stops c.block_within.result c.block_within.ensures (blocks_next _ _ _ _ _ _ _ c.loop-a.a c.loop-a.start _ c.from-n.ensures (omega arith) (omega arith))
    c.loop-a.invariant.1 c.if-not-block_within.true-raw

pub loop-a-preserved : goal.loop-a-preserved
loop-a-preserved c = (
  search rules,
  goes_on c.block_within.result c.block_within.ensures (blocks_next _ _ _ _ _ _ _ c.loop-a.a c.loop-a.start _ c.from-n.ensures (omega arith) (omega arith))
      c.loop-a.invariant.1 c.if-not-block_within.false-raw,
)

pub returns : goal.returns
returns c = (λ t. c.loop-a.invariant.1.0 (blocks_none _ _ _ _ _ _ _ _ _ (omega arith)), λ w. tt)
