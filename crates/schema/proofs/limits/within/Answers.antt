-- `schema::limits::within` meets its contract: each test is a part of `Checked`.
use native.Mathlib.Omega.{arith}
use Rattle.schema.proofs.LimitLaws.{within_means, passed, failed}
use Rattle.schema.proofs.limits.within.Goals as goal

pub returns-then-schema-eq0-clause-limits : goal.returns-then-schema-eq0-clause-limits
returns-then-schema-eq0-clause-limits c = (λ f. absurd f, λ w. let k = (within_means _ c.sets_fit.ensures).0 w in omega arith)

pub returns-then-schema-gt-TAGS-clause-limits : goal.returns-then-schema-gt-TAGS-clause-limits
returns-then-schema-gt-TAGS-clause-limits c = (λ f. absurd f, λ w. let k = (within_means _ c.sets_fit.ensures).0 w in omega arith)

pub returns-then-from-gt-TYPES-clause-limits : goal.returns-then-from-gt-TYPES-clause-limits
returns-then-from-gt-TYPES-clause-limits c = (λ f. absurd f, λ w. let k = (within_means _ c.sets_fit.ensures).0 w in omega arith)

pub returns-then-not-roots_within-clause-limits : goal.returns-then-not-roots_within-clause-limits
returns-then-not-roots_within-clause-limits c = (
  λ f. absurd f,
  λ w. failed c.roots_within.result c.if-not-roots_within.true-raw c.roots_within.ensures ((within_means _ c.sets_fit.ensures).0 w).roots,
)

pub returns-clause-limits : goal.returns-clause-limits
returns-clause-limits c =
    let is = within_means _ c.sets_fit.ensures in (
      λ t. is.1 (record {
        tags_least = omega arith;
        tags_most = omega arith;
        types_most = omega arith;
        roots = passed c.roots_within.result c.if-not-roots_within.false-raw c.roots_within.ensures;
        blocks = c.blocks_within.ensures.0 t;
      }),
      λ w. c.blocks_within.ensures.1 (is.0 w).blocks,
    )
