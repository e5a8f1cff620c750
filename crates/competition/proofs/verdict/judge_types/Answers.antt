-- `competition::verdict::judge_types` meets its contract: each answer is that of the first question answered no.
use Prim.Native.Nat.{◌≤◌}
use native.Mathlib.Omega.{arith}
use lib.ListN.{length}
use Rattle.sdtd.specs.Limits.{least_witness}
use Rattle.sdtd.specs.Trim.{SomeRootBears}
use Rattle.schema.specs.Value.{meaning}
use Rattle.schema.proofs.Values.{types_count}
use Rattle.schema.proofs.UsedTables.{used_exactly}
use Rattle.competition.proofs.RootLaws.{some_opens}
use Rattle.competition.proofs.JudgedSchemas.{treeless_judged, unused_judged, competing_judged, restrained_judged}
use Rattle.competition.proofs.verdict.judge_types.Goals as goal

pub returns-then-not-some_opens : goal.returns-then-not-some_opens
returns-then-not-some_opens c =
    let t = rw c.in-Some.is at c.trimmed.ensures in
    let long : least_witness ≤ length c.args.witness.now = omega arith in
    treeless_judged _ _ c.args.n long t.0
    (λ b. let o = c.some_opens.ensures.1 ((some_opens _ t.0 c.opening_types-opening.ensures).1 b) in absurd (cc))

pub first_unused-requires : goal.first_unused-requires
first_unused-requires c =
    let t = rw c.in-Some.is at c.trimmed.ensures in
    omega (arith, t.0.types_most, types_count c.args.schema.now, c.requires)

pub overflow_cast-result : goal.overflow_cast-result
overflow_cast-result c =
    let t = rw c.in-Some.is at c.trimmed.ensures in
    let u = rw c.in-Some-first_unused.is at c.first_unused.ensures in
    omega (arith, u.0, t.0.types_most, types_count c.args.schema.now, c.requires)

pub returns-in-Some-first_unused : goal.returns-in-Some-first_unused
returns-in-Some-first_unused c =
    let t = rw c.in-Some.is at c.trimmed.ensures in
    let long : least_witness ≤ length c.args.witness.now = omega arith in
    let bears : SomeRootBears (meaning c.args.schema.now) = (some_opens _ t.0 c.opening_types-opening.ensures).0 (c.some_opens.ensures.0 c.if-not-some_opens.false) in
    let u = rw (c.used_in-used.ensures, c.in-Some-first_unused.is) at c.first_unused.ensures in
    unused_judged _ _ c.args.n long t.0 bears _ (used_exactly _ t.0 t.1) _ u

pub competes-requires : goal.competes-requires
competes-requires c =
    let t = rw c.in-Some.is at c.trimmed.ensures in
    (t.0, t.1, c.opening_types-opening.ensures, t.2, omega arith)

pub returns-then-competes : goal.returns-then-competes
returns-then-competes c =
    let t = rw c.in-Some.is at c.trimmed.ensures in
    let long : least_witness ≤ length c.args.witness.now = omega arith in
    let bears : SomeRootBears (meaning c.args.schema.now) = (some_opens _ t.0 c.opening_types-opening.ensures).0 (c.some_opens.ensures.0 c.if-not-some_opens.false) in
    let u = rw (c.used_in-used.ensures, c.in_default-first_unused.is) at c.first_unused.ensures in
    competing_judged _ _ c.args.n long t.0 bears _ (used_exactly _ t.0 t.1) u (rw c.if-competes.true at c.competes.ensures)

pub returns : goal.returns
returns c =
    let t = rw c.in-Some.is at c.trimmed.ensures in
    let long : least_witness ≤ length c.args.witness.now = omega arith in
    let bears : SomeRootBears (meaning c.args.schema.now) = (some_opens _ t.0 c.opening_types-opening.ensures).0 (c.some_opens.ensures.0 c.if-not-some_opens.false) in
    let u = rw (c.used_in-used.ensures, c.in_default-first_unused.is) at c.first_unused.ensures in
    restrained_judged _ _ c.args.n long t.0 bears _ (used_exactly _ t.0 t.1) u (rw c.if-competes.false at c.competes.ensures)
