-- The loop's invariant: what lays the steps by the types that are left, lays all.
use mathlib.Core.Path.{refl, ◌∙◌}
use Prim.Native.Nat.{◌-◌, ◌<◌}
use native.Mathlib.Omega.{arith}
use lib.Bits.{and_le_r}
use lib.Count.{count_trailing_zeros}
use lib.Dec.{T}
use lib.ListN.{get_or, length-set}
use Rattle.sdtd.specs.Limits.{most_types}
use Rattle.schema.specs.States.{member}
use Rattle.schema.proofs.LowestState.{smallest_member, smallest_out}
use Rattle.expression.proofs.SetLaws.{member_zero}
use Rattle.commands.specs.Laying.{laid_by}
use Rattle.commands.proofs.LayingLaws.{members_none, members_next, laid_nothing, laid_both, laid_most}
use Rattle.commands.proofs.GroupLaws.{grouped_laid, left_same, done_empty}
use Rattle.commands.proofs.builder.Builder.lay_from.Goals as goal

pub loop-rest-init : goal.loop-rest-init
loop-rest-init c =
    let g = c.group-rest.ensures in
    let a = c.args in (
      g.below,
      c.requires.0,
      g.long,
      λ j m. refl,
      g.others,
      λ s h. rw (grouped_laid a.set a.p a.types.now c.group-rest.new.sets c.group-rest.result g) at h,
    )

pub loop-rest-preserved : goal.loop-rest-preserved
loop-rest-preserved c =
    let small : (count_trailing_zeros most_types c.loop-rest.rest < most_types) × T (member (count_trailing_zeros most_types c.loop-rest.rest) c.loop-rest.rest) = smallest_member most_types c.loop-rest.rest (omega arith) c.loop-rest.invariant.0 in
    let l = c.loop-rest in
    let x = l.rest in
    let j = count_trailing_zeros most_types x in
    let s = small in
    let out = smallest_out most_types x (omega arith) l.invariant.0 in
    let next = members_next most_types (λ j. laid_by c.args.p j (get_or c.group-rest.new.sets j 0)) x (omega arith) l.invariant.0 in
    let own = rw (l.invariant.3 j s.1) at c.lay_by.ensures in (
      omega (arith, and_le_r x (x - 1), l.invariant.0),
      laid_most _ c.lay_by.ensures,
      length-set l.sets j 0 ∙ l.invariant.2,
      rw out (left_same l.sets j x (omega (arith, l.invariant.2, s.0)) s.1 c.group-rest.new.sets l.invariant.3),
      rw out (done_empty l.sets j x (omega (arith, l.invariant.2, s.0)) s.1 l.invariant.4),
      λ s h. l.invariant.5 s (rw next (laid_both (laid_by c.args.p j (get_or c.group-rest.new.sets j 0)) _ own h)),
    )

pub returns : goal.returns
returns c =
    let l = c.loop-rest in
    let none = members_none most_types (λ j. laid_by c.args.p j (get_or c.group-rest.new.sets j 0)) in (
      l.invariant.5 _ (rw (c.loop-rest-test.false, none) (laid_nothing _ l.invariant.1)),
      l.invariant.2,
      λ k. l.invariant.4 k (rw c.loop-rest-test.false (member_zero k)),
    )
