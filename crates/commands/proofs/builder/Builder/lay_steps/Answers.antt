use mathlib.Core.Path.{refl}
use native.Mathlib.Omega.{arith}
use lib.ListN.{get_or}
use Rattle.sdtd.specs.Limits.{most_types}
use Rattle.sdtd.specs.Lists.{of_each}
use Rattle.commands.specs.Laying.{laid_from}
use Rattle.commands.proofs.Drafts.{zeros_empty}
use Rattle.sdtd.proofs.EachLaws.{each_more}
use Rattle.commands.proofs.LayingLaws.{laid_nothing, laid_both}
use Rattle.commands.proofs.builder.Builder.lay_steps.Goals as goal

pub loop-p-init : goal.loop-p-init
unfolding of_each
loop-p-init c = (laid_nothing _ (omega arith), refl, λ k. zeros_empty most_types k (omega arith))

pub loop-p-preserved : goal.loop-p-preserved
loop-p-preserved c =
    let e = rw c.from.ensures at c.lay_from.ensures in
    (rw (each_more (λ k. laid_from c.args.read.now.types k (get_or c.args.read.now.next k 0)) c.loop-p.p) (laid_both _ _ c.loop-p.invariant.0 e.0), e.1, e.2)
