-- The loop's invariant: what lays the steps that are left, lays all.
use mathlib.Core.Path.{◌≡◌, ap, ◌∙◌}
use mathlib.Core.List.{[], ◌∷◌}
use Rattle.sdtd.specs.Schema.{step}
use Rattle.schema.specs.StatesLeft.{states_left}
use Rattle.schema.specs.States.{members}
use Rattle.commands.proofs.LayingLaws.{laid_members, laid_nothing, laid_both, laid_most}
use Rattle.commands.proofs.builder.Builder.lay_by.Goals as goal

pub loop-q-init : goal.loop-q-init
loop-q-init c =
    let all : states_left c.into_iter-q-iterator.result ≡ members c.args.set = ap states_left c.into_iter-q-iterator.ensures.into_iter_gives ∙ c.states-q-items.ensures in
    (c.requires, λ s h. rw (laid_members c.args.p c.args.j c.args.set, ← all) h)

pub loop-q-preserved : goal.loop-q-preserved
loop-q-preserved c =
    let a = c.args in
    (laid_most _ c.put_step.ensures, λ s h. c.loop-q.invariant.1 s (rw c.in-Some.ensures.steps (laid_both (step a.p a.j c.in-Some.q ∷ []) _ c.put_step.ensures h)))

pub returns : goal.returns
returns c = c.loop-q.invariant.1 _ (rw c.in-None.ensures.steps.0 (laid_nothing _ c.loop-q.invariant.0))
