-- What is left of the steps, over the marks and the queue so far, gives what all of them give.
use Prim.Native.Nat.{ℕ, ◌%◌}
use mathlib.Core.Path.{◌≡◌, refl, sym, ◌∙◌}
use mathlib.Core.Bool.{cond}
use mathlib.Core.List.{List, [], ◌∷◌}
use Rattle.sdtd.specs.Limits.{most_types}
use Rattle.sdtd.specs.Schema.{Step}
use Rattle.schema.specs.Spread.{reaches, join_type, reach_steps}
use Rattle.schema.specs.declared.reach.Queued.{Queued}
use Rattle.schema.proofs.reach.Queued.join_reached.Goals as goal

-- a turn takes the first of the steps left
turn : (ways : List ℕ) (forward live : ℕ) (ss rest : List Step) (s : Step) (x x' y : Queued) → ss ≡ s ∷ rest
    → x' ≡ cond (reaches ways forward live s) (join_type (s.by % most_types) x) x
    → reach_steps ways forward live ss x ≡ y → reach_steps ways forward live rest x' ≡ y
unfolding reach_steps
turn ways forward live ss rest s x x' y e q h = rw q (rw e at h)

-- at the end none is left
done : (ways : List ℕ) (forward live : ℕ) (ss : List Step) (x y : Queued) → ss ≡ [] → reach_steps ways forward live ss x ≡ y → x ≡ y
unfolding reach_steps
done ways forward live ss x y e h = rw e at h

pub loop-step-preserved-then-reaches : goal.loop-step-preserved-then-reaches
loop-step-preserved-then-reaches c =
    turn _ _ _ _ _ _ _ _ _ c.in-Some.ensures.steps (rw (sym c.reaches.ensures ∙ c.if-reaches.true) c.join.ensures) c.loop-step.invariant

pub loop-step-preserved : goal.loop-step-preserved
loop-step-preserved c =
    turn _ _ _ _ _ _ _ _ _ c.in-Some.ensures.steps (rw (sym c.reaches.ensures ∙ c.if-reaches.false) refl) c.loop-step.invariant

pub returns : goal.returns
returns c = done _ _ _ _ _ _ c.in-None.ensures.steps.0 c.loop-step.invariant
