-- The types before the place `at` of the queue are gone over.
use native.Mathlib.Numerals.{add-one}
use native.Mathlib.Omega.{arith}
use Rattle.schema.proofs.ReachLaws.{visited_first, visited_most, visited_next, visited_last}
use Rattle.schema.proofs.reach.reached_types.Goals as goal

pub loop-at-init : goal.loop-at-init
loop-at-init c = rw c.join_marked.ensures (visited_first _ _ _ _ _)

pub bounds-types-at : goal.bounds-types-at
bounds-types-at c = omega (arith, visited_most _ _ _ _ _ c.loop-at.invariant)

pub overflow_add-at : goal.overflow_add-at
overflow_add-at c = omega (arith, visited_most _ _ _ _ _ c.loop-at.invariant)

pub loop-at-smaller : goal.loop-at-smaller
loop-at-smaller c = omega (arith, visited_most _ _ _ _ _ c.loop-at.invariant)

pub loop-at-preserved : goal.loop-at-preserved
loop-at-preserved c = rw (add-one, c.join_reached.ensures, c.steps_in-steps.ensures, c.span_of.ensures, c.from-a.ensures) (visited_next _ _ _ _ _ c.loop-at.invariant (omega arith))

pub returns : goal.returns
returns c = visited_last _ _ _ _ _ c.loop-at.invariant (omega arith)
