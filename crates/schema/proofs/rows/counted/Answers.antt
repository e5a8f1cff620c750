-- What is left of the steps, put after the entries kept so far, makes the whole.
use mathlib.Core.Path.{◌≡◌, refl, sym, ap, ◌∙◌}
use mathlib.Core.Bool.{Bool, true, false, cond}
use mathlib.Core.List.{List, [], ◌∷◌}
use Prim.Native.Nat.{ℕ, ◌+◌}
use native.Mathlib.Omega.{arith}
use lib.ListN.{length, set}
use Rattle.sdtd.specs.Schema.{Step}
use Rattle.schema.specs.Steps.{left}
use Rattle.schema.specs.Putting.{put_all}
use Rattle.schema.specs.RowMaking.{counts_by, entry_by, counted}
use Rattle.schema.proofs.Values.{steps_count}
use Rattle.schema.proofs.PuttingLaws.{Putting, put_part, put_none, counted-cons}
use Rattle.schema.proofs.rows.counted.Goals as goal

module _ (tag ways : List ℕ) (own : ℕ) (ss rest : List Step) (s : Step) (n : ℕ) (kept whole : List ℕ) (last : ℕ) (e : ss ≡ s ∷ rest)
    (h : Putting (counted tag ways own ss) n kept whole last) where
  -- a turn keeps the next of the steps left, if it counts
  turn : (b : Bool) → counts_by ways own s ≡ b
      → Putting (counted tag ways own rest) (n + length (cond b (entry_by tag ways s ∷ []) [])) (put_all (cond b (entry_by tag ways s ∷ []) []) n kept) whole last
  turn b is = rw (← is) (put_part _ (counted tag ways own rest) (rw (e, counted-cons) at h))

  kept_one : counts_by ways own s ≡ true → Putting (counted tag ways own rest) (n + 1) (set kept n (entry_by tag ways s)) whole last
  unfolding put_all
  kept_one is = turn true is

  kept_none : counts_by ways own s ≡ false → Putting (counted tag ways own rest) n kept whole last
  unfolding put_all
  kept_none is = let same : n + 0 ≡ n = omega arith in rw same at (turn false is)

pub loop-step-init : goal.loop-step-init
loop-step-init c =
    let v = c.args.schema.now in
    let is = ap left c.into_iter-step-iterator.ensures.into_iter_gives ∙ c.steps_in-step-items.ensures in
    (omega (arith, ap length is, steps_count v.from v.by v.to c.args.span.start c.args.span.n), rw is (record { same = refl; ends = omega arith }))

pub bounds-kept-n : goal.bounds-kept-n
bounds-kept-n c = omega (arith, c.loop-step.invariant.0, ap length c.in-Some.ensures.steps)

pub loop-step-preserved-then-counts : goal.loop-step-preserved-then-counts
loop-step-preserved-then-counts c =
    let i = c.loop-step.invariant in (
      omega (arith, i.0, ap length c.in-Some.ensures.steps),
      rw c.entry_for-entry.ensures (kept_one _ _ _ _ _ _ _ _ _ _ c.in-Some.ensures.steps i.1 (sym c.counts.ensures ∙ c.if-counts.true)),
    )

pub loop-step-preserved : goal.loop-step-preserved
loop-step-preserved c =
    let i = c.loop-step.invariant in (
      omega (arith, i.0, ap length c.in-Some.ensures.steps),
      kept_none _ _ _ _ _ _ _ _ _ _ c.in-Some.ensures.steps i.1 (sym c.counts.ensures ∙ c.if-counts.false),
    )

pub returns : goal.returns
unfolding counted
returns c = put_none (rw c.in-None.ensures.steps.0 at c.loop-step.invariant.1)
