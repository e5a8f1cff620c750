-- What the types from a on leave is what all leave.
use Prim.Native.Nat.{ℕ, suc, ◌+◌, ◌-◌, ◌%◌, ◌≤◌, ◌<◌}
use mathlib.Core.Path.{◌≡◌}
use mathlib.Core.Bool.{Bool, false, cond}
use mathlib.Core.List.{List}
use native.Mathlib.Nat.{mod-eq_of_lt}
use native.Mathlib.Numerals.{add-one}
use native.Mathlib.Omega.{arith}
use lib.ListN.{get_or}
use Rattle.sdtd.specs.Limits.{most_types}
use Rattle.schema.specs.Spread.{join_type, join_marked}
use Rattle.schema.specs.declared.reach.Queued.{Queued}
use Rattle.schema.proofs.reach.Queued.join_marked.Goals as goal
use Rattle.schema.proofs.reach.Queued.join_marked.Goals.{then-is_marked, else-is_marked}

-- a turn takes the first of the types left
turn : (marked : List Bool) (a : ℕ) (x x' y : Queued) → a < most_types
    → x' ≡ cond (get_or marked a false) (join_type (a % most_types) x) x
    → join_marked marked a (most_types - a) x ≡ y → join_marked marked (a + 1) (most_types - (a + 1)) x' ≡ y
unfolding join_marked
turn marked a x x' y l e h =
    let left : most_types - a ≡ suc (most_types - suc a) = omega arith in
    let own : a % most_types ≡ a = mod-eq_of_lt l in
    rw (add-one, e, own) (rw left at h)

-- at the end none is left
done : (marked : List Bool) (a : ℕ) (x y : Queued) → most_types ≤ a → join_marked marked a (most_types - a) x ≡ y → x ≡ y
unfolding join_marked
done marked a x y l h = let none : most_types - a ≡ 0 = omega arith in rw none at h

pub loop-a-preserved : goal.loop-a-preserved
loop-a-preserved c =
    turn _ _ _ _ _ (omega arith)
    (elim c.if-is_marked.branch [
      | then-is_marked w ↦ rw (w.if-is_marked.true, w.self-is) w.join.ensures
      | else-is_marked w ↦ rw (w.if-is_marked.false, w.self-is)
    ])
    c.loop-a.invariant

pub returns : goal.returns
returns c = done _ _ _ _ (omega arith) c.loop-a.invariant
