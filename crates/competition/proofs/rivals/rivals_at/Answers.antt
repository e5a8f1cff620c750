-- `competition::rivals::rivals_at` meets its contract.
use mathlib.Core.Path.{◌≡◌, sym, ◌∙◌}
use Prim.Native.Nat.{ℕ}
use native.Mathlib.Omega.{arith}
use borrow.Author.Count.{below_more}
use lib.ListN.{get_or}
use Rattle.std.proofs.lemmas.Grind.{get_or_default_zero}
use Rattle.competition.specs.Rivals.{IsRival}
use Rattle.competition.proofs.rivals.rivals_at.Goals as goal

pub loop-e-preserved : goal.loop-e-preserved
loop-e-preserved c =
    below_more (λ n. (k : ℕ) → ¬ IsRival c.args.right.now (get_or c.args.left.now n 0) k) c.loop-e.e-index c.loop-e.invariant
    (rw c.in_default.is at c.rival_in.ensures)

pub returns : goal.returns
returns c j k r =
    let s = r.stands in
    let is : get_or c.args.left.now s.0 0 ≡ r.entry = sym (get_or_default_zero c.args.left.now s.0 r.entry s.1) ∙ s.2 in
    c.loop-e.invariant s.0 (omega (arith, s.1)) k (rw is r.rival)
