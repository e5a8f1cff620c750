-- `competition::roots::rival_roots` meets its contract.
use Prim.Native.Nat.{ℕ}
use borrow.Author.Count.{below_more}
use Rattle.competition.specs.Roots.{OpeningRivals}
use Rattle.competition.proofs.roots.rival_roots.Goals as goal

pub loop-i-preserved : goal.loop-i-preserved
loop-i-preserved c =
    below_more (λ n. (k : ℕ) → ¬ OpeningRivals c.args.opening.now c.args.tag.now n k) c.loop-i.i c.loop-i.invariant
    (rw c.in_default.is at c.rival_after.ensures)
