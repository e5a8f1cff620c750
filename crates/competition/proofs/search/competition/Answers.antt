-- `competition::search::competition` meets its contract: each answer is that of the first question answered no.
use native.Mathlib.Omega.{arith}
use Rattle.competition.proofs.Answers.{competing_searched}
use Rattle.competition.proofs.search.competition.Goals as goal

pub returns-then-competes : goal.returns-then-competes
returns-then-competes c =
    let t = rw c.in-Some.is at c.trimmed.ensures in
    competing_searched _ _ (omega arith) t.0 (rw c.if-competes.true at c.competes.ensures)
