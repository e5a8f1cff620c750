-- `competition::roots::rival_after` meets its contract. The loop's invariant: no type before `k` is a rival of j.
use Prim.Native.Nat.{ℕ, ◌<◌}
use Rattle.competition.specs.Roots.{OpeningRivals}
use Rattle.competition.proofs.roots.rival_after.Given as goal

abbrev pub invariant-loop-k : goal.invariant-loop-k
invariant-loop-k l = (n : ℕ) → n < l.k → ¬ OpeningRivals l.opening l.tag l.first n
