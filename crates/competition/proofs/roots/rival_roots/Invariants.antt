-- `competition::roots::rival_roots` meets its contract. The loop's invariant: no type before `i` has a rival after it.
use Prim.Native.Nat.{ℕ, ◌<◌}
use Rattle.competition.specs.Roots.{OpeningRivals}
use Rattle.competition.proofs.roots.rival_roots.Given as goal

abbrev pub invariant-loop-i : goal.invariant-loop-i
invariant-loop-i l = (n : ℕ) → n < l.i → (k : ℕ) → ¬ OpeningRivals l.opening l.tag n k
