-- The levels below n fit.
use Prim.Native.Nat.{ℕ, ◌<◌}
use lib.ListN.{get_or}
use Rattle.reading.specs.Coming.{LevelFits}
use Rattle.reading.proofs.value.Reading.levels_within.Given as goal

abbrev pub invariant-loop-n : goal.invariant-loop-n
invariant-loop-n l = (k : ℕ) → k < l.n → LevelFits l.types l.states (get_or l.self.types k 0) (get_or l.self.sets k 0)
