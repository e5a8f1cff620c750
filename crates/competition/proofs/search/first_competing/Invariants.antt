-- `competition::search::first_competing` meets its contract. The loop's invariant: in no type before i do two compete.
use Prim.Native.Nat.{ℕ, ◌<◌}
use Rattle.schema.specs.Rows.{row_of}
use Rattle.competition.specs.Queue.{RestrainedIn}
use Rattle.competition.proofs.search.first_competing.Given as goal

abbrev pub invariant-loop-i : goal.invariant-loop-i
invariant-loop-i l = (c : ℕ) → c < l.i → RestrainedIn (row_of l.rows.entries.now l.rows.begins.now c) l.used c
