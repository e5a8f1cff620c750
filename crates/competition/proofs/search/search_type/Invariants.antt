-- `competition::search::search_type` meets its contract. The loop's invariant: the pairs before the place `at` are done.
-- The measure is what is left of the queue's places.
use Prim.Native.Nat.{◌-◌}
use Rattle.sdtd.specs.Limits.{most_pairs}
use Rattle.schema.specs.Rows.{row_of}
use Rattle.competition.specs.Marks.{marks}
use Rattle.competition.proofs.Queues.{SearchInv}
use Rattle.competition.proofs.search.search_type.Given as goal

abbrev pub invariant-loop-at : goal.invariant-loop-at
invariant-loop-at l = SearchInv (row_of l.rows.entries.now l.rows.begins.now l.a.0) l.at (marks l.reached l.queue)

abbrev pub decreases-loop-at : goal.decreases-loop-at
decreases-loop-at l = most_pairs - l.at
