-- `competition::marks::Step::mark_rows` meets its contract. The loop's invariant: what the entries before mark.
use mathlib.Core.Path.{◌≡◌}
use lib.ListN.{take}
use Rattle.std.specs.List.{fold}
use Rattle.competition.specs.Marks.{marks, mark_with}
use Rattle.competition.proofs.marks.Step.mark_rows.Given as goal

abbrev pub invariant-loop-e : goal.invariant-loop-e
invariant-loop-e l = marks l.reached l.queue ≡ fold (mark_with l.fn.right l.self.at) (marks l.initial.reached l.initial.queue) (take l.e-index l.left)
