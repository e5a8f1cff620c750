-- `competition::marks::Step::mark_with` meets its contract. The loop's invariant: what the entries before mark.
use mathlib.Core.Path.{◌≡◌}
use lib.ListN.{take}
use Rattle.std.specs.List.{fold}
use Rattle.competition.specs.Marks.{marks, mark_both}
use Rattle.competition.proofs.marks.Step.mark_with.Given as goal

abbrev pub invariant-loop-f : goal.invariant-loop-f
invariant-loop-f l = marks l.reached l.queue ≡ fold (mark_both l.e l.self.at) (marks l.initial.reached l.initial.queue) (take l.f-index l.row)
