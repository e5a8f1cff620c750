-- `report::expected_lines::put_open_lines` meets its contract. The loop's invariant: with the openings that are left the page is what all of them
-- make of it.
use mathlib.Core.Path.{◌≡◌}
use lib.ListN.{drop}
use Rattle.text.specs.Page.{sheet, laid}
use Rattle.report.specs.ExpectedText.{open_lines}
use Rattle.report.proofs.expected_lines.put_open_lines.Given as goal

abbrev pub invariant-loop-i : goal.invariant-loop-i
invariant-loop-i l =
    (l.page.out.ghost_name ≡ l.initial.page.out.ghost_name)
    × (laid (sheet l.page) (open_lines (drop l.i l.tags) (drop l.i l.nils)) ≡ laid (sheet l.initial.page) (open_lines l.tags l.nils))
