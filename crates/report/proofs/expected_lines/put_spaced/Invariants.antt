-- `report::expected_lines::put_spaced` meets its contract. The loop's invariant: with the types that are left the page is what all of them make of it.
use mathlib.Core.Path.{◌≡◌}
use lib.ListN.{drop}
use Rattle.text.specs.Page.{sheet, laid}
use Rattle.report.specs.ExpectedText.{spaced}
use Rattle.report.proofs.expected_lines.put_spaced.Given as goal

abbrev pub invariant-loop-t : goal.invariant-loop-t
invariant-loop-t l =
    (l.page.out.ghost_name ≡ l.initial.page.out.ghost_name)
    × (laid (sheet l.page) (spaced (drop l.t-index l.types)) ≡ laid (sheet l.initial.page) (spaced l.types))
