-- `pairtable::lay_lines` meets its contract. The loop's invariant: with the lines of the numbers that are left the page is what all of them make of it.
use mathlib.Core.Path.{◌≡◌}
use lib.ListN.{drop}
use Rattle.text.specs.Page.{sheet, laid}
use Rattle.pairtable.specs.Lines.{lines_of}
use Rattle.pairtable.proofs.lay_lines.Given as goal

abbrev pub invariant-loop-n : goal.invariant-loop-n
invariant-loop-n l =
    (l.page.out.ghost_name ≡ l.initial.page.out.ghost_name)
    × (laid (sheet l.page) (lines_of (drop l.n-index l.numbers)) ≡ laid (sheet l.initial.page) (lines_of l.numbers))
