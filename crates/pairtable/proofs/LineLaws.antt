-- The lines of numbers, one after another on a page.
use mathlib.Core.Path.{◌≡◌}
use mathlib.Core.List.{List}
use Prim.Native.Nat.{ℕ, suc, ◌+◌, ◌≤◌, ◌<◌}
use native.Mathlib.Numerals.{add-one}
use lib.ListN.{length, drop, get_or, drop_of_length-le}
use lib.Seq.{drop-cons}
use Rattle.text.specs.Page.{Sheet, laid}
use Rattle.text.proofs.PageLaws.{laid_append, laid_none}
use Rattle.pairtable.specs.Lines.{line_of, lines_of}

-- the next number's line is laid, and those that are left after it
pub lines_next : (p : Sheet) (numbers : List ℕ) (i : ℕ) → i < length numbers
    → laid p (lines_of (drop i numbers)) ≡ laid (laid p (line_of (get_or numbers i 0))) (lines_of (drop (i + 1) numbers))
lines_next p numbers i h =
    rw (add-one i, drop-cons numbers i 0) (laid_append p (line_of (get_or numbers i 0)) (lines_of (drop (suc i) numbers)))

-- no number is left
pub lines_end : (p : Sheet) (numbers : List ℕ) (i : ℕ) → length numbers ≤ i → laid p (lines_of (drop i numbers)) ≡ p
lines_end p numbers i h = rw (drop_of_length-le numbers h) (laid_none p)
