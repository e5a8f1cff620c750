-- The lines of what would have been taken, one after another.
use mathlib.Core.Path.{◌≡◌}
use mathlib.Core.Bool.{Bool, false}
use mathlib.Core.List.{List}
use Prim.Native.Nat.{ℕ, suc, ◌+◌, ◌≤◌, ◌<◌}
use native.Mathlib.Numerals.{add-one}
use lib.ListN.{length, drop, get_or, drop_of_length-le}
use native.Mathlib.Omega.{arith}
use lib.Seq.{drop-cons}
use Rattle.text.specs.Page.{Sheet, laid}
use Rattle.text.proofs.PageLaws.{laid_append, laid_none}
use Rattle.report.specs.Words.{space}
use Rattle.report.specs.Text.{numbered}
use Rattle.report.specs.ExpectedText.{spaced, open_line, open_lines}

-- the next type is laid, and those that are left after it
pub spaced_next : (p : Sheet) (types : List ℕ) (i : ℕ) → i < length types
    → laid p (spaced (drop i types)) ≡ laid (laid p (numbered space (get_or types i 0))) (spaced (drop (i + 1) types))
spaced_next p types i h =
    rw (add-one i, drop-cons types i 0) (laid_append p (numbered space (get_or types i 0)) (spaced (drop (suc i) types)))

-- no type is left
pub spaced_end : (p : Sheet) (types : List ℕ) (i : ℕ) → length types ≤ i → laid p (spaced (drop i types)) ≡ p
spaced_end p types i h = rw (drop_of_length-le types h) (laid_none p)

-- the line of the next opening is laid, and those that are left after it
pub open_next : (p : Sheet) (tags : List ℕ) (nils : List Bool) (i : ℕ) → i < length tags → length tags ≡ length nils
    → laid p (open_lines (drop i tags) (drop i nils))
    ≡ laid (laid p (open_line (get_or nils i false) (get_or tags i 0))) (open_lines (drop (i + 1) tags) (drop (i + 1) nils))
open_next p tags nils i h q =
    let k : i < length nils = omega arith in
    rw (add-one i, drop-cons tags i 0, drop-cons nils i false)
    (laid_append p (open_line (get_or nils i false) (get_or tags i 0)) (open_lines (drop (suc i) tags) (drop (suc i) nils)))

-- no opening is left
pub open_end : (p : Sheet) (tags : List ℕ) (nils : List Bool) (i : ℕ) → length tags ≤ i → laid p (open_lines (drop i tags) (drop i nils)) ≡ p
open_end p tags nils i h = rw (drop_of_length-le tags h) (laid_none p)
