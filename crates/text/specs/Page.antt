-- A text laid on a page.
use Rattle.std.specs.Prelude.{◌≡◌, List, ℕ, ◌+◌, min, max, length}
use Rattle.std.proofs.lemmas.List.Edits.{sets}
use Rattle.text.specs.declared.page.Page.{Page}

-- the largest count
abbrev pub most_counted : ℕ
most_counted = 0xffff_ffff_ffff_ffff

-- what a page has: its buffer's bytes, and the place where its next text goes
pub record Sheet : Type 0 where
  pub bytes : List ℕ
  pub at : ℕ

abbrev pub sheet_of : List ℕ → ℕ → Sheet
sheet_of bytes at = record { bytes = bytes; at = at }

abbrev pub sheet : Page → Sheet
sheet p = sheet_of p.out.now p.at

-- The text is laid from the place on, as far as it fits, and the other bytes are as they were. The next place counts the bytes whether they fit
-- or not; a count that would pass the largest stays there (no buffer is longer than that).
unfoldable pub laid : Sheet → List ℕ → Sheet
laid p text = sheet_of (sets p.bytes p.at text) (max p.at (min (p.at + length text) (max most_counted (length p.bytes))))

-- The page `is` stands over the same buffer as `was`, and the text is laid on it.
abbrev pub Lays : Page → List ℕ → Page → Type 0
Lays was text is = (is.out.ghost_name ≡ was.out.ghost_name) × (sheet is ≡ laid (sheet was) text)
