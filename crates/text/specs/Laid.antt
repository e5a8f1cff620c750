-- A text laid in a buffer.
use Rattle.std.specs.Prelude.{◌≡◌, List, ℕ, ◌+◌, min, max, length}
use Rattle.std.proofs.lemmas.List.Edits.{sets}

-- The buffer `is` holds the text from the place `at` on, as far as it fits, and its other bytes are as they were. The next place is past the
-- text, or the buffer's end where the text does not fit; a place past the end stays.
pub record Laid (was : List ℕ) (at : ℕ) (text is : List ℕ) (r : ℕ) : Type 0 where
  pub bytes : is ≡ sets was at text
  pub place : r ≡ max at (min (at + length text) (length was))
