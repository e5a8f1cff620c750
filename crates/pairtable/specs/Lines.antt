-- "A small program prints the table as it stands in the code, one decimal number a line".
use Rattle.std.specs.Prelude.{◌≡◌, List, [], ◌∷◌, ◌++◌, ℕ, ◌≤◌, length, take}
use Rattle.std.specs.Fmt.{decimal}
use Rattle.std.specs.List.{flat_map}
use Rattle.pairs.specs.Table.{PairTable}

-- a decimal number and the line's end
abbrev pub line_of : ℕ → List ℕ
line_of n = decimal n ++ 10 ∷ []

-- a line for each number
abbrev pub lines_of : List ℕ → List ℕ
lines_of numbers = flat_map line_of numbers

-- the lines of the table's numbers, all of them
pub record IsTableText (text : List ℕ) : Type 0 where
  pub numbers : List ℕ
  pub table : PairTable numbers
  pub lines : text ≡ lines_of numbers

-- the first r bytes are the lines of the numbers, all of them
pub record TextOf (numbers bytes : List ℕ) (r : ℕ) : Type 0 where
  pub inside : r ≤ length bytes
  pub lines : take r bytes ≡ lines_of numbers
