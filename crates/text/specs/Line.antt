-- A line's end.
use Rattle.std.specs.Prelude.{List, [], ◌∷◌, ℕ}

-- "Each line ends in byte 0A."
abbrev pub line_end : List ℕ
line_end = 0x0a ∷ []
