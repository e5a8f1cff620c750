-- The limits of an expression, by name.
use Rattle.std.specs.Prelude.{ℕ}

-- "22 for more than 31 uses of 32"
abbrev pub most_uses : ℕ
most_uses = 31

-- "23 for brackets deeper than 16"
abbrev pub most_brackets : ℕ
most_brackets = 16
