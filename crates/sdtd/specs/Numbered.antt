-- The code's tags and types by their numbers. The definitions take the numbers; in the code the two types keep them apart.
use Rattle.std.specs.Prelude.{ℕ}
use Rattle.sdtd.specs.declared.Tag.{Tag}
use Rattle.sdtd.specs.declared.TypeNo.{TypeNo}

-- the tag with the number g
abbrev pub tag_no : ℕ → Tag
tag_no g = record { 0 = g }

-- the type with the number j
abbrev pub type_no : ℕ → TypeNo
type_no j = record { 0 = j }
