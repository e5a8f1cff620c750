-- By which kinds of opening a type bears a tree, as one number: 0 neither, 1 plainly, 2 both, 3 as nil. Those of one kind are neighbours, so that one
-- sum tests an entry's tag and kind (`rotated` of `reading`).
use Rattle.std.specs.Prelude.{Bool, ◌&&◌, ◌||◌, ◌↔◌, List, ℕ, ◌<◌, T, ltb, get_or}
use Rattle.sdtd.specs.Schema.{Schema}
use Rattle.sdtd.specs.Tree.{Kind, plain, nil}
use Rattle.sdtd.specs.Trim.{BearsBy}

-- there are so many such numbers
abbrev pub most_ways : ℕ
most_ways = 4

-- the number says: by this kind
abbrev pub opens_by : Kind → ℕ → Bool
opens_by plain w = ltb 0 w && ltb w 3
opens_by nil w = ltb 1 w && ltb w most_ways

-- the table of such numbers says that the type j bears a tree
abbrev pub bears_in : List ℕ → ℕ → Bool
bears_in table j = opens_by plain (get_or table j 0) || opens_by nil (get_or table j 0)

-- the number is that of the type j
pub record WaysFor (S : Schema) (j w : ℕ) : Type 0 where
  pub few : w < most_ways
  pub exact : (κ : Kind) → T (opens_by κ w) ↔ BearsBy S κ j
