-- The openings that flags list: rising by tag, plain before nil.
use Rattle.std.specs.Prelude.{Bool, false, cond, List, [], ◌∷◌, ◌++◌, map, ℕ, ◌+◌, length, get_or, set}
use Rattle.sdtd.specs.Limits.{most_tags}
use Rattle.sdtd.specs.Lists.{of_each}
use Rattle.sdtd.specs.Tree.{Kind, plain, nil}
use Rattle.expected.specs.declared.list.Listing.{Listing}
use Rattle.expected.specs.Expected.{Listed, most_openings, padded, as_nil}

abbrev pub listed : Kind → ℕ → Listed
listed κ g = record { kind = κ; tag = g }

-- the opening, if the flag says so
abbrev pub listed_if : Bool → Kind → ℕ → List Listed
listed_if on κ g = cond on (listed κ g ∷ []) []

-- the openings of a tag
abbrev pub listed_of : (Kind → ℕ → Bool) → ℕ → List Listed
listed_of on g = listed_if (on plain g) plain g ++ listed_if (on nil g) nil g

-- those of the tags below n
abbrev pub listed_below : (Kind → ℕ → Bool) → ℕ → List Listed
listed_below on n = of_each (listed_of on) 0 n

-- those of every tag
abbrev pub listed_by : (Kind → ℕ → Bool) → List Listed
listed_by on = listed_below on most_tags

-- the flags of two tables by tags, of plain openings and of those as nil
abbrev pub flags_in : List Bool → List Bool → Kind → ℕ → Bool
flags_in opens nils plain g = get_or opens g false
flags_in opens nils nil g = get_or nils g false

-- a list of openings as a value
abbrev pub listing : List Listed → Listing
listing xs =
    record {
      count = length xs;
      tags = padded most_openings 0 (map (λ (x : Listed). x.tag) xs);
      nils = padded most_openings false (map (λ (x : Listed). as_nil x.kind) xs);
    }

-- the value with one opening more, if the flag says so
abbrev pub with_opening : Listing → Bool → ℕ → Bool → Listing
with_opening l on g flag =
    cond on (record { count = l.count + 1; tags = set l.tags l.count g; nils = set l.nils l.count flag }) l
