-- What the private searches of the roots answer. Tables have an entry for each type.
use Rattle.std.specs.Prelude.{◌≡◌, ◌↔◌, Bool, false, cond, List, map, ℕ, ◌<◌, T, get_or, Option, Some, None}
use Rattle.sdtd.specs.declared.TypeNo.{TypeNo}
use Rattle.sdtd.specs.Limits.{most_types}
use Rattle.sdtd.specs.Schema.{Schema}
use Rattle.sdtd.specs.Tree.{Kind, IsRoot}
use Rattle.sdtd.specs.Trim.{BearsBy}
use Rattle.sdtd.specs.Competition.{CompeteOutside}
use Rattle.schema.specs.Value.{up_from}
use Rattle.schema.specs.Ways.{opens_by, bears_in}
use Rattle.competition.specs.Rivals.{open_alike}
use Rattle.competition.specs.Search.{Written}
use Rattle.competition.specs.declared.rivals.Rivals.{Rivals}

-- the ways of the types that are marked as roots, and 0 for the others
abbrev pub ways_of_roots : List Bool → List ℕ → List ℕ
ways_of_roots roots ways = map (λ a. cond (get_or roots a false) (get_or ways a 0) 0) (up_from 0 most_types)

-- the table says exactly which types open a document and how: the root types that bear a tree opened so
abbrev pub OpensExactly : Schema → List ℕ → Type 0
OpensExactly S opening = (κ : Kind) (a : ℕ) → T (opens_by κ (get_or opening a 0)) ↔ (IsRoot S a × BearsBy S κ a)

-- a type opens a document
pub record SomeOpens (opening : List ℕ) : Type 0 where
  pub type : ℕ
  pub type_below : type < most_types
  pub opens : T (bears_in opening type)

-- j and k open a document alike and are of one tag, j < k
pub record OpeningRivals (opening tag : List ℕ) (j k : ℕ) : Type 0 where
  pub order : j < k
  pub second_below : k < most_types
  pub one_tag : get_or tag j 0 ≡ get_or tag k 0
  pub alike : T (open_alike (get_or opening j 0) (get_or opening k 0))

abbrev pub RivalAfterMeans : List ℕ → List ℕ → ℕ → Option TypeNo → Type 0
RivalAfterMeans opening tag j (Some k) = OpeningRivals opening tag j k.0
RivalAfterMeans opening tag j None = (k : ℕ) → ¬ OpeningRivals opening tag j k

abbrev pub RivalRootsMean : List ℕ → List ℕ → Option Rivals → Type 0
RivalRootsMean opening tag (Some r) = OpeningRivals opening tag r.first.0 r.second.0
RivalRootsMean opening tag None = (j k : ℕ) → ¬ OpeningRivals opening tag j k

-- two roots compete, and the buffer has a witness; or none do, and the buffer is as it was
pub record RootsCompeteMeans (S : Schema) (was is : List ℕ) (r : Bool) : Type 0 where
  pub compete : T r ↔ CompeteOutside S
  pub written : T r → Written S was is
  pub unchanged : ¬ T r → is ≡ was
