-- What the private asks compute where a walk over an event file has ended: the openings that would be taken there.
use Rattle.std.specs.Prelude.{◌≡◌, Bool, false, is_some, ◌↔◌, ◌⊎◌, List, ℕ, ◌<◌, T, length, get_or}
use Rattle.sdtd.specs.Limits.{most_tags}
use Rattle.sdtd.specs.Tree.{Kind}
use Rattle.sdtd.specs.Schema.{Step}
use mathlib.Core.List.{Memᴰ}
use Rattle.schema.specs.declared.value.Schema.{Schema}
use Rattle.reading.specs.declared.stop.Between.{Between}
use Rattle.reading.specs.Coming.{Coming, step_taken}

-- a type comes next
abbrev pub comes : Coming → Bool
comes = is_some

-- of the tags that have an entry, those marked before are marked and those that the test says
pub record Marks (P : ℕ → Bool) (was is : List Bool) : Type 0 where
  pub entries : length is ≡ length was
  pub exactly : (g : ℕ) → g < most_tags → g < length was → T (get_or is g false) ↔ (T (get_or was g false) ⊎ T (P g))

-- the test holds of one of the steps
abbrev pub SomeStep : (Step → Bool) → List Step → Type 0
SomeStep P steps = (s : Step) × Memᴰ s steps × T (P s)

-- an entry for each tag says whether the test for it holds of one of the steps
pub record MarksSteps (P : ℕ → Step → Bool) (steps : List Step) (flags : List Bool) : Type 0 where
  pub entries : length flags ≡ most_tags
  pub exactly : (g : ℕ) → g < most_tags → T (get_or flags g false) ↔ SomeStep (P g) steps

-- the step is taken under the tag g
abbrev pub taken_by : Schema → List ℕ → Between → Kind → ℕ → Step → Bool
taken_by v ways among κ g s = step_taken v.tag ways among.own.0 among.states.0 κ g s
