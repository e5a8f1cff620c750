-- What the private checks of the limits ask.
use mathlib.Core.List.{List, Memᴰ}
use Rattle.std.specs.Prelude.{ℕ, zero, suc, ◌+◌, ◌^◌, ◌≤◌, ◌<◌, get_or}
use Rattle.sdtd.specs.Limits.{most_roots, most_states, most_steps}
use Rattle.sdtd.specs.Schema.{Step, StepWithin}
use Rattle.schema.specs.Value.{roots_of}

abbrev pub StepsWithin : ℕ → ℕ → List Step → Type 0
StepsWithin states types ss = (s : Step) → Memᴰ s ss → StepWithin states types s

-- one to eight roots, each below the number of types
pub record RootsWithin (table : List ℕ) (roots types : ℕ) : Type 0 where
  pub least : 1 ≤ roots
  pub most : roots ≤ most_roots
  pub below : (a : ℕ) → Memᴰ a (roots_of table roots) → a < types

-- a type's entries are inside the limits
pub record BlockFits (tag states accepting : ℕ) (steps : List Step) (tags types : ℕ) : Type 0 where
  pub tag_below : tag < tags
  pub states_least : 1 ≤ states
  pub states_most : states ≤ most_states
  pub accepting_below : accepting < 2 ^ states
  pub steps_within : StepsWithin states types steps

-- n types from the type a on, whose steps begin at the place s, are inside the limits
unfoldable pub BlocksFit : List ℕ → List ℕ → List ℕ → List ℕ → (ℕ → ℕ → List Step) → ℕ → ℕ → ℕ → ℕ → ℕ → Type 0
BlocksFit tag states accepting steps part tags types a s zero = Unit
BlocksFit tag states accepting steps part tags types a s (suc n) =
    (s + get_or steps a 0 ≤ most_steps)
    × BlockFits (get_or tag a 0) (get_or states a 0) (get_or accepting a 0) (part s (get_or steps a 0)) tags types
    × BlocksFit tag states accepting steps part tags types (suc a) (s + get_or steps a 0) n
