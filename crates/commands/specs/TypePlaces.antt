-- The places of the TYPE commands of any file, refused or not.
use Rattle.std.specs.Prelude.{Option, Some, None, List, [], ◌∷◌, ◌++◌, ℕ, zero, suc, ◌+◌, length, get_or}
use Rattle.command.specs.Command.{command_at, size}
use Rattle.command.specs.Cases.{on_type}
use Rattle.command.specs.declared.Command.{Command}

-- the place i if a TYPE stands there, and the rest after the command; nothing where there is none
abbrev pub places_on : ℕ → (ℕ → List ℕ) → Option Command → List ℕ
places_on i rest None = []
places_on i rest (Some c) = on_type (λ t s. i ∷ []) [] c ++ rest (i + size c)

-- the places of the TYPEs from the place i on, up to where no command stands; `fuel` is more than the bytes left
unfoldable pub places_from : ℕ → List ℕ → ℕ → List ℕ
places_from zero file i = []
places_from (suc fuel) file i =
    places_on i (places_from fuel file) (command_at file i)

-- those of the whole file
abbrev pub places_of_types : List ℕ → List ℕ
places_of_types file = places_from (suc (length file)) file 0

-- the place of the TYPE number a, from 0; 0 where there is none
abbrev pub place_of_type : List ℕ → ℕ → ℕ
place_of_type file a = get_or (places_of_types file) a 0
