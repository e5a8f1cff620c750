-- What the private search for a type that no valid document uses answers.
use Rattle.std.specs.Prelude.{Bool, false, List, ℕ, ◌<◌, T, get_or, Option, Some, None}

-- of the first n types the first that the table does not mark
abbrev pub FirstUnmarked : List Bool → ℕ → Option ℕ → Type 0
FirstUnmarked used n (Some r) = (r < n) × (¬ T (get_or used r false)) × ((a : ℕ) → a < r → T (get_or used a false))
FirstUnmarked used n None = (a : ℕ) → a < n → T (get_or used a false)
