-- Lists that are gathered number by number, and lists that rise.
use Rattle.std.specs.Prelude.{List, [], ◌∷◌, ◌++◌, ℕ, zero, suc}

-- what f gives of each of the n numbers from s on, in order
unfoldable pub of_each : {A : Type 0} → (ℕ → List A) → ℕ → ℕ → List A
of_each f s zero = []
of_each f s (suc n) = f s ++ of_each f (suc s) n

-- each is in the relation to the next; of a strict order none stands twice then
abbrev pub RisingFrom : {A : Type 0} → (A → A → Type 0) → A → List A → Type 0
RisingFrom R x [] = Unit
RisingFrom R x (y ∷ ys) = R x y × RisingFrom R y ys

abbrev pub Rising : {A : Type 0} → (A → A → Type 0) → List A → Type 0
Rising R [] = Unit
Rising R (x ∷ xs) = RisingFrom R x xs
