-- Numbers put into a table.
use Rattle.std.specs.Prelude.{List, [], ◌∷◌, ℕ, suc, set}

-- numbers put into a table from the place `at` on
unfoldable pub put_all : List ℕ → ℕ → List ℕ → List ℕ
put_all [] at t = t
put_all (x ∷ xs) at t = put_all xs (suc at) (set t at x)
