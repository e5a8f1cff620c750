-- Questions in order: a number and whether the answer is yes, for each.
use Rattle.std.specs.Prelude.{Bool, cond, List, [], ◌∷◌, ℕ}

-- the number of the first that is answered no; 0 where there is none
abbrev pub first_no : List (ℕ × Bool) → ℕ
first_no [] = 0
first_no (q ∷ qs) = cond q.1 (first_no qs) q.0
