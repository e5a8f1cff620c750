-- Sets of states as numbers: bit s is set where the state s is in the set.
use Rattle.std.specs.Prelude.{Bool, false, cond, ◌&&◌, ◌||◌, List, [], ◌∷◌, ◌++◌, ℕ, zero, suc, ◌+◌, ◌/◌, ◌%◌, ◌^◌, eqb, ltb}
use Rattle.sdtd.specs.Limits.{most_states}

-- the state s is in the set x; no state of `most_states` or more is in a set below 2 ^ most_states
abbrev pub member : ℕ → ℕ → Bool
member s x = eqb (x / 2 ^ s % 2) 1

-- the set x with the state s; unchanged for a state of `most_states` or more
unfoldable pub insert : ℕ → ℕ → ℕ
insert s x = cond (ltb s most_states) (cond (member s x) x (x + 2 ^ s)) x

-- a state below n is in both sets
unfoldable pub meet_below : ℕ → ℕ → ℕ → Bool
meet_below zero x y = false
meet_below (suc n) x y = (member n x && member n y) || meet_below n x y

-- the two sets have a state in common
abbrev pub meet : ℕ → ℕ → Bool
meet x y = meet_below most_states x y

-- "the set of no states and the set of only state 0 are named values"
abbrev pub no_states : ℕ
no_states = 0

abbrev pub only_start : ℕ
only_start = 1

-- the states of the set below n, rising
unfoldable pub members_below : ℕ → ℕ → List ℕ
members_below zero x = []
members_below (suc n) x = members_below n x ++ cond (member n x) (n ∷ []) []

-- the states of the set, rising
abbrev pub members : ℕ → List ℕ
members x = members_below most_states x
