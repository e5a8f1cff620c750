-- A constant table of 1,024 numbers, one for each ordered pair of states: its pair's number, whichever state comes first.
use Rattle.std.specs.Prelude.{◌≡◌, List, ℕ, ◌+◌, ◌*◌, ◌<◌, length, get_or}
use Rattle.sdtd.specs.Limits.{most_states}
use Rattle.sdtd.specs.Competition.{pair_number}

-- the 1,024 ordered pairs of 32 states
abbrev pub ordered_pairs : ℕ
ordered_pairs = most_states * most_states

-- where the entry of the states s and t stands: "rising by first state, then second"
abbrev pub pair_place : ℕ → ℕ → ℕ
pair_place s t = most_states * s + t

-- The numbers are that table: an entry for each ordered pair and no more, and each is its pair's number.
pub record PairTable (numbers : List ℕ) : Type 0 where
  pub size : length numbers ≡ ordered_pairs
  pub rule : (s t : ℕ) → s < most_states → t < most_states → get_or numbers (pair_place s t) 0 ≡ pair_number s t
