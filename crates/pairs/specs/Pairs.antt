-- Pair numbers as an answer.
use Rattle.std.specs.Prelude.{cond, ◌&&◌, ℕ, ltb, Option, Some, None}
use Rattle.sdtd.specs.Limits.{most_states}
use Rattle.sdtd.specs.Competition.{pair_number}

-- the number of the pair, where both are states
abbrev pub pair_answer : ℕ → ℕ → Option ℕ
pair_answer s t = cond (ltb s most_states && ltb t most_states) (Some (pair_number s t)) None
