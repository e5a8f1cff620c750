-- Answers as C lays them out, and what the exports hand back.
use Rattle.std.specs.Prelude.{◌≡◌}
use Rattle.sdtd.specs.Schema.{Schema as Meaning}
use Rattle.sdtd.specs.Document.{Event}
use Rattle.sdtd.specs.Answer.{Answer, refused, typed, taken}
use Rattle.reading.specs.Questions.{CallMeans, gives}
use Rattle.reading.specs.declared.value.Reading.{Reading}
use Rattle.engine_bench.specs.declared.Answer.{Answer as Numbers}

-- an answer as two numbers: 0 and the type; 1 and 0 for taken; 2 and a refusal's number
abbrev pub numbers_of : Answer → Numbers
numbers_of (typed j) = record { kind = 0; of = j }
numbers_of taken = record { kind = 1; of = 0 }
numbers_of (refused n) = record { kind = 2; of = n }

-- what the call x answers on the reading was, as numbers, and that the reading is follows
pub record Handed (S : Meaning) (was : Reading) (x : Event) (is : Reading) (a : Numbers) : Type 0 where
  pub answer : Answer
  pub means : CallMeans S was x (gives answer is)
  pub numbers : a ≡ numbers_of answer
