-- The questions about a schema and its witness buffer, each by name; the refusal is that of the call that asks.
use Rattle.std.specs.Prelude.{List, ℕ, ◌≤◌, length}
use Rattle.sdtd.specs.Limits.{least_witness}
use Rattle.sdtd.specs.Schema.{Schema, WithinLimits}
use Rattle.sdtd.specs.Trim.{SomeRootBears}
use Rattle.sdtd.specs.Competition.{Competition}
use Rattle.sdtd.specs.Answer.{Question, ask}

-- "Has the witness buffer at least 532 bytes?"
abbrev pub buffer_asked : {A : Type 0} → A → List ℕ → Question A
buffer_asked refusal buffer = ask refusal (least_witness ≤ length buffer)

-- is the schema inside the limits?
abbrev pub limits_asked : {A : Type 0} → A → Schema → Question A
limits_asked refusal S = ask refusal (WithinLimits S)

-- "The root question (8) holds if any root bears a tree."
abbrev pub root_asked : {A : Type 0} → A → Schema → Question A
root_asked refusal S = ask refusal (SomeRootBears S)

-- "Is there no competition?"
abbrev pub competition_asked : {A : Type 0} → A → Schema → Question A
competition_asked refusal S = ask refusal (¬ Competition S)
