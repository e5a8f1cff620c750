-- The states of a set, one after another.
use Rattle.std.specs.Prelude.{List, ℕ}
use Rattle.schema.specs.States.{members}
use Rattle.schema.specs.declared.state_set.States.{States}

-- the states that are still to come, rising
abbrev pub states_left : States → List ℕ
states_left s = members s.rest
