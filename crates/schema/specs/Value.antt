-- The schema that a value states: total, whatever the value.
use Rattle.std.specs.Prelude.{false, List, [], ◌∷◌, map, ℕ, zero, suc, ◌+◌, ◌^◌, ◌<◌, get_or, take}
use Rattle.sdtd.specs.Schema.{Step, Block}
use Rattle.sdtd.specs.Schema.{Schema as Meaning}
use Rattle.schema.specs.States.{members}
use Rattle.sdtd.specs.Limits.{most_states}
use Rattle.schema.specs.declared.value.Schema.{Schema}

-- n numbers from s on
unfoldable pub up_from : ℕ → ℕ → List ℕ
up_from s zero = []
up_from s (suc n) = s ∷ up_from (suc s) n

-- the step at the place i
abbrev pub step_at : List ℕ → List ℕ → List ℕ → ℕ → Step
step_at from by to i = record { from = get_or from i 0; by = get_or by i 0; to = get_or to i 0 }

-- the n steps from the place s on
unfoldable pub steps_of : List ℕ → List ℕ → List ℕ → ℕ → ℕ → List Step
steps_of from by to s n = map (step_at from by to) (up_from s n)

abbrev pub total : List ℕ → ℕ
total [] = 0
total (n ∷ ns) = n + total ns

-- the place of the first step of the type a, where `steps` has the count of each type's
abbrev pub offset : List ℕ → ℕ → ℕ
offset steps a = total (take a steps)

-- what the value says of the type a
unfoldable pub block_at : Schema → ℕ → Block
block_at v a =
    record {
      tag = get_or v.tag a 0;
      nillable = get_or v.nillable a false;
      states = get_or v.states a 0;
      accepting = members (get_or v.accepting a 0);
      steps = steps_of v.from v.by v.to (offset v.steps a) (get_or v.steps a 0);
    }

-- the first n entries of the table of roots
unfoldable pub roots_of : List ℕ → ℕ → List ℕ
roots_of table n = map (λ i. get_or table i 0) (up_from 0 n)

-- The schema that the value states. A count past the end of its table reads zeros there, so no count is lost.
unfoldable pub meaning : Schema → Meaning
meaning v = record { tags = v.tags; blocks = map (block_at v) (up_from 0 v.types); roots = roots_of v.root v.roots }

-- Each type's accepting states are a set of states. It is so of every value; it is promised since elements behind a reference are not known to fit
-- their type.
abbrev pub SetsFit : Schema → Type 0
SetsFit v = (a : ℕ) → get_or v.accepting a 0 < 2 ^ most_states
