-- Which way sets grow along steps.
use Rattle.std.specs.Prelude.{List, ℕ, false, get_or, set}
use Rattle.sdtd.specs.Schema.{Step}
use Rattle.schema.specs.States.{member}
use Rattle.schema.specs.Value.{steps_of}
use Rattle.schema.specs.Spread.{spread_all, ways_of, ways_by}
use Rattle.schema.specs.declared.value.Schema.{Schema}
use Rattle.schema.specs.declared.spread.Way.{Way}
use Rattle.schema.specs.declared.spread.Way.TheVariants.{Back, Forth}

-- the step as it is taken on the way
abbrev pub along : Way → Step → Step
along Back s = s
along Forth s = record { from = s.to; by = s.by; to = s.from }

-- the n steps from the place s on, as they are taken
abbrev pub steps_by : Way → Schema → ℕ → ℕ → List Step
steps_by Back v = steps_of v.from v.by v.to
steps_by Forth v = steps_of v.to v.by v.from

-- in which ways types bear a tree: on the way back by the sets so far, on the way forth as the table says
abbrev pub tells_by : Way → Schema → List ℕ → List ℕ → List ℕ
tells_by Back v ways = ways_by v.nillable v.types
tells_by Forth v ways = λ sets. ways

-- the table, once the set of the type a is x
abbrev pub told_anew : Way → Schema → ℕ → ℕ → List ℕ → List ℕ
told_anew Back v a x ways = set ways a (ways_of (member 0 x) (get_or v.nillable a false))
told_anew Forth v a x ways = ways

-- one round over the types, on the way
abbrev pub round : Way → Schema → List ℕ → List ℕ → List ℕ
round way v ways = spread_all v.steps (steps_by way v) (tells_by way v ways) 0 0 v.types
