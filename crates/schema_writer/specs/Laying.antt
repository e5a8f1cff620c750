-- What the writer's private steps compute: the tables of kept types and of new numbers, and which types are written by their states.
use Rattle.std.specs.Prelude.{◌≡◌, Bool, false, cond, ◌&&◌, Option, Some, None, List, ℕ, ◌+◌, ◌<◌, min, T, ltb, get_or}
use Rattle.sdtd.specs.Limits.{most_types}
use Rattle.sdtd.specs.Reduced.{new_number}
use Rattle.command.specs.declared.Command.{Command}
use Rattle.expression.specs.Content.{Content, broken, whole, content_at}
use Rattle.schema_writer.specs.Left.{names_dropped, begins_expression}

-- the type a is kept, by the table of kept types; no number past the table is a type
abbrev pub kept_by : List Bool → ℕ → Bool
kept_by table a = ltb a most_types && get_or table a false

-- the new number of the type j, by a table of those up to the largest type and of the number past it
abbrev pub number_by : List ℕ → ℕ → ℕ
number_by numbers j = get_or numbers (min j most_types) 0

-- the table of numbers has the new numbers for the table of kept types
pub record NewNumbers (table : List Bool) (numbers : List ℕ) : Type 0 where
  pub each : (j : ℕ) → number_by numbers j ≡ new_number (kept_by table) j

-- where the file goes on after a kept type whose content is so, if it is written by its states
abbrev pub past_content : (ℕ → Bool) → Content → Option ℕ
past_content kept (broken n p) = None
past_content kept (whole e names p) = cond (names_dropped kept names) (Some (p + 1)) None

-- the same of the command that ends at the place `next` and before which a TYPEs stand
abbrev pub past_states : (ℕ → Bool) → List ℕ → ℕ → ℕ → Command → Option ℕ
past_states kept file next a c = cond (begins_expression c && kept a) (past_content kept (content_at file next)) None

-- only types below so many are kept
pub record KeptBelow (table : List Bool) (types : ℕ) : Type 0 where
  pub below : (a : ℕ) → T (kept_by table a) → a < types
