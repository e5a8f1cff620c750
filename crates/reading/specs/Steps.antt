-- What the private steps over the rows and heads of a schema and lent levels compute; question 10 is asked before.
use Rattle.sdtd.specs.Answer.{typed, taken, refused}
use Rattle.std.specs.Prelude.{Bool, false, cond, ◌&&◌, ◌||◌, List, ℕ, ◌+◌, ◌≤◌, ◌<◌, eqb, leb, get_or, Some, None}
use Rattle.sdtd.specs.Limits.{most_levels, most_steps, most_types}
use Rattle.sdtd.specs.Numbered.{tag_no}
use Rattle.sdtd.specs.Tree.{Kind}
use Rattle.schema.specs.declared.row.Rows.{Rows}
use Rattle.schema.specs.States.{meet, no_states}
use Rattle.schema.specs.Value.{offset}
use Rattle.schema.specs.declared.value.Schema.{Schema}
use Rattle.reading.specs.declared.value.Reading.{Reading}
use Rattle.reading.specs.declared.steps.Inner.{Inner}
use Rattle.reading.specs.declared.tables.Tables.{Tables}
use Rattle.reading.specs.Levels.{inner_type, inner_set}
use Rattle.reading.specs.Questions.{gives, opened, closed, after_finish, Next}
use Rattle.reading.specs.Heads.{tag_of_head, nillable_of_head, accepting_of_head, opens_under}
use Rattle.reading.specs.Coming.{Coming, Move, coming_by, moves_by_rows, moves_by_steps}

-- what comes next under the tag g, opened so, where no element is open, and no root came or one did
abbrev pub coming_first : List ℕ → Bool → Kind → ℕ → Coming
coming_first heads rooted κ g = cond rooted None (opens_under heads κ g)

-- what comes next under the tag g, opened so: inside an element, by its moves
unfoldable pub coming_at : List ℕ → List Move → Reading → Kind → ℕ → Coming
coming_at heads moves r κ g = cond (eqb r.depth 0) (coming_first heads r.rooted κ g) (coming_by moves)

-- the moves of the innermost element, by the rows, and by its type's own steps
abbrev pub inner_by_rows : Rows → Reading → Kind → ℕ → List Move
inner_by_rows rows r κ g = moves_by_rows rows.entries.now rows.begins.now (inner_type r) (inner_set r) κ g

abbrev pub inner_by_steps : Schema → List ℕ → List ℕ → Reading → Kind → ℕ → List Move
inner_by_steps v live ways r κ g = moves_by_steps v live ways (inner_type r) (inner_set r) κ g

-- an opening, by what comes next
abbrev pub open_by : Kind → Reading → Coming → Next
open_by κ r None = gives (refused 13) r
open_by κ r (Some c) = cond (leb most_levels r.depth) (gives (refused 14) r) (gives (typed c.0.0) (opened κ r c.0.0 c.1.0))

-- an opening of g, of this kind, by what comes next
unfoldable pub open_step : ℕ → Reading → Kind → ℕ → Coming → Next
open_step tags r κ g c = cond r.finished (gives (refused 11) r) (cond (leb tags g) (gives (refused 12) r) (open_by κ r c))

-- an opening of g, of this kind, by the rows
abbrev pub open_by_rows : Tables → Reading → Kind → ℕ → Next
open_by_rows t r κ g = open_step t.tags r κ g (coming_at t.heads.now (inner_by_rows t.rows r κ g) r κ g)

-- an opening of g, of this kind, by the steps of the schema's value
abbrev pub open_by_steps : Schema → List ℕ → List ℕ → List ℕ → Reading → Kind → ℕ → Next
open_by_steps v live ways heads r κ g = open_step v.tags r κ g (coming_at heads (inner_by_steps v live ways r κ g) r κ g)

-- the innermost element, with this set, is a nil one: its type is nillable and the set has no states
abbrev pub is_nilled : Inner → ℕ → Bool
is_nilled own set = own.nillable && eqb set no_states

-- 17: it is complete if it is a nil one, or a state of the set is accepting
abbrev pub complete : Inner → ℕ → Bool
complete own set = is_nilled own set || meet set own.accepting

-- a closing of g, where `own` has the tag and the accepting states of the innermost element's type, and whether it is nillable
unfoldable pub close_step : Inner → ℕ → Reading → ℕ → Next
close_step own tags r g =
    cond r.finished (gives (refused 11) r)
    (cond (leb tags g) (gives (refused 12) r)
    (cond (eqb r.depth 0) (gives (refused 15) r)
    (cond (eqb own.tag.0 g) (cond (complete own (inner_set r)) (gives taken (closed r)) (gives (refused 17) r))
    (gives (refused 16) r))))

abbrev pub inner : ℕ → Bool → ℕ → Inner
inner tag nillable accepting = record { tag = tag_no tag; nillable = nillable; accepting = accepting }

-- where no element is open, any will do
abbrev pub none_open : Inner
none_open = inner 0 false no_states

-- the innermost element's, by tables of tags, of nillable types and of accepting states
unfoldable pub inner_of : List ℕ → List Bool → List ℕ → Reading → Inner
inner_of tag nillable accepting r =
    cond (eqb r.depth 0) none_open (inner (get_or tag (inner_type r) 0) (get_or nillable (inner_type r) false) (get_or accepting (inner_type r) 0))

-- a closing of g, by the heads
unfoldable pub close_step_in : List ℕ → ℕ → Reading → ℕ → Next
close_step_in heads tags r g =
    close_step
    (cond (eqb r.depth 0) none_open
    (inner (tag_of_head heads (inner_type r)) (nillable_of_head heads (inner_type r)) (accepting_of_head heads (inner_type r))))
    tags r g

-- a finish
unfoldable pub finish_step : Reading → Next
finish_step r =
    cond r.finished (gives (refused 11) r) (cond (r.rooted && eqb r.depth 0) (gives taken (after_finish r)) (gives (refused 18) r))

-- the levels open are at most `most_levels`, and the innermost type is an entry of the tables
pub record Steady (r : Reading) : Type 0 where
  pub depth : r.depth ≤ most_levels
  pub inner : 0 < r.depth → inner_type r < most_types

-- the same, and the innermost type's own steps lie inside the tables of steps
pub record OwnFits (v : Schema) (r : Reading) : Type 0 where
  pub steady : Steady r
  pub room : 0 < r.depth → offset v.steps (inner_type r) + get_or v.steps (inner_type r) 0 ≤ most_steps
