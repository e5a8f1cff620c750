-- What the private steps of the calls compute: the type that comes next inside an element, and the check of the open levels.
use Rattle.std.specs.Prelude.{Bool, cond, ◌&&◌, List, [], ◌∷◌, ℕ, ◌%◌, ◌≤◌, ◌<◌, T, eqb, ltb, get_or, Option, Some, None}
use Rattle.std.specs.List.{flat_map}
use Rattle.sdtd.specs.Limits.{most_types, most_levels}
use Rattle.sdtd.specs.Numbered.{type_no}
use Rattle.sdtd.specs.Schema.{Step}
use Rattle.sdtd.specs.Tree.{Kind}
use Rattle.schema.specs.States.{member, members, insert, no_states}
use Rattle.schema.specs.Ways.{opens_by}
use Rattle.schema.specs.Rows.{to_in, by_in, tag_in, ways_in, row_of}
use Rattle.schema.specs.Value.{steps_of, offset}
use Rattle.schema.specs.declared.value.Schema.{Schema}
use Rattle.reading.specs.declared.coming.Least.{Least}
use Rattle.reading.specs.declared.value.Reading.{Reading}
use Rattle.schema.specs.declared.state_set.StateSet.{StateSet}
use Rattle.sdtd.specs.declared.TypeNo.{TypeNo}

-- what came so far: the smallest type, and the states that it leads to
abbrev pub least : ℕ → ℕ → Least
least of kept = record { of = of; kept = kept }

-- no type came yet: a number past every type
abbrev pub none_yet : Least
none_yet = least most_types no_states

-- a step by j to q: the same type adds the state, a smaller one replaces what came so far, a larger one changes nothing
unfoldable pub join : Least → ℕ → ℕ → Least
join c j q =
    cond (eqb j c.of) (least j (insert q c.kept))
    (cond (ltb j c.of) (least j (insert q no_states)) c)

-- a move: the type that it is by, and the state that it leads to
pub record Move : Type 0 where
  pub by : ℕ
  pub to : ℕ

abbrev pub move : ℕ → ℕ → Move
move by to = record { by = by; to = to }

-- the moves, one after another, after what came so far
unfoldable pub joins : List Move → Least → Least
joins [] c = c
joins (m ∷ ms) c = joins ms (join c m.by m.to)

-- what comes next for an opening, if anything does: a type, and the states that it leads to
abbrev pub Coming : Type 0
Coming = Option (TypeNo × StateSet)

abbrev pub of_type : ℕ → ℕ → Coming
of_type j kept = Some (type_no j, record { 0 = kept })

-- what the smallest type is, if one came
unfoldable pub coming_of : Least → Coming
coming_of c = cond (eqb c.kept no_states) None (of_type c.of c.kept)

-- what comes next by the moves
abbrev pub coming_by : List Move → Coming
coming_by moves = coming_of (joins moves none_yet)

-- the move by j to q where it is one, else none
abbrev pub move_where : Bool → ℕ → ℕ → List Move
move_where b j q = cond b (move j q ∷ []) []

-- the table of ways says that the type j bears a tree opened so
abbrev pub opens_in : Kind → List ℕ → ℕ → Bool
opens_in κ ways j = opens_by κ (get_or ways j 0)

-- the move of the entry e under the tag g, by a type that bears a tree opened so
abbrev pub entry_moves : Kind → ℕ → ℕ → List Move
entry_moves κ g e = move_where (eqb (tag_in e) g && opens_by κ (ways_in e)) (by_in e) (to_in e)

-- those of the entries of a row
abbrev pub row_moves : Kind → ℕ → List ℕ → List Move
row_moves κ g = flat_map (entry_moves κ g)

-- the moves under the tag g, opened so, from the states of the set, by the rows of the type a
abbrev pub moves_by_rows : List ℕ → List ℕ → ℕ → ℕ → Kind → ℕ → List Move
moves_by_rows entries begins a states κ g = flat_map (λ p. row_moves κ g (row_of entries begins a p)) (members states)

-- the step s is taken under the tag g: its type has the tag and bears a tree opened so, it leads from a state of the set, and into one of the
-- live states `own`
abbrev pub step_taken : List ℕ → List ℕ → ℕ → ℕ → Kind → ℕ → Step → Bool
step_taken tag ways own states κ g s =
    (eqb (get_or tag (s.by % most_types) 0) g && member s.from states) && (opens_in κ ways (s.by % most_types) && member s.to own)

-- the move of the step s, if it is taken
abbrev pub step_moves : List ℕ → List ℕ → ℕ → ℕ → Kind → ℕ → Step → List Move
step_moves tag ways own states κ g s = move_where (step_taken tag ways own states κ g s) s.by s.to

-- the same moves, by the type's own steps
abbrev pub moves_by_steps : Schema → List ℕ → List ℕ → ℕ → ℕ → Kind → ℕ → List Move
moves_by_steps v live ways a states κ g =
    flat_map (step_moves v.tag ways (get_or live a 0) states κ g) (steps_of v.from v.by v.to (offset v.steps a) (get_or v.steps a 0))

-- a level's type is below the count, and its set below that type's states
pub record LevelFits (types : ℕ) (states : List ℕ) (a set : ℕ) : Type 0 where
  pub type : a < types
  pub below : (q : ℕ) → T (member q set) → q < get_or states (a % most_types) 0

-- the open levels are at most `most_levels`, and each of them is inside the counts
pub record LevelsFit (types : ℕ) (states : List ℕ) (r : Reading) : Type 0 where
  pub depth : r.depth ≤ most_levels
  pub levels : (n : ℕ) → n < r.depth → LevelFits types states (get_or r.types n 0) (get_or r.sets n 0)
