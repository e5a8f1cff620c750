-- An opening as what is added to an entry to test it.
use Rattle.std.specs.Prelude.{◌≡◌, cond, ◌&&◌, ℕ, ◌+◌, ◌-◌, ◌*◌, ◌/◌, ◌%◌, ◌<◌, T, eqb, leb}
use Rattle.sdtd.specs.Limits.{most_tags, most_types, most_states}
use Rattle.sdtd.specs.Tree.{Kind, plain, nil}
use Rattle.schema.specs.Ways.{opens_by}
use Rattle.schema.specs.Rows.{type_room, by_in, tag_in, ways_in}

-- what one more in the second binary digit of an entry's ways adds, counted from the type's place
abbrev pub kind_place : ℕ
kind_place = 2 * most_tags * type_room

-- the type of the entry e, its tag and its ways with so much added: of the type and the tag what is inside their room, of the ways the second digit
abbrev pub rotated_by : ℕ → ℕ → ℕ
rotated_by more e =
    (e / (most_states * most_states) + more) % most_types
    + (e / (most_states * most_states) + more) / type_room % most_tags * type_room
    + (e / (most_states * most_states) + more) / kind_place % 2 * kind_place

-- so much is added for an opening of the tag g
abbrev pub rotation : Kind → ℕ → ℕ
rotation plain g = type_room * (3 * most_tags - g)
rotation nil g = type_room * (2 * most_tags - g)

-- the opening for which so much is added: its kind and its tag
abbrev pub kind_sought : ℕ → Kind
kind_sought n = cond (leb n (2 * most_tags * type_room)) nil plain

abbrev pub tag_sought : ℕ → ℕ
tag_sought n = (3 * most_tags - n / type_room) % most_tags

-- so much is added for an opening of a tag
abbrev pub IsSought : ℕ → Type 0
IsSought n = n ≡ rotation (kind_sought n) (tag_sought n)

-- t is the type of the entry e where that is under the tag g and bears a tree opened so, and else a number larger than that of no type yet
pub record TypeUnder (κ : Kind) (g e t : ℕ) : Type 0 where
  pub under : T (eqb (tag_in e) g && opens_by κ (ways_in e)) → t ≡ by_in e
  pub other : ¬ T (eqb (tag_in e) g && opens_by κ (ways_in e)) → most_types < t
