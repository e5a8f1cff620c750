-- The levels that the code checks are those of question 10.
use mathlib.Core.Path.{◌≡◌, refl, ap}
use mathlib.Core.Logic.{◌↔◌}
use mathlib.Core.List.{List, Memᴰ}
use Prim.Native.Nat.{ℕ, zero, suc, pred, ◌-◌, ◌%◌, ◌^◌, ◌≤◌, ◌<◌}
use native.Mathlib.Nat.{mod-eq_of_lt}
use native.Mathlib.Omega.{arith}
use lib.Dec.{T}
use lib.ListN.{get_or, set}
use Rattle.sdtd.specs.Limits.{most_tags, most_types, most_states}
use Rattle.sdtd.specs.Schema.{Block, no_block, block_of, tag_of, WithinLimits}
use Rattle.sdtd.specs.Tree.{Kind}
use Rattle.sdtd.proofs.Basics.{get_or_member}
use Rattle.schema.specs.States.{member, meet, members}
use Rattle.schema.specs.Value.{meaning, block_at}
use Rattle.schema.specs.declared.value.Schema.{Schema}
use Rattle.schema.proofs.Bits.{mem-members, meet_means}
use Rattle.schema.proofs.Values.{types_count, block_of_lem, tag_of_lem}
use Rattle.schema.proofs.LimitLaws.{within_room}
use Rattle.reading.specs.declared.value.Reading.{Reading}
use Rattle.reading.specs.Levels.{inner_type, inner_set, LevelWithin, LevelsWithin, Within}
use Rattle.reading.specs.Questions.{Ends, first_set, sets_after}
use Rattle.reading.specs.Coming.{LevelFits, LevelsFit}

-- the code's index of the innermost level
pub sub_one : (n : ℕ) → n - 1 ≡ pred n
sub_one n = omega arith

-- the sets that the code stores are those after an opening
pub inside_sets : (κ : Kind) (sets : List ℕ) (d kept : ℕ) → 0 < d → set (set sets (d - 1) kept) d (first_set κ) ≡ sets_after κ sets d kept
inside_sets κ sets zero kept l = absurd (omega arith)
inside_sets κ sets (suc d) kept l = rw (sub_one (suc d))

pub outside_sets : (κ : Kind) (sets : List ℕ) (d kept : ℕ) → d ≤ 0 → set sets d (first_set κ) ≡ sets_after κ sets d kept
outside_sets κ sets zero kept l = refl
outside_sets κ sets (suc d) kept l = absurd (omega arith)

pub tags_of : (v : Schema) → (meaning v).tags ≡ v.tags
unfolding meaning
tags_of v = refl

module _ (v : Schema) (most : v.types ≤ most_types) where
  own_states : (a : ℕ) → a < v.types → get_or v.states (a % most_types) 0 ≡ (block_of (meaning v) a).states
  unfolding block_at
  own_states a l = let same : a % most_types ≡ a = mod-eq_of_lt (omega arith) in rw (block_of_lem v a l, same)

  level_fits : (a set : ℕ) → LevelFits v.types v.states a set ↔ LevelWithin (meaning v) a set
  level_fits a set = (
    λ f. record { type = rw types_count f.type; states = λ q m. rw (← own_states a f.type) (f.below q m) },
    λ w.
        let l : a < v.types = rw types_count at w.type in
        record { type = l; below = λ q m. rw (own_states a l) (w.states q m) },
  )

  pub levels_fit : (r : Reading) → LevelsFit v.types v.states r ↔ LevelsWithin (meaning v) r
  levels_fit r = (
    λ f. record { depth = f.depth; levels = λ n l. (level_fits _ _).0 (f.levels n l) },
    λ w. record { depth = w.depth; levels = λ n l. (level_fits _ _).1 (w.levels n l) },
  )

-- the accepting states of a type of the schema
accepting_of : (v : Schema) (a : ℕ) → a < v.types → (block_of (meaning v) a).accepting ≡ members (get_or v.accepting a 0)
unfolding block_at
accepting_of v a l = ap (λ (b : Block). b.accepting) (block_of_lem v a l)

-- inside the limits the tag of a type is one
pub tag_below : (v : Schema) → WithinLimits (meaning v) → (a : ℕ) → a < v.types → get_or v.tag a 0 < most_tags
tag_below v w a l =
    omega (
      arith,
      w.tags_most,
      tag_of_lem v a l,
      (w.blocks (block_of (meaning v) a) (get_or_member (meaning v).blocks a no_block (rw types_count l))).tag,
    )

-- inside the limits, with an element open, the innermost type is below the counts
module _ (v : Schema) (r : Reading) (w : Within (meaning v) r) (open_one : 0 < r.depth) where
  pub inner_below : inner_type r < v.types
  inner_below = rw types_count at (w.reading.levels (pred r.depth) (omega arith)).type

  pub inner_most : inner_type r < most_types
  inner_most = omega (arith, inner_below, (within_room v w.schema).types)

  -- question 16's tag
  pub inner_tag : tag_of (meaning v) (inner_type r) ≡ get_or v.tag (inner_type r) 0
  inner_tag = tag_of_lem v (inner_type r) inner_below

  -- question 17: the kept states and the accepting ones have one in common
  pub ends_meets : inner_set r < 2 ^ most_states → get_or v.accepting (inner_type r) 0 < 2 ^ most_states
      → Ends (meaning v) r ↔ T (meet (inner_set r) (get_or v.accepting (inner_type r) 0))
  ends_meets x y =
      let is = accepting_of v (inner_type r) inner_below in
      let meets = meet_means (inner_set r) (get_or v.accepting (inner_type r) 0) x in
      let mem : (q : ℕ) → Memᴰ q (members (get_or v.accepting (inner_type r) 0)) ↔ T (member q (get_or v.accepting (inner_type r) 0)) =
      λ q. mem-members q (get_or v.accepting (inner_type r) 0) y in (
        λ e. meets.1 (record { state = e.state; left = e.kept; right = (mem e.state).0 (rw is at e.accepting) }),
        λ t.
            let m = meets.0 t in
            record { state = m.state; kept = m.left; accepting = rw is ((mem m.state).1 m.right) },
      )
