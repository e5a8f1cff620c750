-- What a value says of its steps, and the tables that the rounds of trimming begin with.
use mathlib.Core.Path.{◌≡◌, refl, sym, ◌∙◌, ap}
use mathlib.Core.Logic.{◌↔◌}
use mathlib.Core.List.Memᴰ
use mathlib.Core.List.{List, [], ◌∷◌, ◌++◌, Memᴰ}
use Prim.Native.Nat.{ℕ, zero, suc, ◌-◌, ◌%◌, ◌^◌, ◌≤◌, ◌<◌}
use native.Mathlib.Decide.{dec_lt}
use native.Mathlib.Omega.{arith}
use native.Mathlib.Nat.{mod-eq_of_lt}
use borrow.Author.Tests.{lt-ltb, le-ltb}
use lib.Dec.{T, lit<}
use lib.ListN.{length, get_or, take, replicate, length-append, length-take, length-replicate}
use lib.ListN.{get_or-replicate, get_or-append}
use lib.Seq.{get_or-take}
use Rattle.sdtd.specs.Limits.{most_types, most_states}
use Rattle.sdtd.specs.Schema.{Step, block_of, WithinLimits}
use Rattle.schema.specs.States.{member}
use Rattle.schema.specs.Value.{up_from, steps_of, offset, block_at, meaning}
use Rattle.schema.specs.Spread.{first_sets, steps_in}
use Rattle.schema.specs.declared.value.Schema.{Schema}
use Rattle.schema.proofs.Bits.{member_none, member_start, mem-members}
use Rattle.schema.proofs.Values.{same_everywhere, steps_mem, types_count, block_of_lem, no_block_of}
use Rattle.schema.proofs.LimitLaws.{own_within, within_room}
use Rattle.schema.proofs.SpreadLaws.{own}

-- The value's tables are as long as their arrays, and its sets have only states.
pub record Fits (v : Schema) : Type 0 where
  pub accepting_long : length v.accepting ≡ most_types
  pub accepting_below : (a : ℕ) → get_or v.accepting a 0 < 2 ^ most_states

-- a step the other way round
abbrev pub back : Step → Step
back s = record { from = s.to; by = s.by; to = s.from }

pub own_back :
    (from by to steps : List ℕ) (a : ℕ) (x : Step) → Memᴰ x (own steps (steps_of from by to) a)
    → Memᴰ (back x) (own steps (steps_of to by from) a)
own_back from by to steps a x m =
    let p = (steps_mem from by to (offset steps a) (get_or steps a 0) x).0 m in
    (steps_mem to by from (offset steps a) (get_or steps a 0) (back x)).1
    (record { place = p.place; least = p.least; most = p.most; is = ap back p.is })

past_take : (n m : ℕ) (xs : List ℕ) (a : ℕ) → n ≤ length xs → n ≤ a → get_or (take n xs ++ replicate m 0) a 0 ≡ 0
past_take zero m xs a l h = same_everywhere 0 m a
past_take (suc n) m [] a l h = absurd (omega arith)
past_take (suc n) m (x ∷ xs) zero l h = absurd (omega arith)
past_take (suc n) m (x ∷ xs) (suc a) l h = past_take n m xs a (omega arith) (omega arith)

-- the table with only state 0 everywhere
pub start_only : (n a q : ℕ) → T (member q (get_or (replicate n 1) a 0)) → q ≡ 0
start_only zero a q m = absurd (member_none q m)
start_only (suc n) zero q m = (member_start q).0 m
start_only (suc n) (suc a) q m = start_only n a q m

pub start_in : (n a : ℕ) → a < n → T (member 0 (get_or (replicate n 1) a 0))
start_in n a l = rw (get_or-replicate {A = ℕ} n a 1 0 l) ((member_start 0).1 refl)

-- the steps from a place on, and those turned round
abbrev pub forth : Schema → ℕ → ℕ → List Step
forth v = steps_of v.from v.by v.to

abbrev pub turned : Schema → ℕ → ℕ → List Step
turned v = steps_of v.to v.by v.from

-- the first table of the live states
abbrev pub first_live : Schema → List ℕ
first_live v = first_sets v.types v.accepting

-- what the limits say of a step of the type a
pub record OwnStep (v : Schema) (a : ℕ) (s : Step) : Type 0 where
  pub type : a < v.types
  pub given : Memᴰ s (own v.steps (forth v) a)
  pub from : s.from < most_states
  pub by : s.by % most_types ≡ s.by
  pub by_type : s.by < v.types
  pub to : s.to < most_states

module _ {v : Schema} (fits : Fits v) (within : WithinLimits (meaning v)) where
  pub types_most : v.types ≤ most_types
  types_most = (within_room v within).types

  -- the steps of a type's block are those that the rounds take
  pub own-steps : (a : ℕ) → a < v.types → (block_of (meaning v) a).steps ≡ own v.steps (forth v) a
  unfolding block_at
  own-steps a l = rw (block_of_lem v a l)

  -- those of any type's, past the types too
  pub steps_in_lem : (a : ℕ) → steps_in v.steps (forth v) v.types a ≡ (block_of (meaning v) a).steps
  unfolding steps_of up_from
  steps_in_lem a =
      elim (dec_lt a v.types) [
        | yes l ↦ rw (lt-ltb a v.types l) (sym (own-steps a l))
        | no l ↦ rw (le-ltb a v.types (omega arith), no_block_of v a (omega arith))
      ]

  -- a type with a step is one of the schema's
  own_type : (a : ℕ) (s : Step) → Memᴰ s (block_of (meaning v) a).steps → a < v.types
  own_type a s m =
      elim (dec_lt a v.types) [ yes l ↦ l | no l ↦ absurd (Memᴰ.not-nil (rw (no_block_of v a (omega arith)) at m)) ]

  -- a step of any type's block is inside the limits
  pub own_step : (a : ℕ) (s : Step) → Memᴰ s (block_of (meaning v) a).steps → OwnStep v a s
  own_step a s m =
      let l = own_type a s m in
      let w = own_within (meaning v) a within (rw types_count l) s m in
      let types = within.types_most in
      record {
        type = l;
        given = rw (own-steps a l) at m;
        from = w.from;
        by = mod-eq_of_lt (omega (arith, w.by));
        by_type = omega (arith, w.by, types_count v);
        to = w.to;
      }

  -- the first table has each type's accepting states, and nothing past the types
  first_own : (a : ℕ) → a < v.types → get_or (first_live v) a 0 ≡ get_or v.accepting a 0
  unfolding first_sets
  first_own a l =
      let n = types_most in
      get_or-append (take v.types v.accepting) (replicate (most_types - v.types) 0) 0 a
      (rw (length-take, fits.accepting_long) (omega arith)) ∙ get_or-take v.types v.accepting a 0 l

  first_other : (a : ℕ) → v.types ≤ a → get_or (first_live v) a 0 ≡ 0
  unfolding first_sets
  first_other a l = past_take v.types (most_types - v.types) v.accepting a (omega (arith, fits.accepting_long, types_most)) l

  pub accepts : (a q : ℕ) → Memᴰ q (block_of (meaning v) a).accepting ↔ T (member q (get_or (first_live v) a 0))
  unfolding block_at
  accepts a q =
      elim (dec_lt a v.types) [
        | yes l ↦ rw (block_of_lem v a l, first_own a l) (mem-members q (get_or v.accepting a 0) (fits.accepting_below a))
        | no l ↦
            rw (no_block_of v a (omega arith), first_other a (omega arith))
            (λ m. absurd (Memᴰ.not-nil m), λ m. absurd (member_none q m))
      ]

  pub first_long : length (first_live v) ≡ most_types
  unfolding first_sets
  first_long =
      let n = types_most in
      simp (length-append, length-take, length-replicate, fits.accepting_long) (omega arith)

  pub first_below : (a : ℕ) → get_or (first_live v) a 0 < 2 ^ most_states
  first_below a =
      elim (dec_lt a v.types) [
        | yes l ↦ rw (first_own a l) (fits.accepting_below a)
        | no l ↦ rw (first_other a (omega arith)) (lit< tt)
      ]
