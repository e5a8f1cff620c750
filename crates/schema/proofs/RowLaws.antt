-- What the rows of a schema inside the limits say of its steps.
use mathlib.Core.Path.{◌≡◌, refl, sym, ap, ◌∙◌}
use mathlib.Core.List.Memᴰ
use mathlib.Core.List.{List, Memᴰ}
use Prim.Native.Nat.{ℕ, ◌<◌}
use native.Mathlib.Decide.{dec_lt}
use native.Mathlib.Omega.{arith}
use lib.ListN.{length, get_or-eq_default}
use Rattle.sdtd.specs.Limits.{most_tags, most_types, most_states}
use Rattle.sdtd.specs.Schema.{Step, Schema, no_block, block_of, tag_of, WithinLimits, step}
use Rattle.sdtd.proofs.Basics.{get_or_member}
use Rattle.schema.specs.Rows.{Counts, entry, from_in, to_in, by_in, tag_in, ways_in, entry_of, row_place, InRow, RowsMean}
use Rattle.schema.specs.Ways.{most_ways, WaysFor}
use Rattle.schema.proofs.LimitLaws.{own_within}

-- an entry gives back what it was made of
pub record Reads (from to by tag ways e : ℕ) : Type 0 where
  pub from_is : from_in e ≡ from
  pub to_is : to_in e ≡ to
  pub by_is : by_in e ≡ by
  pub tag_is : tag_in e ≡ tag
  pub ways_is : ways_in e ≡ ways

pub entry_reads : (from to by tag ways : ℕ) → from < most_states → to < most_states → by < most_types → tag < most_tags → ways < most_ways
    → Reads from to by tag ways (entry from to by tag ways)
entry_reads from to by tag ways f t b g w =
    record { from_is = omega arith; to_is = omega arith; by_is = omega arith; tag_is = omega arith; ways_is = omega arith }

-- what an entry says of the type a, where it leads from the state p
pub record Says (S : Schema) (a p e : ℕ) : Type 0 where
  pub counts : Counts S a (step p (by_in e) (to_in e))
  pub tag : tag_in e ≡ tag_of S (by_in e)
  pub ways : WaysFor S (by_in e) (ways_in e)

module _ {S : Schema} (within : WithinLimits S) where
  -- a type with a step is one of the schema's
  counted_type : (a : ℕ) (s : Step) → Memᴰ s (block_of S a).steps → a < length S.blocks
  counted_type a s m =
      elim (dec_lt a (length S.blocks)) [
        | yes l ↦ l
        | no l ↦ absurd (Memᴰ.not-nil (rw (get_or-eq_default S.blocks no_block {n = a} (omega arith)) at m))
      ]

  -- the entry of a step that counts gives back what it was made of
  pub counted_reads : {a : ℕ} {s : Step} {ways : ℕ} → Counts S a s → ways < most_ways
      → Reads s.from s.to s.by (tag_of S s.by) ways (entry_of S s ways)
  counted_reads {a} {s} {ways} c few =
      let w = own_within S a within (counted_type a s c.given) s c.given in
      let b = within.blocks (block_of S s.by) (get_or_member S.blocks s.by no_block w.by) in
      let types = within.types_most in
      let tags = within.tags_most in
      entry_reads s.from s.to s.by (tag_of S s.by) ways w.from w.to (omega (arith, w.by)) (omega (arith, b.tag)) few

  -- a step that counts leads from a state and is by a type of the schema
  pub counted_from : {a : ℕ} {s : Step} → Counts S a s → (s.from < most_states) × (s.to < most_states) × (s.by < length S.blocks)
  counted_from {a} {s} c = let w = own_within S a within (counted_type a s c.given) s c.given in (w.from, w.to, w.by)

  module _ {entries begins : List ℕ} (rows : RowsMean S entries begins) where
    -- an entry of a row is a step that counts
    pub row_says : (a p e : ℕ) → p < most_states → InRow entries begins (row_place a p) e → Says S a p e
    row_says a p e l m =
        let f = (rows.exact a p e l).0 m in
        let r = rw (sym f.is) at (counted_reads f.counts f.opened.few) in
        let same : f.step ≡ step p (by_in e) (to_in e) =
        λ i. record { from = f.from i; by = sym r.by_is i; to = sym r.to_is i } in
        record {
          counts = rw same at f.counts;
          tag = r.tag_is ∙ ap (tag_of S) (sym r.by_is);
          ways = rw (r.by_is, r.ways_is) f.opened;
        }

    -- a step that counts has an entry in the row of its state, with the number of its type
    pub row_has : {a : ℕ} {s : Step} {ways : ℕ} → Counts S a s → WaysFor S s.by ways
        → (e : ℕ) × InRow entries begins (row_place a s.from) e × Reads s.from s.to s.by (tag_of S s.by) ways e
    row_has {a} {s} {ways} c opened =
        let l = (counted_from c).0 in (
          entry_of S s ways,
          (rows.exact a s.from (entry_of S s ways) l).1 (record { step = s; counts = c; from = refl; ways = ways; opened = opened; is = refl }),
          counted_reads c opened.few,
        )
