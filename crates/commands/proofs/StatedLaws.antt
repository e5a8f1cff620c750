-- What is read back from the tables: the blocks.
use mathlib.Core.Path.{◌≡◌, refl, sym, ap, ◌∙◌}
use mathlib.Core.Bool.{false}
use mathlib.Core.List.{List, [], ◌∷◌, ◌++◌, map, reverse, reverse-cons}
use Prim.Native.Nat.{ℕ, ◌+◌}
use native.Mathlib.Omega.{arith}
use lib.ListN.{length, get_or}
use Rattle.sdtd.specs.Schema.{Step}
use Rattle.schema.specs.States.{members}
use Rattle.schema.specs.Value.{up_from, step_at, steps_of, offset, block_at}
use Rattle.schema.specs.declared.value.Schema.{Schema}
use Rattle.commands.proofs.SchemaTables.{SchemaTables, tables_of}
use Rattle.schema.proofs.Values.{offset_step, up_last}
use Rattle.commands.specs.File.{Draft, step_count, block_by}
use Rattle.commands.proofs.Holding.{StepsHold, DraftHolds, BlocksHold}
use Rattle.commands.proofs.Standing.{StandsIn}
use Rattle.commands.proofs.NilTables.{flags, flags_count}

map_last : {A B : Type 0} (f : A → B) (xs : List A) (x : A) → map f (xs ++ (x ∷ [])) ≡ map f xs ++ (f x ∷ [])
map_last f [] x = refl
map_last f (y ∷ ys) x = ap (λ (l : List _). f y ∷ l) (map_last f ys x)

-- what is reversed, with one more
pub map-reverse : {A B : Type 0} (f : A → B) (x : A) (xs : List A) → map f (reverse (x ∷ xs)) ≡ map f (reverse xs) ++ (f x ∷ [])
map-reverse f x xs = ap (map f) (reverse-cons x xs) ∙ map_last f (reverse xs) x

-- the steps at a block's places are its steps in file order
pub steps_back : (t : SchemaTables) (xs : List Step) (s : ℕ) → StepsHold t xs s
    → steps_of t.from t.by t.to s (length xs) ≡ reverse xs
unfolding steps_of up_from
steps_back t [] s h = refl
steps_back t (x ∷ xs) s h =
    up_last (step_at t.from t.by t.to) s (length xs)
    ∙ (λ i. steps_back t xs s h.1 i ++ (h.0 i ∷ []))
    ∙ sym (reverse-cons x xs)

-- a type's first step stands behind all steps of the types before it
pub offset_back : (t : SchemaTables) (bs : List Draft) → BlocksHold t bs → offset t.counts (length bs) ≡ step_count bs
offset_back t [] h = refl
offset_back t (d ∷ ds) h =
    offset_step t.counts (length ds) ∙ (λ i. offset_back t ds h.1 i + h.0.count i)

module _ (v : Schema) where
  block_back : (d : Draft) (a s : ℕ) → offset v.steps a ≡ s → get_or v.nillable a false ≡ d.nillable → DraftHolds (tables_of v) d a s → block_at v a ≡ block_by d
  unfolding block_at
  block_back d a s e n h i =
      record {
        tag = h.tag i;
        nillable = n i;
        states = h.states i;
        accepting = members (h.accepting i);
        steps = ((λ j. steps_of v.from v.by v.to (e j) (h.count j)) ∙ steps_back (tables_of v) d.steps s h.steps) i;
      }

  pub blocks_back : (bs : List Draft) → StandsIn false v.nillable (flags bs) → BlocksHold (tables_of v) bs
      → map (block_at v) (up_from 0 (length bs)) ≡ map block_by (reverse bs)
  unfolding up_from
  blocks_back [] k h = refl
  blocks_back (d ∷ ds) k h =
      let z : 0 + length ds ≡ length ds = omega arith in
      let nil : get_or v.nillable (length ds) false ≡ d.nillable = rw (flags_count ds) at k.0 in
      up_last (block_at v) 0 (length ds)
      ∙ rw z (λ i. blocks_back ds k.1 h.1 i ++ (block_back d (length ds) (step_count ds) (offset_back (tables_of v) ds h.1) nil h.0 i ∷ []))
      ∙ sym (map-reverse block_by d ds)
