-- Laws of the limits, for the checks of them.
use mathlib.Core.Path.{◌≡◌, refl, sym, ap, subst, ◌∙◌}
use mathlib.Core.Logic.{◌↔◌, ⊎_elim}
use mathlib.Core.Bool.{Bool, true, false, not}
use mathlib.Core.List.Memᴰ
use mathlib.Core.List.{List, [], ◌∷◌, map, Memᴰ}
use Prim.Native.Nat.{ℕ, zero, suc, ◌+◌, ◌-◌, ◌^◌, ◌≤◌, ◌<◌}
use native.Mathlib.Nat.{add-zero, zero-add, suc-add, add-suc}
use native.Mathlib.Numerals.{add-one}
use native.Mathlib.Omega.{arith}
use borrow.Author.Tests.{not-false}
use lib.Dec.{T, T_not}
use lib.ListN.{length, get_or}
use Rattle.std.specs.List.{All}
use Rattle.std.proofs.lemmas.List.Elements.{All-head, All-tail}
use Rattle.sdtd.specs.Limits.{most_tags, most_types, most_states, most_steps}
use Rattle.sdtd.specs.Schema.{Step, Block, no_block, block_of, BlockWithin, WithinLimits, steps_in}
use Rattle.sdtd.specs.Schema.{Schema as Meaning}
use Rattle.sdtd.proofs.Basics.{get_or_member}
use Rattle.schema.specs.States.{members}
use Rattle.schema.specs.Value.{up_from, steps_of, offset, block_at, meaning}
use Rattle.schema.specs.Limits.{RootsWithin, StepsWithin, BlockFits, BlocksFit}
use Rattle.schema.specs.declared.value.Schema.{Schema}
use Rattle.schema.proofs.Bits.{mem-members, states_below}
use Rattle.schema.proofs.Values.{offset_step, steps_count, types_count}
use Rattle.schema.proofs.RootLaws.{roots_count, root_in}

-- A loop asks one thing after another: what is left, L, is the next, S, and the rest, R, and decides the whole, W.
module _ {S R L W : Type 0} (b : Bool) (tells : T b ↔ S) (next : L ↔ (S × R)) (left : L ↔ W) where
  pub stops : not b ≡ true → T false ↔ W
  stops e = (λ f. absurd f, λ w. T_not b (rw e tt) (tells.1 (next.0 (left.1 w)).0))

  pub goes_on : not b ≡ false → R ↔ W
  goes_on e = (λ r. left.0 (next.1 (tells.0 (rw (not-false b e) tt), r)), λ w. (next.0 (left.1 w)).1)

all_cons : {A : Type 0} (P : A → Type 0) (x : A) (xs : List A)
    → ((y : A) → Memᴰ y (x ∷ xs) → P y) ↔ (P x × ((y : A) → Memᴰ y xs → P y))
all_cons P x xs = (
  λ w. (w x (Memᴰ.head refl), λ y m. w y (Memᴰ.tail m)),
  λ w y m. ⊎_elim (λ e. subst P (sym e) w.0) (λ m. w.1 y m) (Memᴰ.cases_cons m),
)

-- what holds of each element, by its places or by its members
pub all_members : {A : Type 0} (P : A → Type 0) (xs : List A) → All P xs ↔ ((x : A) → Memᴰ x xs → P x)
all_members P xs = (of_member xs, λ w k d l. w _ (get_or_member xs k d l))
  where
    of_member : (ys : List _) → All P ys → (x : _) → Memᴰ x ys → P x
    of_member (y ∷ ys) w x m = ⊎_elim (λ e. subst P (sym e) (All-head P y ys w)) (of_member ys (All-tail P y ys w) x) (Memᴰ.cases_cons m)
    of_member [] w x m = absurd (Memᴰ.not-nil m)

module _ (tag states accepting steps : List ℕ) (part : ℕ → ℕ → List Step) (tags types : ℕ) where
  -- no types are left
  pub blocks_none : (a s : ℕ) → types ≤ a → BlocksFit tag states accepting steps part tags types a s (types - a)
  unfolding BlocksFit
  blocks_none a s l =
      let z : types - a ≡ 0 = omega arith in
      rw z tt

  -- Of the types that are left, the next one has n steps.
  module _ (a s n : ℕ) (count : n ≡ get_or steps a 0) (more : a < types) where
    pub blocks_full : BlocksFit tag states accepting steps part tags types a s (types - a) → s + n ≤ most_steps
    unfolding BlocksFit
    blocks_full w =
        let l : types - a ≡ suc (types - suc a) = omega arith in
        rw count (rw l at w).0

    pub blocks_next : s + n ≤ most_steps
        → BlocksFit tag states accepting steps part tags types a s (types - a)
        ↔ (BlockFits (get_or tag a 0) (get_or states a 0) (get_or accepting a 0) (part s n) tags types
        × BlocksFit tag states accepting steps part tags types (a + 1) (s + n) (types - (a + 1)))
    unfolding BlocksFit
    blocks_next =
        let l : types - a ≡ suc (types - suc a) = omega arith in
        rw (count, add-one, l) (λ f. (λ w. (w.1, w.2), λ w. (f, w.0, w.1)))

-- the steps of a type of a schema inside the limits
pub own_within : (S : Meaning) (a : ℕ) → WithinLimits S → a < length S.blocks
    → StepsWithin most_states (length S.blocks) (block_of S a).steps
own_within S a within l s m =
    let b = within.blocks (block_of S a) (get_or_member S.blocks a no_block l) in
    let w = b.steps s m in
    let most = b.states_most in
    record { from = omega (arith, w.from); by = w.by; to = omega (arith, w.to) }

-- what the checks ask of a value
pub record Checked (v : Schema) : Type 0 where
  pub tags_least : 1 ≤ v.tags
  pub tags_most : v.tags ≤ most_tags
  pub types_most : v.types ≤ most_types
  pub roots : RootsWithin v.root v.roots v.types
  pub blocks :
      BlocksFit v.tag v.states v.accepting v.steps (steps_of v.from v.by v.to) v.tags v.types 0 0 v.types

module _ (v : Schema) (sets : (a : ℕ) → get_or v.accepting a 0 < 2 ^ most_states) where
  -- the accepting states are below the state count
  sets_mean : (a : ℕ)
      → get_or v.states a 0 ≤ most_states
      → (get_or v.accepting a 0 < 2 ^ get_or v.states a 0)
      ↔ ((q : ℕ) → Memᴰ q (members (get_or v.accepting a 0)) → q < get_or v.states a 0)
  sets_mean a l =
      let below = states_below (get_or v.states a 0) (get_or v.accepting a 0) l (sets a) in (
        λ w q m. below.0 w q ((mem-members q (get_or v.accepting a 0) (sets a)).0 m),
        λ w. below.1 (λ q m. w q ((mem-members q (get_or v.accepting a 0) (sets a)).1 m)),
      )

  -- the type a, whose steps begin at the place s
  block_means : (a s : ℕ)
      → s ≡ offset v.steps a
      → BlockFits
      (get_or v.tag a 0)
      (get_or v.states a 0)
      (get_or v.accepting a 0)
      (steps_of v.from v.by v.to s (get_or v.steps a 0))
      v.tags
      v.types
      ↔ BlockWithin (meaning v) (block_at v a)
  unfolding meaning block_at
  block_means a s e = rw e (
    λ w. record {
      tag = w.tag_below;
      states_least = w.states_least;
      states_most = w.states_most;
      accepting = (sets_mean a w.states_most).0 w.accepting_below;
      steps = rw (types_count v) w.steps_within;
    },
    λ w. record {
      tag_below = w.tag;
      states_least = w.states_least;
      states_most = w.states_most;
      accepting_below = (sets_mean a w.states_most).1 w.accepting;
      steps_within = rw (types_count v) at w.steps;
    },
  )

  -- n types from the type a on
  blocks_mean : (a s n : ℕ)
      → s ≡ offset v.steps a
      → s ≤ most_steps
      → BlocksFit v.tag v.states v.accepting v.steps (steps_of v.from v.by v.to) v.tags v.types a s n
      ↔ ((s + steps_in (map (block_at v) (up_from a n)) ≤ most_steps)
      × ((b : Block) → Memᴰ b (map (block_at v) (up_from a n)) → BlockWithin (meaning v) b))
  unfolding BlocksFit up_from block_at
  blocks_mean a s zero e l = (λ w. (omega arith, λ b m. absurd (Memᴰ.not-nil m)), λ w. tt)
  blocks_mean a s (suc n) e l =
      let k = get_or v.steps a 0 in
      let many = steps_count v.from v.by v.to (offset v.steps a) k in
      let one = block_means a s e in
      let all = all_cons (BlockWithin (meaning v)) (block_at v a) (map (block_at v) (up_from (suc a) n)) in
      let later = blocks_mean (suc a) (s + k) n (omega (arith, offset_step v.steps a)) in (
        λ w.
            let rest = (later w.0).0 w.2 in
            (omega arith, all.1 (one.0 w.1, rest.1)),
        λ w.
            let parts = all.0 w.1 in
            let fits : s + k ≤ most_steps = omega arith in
            (fits, one.1 parts.0, (later fits).1 (omega arith, parts.1)),
      )

  pub within_means : WithinLimits (meaning v) ↔ Checked v
  unfolding meaning
  within_means =
      let count = types_count v in
      let many = roots_count v.root v.roots in
      let all = blocks_mean 0 0 v.types refl (omega arith) in (
        λ w. record {
          tags_least = w.tags_least;
          tags_most = w.tags_most;
          types_most = omega arith;
          roots = record { least = omega arith; most = omega arith; below = rw count at w.roots };
          blocks = all.1 (omega arith, w.blocks);
        },
        λ w. let blocks = all.0 w.blocks in
            let r = w.roots in
            let first = r.below _ (root_in v.root v.roots 0 r.least) in
            record {
              tags_least = w.tags_least;
              tags_most = w.tags_most;
              types_least = omega arith;
              types_most = omega arith;
              steps_most = omega arith;
              roots_least = omega arith;
              roots_most = omega arith;
              roots = rw count r.below;
              blocks = blocks.1;
            },
      )

-- the steps of the types are as many as their counts say
steps_total : (v : Schema) (a n : ℕ) → offset v.steps a + steps_in (map (block_at v) (up_from a n)) ≡ offset v.steps (a + n)
unfolding up_from block_at
steps_total v a zero = add-zero (offset v.steps a) ∙ sym (ap (offset v.steps) (add-zero a))
steps_total v a (suc n) =
    let k = get_or v.steps a 0 in
    omega (
      arith,
      steps_count v.from v.by v.to (offset v.steps a) k,
      offset_step v.steps a,
      steps_total v (suc a) n,
      ap (offset v.steps) (suc-add a n ∙ sym (add-suc a n)),
    )

-- what the loops ask of a value inside the limits
pub record Room (v : Schema) : Type 0 where
  pub types : v.types ≤ most_types
  pub steps : offset v.steps v.types ≤ most_steps

pub within_room : (v : Schema) → WithinLimits (meaning v) → Room v
unfolding meaning
within_room v w =
    let n = types_count v in
    record {
      types = omega (arith, w.types_most);
      steps = omega (arith, steps_total v 0 v.types, ap (offset v.steps) (zero-add v.types), w.steps_most);
    }

-- the negated test was not taken, so what it tells holds
pub passed : {A : Type 0} (r : Bool) → not r ≡ false → T r ↔ A → A
passed r e t = t.0 (subst T (sym (not-false r e)) tt)

-- the negated test was taken, so what it tells does not hold
pub failed : {A : Type 0} (r : Bool) → not r ≡ true → T r ↔ A → ¬ A
failed r e t w = T_not r (rw e tt) (t.1 w)
