-- Laws of the schema that a value states.
use mathlib.Core.Path.{◌≡◌, refl, sym, ap, ◌∙◌}
use mathlib.Core.Logic.{◌↔◌, ◌⊎◌, inl, inr}
use mathlib.Core.List.Memᴰ
use mathlib.Core.List.{List, [], ◌∷◌, ◌++◌, map, Memᴰ}
use Prim.Native.Nat.{ℕ, zero, suc, ◌+◌, ◌-◌, ◌≤◌, ◌<◌, zero-le}
use native.Mathlib.Nat.{le_of_suc-le-suc}
use native.Mathlib.Decide.{ℕ_discrete, dec_lt}
use native.Mathlib.Omega.{arith}
use lib.ListN.{length, get_or, replicate, length-map, get_or-eq_default}
use Rattle.sdtd.specs.Limits.{most_steps}
use Rattle.sdtd.specs.Schema.{Step, Block, no_block, block_of, tag_of}
use Rattle.schema.specs.Value.{up_from, step_at, steps_of, offset, block_at, meaning}
use Rattle.schema.specs.declared.value.Schema.{Schema}

-- a table with the same everywhere, past its end too
pub same_everywhere : {A : Type 0} (d : A) (n a : ℕ) → get_or (replicate n d) a d ≡ d
same_everywhere d zero a = refl
same_everywhere d (suc n) zero = refl
same_everywhere d (suc n) (suc a) = same_everywhere d n a

-- one step and then the others
pub steps_cons : (from by to : List ℕ) (s n : ℕ) → steps_of from by to s (suc n) ≡ step_at from by to s ∷ steps_of from by to (suc s) n
unfolding steps_of up_from
steps_cons from by to s n = refl

-- x is the image of one of the n numbers from s on
pub record AtPlace {A : Type 0} (f : ℕ → A) (s n : ℕ) (x : A) : Type 0 where
  pub place : ℕ
  pub least : s ≤ place
  pub most : place < s + n
  pub is : x ≡ f place

module _ {A : Type 0} (f : ℕ → A) (x : A) where
  at_place : (s n : ℕ) → Memᴰ x (map f (up_from s n)) → AtPlace f s n x
  unfolding up_from
  at_place s zero m = absurd (Memᴰ.not-nil m)
  at_place s (suc n) m = first (at_place (suc s) n) (Memᴰ.cases_cons m)
    where
      first : (Memᴰ x (map f (up_from (suc s) n)) → AtPlace f (suc s) n x)
          → (x ≡ f s) ⊎ Memᴰ x (map f (up_from (suc s) n)) → AtPlace f s (suc n) x
      first later (inl e) = record { place = s; least = omega arith; most = omega arith; is = e }
      first later (inr m) =
          let p = later m in
          record { place = p.place; least = omega arith; most = omega arith; is = p.is }

  from_place : (s n : ℕ) → AtPlace f s n x → Memᴰ x (map f (up_from s n))
  unfolding up_from
  from_place s zero p = absurd (omega arith)
  from_place s (suc n) p = first (from_place (suc s) n) (ℕ_discrete s p.place)
    where
      first : (AtPlace f (suc s) n x → Memᴰ x (map f (up_from (suc s) n))) → Dec (s ≡ p.place)
          → Memᴰ x (f s ∷ map f (up_from (suc s) n))
      first later (yes e) = Memᴰ.head (p.is ∙ sym (ap f e))
      first later (no d) =
          Memᴰ.tail (later (record { place = p.place; least = omega arith; most = omega arith; is = p.is }))

-- the members of a map over n numbers are the images of those
pub up_mem : {A : Type 0} (f : ℕ → A) (s n : ℕ) (x : A) → Memᴰ x (map f (up_from s n)) ↔ AtPlace f s n x
up_mem f s n x = (at_place f x s n, from_place f x s n)

-- the steps of a part are those at its places
pub steps_mem : (from by to : List ℕ) (s n : ℕ) (x : Step) → Memᴰ x (steps_of from by to s n) ↔ AtPlace (step_at from by to) s n x
unfolding steps_of
steps_mem from by to s n x = up_mem (step_at from by to) s n x

-- the offset of the next type, past the end of the counts too
pub offset_step : (steps : List ℕ) (a : ℕ) → offset steps (suc a) ≡ offset steps a + get_or steps a 0
offset_step [] zero = refl
offset_step [] (suc a) = refl
offset_step (n ∷ ns) zero = omega arith
offset_step (n ∷ ns) (suc a) = omega (arith, offset_step ns a)

pub offset_up : (steps : List ℕ) (a b : ℕ) → a ≤ b → offset steps a ≤ offset steps b
offset_up steps zero b l = zero-le
offset_up steps (suc a) zero l = absurd (omega arith)
offset_up [] (suc a) (suc b) l = zero-le
offset_up (n ∷ ns) (suc a) (suc b) l = omega (arith, offset_up ns a b (le_of_suc-le-suc l))

pub up_count : (s n : ℕ) → length (up_from s n) ≡ n
unfolding up_from
up_count s zero = refl
up_count s (suc n) = ap suc (up_count (suc s) n)

-- the last of the numbers
pub up_last : {A : Type 0} (f : ℕ → A) (s n : ℕ) → map f (up_from s (suc n)) ≡ map f (up_from s n) ++ (f (s + n) ∷ [])
unfolding up_from
up_last f s zero = rw (let e : s + 0 ≡ s = omega arith in e)
up_last f s (suc n) =
    let e : s + suc n ≡ suc s + n = omega arith in
    rw e (ap (λ (l : List _). f s ∷ l) (up_last f (suc s) n))

-- a part has as many steps as it counts
pub steps_count : (from by to : List ℕ) (s n : ℕ) → length (steps_of from by to s n) ≡ n
unfolding steps_of
steps_count from by to s n = length-map (up_from s n) (step_at from by to) ∙ up_count s n

-- what a map over n numbers has at the place a
pub map_up : {A : Type 0} (f : ℕ → A) (d : A) (s n a : ℕ) → a < n → get_or (map f (up_from s n)) a d ≡ f (s + a)
unfolding up_from
map_up f d s zero a l = absurd (omega arith)
map_up f d s (suc n) zero l = ap f (omega arith)
map_up f d s (suc n) (suc a) l = map_up f d (suc s) n a (le_of_suc-le-suc l) ∙ ap f (omega arith)

pub types_count : (v : Schema) → length (meaning v).blocks ≡ v.types
unfolding meaning
types_count v = length-map (up_from 0 v.types) (block_at v) ∙ up_count 0 v.types

pub block_of_lem : (v : Schema) (a : ℕ) → a < v.types → block_of (meaning v) a ≡ block_at v a
unfolding meaning
block_of_lem v a l = map_up (block_at v) no_block 0 v.types a l ∙ ap (block_at v) (omega arith)

-- the tag of a type of the schema
pub tag_of_lem : (v : Schema) (a : ℕ) → a < v.types → tag_of (meaning v) a ≡ get_or v.tag a 0
unfolding block_at
tag_of_lem v a l = ap (λ (b : Block). b.tag) (block_of_lem v a l)

pub no_block_of : (v : Schema) (a : ℕ) → v.types ≤ a → block_of (meaning v) a ≡ no_block
no_block_of v a l = get_or-eq_default (meaning v).blocks no_block (rw types_count l)

-- no steps, and one step and then the others
pub steps_none : (from by to : List ℕ) (s n : ℕ) → n ≡ 0 → steps_of from by to s n ≡ []
unfolding steps_of up_from
steps_none from by to s n e = rw e refl

pub steps_first : (from by to : List ℕ) (s n : ℕ) → 0 < n → steps_of from by to s n ≡ step_at from by to s ∷ steps_of from by to (s + 1) (n - 1)
unfolding steps_of up_from
steps_first from by to s zero l = absurd (omega arith)
steps_first from by to s (suc n) l =
    let e : s + 1 ≡ suc s = omega arith in
    let k : suc n - 1 ≡ n = omega arith in
    rw (e, k) refl

-- steps from a place past the tables' end are none, wherever they begin
pub steps_cut : (from by to : List ℕ) (s m start n : ℕ) → m ≡ n → (most_steps < start → n ≡ 0) → (start ≤ most_steps → s ≡ start)
    → steps_of from by to s m ≡ steps_of from by to start n
steps_cut from by to s m start n e none same =
    elim (dec_lt most_steps start) [
      | yes l ↦ steps_none from by to s m (e ∙ none l) ∙ sym (steps_none from by to start n (none l))
      | no l ↦ rw (e, same (omega arith))
    ]
