-- Laws of the ways in which types bear a tree, and of the table of them.
use mathlib.Core.Path.{◌≡◌, refl, sym, ap, ap₂, subst, ◌∙◌}
use mathlib.Core.Logic.{◌↔◌, ◌⊎◌, inl, inr, ⊎_elim}
use mathlib.Core.Bool.{Bool, true, false, ◌||◌}
use mathlib.Core.List.Memᴰ
use mathlib.Core.List.{List, ◌++◌, map, append_assoc}
use Prim.Native.Nat.{ℕ, zero, suc, ◌+◌, ◌-◌, ◌≤◌, ◌<◌}
use native.Mathlib.Decide.{dec_lt, ℕ_discrete}
use native.Mathlib.Nat.{zero-add}
use native.Mathlib.Numerals.{add-one}
use native.Mathlib.Omega.{arith}
use lib.Dec.{T, lit<}
use lib.ListN.{length, get_or, set, replicate, length-append, length-map, length-replicate, length-set, get_or-append}
use lib.Seq.{get_or-set_same, get_or-set_other, get_or-append-add, ext_get_or, set_at}
use Rattle.sdtd.specs.Limits.{most_types}
use Rattle.sdtd.specs.Schema.{Block, Schema as Meaning, block_of, Nillable}
use Rattle.sdtd.specs.Tree.{Kind, plain, nil}
use Rattle.sdtd.specs.Trim.{Bears, BearsBy}
use Rattle.sdtd.proofs.Basics.{same_test}
use Rattle.sdtd.proofs.Tests.{itself, or_means}
use Rattle.sdtd.proofs.Bearing.{nil_bears, bears_either}
use Rattle.sdtd.proofs.Fixpoint.{plain_live}
use Rattle.sdtd.proofs.Decide.{opens_in}
use Rattle.sdtd.proofs.LiveStates.{live_table}
use Rattle.schema.specs.States.{member}
use Rattle.schema.specs.Value.{up_from, block_at, meaning}
use Rattle.schema.specs.Ways.{most_ways, opens_by, bears_in, WaysFor}
use Rattle.schema.specs.Spread.{ways_of, ways_by}
use Rattle.schema.specs.Trimming.{LiveExactly, WaysExactly}
use Rattle.schema.specs.declared.value.Schema.{Schema}
use Rattle.schema.proofs.Values.{same_everywhere, up_count, up_last, map_up, block_of_lem, no_block_of}

-- the number says what it was made of
few : (p n : Bool) → ways_of p n < most_ways
few true true = lit< tt
few true false = lit< tt
few false true = lit< tt
few false false = lit< tt

pub says_plain : (p n : Bool) → opens_by plain (ways_of p n) ≡ p
says_plain true true = refl
says_plain true false = refl
says_plain false true = refl
says_plain false false = refl

pub says_nil : (p n : Bool) → opens_by nil (ways_of p n) ≡ n
says_nil true true = refl
says_nil true false = refl
says_nil false true = refl
says_nil false false = refl

says_all : (w : ℕ) → w < most_ways → w ≡ ways_of (opens_by plain w) (opens_by nil w)
says_all zero l = refl
says_all (suc zero) l = refl
says_all (suc (suc zero)) l = refl
says_all (suc (suc (suc zero))) l = refl
says_all (suc (suc (suc (suc w)))) l = absurd (omega arith)

-- the number of a type that bears a tree opened plainly, or is nillable, as the tests say
ways_for : {S : Meaning} {j : ℕ} (p n : Bool) → T p ↔ BearsBy S plain j → T n ↔ Nillable S j → WaysFor S j (ways_of p n)
ways_for {S} {j} p n is_plain is_nil = record { few = few p n; exact = exact }
  where
    exact : (κ : Kind) → T (opens_by κ (ways_of p n)) ↔ BearsBy S κ j
    exact plain = rw (says_plain p n) is_plain
    exact nil = rw (says_nil p n) (λ t. nil_bears.1 (is_nil.0 t), λ b. is_nil.1 (nil_bears.0 b))

-- a type bears a tree exactly if its number has a kind
pub bears_for : {S : Meaning} {j w : ℕ} → WaysFor S j w → T (opens_by plain w || opens_by nil w) ↔ Bears S j
bears_for {w = w} x =
    let o = or_means (itself (opens_by plain w)) (itself (opens_by nil w)) in (
      λ t. bears_either.1 (⊎_elim (λ p. inl ((x.exact plain).0 p)) (λ n. inr (nil_bears.0 ((x.exact nil).0 n))) (o.says t)),
      λ b. o.passes (⊎_elim (λ p. inl ((x.exact plain).1 p)) (λ n. inr ((x.exact nil).1 (nil_bears.1 n))) (bears_either.0 b)),
    )

-- each type has one
pub some_ways : (S : Meaning) (j : ℕ) → (w : ℕ) × WaysFor S j w
some_ways S j =
    let p = opens_in S (live_table S).0 plain j in
    let n = (block_of S j).nillable in
    let m = (live_table S).1.opens plain j in
    (ways_of p n, ways_for p n (m.says, m.passes) (λ t. t, λ t. t))

-- .. and no other
pub one_ways : {S : Meaning} {j w v : ℕ} → WaysFor S j w → WaysFor S j v → w ≡ v
one_ways {w = w} {v} x y = says_all w x.few ∙ ap₂ ways_of (same plain) (same nil) ∙ sym (says_all v y.few)
  where
    same : (κ : Kind) → opens_by κ w ≡ opens_by κ v
    same κ = same_test (opens_by κ w) (opens_by κ v) (λ t. (y.exact κ).1 ((x.exact κ).0 t)) (λ t. (x.exact κ).1 ((y.exact κ).0 t))

-- a table of exact numbers says which types bear a tree
pub bears_in_lem : (S : Meaning) (table : List ℕ) → WaysExactly S table → (j : ℕ) → T (bears_in table j) ↔ Bears S j
bears_in_lem S table exact j = bears_for (exact j)

module _ (nillable : List Bool) (types : ℕ) (most : types ≤ most_types) where
  ways_long : (live : List ℕ) → length (ways_by nillable types live) ≡ most_types
  unfolding ways_by
  ways_long live = simp (length-append, length-map, up_count, length-replicate) (omega arith)

  pub ways_at : (live : List ℕ) (a : ℕ) → a < types → get_or (ways_by nillable types live) a 0 ≡ ways_of (member 0 (get_or live a 0)) (get_or nillable a false)
  unfolding ways_by
  ways_at live a l =
      let f : ℕ → ℕ = λ b. ways_of (member 0 (get_or live b 0)) (get_or nillable b false) in
      let long : length (map f (up_from 0 types)) ≡ types = length-map (up_from 0 types) f ∙ up_count 0 types in
      get_or-append (map f (up_from 0 types)) (replicate (most_types - types) 0) 0 a (rw long l)
      ∙ map_up f 0 0 types a l ∙ ap f (zero-add a)

  ways_past : (live : List ℕ) (a : ℕ) → types ≤ a → get_or (ways_by nillable types live) a 0 ≡ 0
  unfolding ways_by
  ways_past live a l =
      let f : ℕ → ℕ = λ b. ways_of (member 0 (get_or live b 0)) (get_or nillable b false) in
      let long : length (map f (up_from 0 types)) ≡ types = length-map (up_from 0 types) f ∙ up_count 0 types in
      let at : a ≡ length (map f (up_from 0 types)) + (a - types) = omega arith in
      ap (λ (n : ℕ). get_or (map f (up_from 0 types) ++ replicate (most_types - types) 0) n 0) at
      ∙ get_or-append-add (map f (up_from 0 types)) (replicate (most_types - types) 0) (a - types) 0
      ∙ same_everywhere 0 (most_types - types) (a - types)

  -- a type's live states put, and its number told anew
  pub ways_set : (live : List ℕ) (a x : ℕ) → length live ≡ most_types → a < types
      → ways_by nillable types (set live a x) ≡ set (ways_by nillable types live) a (ways_of (member 0 x) (get_or nillable a false))
  ways_set live a x long l =
      ext_get_or 0 (ways_by nillable types (set live a x)) (set (ways_by nillable types live) a (ways_of (member 0 x) (get_or nillable a false)))
      (ways_long (set live a x) ∙ sym (length-set (ways_by nillable types live) a _ ∙ ways_long live))
      (λ b h. same b (ℕ_discrete b a) (dec_lt b types))
    where
      same : (b : ℕ) → Dec (b ≡ a) → Dec (b < types)
          → get_or (ways_by nillable types (set live a x)) b 0
          ≡ get_or (set (ways_by nillable types live) a (ways_of (member 0 x) (get_or nillable a false))) b 0
      same b (yes e) d =
          rw (e, ways_at (set live a x) a l, get_or-set_same live a x 0 (omega arith))
          (sym (get_or-set_same (ways_by nillable types live) a _ 0 (omega (arith, ways_long live))))
      same b (no n) (yes h) =
          rw (ways_at (set live a x) b h, get_or-set_other live a b x 0 n, get_or-set_other (ways_by nillable types live) a b _ 0 n)
          (sym (ways_at live b h))
      same b (no n) (no h) =
          rw (ways_past (set live a x) b (omega arith), get_or-set_other (ways_by nillable types live) a b _ 0 n)
          (sym (ways_past live b (omega arith)))

  -- one type more of the table
  pub ways_next : (live : List ℕ) (a : ℕ) → a < types
      → set (ways_by nillable a live) a (ways_of (member 0 (get_or live a 0)) (get_or nillable a false)) ≡ ways_by nillable (a + 1) live
  unfolding ways_by
  ways_next live a l =
      let f : ℕ → ℕ = λ b. ways_of (member 0 (get_or live b 0)) (get_or nillable b false) in
      let long : length (map f (up_from 0 a)) ≡ a = length-map (up_from 0 a) f ∙ up_count 0 a in
      let left : most_types - a ≡ suc (most_types - (a + 1)) = omega arith in
      rw (left, set_at _ _ _ _ a long, add-one a, up_last f 0 a, append_assoc, zero-add a)

-- the nillable types of a value
pub nillable_of : (v : Schema) (a : ℕ) → a < v.types → (block_of (meaning v) a).nillable ≡ get_or v.nillable a false
unfolding block_at
nillable_of v a l = ap (λ (b : Block). b.nillable) (block_of_lem v a l)

module _ (v : Schema) (most : v.types ≤ most_types) (live : List ℕ) where
  -- by the table of live states, a type bears a tree
  pub bears_by : (j : ℕ) → j < v.types
      → T (bears_in (ways_by v.nillable v.types live) j) ↔ (T (member 0 (get_or live j 0)) ⊎ Nillable (meaning v) j)
  bears_by j l =
      let p = member 0 (get_or live j 0) in
      let n = get_or v.nillable j false in
      let o = or_means (itself p) (itself n) in
      rw (ways_at v.nillable v.types most live j l, says_plain p n, says_nil p n, nillable_of v j l) (o.says, o.passes)

  -- the numbers of a table of exactly the live states are exact
  pub ways_exactly : LiveExactly (meaning v) live → WaysExactly (meaning v) (ways_by v.nillable v.types live)
  ways_exactly exact j = by_type (dec_lt j v.types)
    where
      is_plain : T (member 0 (get_or live j 0)) ↔ BearsBy (meaning v) plain j
      is_plain = (λ m. plain_live.1 ((exact j 0).0 m), λ b. (exact j 0).1 (plain_live.0 b))

      by_type : Dec (j < v.types) → WaysFor (meaning v) j (get_or (ways_by v.nillable v.types live) j 0)
      by_type (yes l) =
          rw (ways_at v.nillable v.types most live j l)
          (ways_for (member 0 (get_or live j 0)) (get_or v.nillable j false) is_plain (rw (nillable_of v j l) (λ t. t, λ t. t)))
      by_type (no n) =
          let past : v.types ≤ j = omega arith in
          rw (ways_past v.nillable v.types most live j past) (ways_for false false no_plain no_nil)
        where
          no_plain : T false ↔ BearsBy (meaning v) plain j
          no_plain = (λ f. absurd f, λ b. let w = b.derived.0 in absurd (Memᴰ.not-nil (rw (no_block_of v j (omega arith)) at w.accepting)))

          no_nil : T false ↔ Nillable (meaning v) j
          no_nil = (λ f. absurd f, λ t. subst (λ (c : Block). T c.nillable) (no_block_of v j (omega arith)) t)
