-- Laws of the table of roots: which entries are roots, what is asked of each, and the table that marks them.
use mathlib.Core.Path.{◌≡◌, refl, sym, subst, ◌∙◌}
use mathlib.Core.Logic.{◌↔◌, ◌⊎◌, inl, inr, ⊎_elim}
use mathlib.Core.Bool.{Bool, true, false}
use mathlib.Core.List.{List, Memᴰ}
use Prim.Native.Nat.{ℕ, suc, ◌+◌, ◌≤◌, ◌<◌}
use native.Mathlib.Decide.{ℕ_discrete, dec_lt}
use native.Mathlib.Numerals.{add-one}
use native.Mathlib.Omega.{arith}
use borrow.Author.Tests.{lt-ltb, le-ltb}
use lib.Dec.{T}
use lib.ListN.{length, get_or, take, replicate, length-map, length-set, length-replicate}
use lib.Seq.{get_or-set_same, get_or-set_other, get_or-take, length-take-le}
use Rattle.std.specs.List.{All}
use Rattle.std.proofs.lemmas.List.{get_or_default}
use Rattle.sdtd.specs.Limits.{most_types}
use Rattle.schema.specs.Value.{up_from, roots_of}
use Rattle.schema.specs.Trimming.{MarksExactly}
use Rattle.schema.specs.Spread.{mark_type}
use Rattle.schema.proofs.Values.{same_everywhere, AtPlace, up_mem, up_count}

-- the type a is one of the first n entries
abbrev pub AtRoot : List ℕ → ℕ → ℕ → Type 0
AtRoot table n a = AtPlace (λ i. get_or table i 0) 0 n a

pub roots_mem : (table : List ℕ) (n a : ℕ) → Memᴰ a (roots_of table n) ↔ AtRoot table n a
unfolding roots_of
roots_mem table n a = up_mem (λ i. get_or table i 0) 0 n a

pub roots_count : (table : List ℕ) (n : ℕ) → length (roots_of table n) ≡ n
unfolding roots_of
roots_count table n = length-map (up_from 0 n) (λ i. get_or table i 0) ∙ up_count 0 n

-- the entry at a place before the count is a root
pub root_in : (table : List ℕ) (n i : ℕ) → i < n → Memᴰ (get_or table i 0) (roots_of table n)
root_in table n i l = (roots_mem table n (get_or table i 0)).1 (record { place = i; least = omega arith; most = omega arith; is = refl })

-- what holds for each of the first n entries holds for each root
pub each_root : (P : ℕ → Type 0) (table : List ℕ) (n : ℕ) → ((i : ℕ) → i < n → P (get_or table i 0)) → (a : ℕ) → Memᴰ a (roots_of table n) → P a
each_root P table n each a m =
    let p = (roots_mem table n a).0 m in
    rw p.is (each p.place (omega (arith, p.most)))

-- the same, of the first entries taken
pub roots_taken : (P : ℕ → Type 0) (table : List ℕ) (n : ℕ) → n ≤ length table
    → All P (take n table) ↔ ((a : ℕ) → Memᴰ a (roots_of table n) → P a)
roots_taken P table n most =
    let long : length (take n table) ≡ n = length-take-le n table most in (
      λ w. each_root P table n (λ i l. subst P (get_or-take n table i 0 l) (w i 0 (omega (arith, long)))),
      λ w k d h.
          let l : k < n = omega (arith, long) in
          subst P (sym (get_or_default (take n table) k d 0 h ∙ get_or-take n table k 0 l)) (w _ (root_in table n k l)),
    )

-- one entry more
root_next : (table : List ℕ) (i a : ℕ) → AtRoot table (suc i) a ↔ (AtRoot table i a ⊎ (a ≡ get_or table i 0))
root_next table i a = (
  λ p.
      elim (dec_lt p.place i) [
        | yes l ↦ inl (record { place = p.place; least = omega arith; most = omega arith; is = p.is })
        | no l ↦ let e : p.place ≡ i = omega (arith, p.most) in inr (rw e at p.is)
      ],
  λ w.
      ⊎_elim
      (λ p. record { place = p.place; least = omega arith; most = omega (arith, p.most); is = p.is })
      (λ e. record { place = i; least = omega arith; most = omega arith; is = e })
      w,
)

-- which types are marked once x is
mark_says : (table : List Bool) (x a : ℕ) → length table ≡ most_types
    → T (get_or (mark_type x table) a false) ↔ (T (get_or table a false) ⊎ ((a < most_types) × (a ≡ x)))
unfolding mark_type
mark_says table x a long =
    elim (dec_lt x most_types) [
      | yes l ↦ rw (lt-ltb x most_types l) (
          elim (ℕ_discrete a x) [
            | yes e ↦ rw (e, get_or-set_same table x true false (omega (arith, long))) (λ t. inr (l, refl), λ w. tt)
            | no d ↦ rw (get_or-set_other table x a true false d) (λ t. inl t, λ w. ⊎_elim (λ t. t) (λ p. absurd (d p.1)) w)
          ]
          )
      | no l ↦
          rw (le-ltb x most_types (omega arith)) (
            λ t. inl t,
            λ w. ⊎_elim (λ t. t) (λ p. absurd (omega (arith, p.0, p.1))) w,
          )
    ]

mark_long : (table : List Bool) (x : ℕ) → length table ≡ most_types → length (mark_type x table) ≡ most_types
unfolding mark_type
mark_long table x long =
    elim (dec_lt x most_types) [
      | yes l ↦ rw (lt-ltb x most_types l, length-set) long
      | no l ↦ rw (le-ltb x most_types (omega arith)) long
    ]

-- the first i roots are marked, and no other type
pub record MarksFirst (table : List ℕ) (i : ℕ) (marked : List Bool) : Type 0 where
  pub long : length marked ≡ most_types
  pub exactly : (a : ℕ) → T (get_or marked a false) ↔ ((a < most_types) × AtRoot table i a)

pub marks_none : (table : List ℕ) → MarksFirst table 0 (replicate most_types false)
marks_none table =
    record {
      long = length-replicate most_types false;
      exactly = λ a. rw (same_everywhere false most_types a) (λ f. absurd f, λ w. absurd (omega (arith, w.1.most)));
    }

pub marks_next : {table : List ℕ} {i : ℕ} {marked : List Bool} → MarksFirst table i marked
    → MarksFirst table (i + 1) (mark_type (get_or table i 0) marked)
marks_next {table} {i} {marked} m =
    let x = get_or table i 0 in
    record {
      long = mark_long marked x m.long;
      exactly = λ a.
          let says = mark_says marked x a m.long in
          let more = root_next table i a in
          rw add-one (
            λ t.
                ⊎_elim
                (λ was. let w = (m.exactly a).0 was in (w.0, more.1 (inl w.1)))
                (λ is. (is.0, more.1 (inr is.1)))
                (says.0 t),
            λ w.
                says.1
                (⊎_elim
                (λ was. inl ((m.exactly a).1 (w.0, was)))
                (λ is. inr (w.0, is))
                (more.0 w.1)),
          );
    }

pub marks_all : {table : List ℕ} {n : ℕ} {marked : List Bool} → MarksFirst table n marked → MarksExactly (roots_of table n) marked
marks_all {table} {n} m a =
    let e = m.exactly a in
    let r = roots_mem table n a in
    (λ t. ((e.0 t).0, r.1 (e.0 t).1), λ w. e.1 (w.0, r.0 w.1))
