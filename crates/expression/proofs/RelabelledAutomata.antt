-- The automaton of an expression with each type's image in its place: its steps are those by the images, and all else is the same.
use mathlib.Core.Path.{◌≡◌, refl, sym, ap, subst, ◌∙◌}
use mathlib.Core.Logic.{inl, inr}
use mathlib.Core.Bool.{Bool, false}
use mathlib.Core.List.Memᴰ
use mathlib.Core.List.{List, [], ◌∷◌, map, map-append, Memᴰ}
use Prim.Native.Nat.{ℕ, zero, suc, ◌+◌, ◌≤◌, ◌<◌, pred}
use native.Mathlib.Omega.{arith}
use lib.Dec.{T}
use lib.ListN.{length, get_or}
use Rattle.sdtd.specs.Limits.{most_types}
use Rattle.sdtd.specs.Schema.{Step, step}
use Rattle.sdtd.specs.Trim.{kept_steps}
use Rattle.sdtd.specs.Reduced.{new_number, relabel_step, steps_left, block_left}
use Rattle.sdtd.proofs.Basics.{is_true}
use Rattle.expression.specs.Expression.{Expression, empty_word, single, sequence, choice, repeat}
use Rattle.expression.specs.Automaton.{named, uses, type_of_use, Before}
use Rattle.sdtd.specs.Lists.{of_each}
use Rattle.expression.specs.Tests.{nullable, first, last, follow, leads, accepts, all_steps, automaton}
use Rattle.expression.specs.Answer.{set_of}
use Rattle.expression.proofs.UseTypes.{relabel_expression, named-uses}
use Rattle.sdtd.proofs.EachLaws.{each_same, Sorted, sorted_rising, rising_same}
use Rattle.expression.proofs.TestLaws.{leads_below}
use Rattle.expression.proofs.AutomatonLimits.{use_named, mem_steps, steps_inside, end_if}
use Rattle.expression.proofs.AutomatonLaws.{steps_sorted, before_trans, before_strict}

-- the image of an entry
get_or_image : (f : ℕ → ℕ) (l : List ℕ) (n : ℕ) → n < length l → get_or (map f l) n 0 ≡ f (get_or l n 0)
get_or_image f [] n h = absurd (omega arith)
get_or_image f (x ∷ xs) zero h = refl
get_or_image f (x ∷ xs) (suc n) h = get_or_image f xs n (omega arith)

-- a function that keeps the order of the members keeps the list sorted
sorted_map : {A : Type 0} (R : A → A → Type 0) (f : A → A) (xs : List A)
    → ((x y : A) → Memᴰ x xs → Memᴰ y xs → R x y → R (f x) (f y)) → Sorted R xs → Sorted R (map f xs)
sorted_map R f [] k s = tt
sorted_map R f (x ∷ xs) k s = (
  λ y m.
      let o = Memᴰ.of_map f xs m in
      subst (R (f x)) o.2 (k x o.0 (Memᴰ.head refl) (Memᴰ.tail o.1) (s.0 o.0 o.1)),
  sorted_map R f xs (λ y z m n. k y z (Memᴰ.tail m) (Memᴰ.tail n)) s.1,
)

-- sets of two tests that agree
pub set_same : (t u : ℕ → Bool) → ((q : ℕ) → t q ≡ u q) → (n : ℕ) → set_of t n ≡ set_of u n
unfolding set_of
set_same t u h zero = refl
set_same t u h (suc n) = rw (h n, set_same t u h n)

module _ (image : ℕ → ℕ) where
  pub named_relabelled : (e : Expression) → named (relabel_expression image e) ≡ map image (named e)
  named_relabelled empty_word = refl
  named_relabelled (single j) = refl
  named_relabelled (sequence e f) = rw (named_relabelled e, named_relabelled f) (sym (map-append image (named e) (named f)))
  named_relabelled (choice e f) = rw (named_relabelled e, named_relabelled f) (sym (map-append image (named e) (named f)))
  named_relabelled (repeat e) = named_relabelled e

  pub uses_relabelled : (e : Expression) → uses (relabel_expression image e) ≡ uses e
  uses_relabelled empty_word = refl
  uses_relabelled (single j) = refl
  uses_relabelled (sequence e f) = rw (uses_relabelled e, uses_relabelled f)
  uses_relabelled (choice e f) = rw (uses_relabelled e, uses_relabelled f)
  uses_relabelled (repeat e) = uses_relabelled e

  -- the tests of what can come first, last and next
  pub nullable_relabelled : (e : Expression) → nullable (relabel_expression image e) ≡ nullable e
  nullable_relabelled empty_word = refl
  nullable_relabelled (single j) = refl
  nullable_relabelled (sequence e f) = rw (nullable_relabelled e, nullable_relabelled f)
  nullable_relabelled (choice e f) = rw (nullable_relabelled e, nullable_relabelled f)
  nullable_relabelled (repeat e) = refl

  pub first_relabelled : (n : ℕ) (e : Expression) (q : ℕ) → first n (relabel_expression image e) q ≡ first n e q
  first_relabelled n empty_word q = refl
  first_relabelled n (single j) q = refl
  first_relabelled n (sequence e f) q =
      rw (uses_relabelled e, nullable_relabelled e, first_relabelled n e q, first_relabelled (n + uses e) f q)
  first_relabelled n (choice e f) q = rw (uses_relabelled e, first_relabelled n e q, first_relabelled (n + uses e) f q)
  first_relabelled n (repeat e) q = first_relabelled n e q

  pub last_relabelled : (n : ℕ) (e : Expression) (q : ℕ) → last n (relabel_expression image e) q ≡ last n e q
  last_relabelled n empty_word q = refl
  last_relabelled n (single j) q = refl
  last_relabelled n (sequence e f) q =
      rw (uses_relabelled e, nullable_relabelled f, last_relabelled n e q, last_relabelled (n + uses e) f q)
  last_relabelled n (choice e f) q = rw (uses_relabelled e, last_relabelled n e q, last_relabelled (n + uses e) f q)
  last_relabelled n (repeat e) q = last_relabelled n e q

  pub follow_relabelled : (n : ℕ) (e : Expression) (p q : ℕ) → follow n (relabel_expression image e) p q ≡ follow n e p q
  follow_relabelled n empty_word p q = refl
  follow_relabelled n (single j) p q = refl
  follow_relabelled n (sequence e f) p q =
      rw (
        uses_relabelled e,
        follow_relabelled n e p q,
        follow_relabelled (n + uses e) f p q,
        last_relabelled n e p,
        first_relabelled (n + uses e) f q,
      )
  follow_relabelled n (choice e f) p q = rw (uses_relabelled e, follow_relabelled n e p q, follow_relabelled (n + uses e) f p q)
  follow_relabelled n (repeat e) p q = rw (follow_relabelled n e p q, last_relabelled n e p, first_relabelled n e q)

  module _ (e : Expression) where
    pub leads_relabelled : (p q : ℕ) → leads (relabel_expression image e) p q ≡ leads e p q
    leads_relabelled zero q = first_relabelled 1 e q
    leads_relabelled (suc p) q = follow_relabelled 1 e (suc p) q

    pub accepts_relabelled : (q : ℕ) → accepts (relabel_expression image e) q ≡ accepts e q
    accepts_relabelled zero = nullable_relabelled e
    accepts_relabelled (suc q) = last_relabelled 1 e (suc q)

    pub accepting_relabelled : (n : ℕ) → set_of (accepts (relabel_expression image e)) n ≡ set_of (accepts e) n
    accepting_relabelled = set_same (accepts (relabel_expression image e)) (accepts e) accepts_relabelled

    pub ends_relabelled : (automaton 0 false (relabel_expression image e)).accepting ≡ (automaton 0 false e).accepting
    ends_relabelled =
        ap (λ (n : ℕ). of_each (end_if (relabel_expression image e)) 0 (suc n)) (uses_relabelled e)
        ∙ each_same (end_if (relabel_expression image e)) (end_if e) 0 (suc (uses e)) (λ q l b. rw (accepts_relabelled q))

    pub type_relabelled : (q : ℕ) → 1 ≤ q → q < suc (uses e) → type_of_use (relabel_expression image e) q ≡ image (type_of_use e q)
    type_relabelled q l b =
        ap (λ (js : List ℕ). get_or js (pred q) 0) (named_relabelled e) ∙ get_or_image image (named e) (pred q) (rw (named-uses e) (omega arith))

  -- Where the types and their images are below the limit, and the images rise with the types.
  module _ (e : Expression) (few : (j : ℕ) → Memᴰ j (named e) → j < most_types)
      (fits : (j : ℕ) → Memᴰ j (named e) → image j < most_types)
      (rises : (j k : ℕ) → Memᴰ j (named e) → Memᴰ k (named e) → j < k → image j < image k) where
    before_relabelled : (s t : Step) → Memᴰ s.by (named e) → Memᴰ t.by (named e) → Before s t
        → Before (relabel_step image s) (relabel_step image t)
    before_relabelled s t m n (inl l) = inl l
    before_relabelled s t m n (inr (f, inl l)) = inr (f, inl (rises s.by t.by m n l))
    before_relabelled s t m n (inr (f, inr (b, l))) = inr (f, inr (ap image b, l))

    step_there : (s : Step) → Memᴰ s (all_steps (relabel_expression image e)) → Memᴰ s (map (relabel_step image) (all_steps e))
    step_there s m =
        let h = (mem_steps (relabel_expression image e) s).0 m in
        let l : T (leads e s.from s.to) = subst T (leads_relabelled e s.from s.to) h.1 in
        let b = leads_below e s.from s.to l in
        let was = step s.from (type_of_use e s.to) s.to in
        let same : relabel_step image was ≡ s =
        ap (λ (j : ℕ). step s.from j s.to) (sym (h.0 ∙ type_relabelled e s.to b.0 b.1)) in
        subst (λ (t : Step). Memᴰ t (map (relabel_step image) (all_steps e))) same
        (Memᴰ.map (relabel_step image) ((mem_steps e was).1 (refl, l, few (type_of_use e s.to) (use_named e s.to b.0 b.1))))

    step_back : (s : Step) → Memᴰ s (map (relabel_step image) (all_steps e)) → Memᴰ s (all_steps (relabel_expression image e))
    step_back s m =
        let o = Memᴰ.of_map (relabel_step image) (all_steps e) m in
        let was = o.0 in
        let h = (mem_steps e was).0 o.1 in
        let b = steps_inside e was o.1 in
        subst (λ (t : Step). Memᴰ t (all_steps (relabel_expression image e))) o.2
        ((mem_steps (relabel_expression image e) (relabel_step image was)).1 (
          ap image h.0 ∙ sym (type_relabelled e was.to b.1 b.2),
          subst T (sym (leads_relabelled e was.from was.to)) h.1,
          fits was.by b.3,
        ))

    pub steps_relabelled : all_steps (relabel_expression image e) ≡ map (relabel_step image) (all_steps e)
    steps_relabelled =
        let old = all_steps e in
        let new = all_steps (relabel_expression image e) in
        let sorted =
        sorted_map Before (relabel_step image) old (λ s t m n. before_relabelled s t (steps_inside e s m).3 (steps_inside e t n).3)
        (steps_sorted e) in
        rising_same before_trans before_strict new (map (relabel_step image) old)
        (sorted_rising Before new (steps_sorted (relabel_expression image e))) (sorted_rising Before (map (relabel_step image) old) sorted)
        (λ s. (step_there s, step_back s))

    -- the whole automaton
    pub automaton_relabelled : (tag : ℕ) (nillable : Bool)
        → automaton tag nillable (relabel_expression image e)
        ≡ record {
          tag = tag;
          nillable = nillable;
          states = suc (uses e);
          accepting = (automaton tag nillable e).accepting;
          steps = map (relabel_step image) (all_steps e);
        }
    automaton_relabelled tag nillable =
        λ i. record {
          tag = tag;
          nillable = nillable;
          states = suc (uses_relabelled e i);
          accepting = ends_relabelled e i;
          steps = steps_relabelled i;
        }

-- where every step passes, all are kept
all_kept : (f : Step → Bool) (ss : List Step) → ((s : Step) → Memᴰ s ss → T (f s)) → kept_steps f ss ≡ ss
all_kept f [] h = refl
all_kept f (s ∷ ss) h = rw (is_true (f s) (h s (Memᴰ.head refl)), all_kept f ss (λ t m. h t (Memᴰ.tail m)))

-- The automaton of an expression that names only kept types, without the dropped types, is that of the expression with the new numbers.
module _ (kept : ℕ → Bool) (e : Expression) (all : (j : ℕ) → Memᴰ j (named e) → T (kept j))
    (few : (j : ℕ) → Memᴰ j (named e) → j < most_types)
    (fits : (j : ℕ) → Memᴰ j (named e) → new_number kept j < most_types)
    (rises : (j k : ℕ) → Memᴰ j (named e) → Memᴰ k (named e) → j < k → new_number kept j < new_number kept k) where
  pub automaton_left : (tag : ℕ) (nillable : Bool)
      → block_left kept (automaton tag nillable e) ≡ automaton tag nillable (relabel_expression (new_number kept) e)
  unfolding block_left steps_left
  automaton_left tag nillable =
      rw (all_kept (λ s. kept s.by) (all_steps e) (λ s m. all s.by (steps_inside e s m).3))
      (sym (automaton_relabelled (new_number kept) e few fits rises tag nillable))
