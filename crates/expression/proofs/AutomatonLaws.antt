-- The computed automaton is the expression's; and an expression has one automaton, its steps and accepting states rising.
use mathlib.Core.Path.{◌≡◌, refl, sym, ◌∙◌}
use mathlib.Core.Logic.{◌↔◌, ◌⊎◌, inl, inr}
use mathlib.Core.Bool.{Bool, false, ◌&&◌}
use mathlib.Core.List.{List, [], ◌∷◌, map, Memᴰ}
use Prim.Native.Nat.{ℕ, zero, suc, ◌≤◌, ◌<◌}
use native.Mathlib.Omega.{arith}
use lib.Dec.{eqb}
use Rattle.sdtd.specs.Limits.{most_types}
use Rattle.sdtd.specs.Schema.{Step, step, Block, Leads, stay, go, Accepts, Word}
use Rattle.expression.specs.Expression.{Expression, Denotes}
use Rattle.expression.specs.Automaton.{named, uses, type_of_use, StepTo, Ends, Before, AutomatonOf}
use Rattle.expression.specs.Tests.{leads, accepts, steps_by, steps_from, all_steps, automaton}
use Rattle.expression.proofs.Chains.{Chain, ends, goes, Chained, empty, begins, chain_last, chained_none}
use Rattle.expression.proofs.UseWords.{can, word_chained, chained_word}
use Rattle.expression.proofs.UseTypes.{Image, image_map, word_types}
use Rattle.sdtd.proofs.EachLaws.{mem-cond, Sorted, sorted_of_each, sorted_cond, sorted_rising, rising_same}
use Rattle.expression.proofs.TestLaws.{comes_first, comes_last, follows, empty_word_lem, leads_means, accepts_means, leads_below}
use Rattle.expression.proofs.AutomatonLimits.{use_named, step_if, mem-step_if, mem-steps_by, mem-steps_from, mem_steps, end_if, mem-accepting}

-- the chains of uses that start at a state
abbrev ChainAt : Expression → ℕ → List ℕ → Type 0
ChainAt e zero u = Chained (can 1 e) u
ChainAt e (suc p) u = Chain (can 1 e) (suc p) u

module _ (e : Expression) where
  step_below : (p q : ℕ) → StepTo e p q → 1 ≤ q
  step_below p q s = (leads_below e p q ((leads_means e p q).passes s)).0

  as_state : (q : ℕ) (u : List ℕ) → 1 ≤ q → Chain (can 1 e) q u ↔ ChainAt e q u
  as_state zero u l = absurd (omega arith)
  as_state (suc q) u l = (λ c. c, λ c. c)

  -- such a chain is empty at an end, or goes on by a step
  at_end : (p : ℕ) → ChainAt e p [] ↔ Ends e p
  at_end zero = (λ c. (empty_word_lem e).1 (chained_none c), λ d. empty ((empty_word_lem e).0 d))
  at_end (suc p) = (λ c. (comes_last e (suc p)).1 (chain_last c), λ c. ends ((comes_last e (suc p)).0 c))

  at_step : (p q : ℕ) (u : List ℕ) → ChainAt e p (q ∷ u) → StepTo e p q × ChainAt e q u
  at_step zero q u (begins f c) =
      let s = (comes_first e q).1 f in
      (s, (as_state q u (step_below zero q s)).0 c)
  at_step (suc p) q u (goes t c) =
      let s = (follows e (suc p) q).1 t in
      (s, (as_state q u (step_below (suc p) q s)).0 c)

  step_at : (p q : ℕ) (u : List ℕ) → StepTo e p q → ChainAt e q u → ChainAt e p (q ∷ u)
  step_at zero q u s c = begins ((comes_first e q).0 s) ((as_state q u (step_below zero q s)).1 c)
  step_at (suc p) q u s c = goes ((follows e (suc p) q).0 s) ((as_state q u (step_below (suc p) q s)).1 c)

-- With these steps and accepting states a block has the expression's words.
module _ (e : Expression) (b : Block)
    (steps : (s : Step) → Memᴰ s b.steps ↔ ((s.by ≡ type_of_use e s.to) × StepTo e s.from s.to))
    (accepting : (q : ℕ) → Memᴰ q b.accepting ↔ Ends e q) where
  run_chain : {p r : ℕ} {w : List ℕ} → Leads b p w r → Memᴰ r b.accepting → Image (type_of_use e) (ChainAt e p) w
  run_chain {p} stay m = record { list = []; is_one = (at_end e p).1 ((accepting p).0 m); types = refl }
  run_chain {p} (go {j = j} {q = q} s l) m =
      let r = run_chain l m in
      let t = (steps (step p j q)).0 s in
      record { list = q ∷ r.list; is_one = step_at e p q r.list t.1 r.is_one; types = λ i. t.0 i ∷ r.types i }

  chain_run : (p : ℕ) (u : List ℕ) → ChainAt e p u → Accepts b p (map (type_of_use e) u)
  chain_run p [] c = record { last = p; leads = stay; accepting = (accepting p).1 ((at_end e p).0 c) }
  chain_run p (q ∷ u) c =
      let s = at_step e p q u c in
      let r = chain_run q u s.1 in
      record { last = r.last; leads = go ((steps (step p (type_of_use e q) q)).1 (refl, s.0)) r.leads; accepting = r.accepting }

  block_words : (w : List ℕ) → Word b w ↔ Denotes e w
  block_words w = (
    λ a. (word_types e w).1 (image_map (chained_word 1 e) (run_chain a.leads a.accepting)),
    λ d.
        let i = (word_types e w).0 d in
        rw i.types (chain_run 0 i.list (word_chained 1 e i.list i.is_one)),
  )

-- The computed lists are sorted.
module _ (e : Expression) where
  by_sorted : (p j : ℕ) → Sorted Before (steps_by e p j)
  by_sorted p j =
      sorted_of_each Before (step_if e p j) (λ q. sorted_cond Before (eqb (type_of_use e q) j && leads e p q) (step p j q))
      (λ k l x y h m n. rw (((mem-step_if e p j k x).0 m).2, ((mem-step_if e p j l y).0 n).2) (inr (refl, inr (refl, h)))) 1 (uses e)

  from_sorted : (p : ℕ) → Sorted Before (steps_from e p)
  from_sorted p =
      sorted_of_each Before (steps_by e p) (by_sorted p)
      (λ k l x y h m n.
      let a = (mem-steps_by e p k x).0 m in
      let b = (mem-steps_by e p l y).0 n in
      inr (a.0 ∙ sym b.0, inl (omega (arith, a.1, b.1)))) 0 most_types

  pub steps_sorted : Sorted Before (all_steps e)
  steps_sorted =
      sorted_of_each Before (steps_from e) from_sorted
      (λ k l x y h m n. inl (omega (arith, ((mem-steps_from e k x).0 m).0, ((mem-steps_from e l y).0 n).0))) 0 (suc (uses e))

  accepting_sorted : Sorted ◌<◌ (automaton 0 false e).accepting
  accepting_sorted =
      sorted_of_each ◌<◌ (end_if e) (λ q. sorted_cond ◌<◌ (accepts e q) q)
      (λ k l x y h m n. omega (arith, ((mem-cond (accepts e k) x k).0 m).1, ((mem-cond (accepts e l) y l).0 n).1)) 0 (suc (uses e))

-- An expression whose types are below the limit becomes its automaton.
pub automaton_of : (tag : ℕ) (nillable : Bool) (e : Expression) → ((j : ℕ) → Memᴰ j (named e) → j < most_types)
    → AutomatonOf e (automaton tag nillable e)
automaton_of tag nillable e few =
    let steps : (s : Step) → Memᴰ s (all_steps e) ↔ ((s.by ≡ type_of_use e s.to) × StepTo e s.from s.to) =
    λ s. (
      λ m. let h = (mem_steps e s).0 m in (h.0, (leads_means e s.from s.to).says h.1),
      λ h.
          let t = (leads_means e s.from s.to).passes h.1 in
          let b = leads_below e s.from s.to t in
          (mem_steps e s).1 (h.0, t, few s.by (rw h.0 (use_named e s.to b.0 b.1))),
    ) in
    let accepting : (q : ℕ) → Memᴰ q (automaton tag nillable e).accepting ↔ Ends e q =
    λ q. (λ m. (accepts_means e q).says ((mem-accepting e q).0 m), λ h. (mem-accepting e q).1 ((accepts_means e q).passes h)) in
    record {
      words = block_words e (automaton tag nillable e) steps accepting;
      states = refl;
      steps = steps;
      accepting = accepting;
      steps_rise = sorted_rising Before (all_steps e) (steps_sorted e);
      accepting_rise = sorted_rising ◌<◌ (automaton tag nillable e).accepting (accepting_sorted e);
    }

-- whether its type is nillable does not matter
pub automaton_flag : (e : Expression) (b : Block) (nillable : Bool) → AutomatonOf e b
    → AutomatonOf e (record { tag = b.tag; nillable = nillable; states = b.states; accepting = b.accepting; steps = b.steps })
automaton_flag e b nillable h =
    record {
      words = block_words e _ h.steps h.accepting;
      states = h.states;
      steps = h.steps;
      accepting = h.accepting;
      steps_rise = h.steps_rise;
      accepting_rise = h.accepting_rise;
    }

-- The order of a step: by the first number, and by X where the first numbers are the same.
abbrev First : ℕ → ℕ → Type 0 → Type 0
First m n X = (m < n) ⊎ ((m ≡ n) × X)

first_trans : {l m n : ℕ} {X Y Z : Type 0} → (X → Y → Z) → First l m X → First m n Y → First l n Z
first_trans t (inl a) (inl b) = inl (omega arith)
first_trans t (inl a) (inr b) = inl (omega arith)
first_trans t (inr a) (inl b) = inl (omega arith)
first_trans t (inr a) (inr b) = inr (a.0 ∙ b.0, t a.1 b.1)

first_strict : {n : ℕ} {X : Type 0} → (X → ⊥) → First n n X → ⊥
first_strict t (inl a) = omega arith
first_strict t (inr a) = t a.1

-- it is a strict order
pub before_trans : (r s t : Step) → Before r s → Before s t → Before r t
before_trans r s t = first_trans (first_trans (λ a b. omega arith))

pub before_strict : (s : Step) → Before s s → ⊥
before_strict s = first_strict (first_strict (λ a. omega arith))

less_trans : (k m n : ℕ) → k < m → m < n → k < n
less_trans k m n a b = omega arith

less_strict : (n : ℕ) → n < n → ⊥
less_strict n a = omega arith

-- An expression has one automaton of a tag, nillable or not.
pub one_automaton : (e : Expression) {b c : Block} → b.tag ≡ c.tag → b.nillable ≡ c.nillable → AutomatonOf e b → AutomatonOf e c → b ≡ c
one_automaton e {b} {c} t n x y =
    let states : b.states ≡ c.states = x.states ∙ sym y.states in
    let accepting =
    rising_same less_trans less_strict b.accepting c.accepting x.accepting_rise y.accepting_rise
    (λ q. (λ m. (y.accepting q).1 ((x.accepting q).0 m), λ m. (x.accepting q).1 ((y.accepting q).0 m))) in
    let steps =
    rising_same before_trans before_strict b.steps c.steps x.steps_rise y.steps_rise
    (λ s. (λ m. (y.steps s).1 ((x.steps s).0 m), λ m. (x.steps s).1 ((y.steps s).0 m))) in
    λ i. record { tag = t i; nillable = n i; states = states i; accepting = accepting i; steps = steps i }
