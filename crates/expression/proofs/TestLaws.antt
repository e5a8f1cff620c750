-- The tests of what can come first, last and next say what they should; and each use can be reached.
use mathlib.Core.Path.{◌≡◌, refl, sym}
use mathlib.Core.Logic.{◌↔◌}
use mathlib.Core.List.{List, [], ◌∷◌, ◌++◌, map, cons≢nil}
use Prim.Native.Nat.{ℕ, zero, suc, ◌+◌, ◌≤◌, ◌<◌}
use native.Mathlib.Omega.{arith}
use lib.Dec.{T}
use Rattle.sdtd.proofs.Tests.{Means, means_iff, itself, eq_means, and_means, or_means}
use Rattle.expression.specs.Expression.{Expression, empty_word, single, sequence, choice, repeat, Denotes}
use Rattle.expression.specs.Automaton.{uses, type_of_use, UseWord, ComesFirst, ComesLast, Follows, StepTo, Ends}
use Rattle.expression.specs.Tests.{nullable, first, last, follow, leads, accepts}
use Rattle.expression.proofs.Chains.{ends, goes, Chained, empty, begins, Through, chained_through}
use Rattle.expression.proofs.Chains.{chained_first, chain_follow, chain_last, chained_none}
use Rattle.expression.proofs.UseWords.{can, Among, can_inside, word_chained, chained_word, use_stands}
use Rattle.expression.proofs.UseTypes.{word_types}

-- the tests say what can come first, last and next
none_means : (n : ℕ) (e : Expression) → Means (nullable e) (can n e).none
none_means n empty_word = itself (nullable empty_word)
none_means n (single j) = itself (nullable (single j))
none_means n (sequence e f) = and_means (none_means n e) (none_means (n + uses e) f)
none_means n (choice e f) = or_means (none_means n e) (none_means (n + uses e) f)
none_means n (repeat e) = itself (nullable (repeat e))

first_means : (n : ℕ) (e : Expression) (q : ℕ) → Means (first n e q) ((can n e).first q)
first_means n empty_word q = itself (first n empty_word q)
first_means n (single j) q = eq_means q n
first_means n (sequence e f) q = or_means (first_means n e q) (and_means (none_means n e) (first_means (n + uses e) f q))
first_means n (choice e f) q = or_means (first_means n e q) (first_means (n + uses e) f q)
first_means n (repeat e) q = first_means n e q

last_means : (n : ℕ) (e : Expression) (q : ℕ) → Means (last n e q) ((can n e).last q)
last_means n empty_word q = itself (last n empty_word q)
last_means n (single j) q = eq_means q n
last_means n (sequence e f) q = or_means (last_means (n + uses e) f q) (and_means (none_means (n + uses e) f) (last_means n e q))
last_means n (choice e f) q = or_means (last_means n e q) (last_means (n + uses e) f q)
last_means n (repeat e) q = last_means n e q

follow_means : (n : ℕ) (e : Expression) (p q : ℕ) → Means (follow n e p q) ((can n e).follow p q)
follow_means n empty_word p q = itself (follow n empty_word p q)
follow_means n (single j) p q = itself (follow n (single j) p q)
follow_means n (sequence e f) p q =
    or_means (or_means (follow_means n e p q) (follow_means (n + uses e) f p q))
    (and_means (last_means n e p) (first_means (n + uses e) f q))
follow_means n (choice e f) p q = or_means (follow_means n e p q) (follow_means (n + uses e) f p q)
follow_means n (repeat e) p q = or_means (follow_means n e p q) (and_means (last_means n e p) (first_means n e q))

module _ (e : Expression) where
  -- a chain that passes the use
  passing : (q : ℕ) → Among 1 (uses e) q → (v : List ℕ) × (w : List ℕ) × Through (can 1 e) q w (λ u. Chained (can 1 e) (v ++ q ∷ u))
  passing q a =
      let s = use_stands 1 e q a in
      (s.before, s.rest, chained_through s.before (word_chained 1 e (s.before ++ q ∷ s.rest) s.word))

  -- what can come first, last and next does so in some word
  pub comes_first : (q : ℕ) → ComesFirst e q ↔ (can 1 e).first q
  comes_first q = (
    λ c. chained_first (word_chained 1 e (q ∷ c.rest) c.word),
    λ f.
        let t = passing q ((can_inside 1 e).first q f) in
        record { rest = t.1; word = chained_word 1 e (q ∷ t.1) (begins f t.2.after) },
  )

  pub comes_last : (q : ℕ) → ComesLast e q ↔ (can 1 e).last q
  comes_last q = (
    λ c. chain_last (chained_through c.before (word_chained 1 e (c.before ++ q ∷ []) c.word)).after,
    λ l.
        let t = passing q ((can_inside 1 e).last q l) in
        record { before = t.0; word = chained_word 1 e (t.0 ++ q ∷ []) (t.2.again [] (ends l)) },
  )

  pub follows : (p q : ℕ) → Follows e p q ↔ (can 1 e).follow p q
  follows p q = (
    λ c. chain_follow (chained_through c.before (word_chained 1 e (c.before ++ p ∷ q ∷ c.rest) c.word)).after,
    λ s.
        let a = (can_inside 1 e).follow p q s in
        let t = passing p a.0 in
        let u = passing q a.1 in
        record {
          before = t.0;
          rest = u.1;
          word = chained_word 1 e (t.0 ++ p ∷ q ∷ u.1) (t.2.again (q ∷ u.1) (goes s u.2.after));
        },
  )

  pub empty_word_lem : Denotes e [] ↔ (can 1 e).none
  empty_word_lem = (
    λ d. let i = (word_types e []).0 d in chained_none (word_chained 1 e [] (no_types i.list i.types i.is_one)),
    λ n. (word_types e []).1 (record { list = []; is_one = chained_word 1 e [] (empty n); types = refl }),
  )
    where
      no_types : (u : List ℕ) → [] ≡ map (type_of_use e) u → UseWord e u → UseWord e []
      no_types [] s d = d
      no_types (q ∷ u) s d = absurd (cons≢nil (sym s))

  -- the tests of a step and of an end say what the automaton's steps and ends are
  pub leads_means : (p q : ℕ) → Means (leads e p q) (StepTo e p q)
  leads_means zero q = means_iff (first_means 1 e q) (comes_first q)
  leads_means (suc p) q = means_iff (follow_means 1 e (suc p) q) (follows (suc p) q)

  pub accepts_means : (q : ℕ) → Means (accepts e q) (Ends e q)
  accepts_means zero = means_iff (none_means 1 e) empty_word_lem
  accepts_means (suc q) = means_iff (last_means 1 e (suc q)) (comes_last (suc q))

  -- a step goes from a state to a use, and an end is a state
  pub leads_below : (p q : ℕ) → T (leads e p q) → (1 ≤ q) × (q < suc (uses e)) × (p < suc (uses e))
  leads_below zero q t = omega (arith, (can_inside 1 e).first q ((first_means 1 e q).says t))
  leads_below (suc p) q t = omega (arith, (can_inside 1 e).follow (suc p) q ((follow_means 1 e (suc p) q).says t))

  pub accepts_below : (q : ℕ) → T (accepts e q) → q < suc (uses e)
  accepts_below zero t = omega arith
  accepts_below (suc q) t = omega (arith, (can_inside 1 e).last (suc q) ((last_means 1 e (suc q)).says t))
