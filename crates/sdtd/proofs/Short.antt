-- With N pairs of states in all, a pair is reached by a word of fewer than N types.
use mathlib.Core.Path.{◌≡◌, refl, sym, ap, subst₂}
use mathlib.Core.Logic.{◌⊎◌, inl, inr, ⊎_elim, ⊎_swap}
use mathlib.Core.List.Memᴰ
use mathlib.Core.List.{List, [], ◌∷◌, Memᴰ}
use Prim.Native.Nat.{ℕ, suc, ◌<◌}
use native.Mathlib.Decide.{ℕ_discrete}
use native.Mathlib.Omega.{arith}
use lib.ListN.{length}
use Rattle.sdtd.specs.Limits.{most_pairs}
use Rattle.sdtd.specs.Schema.{Step, step, Block, Schema, block_of, Leads, stay, go, BlockWithin}
use Rattle.sdtd.specs.Trim.{Bears, none, both, AllBear}
use Rattle.sdtd.specs.Competition.{pair_number}
use Rattle.sdtd.proofs.Fixpoint.{PairReached}
use Rattle.sdtd.proofs.Rounds.{Distinct, no_number, fresh, full_length}
use Rattle.sdtd.proofs.Pairs.{SamePair, pair_one_number, pair_below_most}

-- one word w over tree-bearing types that leads in b from p to p' and from q to q'
record PairWay (S : Schema) (b : Block) (p q : ℕ) (w : List ℕ) (p' q' : ℕ) : Type 0 where
  first : Leads b p w p'
  second : Leads b q w q'
  bear : AllBear S w

mem_dec : (x : ℕ) (xs : List ℕ) → Dec (Memᴰ x xs)
mem_dec x [] = no Memᴰ.not-nil
mem_dec x (y ∷ ys) = cases (ℕ_discrete x y) (mem_dec x ys)
  where
    cases : Dec (x ≡ y) → Dec (Memᴰ x ys) → Dec (Memᴰ x (y ∷ ys))
    cases (yes e) d = yes (Memᴰ.head e)
    cases (no n) (yes m) = yes (Memᴰ.tail m)
    cases (no n) (no k) = no (λ m. ⊎_elim n k (Memᴰ.cases_cons m))

module _ (S : Schema) (b : Block) (number : ℕ → ℕ → ℕ) (p' q' : ℕ) where
  -- a way of pairs from p, q to p', q' by a word, with the numbers of the pairs visited
  data Trail : ℕ → ℕ → List ℕ → List ℕ → Type 0 where
    arrived : Trail p' q' [] (number p' q' ∷ [])
    next : {p q r s j : ℕ} {w v : List ℕ} → Memᴰ (step p j r) b.steps
        → Memᴰ (step q j s) b.steps → Bears S j → Trail r s w v → Trail p q (j ∷ w) (number p q ∷ v)

  -- a way of pairs from p, q to p', q' that visits no number twice
  record Shortened (p q : ℕ) : Type 0 where
    word : List ℕ
    visited : List ℕ
    trail : Trail p q word visited
    distinct : Distinct visited

  -- the way on from the visited pair with the number x
  record From (x : ℕ) : Type 0 where
    left : ℕ
    right : ℕ
    numbered : x ≡ number left right
    rest : Shortened left right

module _ {S : Schema} {b : Block} {number : ℕ → ℕ → ℕ} {p' q' : ℕ} where
  trail_way : {p q : ℕ} {w v : List ℕ} → Trail S b number p' q' p q w v → PairWay S b p q w p' q'
  trail_way arrived = record { first = stay; second = stay; bear = none }
  trail_way (next m n t l) =
      let r = trail_way l in
      record { first = go m r.first; second = go n r.second; bear = both t r.bear }

  trail_length : {p q : ℕ} {w v : List ℕ} → Trail S b number p' q' p q w v → length v ≡ suc (length w)
  trail_length arrived = refl
  trail_length (next m n t l) = ap suc (trail_length l)

  -- every number visited is below N
  trail_below : {p q N : ℕ} {w v : List ℕ} → ((s : Step) → Memᴰ s b.steps → s.to < b.states)
      → ((p q : ℕ) → p < b.states → q < b.states → number p q < N)
      → Trail S b number p' q' p q w v → p < b.states → q < b.states → (x : ℕ) → Memᴰ x v → x < N
  trail_below within below arrived hp hq x (Memᴰ.head e) = rw e (below _ _ hp hq)
  trail_below within below arrived hp hq x (Memᴰ.tail k) = absurd (Memᴰ.not-nil k)
  trail_below within below (next m n t l) hp hq x (Memᴰ.head e) = rw e (below _ _ hp hq)
  trail_below within below (next m n t l) hp hq x (Memᴰ.tail k) = trail_below within below l (within _ m) (within _ n) x k

  from_visited : {p q x : ℕ} {w v : List ℕ} → Trail S b number p' q' p q w v → Distinct v → Memᴰ x v → From S b number p' q' x
  from_visited arrived d (Memᴰ.head e) =
      record { left = p'; right = q'; numbered = e; rest = record { word = _; visited = _; trail = arrived; distinct = d } }
  from_visited arrived d (Memᴰ.tail k) = absurd (Memᴰ.not-nil k)
  from_visited (next {p = p} {q = q} m n t l) d (Memᴰ.head e) =
      record { left = p; right = q; numbered = e; rest = record { word = _; visited = _; trail = next m n t l; distinct = d } }
  from_visited (next m n t l) (fresh f d) (Memᴰ.tail k) = from_visited l d k

module _ {S : Schema} {b : Block} {number : ℕ → ℕ → ℕ} {p' q' : ℕ}
    (one : (p q r s : ℕ) → number p q ≡ number r s → SamePair p q r s) where
  -- a step from p, q in front of a way; if the pair is visited already, the way goes on from there, perhaps with p and q swapped
  extend : {p q r s j : ℕ} → Memᴰ (step p j r) b.steps
      → Memᴰ (step q j s) b.steps → Bears S j → Shortened S b number p' q' r s
      → Shortened S b number p' q' p q ⊎ Shortened S b number p' q' q p
  extend {p} {q} m n t l = cases (mem_dec (number p q) l.visited)
    where
      cases : Dec (Memᴰ (number p q) l.visited) → Shortened S b number p' q' p q ⊎ Shortened S b number p' q' q p
      cases (yes k) =
          let f = from_visited l.trail l.distinct k in
          ⊎_elim (λ e. inl (subst₂ (Shortened S b number p' q') (sym e.0) (sym e.1) f.rest))
          (λ e. inr (subst₂ (Shortened S b number p' q') (sym e.1) (sym e.0) f.rest))
          (one p q f.left f.right f.numbered)
      cases (no k) = inl (record { word = _; visited = _; trail = next m n t l.trail; distinct = fresh k l.distinct })

  shorten : {p q : ℕ} {w : List ℕ} → Leads b p w p' → Leads b q w q' → AllBear S w
      → Shortened S b number p' q' p q ⊎ Shortened S b number p' q' q p
  shorten stay stay none = inl (record { word = _; visited = _; trail = arrived; distinct = fresh Memᴰ.not-nil no_number })
  shorten (go m l) (go n k) (both t a) = ⊎_elim (λ f. extend m n t f) (λ f. ⊎_swap (extend n m t f)) (shorten l k a)

-- a pair reached by a word of fewer than N types
pub record ShortPair (S : Schema) (a p q N : ℕ) : Type 0 where
  pub pair : PairReached S a p q
  pub short : length pair.word < N

-- Where each unordered pair of the states of the type a has a number of its own below N, a pair that a word over tree-bearing types reaches
-- is reached by such a word of fewer than N types.
pub short_pair : {S : Schema} {a p q : ℕ} (N : ℕ) (number : ℕ → ℕ → ℕ)
    → ((s : Step) → Memᴰ s (block_of S a).steps → s.to < (block_of S a).states) → 0 < (block_of S a).states
    → ((p q : ℕ) → p < (block_of S a).states → q < (block_of S a).states → number p q < N)
    → ((p q r s : ℕ) → number p q ≡ number r s → SamePair p q r s)
    → PairReached S a p q → ShortPair S a p q N
short_pair {S} {a} {p} {q} N number within start below one x = ⊎_elim result result (shorten one x.left x.right x.bear)
  where
    result : Shortened S (block_of S a) number p q 0 0 → ShortPair S a p q N
    result f =
        let w = trail_way f.trail in
        record {
          pair = record { word = f.word; left = w.first; right = w.second; bear = w.bear };
          short = omega (arith, trail_length f.trail, full_length N f.distinct (trail_below within below f.trail start start));
        }

-- inside the limits, a word of at most `most_word` types
pub short_pair_most : {S : Schema} {a p q : ℕ} → BlockWithin S (block_of S a) → PairReached S a p q → ShortPair S a p q most_pairs
short_pair_most {S} {a} w x =
    short_pair most_pairs pair_number (λ s m. (w.steps s m).to) w.states_least
    (λ p q h k. pair_below_most p q (omega (arith, w.states_most)) (omega (arith, w.states_most))) pair_one_number x
