-- Live states, reached types and reached pairs of states are least fixpoints: a table that is closed under their rules holds all of them,
-- and one that is sound too holds nothing else.
use mathlib.Core.Path.{◌≡◌, refl, subst, ◌∙◌}
use mathlib.Core.Logic.{◌↔◌, ◌⊎◌, inl, inr, ⊎_elim}
use mathlib.Core.List.Memᴰ
use mathlib.Core.List.{List, [], ◌∷◌, ◌++◌, Memᴰ}
use Prim.Native.Nat.{ℕ, suc, ◌+◌}
use native.Mathlib.Omega.{arith}
use lib.ListN.{length, length-append}
use Rattle.sdtd.specs.Schema.{Step, step, Schema, block_of, Nillable, Leads, stay, go, Word}
use Rattle.sdtd.specs.Tree.{Tree, Forest, plain, nil, node, empty, more, label, labels, IsRoot, Derived, DerivedAll}
use Rattle.sdtd.specs.Trim.{Bears, BearsBy, All, none, both, AllBear, Live, Reached, root, child}
use Rattle.sdtd.specs.Competition.{GoesOn}
use Rattle.sdtd.proofs.Automata.{all_append, all_front, all_back, all_head, all_tail, around, leads_append, accepts_after}
use Rattle.sdtd.proofs.Automata.{accepts_split, first_step}
use Rattle.sdtd.proofs.Bearing.{word_bears, bears_word, bears_either}

-- The type j starts in P, a property of types and their states, or is nillable: where P is liveness, exactly if j bears a tree.
abbrev pub Starts : Schema → (ℕ → ℕ → Type 0) → ℕ → Type 0
Starts S P j = P j 0 ⊎ Nillable S j

pub starts_map : (S : Schema) {P Q : ℕ → ℕ → Type 0} → ((a q : ℕ) → P a q → Q a q) → (a : ℕ) → Starts S P a → Starts S Q a
starts_map S f a s = ⊎_elim (λ p. inl (f a 0 p)) (λ n. inr n) s

-- P holds for each accepting state, and for the state before a step by a type that starts in P into a state with P.
pub record LiveClosed (S : Schema) (P : ℕ → ℕ → Type 0) : Type 0 where
  pub accepting : (a q : ℕ) → Memᴰ q (block_of S a).accepting → P a q
  pub step : (a : ℕ) (s : Step) → Memᴰ s (block_of S a).steps → Starts S P s.by → P a s.to → P a s.from

all_map : {P Q : ℕ → Type 0} {w : List ℕ} → ((j : ℕ) → P j → Q j) → All P w → All Q w
all_map f none = none
all_map f (both {j = j} p a) = both (f j p) (all_map f a)

module _ {S : Schema} {P : ℕ → ℕ → Type 0} (closed : LiveClosed S P) where
  -- from the end of a way back to its beginning
  live_along : (a : ℕ) {q r : ℕ} {w : List ℕ} → Leads (block_of S a) q w r → All (Starts S P) w → P a r → P a q
  live_along a stay b l = l
  live_along a (go {p = p} {j = j} {q = q} s k) (both m b) l = closed.step a (step p j q) s m (live_along a k b l)

  -- each type in a derived tree starts in P
  mutual
    tree_starts : (t : Tree) → Derived S t → Starts S P (label t)
    tree_starts (node plain a f) d = inl (live_along a d.0.leads (forest_starts f d.1) (closed.accepting a d.0.last d.0.accepting))
    tree_starts (node nil a f) d = inr d.0.0

    forest_starts : (f : Forest) → DerivedAll S f → All (Starts S P) (labels f)
    forest_starts empty d = none
    forest_starts (more t f) d = both (tree_starts t d.0) (forest_starts f d.1)

  bears_starts : (a : ℕ) → Bears S a → Starts S P a
  bears_starts a b = subst (Starts S P) b.at_root (tree_starts b.tree b.derived)

  -- a closed table has every live state
  pub live_complete : (a q : ℕ) → Live S a q → P a q
  live_complete a q l =
      live_along a l.accepts.leads (all_map bears_starts l.bear) (closed.accepting a l.accepts.last l.accepts.accepting)

-- a type bears a tree opened plainly exactly if its start state is live
pub plain_live : {S : Schema} {a : ℕ} → BearsBy S plain a ↔ Live S a 0
plain_live {a = a} = (
  λ b. let w = bears_word b in record { word = w.word; accepts = w.is_word; bear = w.bear },
  λ l. word_bears a l.accepts l.bear,
)

-- .. and a tree exactly if it starts live
pub bears_live : {S : Schema} {a : ℕ} → Bears S a ↔ Starts S (Live S) a
bears_live = (
  λ b. ⊎_elim (λ p. inl (plain_live.0 p)) (λ n. inr n) (bears_either.0 b),
  λ s. bears_either.1 (⊎_elim (λ l. inl (plain_live.1 l)) (λ n. inr n) s),
)

-- the live states are closed
pub live_closed : {S : Schema} → LiveClosed S (Live S)
live_closed =
    record {
      accepting = λ a q m. record { word = []; accepts = record { last = q; leads = stay; accepting = m }; bear = none };
      step =
          λ a s m b l.
          record { word = s.by ∷ l.word; accepts = accepts_after (go m stay) l.accepts; bear = both (bears_live.1 b) l.bear };
    }

-- a sound and closed table has exactly the live states
pub live_exact : {S : Schema} {P : ℕ → ℕ → Type 0} → LiveClosed S P → ((a q : ℕ) → P a q → Live S a q) → (a q : ℕ) → Live S a q ↔ P a q
live_exact closed sound a q = (live_complete closed a q, sound a q)

-- .. the start states of exactly the types that bear a tree opened plainly
pub plain_exact : {S : Schema} {P : ℕ → ℕ → Type 0} → LiveClosed S P → ((a q : ℕ) → P a q → Live S a q)
    → (a : ℕ) → BearsBy S plain a ↔ P a 0
plain_exact closed sound a = (λ b. live_complete closed a 0 (plain_live.0 b), λ p. plain_live.1 (sound a 0 p))

-- exactly the tree-bearing types start in a sound and closed table
pub bears_exact : {S : Schema} {P : ℕ → ℕ → Type 0} → LiveClosed S P → ((a q : ℕ) → P a q → Live S a q)
    → (a : ℕ) → Bears S a ↔ Starts S P a
bears_exact {S} closed sound a = (bears_starts closed a, λ p. bears_live.1 (starts_map S sound a p))

-- The state p of the type a is reached over tree-bearing types.
pub record Forward (S : Schema) (a p : ℕ) : Type 0 where
  pub word : List ℕ
  pub leads : Leads (block_of S a) 0 word p
  pub bear : AllBear S word

-- A step by the tree-bearing type j into a live state, after the word w.
pub record Passes (S : Schema) (a : ℕ) (w : List ℕ) (j : ℕ) : Type 0 where
  pub from : ℕ
  pub to : ℕ
  pub leads : Leads (block_of S a) 0 w from
  pub bear : AllBear S w
  pub step : Memᴰ (step from j to) (block_of S a).steps
  pub by_bearing : Bears S j
  pub to_live : Live S a to

-- a word over tree-bearing types begins with w and then j exactly if such a step is there
pub goes_on : {S : Schema} {a j : ℕ} {w : List ℕ} → GoesOn S a w j ↔ Passes S a w j
goes_on {S} {a} {j} {w} = (passes, joined)
  where
    passes : GoesOn S a w j → Passes S a w j
    passes g =
        let m = accepts_split w g.word in
        let f = first_step m.back.leads in
        let b = all_back w g.bear in
        record {
          from = m.middle;
          to = f.next;
          leads = m.front;
          bear = all_front w (j ∷ g.rest) g.bear;
          step = f.step;
          by_bearing = all_head b;
          to_live =
              record {
                word = g.rest;
                accepts = record { last = m.back.last; leads = f.back; accepting = m.back.accepting };
                bear = all_tail b;
              };
        }

    joined : Passes S a w j → GoesOn S a w j
    joined p =
        record {
          rest = p.to_live.word;
          word = accepts_after p.leads (accepts_after (go p.step stay) p.to_live.accepts);
          bear = all_append p.bear (both p.by_bearing p.to_live.bear);
        }

-- P holds for the root types, and for the type of each step in a word over tree-bearing types of a type that has it.
pub record ReachedClosed (S : Schema) (P : ℕ → Type 0) : Type 0 where
  pub root : (a : ℕ) → IsRoot S a → P a
  pub step :
      (a : ℕ) (s : Step) → P a → Memᴰ s (block_of S a).steps → Forward S a s.from → Bears S s.by → Live S a s.to → P s.by

-- a type in a word over tree-bearing types, with the types before it
record InWord (S : Schema) (a j : ℕ) : Type 0 where
  front : List ℕ
  goes : GoesOn S a front j

in_word : {S : Schema} {a j : ℕ} {w : List ℕ} → Word (block_of S a) w → AllBear S w → Memᴰ j w → InWord S a j
in_word word bear m =
    let r = around m in
    record { front = r.front; goes = record { rest = r.back; word = rw r.splits at word; bear = rw r.splits at bear } }

-- a closed table has every reached type
pub reached_complete : {S : Schema} {P : ℕ → Type 0} → ReachedClosed S P → (a : ℕ) → Reached S a → P a
reached_complete closed a (root e) = closed.root a e
reached_complete closed j (child {a = a} r word bear m) =
    let i = in_word word bear m in
    let p = goes_on.0 i.goes in
    closed.step a (step p.from j p.to) (reached_complete closed a r) p.step
    (record { word = i.front; leads = p.leads; bear = p.bear }) p.by_bearing p.to_live

passed : {S : Schema} {a j : ℕ} {w : List ℕ} → Reached S a → Passes S a w j → Reached S j
passed {w = w} r p =
    let g = goes_on.1 p in
    child r g.word g.bear (Memᴰ.append_right w (Memᴰ.head refl))

-- the reached types are closed
pub reached_closed : {S : Schema} → ReachedClosed S (Reached S)
reached_closed =
    record {
      root = λ a e. root e;
      step =
          λ a s r m f b l.
          passed r (record { from = s.from; to = s.to; leads = f.leads; bear = f.bear; step = m; by_bearing = b; to_live = l });
    }

-- a sound and closed table has exactly the reached types
pub reached_exact : {S : Schema} {P : ℕ → Type 0} → ReachedClosed S P → ((a : ℕ) → P a → Reached S a) → (a : ℕ) → Reached S a ↔ P a
reached_exact closed sound a = (reached_complete closed a, sound a)

-- One word over tree-bearing types leads from the start state of a both to p and to q.
pub record PairReached (S : Schema) (a p q : ℕ) : Type 0 where
  pub word : List ℕ
  pub left : Leads (block_of S a) 0 word p
  pub right : Leads (block_of S a) 0 word q
  pub bear : AllBear S word

-- Such a word of n types leads to both.
pub record PairOfLength (S : Schema) (a n p q : ℕ) : Type 0 where
  pub pair : PairReached S a p q
  pub long : length pair.word ≡ n

-- P holds for the start state twice, and after two steps by one tree-bearing type from a pair that has it.
pub record PairClosed (S : Schema) (a : ℕ) (P : ℕ → ℕ → Type 0) : Type 0 where
  pub start : P 0 0
  pub step :
      (p q j p' q' : ℕ) → P p q → Memᴰ (step p j p') (block_of S a).steps
      → Memᴰ (step q j q') (block_of S a).steps → Bears S j → P p' q'

-- The same of a property that counts the steps.
pub record CountedClosed (S : Schema) (a : ℕ) (P : ℕ → ℕ → ℕ → Type 0) : Type 0 where
  pub start : P 0 0 0
  pub step :
      (n p q j p' q' : ℕ) → P n p q → Memᴰ (step p j p') (block_of S a).steps
      → Memᴰ (step q j q') (block_of S a).steps → Bears S j → P (suc n) p' q'

module _ {S : Schema} {a : ℕ} {P : ℕ → ℕ → ℕ → Type 0} (closed : CountedClosed S a P) where
  counted_along :
      (n m : ℕ) {p q r s : ℕ} {w : List ℕ} → n + length w ≡ m → Leads (block_of S a) p w r → Leads (block_of S a) q w s → AllBear S w
      → P n p q → P m r s
  counted_along n m {r = r} {s} e stay stay b h = subst (λ (i : ℕ). P i r s) (omega arith) h
  counted_along n m e (go {p = p} {j = j} {q = p'} x l) (go {p = q} {q = q'} y k) (both b c) h =
      counted_along (suc n) m (omega arith) l k c (closed.step n p q j p' q' h x y b)

  -- a closed table with counts has, at n, every pair that a word of n types reaches
  pub counted_complete : (n p q : ℕ) → PairOfLength S a n p q → P n p q
  counted_complete n p q r =
      counted_along 0 n (omega (arith, r.long)) r.pair.left r.pair.right r.pair.bear closed.start

-- a closed table has every reached pair
pub pair_complete : {S : Schema} {a : ℕ} {P : ℕ → ℕ → Type 0} → PairClosed S a P → (p q : ℕ) → PairReached S a p q → P p q
pair_complete {P = P} closed p q r =
    counted_complete {P = λ n. P} (record { start = closed.start; step = λ n. closed.step })
    (length r.word) p q (record { pair = r; long = refl })

-- the reached pairs are closed, counted by the lengths of their words
pub counted_closed : {S : Schema} {a : ℕ} → CountedClosed S a (PairOfLength S a)
counted_closed =
    record {
      start = record { pair = record { word = []; left = stay; right = stay; bear = none }; long = refl };
      step =
          λ n p q j p' q' r k l b.
          let x = r.pair in
          record {
            pair =
                record {
                  word = x.word ++ (j ∷ []);
                  left = leads_append x.left (go k stay);
                  right = leads_append x.right (go l stay);
                  bear = all_append x.bear (both b none);
                };
            long = length-append x.word (j ∷ []) ∙ omega (arith, r.long);
          };
    }

-- .. and uncounted
pub pair_closed : {S : Schema} {a : ℕ} → PairClosed S a (PairReached S a)
pair_closed =
    record {
      start = counted_closed.start.pair;
      step =
          λ p q j p' q' r k l b.
          (counted_closed.step (length r.word) p q j p' q' (record { pair = r; long = refl }) k l b).pair;
    }

-- a sound and closed table has exactly the reached pairs
pub pair_exact :
    {S : Schema} {a : ℕ} {P : ℕ → ℕ → Type 0} → PairClosed S a P → ((p q : ℕ) → P p q → PairReached S a p q)
    → (p q : ℕ) → PairReached S a p q ↔ P p q
pair_exact closed sound p q = (pair_complete closed p q, sound p q)

-- a state is reached exactly if its pair with itself is
pub forward_pair : {S : Schema} {a p : ℕ} → Forward S a p ↔ PairReached S a p p
forward_pair = (
  λ f. record { word = f.word; left = f.leads; right = f.leads; bear = f.bear },
  λ r. record { word = r.word; leads = r.left; bear = r.bear },
)
