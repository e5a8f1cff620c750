-- Laws of a round over a table of sets of states: what its entries are, what they keep, and what they take in.
use mathlib.Core.Path.{◌≡◌, refl, sym, ◌∙◌, ap, subst}
use mathlib.Core.Logic.{inl, inr, ⊎_elim}
use mathlib.Core.Bool.{Bool, ◌&&◌}
use mathlib.Core.List.{List, [], ◌∷◌, Memᴰ}
use Prim.Native.Nat.{ℕ, zero, suc, ◌+◌, ◌-◌, ◌%◌, ◌^◌, ◌≤◌, ◌<◌}
use native.Mathlib.Numerals.{add-one}
use native.Mathlib.Decide.{ℕ_discrete}
use native.Mathlib.Omega.{arith}
use lib.Dec.{T}
use lib.ListN.{length, get_or, set, length-set}
use lib.Seq.{get_or-set_same, get_or-set_other, set-get_or}
use Rattle.sdtd.specs.Limits.{most_types, most_states}
use Rattle.sdtd.specs.Schema.{Step}
use Rattle.sdtd.proofs.Basics.{cond_either, and_parts, and_both}
use Rattle.schema.specs.States.{member}
use Rattle.schema.specs.Ways.{bears_in}
use Rattle.schema.specs.Value.{offset}
use Rattle.schema.specs.Spread.{spread_step, spread_set, settle_set, spread_all, iterate, Settled}
use Rattle.schema.proofs.Bits.{insert_below, member-insert, same_members}
use Rattle.schema.proofs.Values.{offset_step}

iterate_keeps :
    {A : Type 0} (I : A → Type 0) {round : A → A} → ((t : A) → I t → I (round t)) → (n : ℕ) (t : A) → I t → I (iterate round n t)
unfolding iterate
iterate_keeps I keeps zero t i = i
iterate_keeps I {round} keeps (suc n) t i = iterate_keeps I keeps n (round t) (keeps t i)

-- what the first table has and a round keeps, the table at the end has
pub settled_keeps :
    {A : Type 0} (I : List A → Type 0) {round : List A → List A} {first last : List A} → ((t : List A) → I t → I (round t)) → I first
    → Settled round first last → I last
settled_keeps I {first = first} keeps i s = rw s.after (iterate_keeps I keeps s.rounds first i)

-- y is a set with the states of x
pub record Grown (x y : ℕ) : Type 0 where
  pub below : y < 2 ^ most_states
  pub grown : (q : ℕ) → T (member q x) → T (member q y)

pub stays : (x : ℕ) → x < 2 ^ most_states → Grown x x
stays x b = record { below = b; grown = λ q m. m }

-- the type of the step bears a tree
abbrev pub by_bearing : List ℕ → Step → Bool
by_bearing bears s = bears_in bears (s.by % most_types)

module _ (bears : List ℕ) where
  step_grown : (s : Step) (x : ℕ) → x < 2 ^ most_states → Grown x (spread_step bears s x)
  unfolding spread_step
  step_grown s x b =
      cond_either (Grown x) (by_bearing bears s && member s.to x)
      (λ h. record { below = insert_below s.from x b; grown = λ q m. (member-insert s.from q x b).1 (inl m) })
      (λ h. stays x b)

  step_takes :
      (s : Step) (x : ℕ) → x < 2 ^ most_states → s.from < most_states → T (by_bearing bears s) → T (member s.to x)
      → T (member s.from (spread_step bears s x))
  unfolding spread_step
  step_takes s x b f h m =
      cond_either (λ (y : ℕ). T (member s.from y)) (by_bearing bears s && member s.to x)
      (λ c. (member-insert s.from s.from x b).1 (inr (refl, f)))
      (λ n. absurd (n (and_both (by_bearing bears s) (member s.to x) h m)))

  step_sound :
      (P : ℕ → Type 0) (s : Step) (x : ℕ) → x < 2 ^ most_states → (T (by_bearing bears s) → P s.to → P s.from)
      → ((q : ℕ) → T (member q x) → P q) → (q : ℕ) → T (member q (spread_step bears s x)) → P q
  unfolding spread_step
  step_sound P s x b rule sound q =
      cond_either (λ (y : ℕ). T (member q y) → P q) (by_bearing bears s && member s.to x)
      (λ h m.
      let c = and_parts (by_bearing bears s) (member s.to x) h in
      ⊎_elim (sound q) (λ e. rw e.0 (rule c.0 (sound s.to c.1))) ((member-insert s.from q x b).0 m))
      (λ n. sound q)

  pub set_grown : (ss : List Step) (x : ℕ) → x < 2 ^ most_states → Grown x (spread_set bears ss x)
  unfolding spread_set
  set_grown [] x b = stays x b
  set_grown (s ∷ ss) x b =
      let g = step_grown s x b in
      let h = set_grown ss (spread_step bears s x) g.below in
      record { below = h.below; grown = λ q m. h.grown q (g.grown q m) }

  -- a step by a tree-bearing type with its state `to` in the set takes its state `from` in
  set_takes :
      {s : Step} {ss : List Step} (x : ℕ) → x < 2 ^ most_states → Memᴰ s ss → s.from < most_states → T (by_bearing bears s)
      → T (member s.to x) → T (member s.from (spread_set bears ss x))
  unfolding spread_set
  set_takes {s = s} x b (Memᴰ.head {x = r} {xs = ss} e) f h m =
      let t : T (member s.from (spread_step bears r x)) = rw (← e) (step_takes s x b f h m) in
      (set_grown ss (spread_step bears r x) (step_grown r x b).below).grown s.from t
  set_takes {s = s} x b (Memᴰ.tail {x = r} {xs = ss} i) f h m =
      let g = step_grown r x b in
      set_takes (spread_step bears r x) g.below i f h (g.grown s.to m)

  -- what the states of the set have, and the state `from` of each step by a tree-bearing type has with its `to`, the states taken in have
  set_sound :
      (P : ℕ → Type 0) (ss : List Step) (x : ℕ) → x < 2 ^ most_states
      → ((s : Step) → Memᴰ s ss → T (by_bearing bears s) → P s.to → P s.from)
      → ((q : ℕ) → T (member q x) → P q) → (q : ℕ) → T (member q (spread_set bears ss x)) → P q
  unfolding spread_set
  set_sound P [] x b rule sound = sound
  set_sound P (s ∷ ss) x b rule sound =
      set_sound P ss (spread_step bears s x) (step_grown s x b).below (λ r i. rule r (Memᴰ.tail i))
      (step_sound P s x b (rule s (Memᴰ.head refl)) sound)

  -- the same of the steps gone over n times
  module _ (ss : List Step) where
    again_grown : (n x : ℕ) → x < 2 ^ most_states → Grown x (iterate (spread_set bears ss) n x)
    again_grown n x b =
        iterate_keeps (Grown x)
        (λ y g. let h = set_grown ss y g.below in record { below = h.below; grown = λ q m. h.grown q (g.grown q m) }) n x
        (stays x b)

    pub settle_grown : (x : ℕ) → x < 2 ^ most_states → Grown x (settle_set bears ss x)
    unfolding settle_set
    settle_grown x b = again_grown most_states x b

    again_has : (n q x : ℕ) → x < 2 ^ most_states → 0 < n → T (member q (spread_set bears ss x)) → T (member q (iterate (spread_set bears ss) n x))
    unfolding iterate
    again_has zero q x b h m = absurd (omega arith)
    again_has (suc n) q x b h m = (again_grown n (spread_set bears ss x) (set_grown ss x b).below).grown q m

    settle_takes :
        {s : Step} (x : ℕ) → x < 2 ^ most_states → Memᴰ s ss → s.from < most_states → T (by_bearing bears s)
        → T (member s.to x) → T (member s.from (settle_set bears ss x))
    unfolding settle_set
    settle_takes {s} x b i f h m = again_has most_states s.from x b (omega arith) (set_takes x b i f h m)

    settle_sound :
        (P : ℕ → Type 0) (x : ℕ) → x < 2 ^ most_states
        → ((s : Step) → Memᴰ s ss → T (by_bearing bears s) → P s.to → P s.from)
        → ((q : ℕ) → T (member q x) → P q) → (q : ℕ) → T (member q (settle_set bears ss x)) → P q
    unfolding settle_set
    settle_sound P x b rule sound =
        (iterate_keeps (λ (y : ℕ). (y < 2 ^ most_states) × ((q : ℕ) → T (member q y) → P q))
        (λ y h. ((set_grown ss y h.0).below, set_sound P ss y h.0 rule h.1)) most_states x (b, sound)).1

-- A table of sets of states, an entry for each type.
pub record Sets (t : List ℕ) : Type 0 where
  pub long : length t ≡ most_types
  pub below : (a : ℕ) → get_or t a 0 < 2 ^ most_states

-- u is a table of sets with the states of t
pub record Growth (t u : List ℕ) : Type 0 where
  pub sets : Sets u
  pub more : (a q : ℕ) → T (member q (get_or t a 0)) → T (member q (get_or u a 0))

entry_grown : (t : List ℕ) (a k y : ℕ) → Grown (get_or t a 0) y → get_or t k 0 < 2 ^ most_states → Grown (get_or t k 0) (get_or (set t a y) k 0)
entry_grown [] a k y g b = stays 0 b
entry_grown (x ∷ t) zero zero y g b = g
entry_grown (x ∷ t) zero (suc k) y g b = stays (get_or t k 0) b
entry_grown (x ∷ t) (suc a) zero y g b = stays x b
entry_grown (x ∷ t) (suc a) (suc k) y g b = entry_grown t a k y g b

one_growth : (t : List ℕ) (a y : ℕ) → Sets t → Grown (get_or t a 0) y → Growth t (set t a y)
one_growth t a y h g = record {
  sets = record { long = length-set t a y ∙ h.long; below = λ k. (entry_grown t a k y g (h.below k)).below };
  more = λ k. (entry_grown t a k y g (h.below k)).grown;
}

-- the steps of the type a
abbrev pub own : List ℕ → (ℕ → ℕ → List Step) → ℕ → List Step
own steps part a = part (offset steps a) (get_or steps a 0)

-- What each table on the way has: sets of states, the states of the first table, and only such as have P.
pub record Table (first : List ℕ) (P : ℕ → ℕ → Type 0) (t : List ℕ) : Type 0 where
  pub sets : Sets t
  pub grown : (a q : ℕ) → T (member q (get_or first a 0)) → T (member q (get_or t a 0))
  pub sound : (a q : ℕ) → T (member q (get_or t a 0)) → P a q

-- a set that grew and has only states with P joins such a table
one_table :
    {first : List ℕ} {P : ℕ → ℕ → Type 0} (t : List ℕ) (a y : ℕ) → Table first P t → a < most_types → Grown (get_or t a 0) y
    → ((q : ℕ) → T (member q y) → P a q) → Table first P (set t a y)
one_table {P = P} t a y k l g sound =
    let h = one_growth t a y k.sets g in
    record {
      sets = h.sets;
      grown = λ b q m. h.more b q (k.grown b q m);
      sound =
          λ b q m.
          elim (ℕ_discrete b a) [
            | yes e ↦ rw e (sound q (rw (e, get_or-set_same t a y 0 (omega (arith, k.sets.long))) at m))
            | no d ↦ k.sound b q (rw (get_or-set_other t a b y 0 d) at m)
          ];
    }

-- A round, where `tells` gives the table that tells which types bear a tree.
module _ (steps : List ℕ) (part : ℕ → ℕ → List Step) (tells : List ℕ → List ℕ) where
  -- a round keeps tables of sets, and only adds states
  pub all_growth : (n a s : ℕ) (t : List ℕ) → Sets t → Growth t (spread_all steps part tells a s n t)
  unfolding spread_all
  all_growth zero a s t h = record { sets = h; more = λ a q m. m }
  all_growth (suc n) a s t h =
      let y = settle_set (tells t) (part s (get_or steps a 0)) (get_or t a 0) in
      let g = one_growth t a y h (settle_grown (tells t) (part s (get_or steps a 0)) (get_or t a 0) (h.below a)) in
      let r = all_growth n (suc a) (s + get_or steps a 0) (set t a y) g.sets in
      record { sets = r.sets; more = λ k q m. r.more k q (g.more k q m) }

  -- what is left of a round: a turn settles the first of the types left, and at the end none is left
  pub round_turn : (a s types x : ℕ) (t y : List ℕ) → a < types → x ≡ settle_set (tells t) (part s (get_or steps a 0)) (get_or t a 0)
      → spread_all steps part tells a s (types - a) t ≡ y
      → spread_all steps part tells (a + 1) (s + get_or steps a 0) (types - (a + 1)) (set t a x) ≡ y
  unfolding spread_all
  round_turn a s types x t y l e h =
      let q : types - a ≡ suc (types - (a + 1)) = omega arith in
      rw (e, add-one a) (rw (q, add-one a) at h)

  pub round_done : (a s types : ℕ) (t y : List ℕ) → types ≤ a → spread_all steps part tells a s (types - a) t ≡ y → t ≡ y
  unfolding spread_all
  round_done a s types t y l h = let q : types - a ≡ 0 = omega arith in rw q at h

  -- a round keeps what its tables have
  pub round_keeps :
      {first : List ℕ} {P : ℕ → ℕ → Type 0} (n a s : ℕ) (t : List ℕ) → s ≡ offset steps a → a + n ≤ most_types → Table first P t
      → ((u : List ℕ) → Table first P u → (b : ℕ) (r : Step) → b < a + n → Memᴰ r (own steps part b) → T (by_bearing (tells u) r)
      → P b r.to → P b r.from)
      → Table first P (spread_all steps part tells a s n t)
  unfolding spread_all
  round_keeps zero a s t e l k rule = k
  round_keeps {P = P} (suc n) a s t e l k rule =
      let ss : List Step = part s (get_or steps a 0) in
      let y : ℕ = settle_set (tells t) ss (get_or t a 0) in
      let own_rule : (r : Step) → Memᴰ r ss → T (by_bearing (tells t) r) → P a r.to → P a r.from =
      λ r i. rule t k a r (omega arith) (rw e at i) in
      let k' = one_table t a y k (omega arith) (settle_grown (tells t) ss (get_or t a 0) (k.sets.below a))
      (settle_sound (tells t) ss (P a) (get_or t a 0) (k.sets.below a) own_rule (k.sound a)) in
      round_keeps n (suc a) (s + get_or steps a 0) (set t a y) (omega (arith, offset_step steps a)) (omega arith) k'
      (λ u h b r i. rule u h b r (omega arith))

  -- in a round that changes nothing no set changes on the way
  round_still :
      (n a s : ℕ) (t : List ℕ) → Sets t → s ≡ offset steps a → a + n ≤ most_types → spread_all steps part tells a s n t ≡ t → (b : ℕ) → a ≤ b
      → b < a + n → settle_set (tells t) (own steps part b) (get_or t b 0) ≡ get_or t b 0
  unfolding spread_all
  round_still zero a s t h e l still b least most = absurd (omega arith)
  round_still (suc n) a s t h e l still b least most =
      let ss : List Step = part s (get_or steps a 0) in
      let y : ℕ = settle_set (tells t) ss (get_or t a 0) in
      let g = settle_grown (tells t) ss (get_or t a 0) (h.below a) in
      let rest = all_growth n (suc a) (s + get_or steps a 0) (set t a y) (one_growth t a y h g).sets in
      let there : get_or (set t a y) a 0 ≡ y = get_or-set_same t a y 0 (omega (arith, h.long)) in
      let back : (q : ℕ) → T (member q y) → T (member q (get_or t a 0)) =
      λ q m. subst (λ (u : List ℕ). T (member q (get_or u a 0))) still (rest.more a q (rw there m)) in
      let same : y ≡ get_or t a 0 = same_members y (get_or t a 0) g.below (h.below a) (λ q. (back q, g.grown q)) in
      let table : set t a y ≡ t = ap (set t a) same ∙ set-get_or t a 0 in
      elim (ℕ_discrete b a) [
        | yes d ↦ rw d (ap (λ (o : ℕ). settle_set (tells t) (part o (get_or steps a 0)) (get_or t a 0)) (sym e) ∙ same)
        | no d ↦
            round_still n (suc a) (s + get_or steps a 0) t h (omega (arith, offset_step steps a)) (omega arith)
            (subst (λ (u : List ℕ). spread_all steps part tells (suc a) (s + get_or steps a 0) n u ≡ t) table still) b (omega arith) (omega arith)
      ]

  -- a table that a round does not change has the state `from` of each step by a tree-bearing type with its `to`
  pub settled_takes :
      (n : ℕ) (t : List ℕ) → n ≤ most_types → Sets t → spread_all steps part tells 0 0 n t ≡ t
      → (a : ℕ) (s : Step) → a < n → Memᴰ s (own steps part a) → s.from < most_states → T (by_bearing (tells t) s)
      → T (member s.to (get_or t a 0)) → T (member s.from (get_or t a 0))
  settled_takes n t l h e a s below i f b m =
      rw (round_still n 0 0 t h refl (omega arith) e a (omega arith) (omega arith)) at
      (settle_takes (tells t) (own steps part a) (get_or t a 0) (h.below a) i f b m)
