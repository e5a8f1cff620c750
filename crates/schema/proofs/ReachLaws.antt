-- Laws of the queue of reached types: what a type's steps keep and add, and what holds when each type of the queue is gone over.
use mathlib.Core.Path.{◌≡◌, refl, ◌∙◌}
use mathlib.Core.Bool.{Bool, true, false, cond, ◌&&◌}
use mathlib.Core.List.{List, [], ◌∷◌, Memᴰ}
use Prim.Native.Nat.{ℕ, zero, suc, ◌+◌, ◌%◌, ◌≤◌, ◌<◌}
use native.Mathlib.Decide.{ℕ_discrete, dec_lt}
use native.Mathlib.Omega.{arith}
use borrow.Author.Tests.{lt-ltb}
use lib.Dec.{T, ltb}
use lib.ListN.{length, get_or, set, replicate, length-set, length-replicate}
use lib.Seq.{get_or-set_same, get_or-set_other}
use Rattle.sdtd.specs.Limits.{most_types}
use Rattle.sdtd.specs.Schema.{Step}
use Rattle.sdtd.proofs.Basics.{cond_either, and_parts, and_both}
use Rattle.sdtd.proofs.Rounds.{count, count_set, count-le}
use Rattle.schema.specs.States.{member}
use Rattle.schema.specs.Spread.{reaches, Reaching, first, next, ReachedFrom, queued, join_type, join_marked, reach_steps}
use Rattle.schema.specs.declared.reach.Queued.{Queued}
use Rattle.schema.proofs.SpreadLaws.{by_bearing}
use Rattle.schema.proofs.Values.{same_everywhere}

-- what the test of a step says
pub record Reaches (bears : List ℕ) (forward live : ℕ) (s : Step) : Type 0 where
  pub from : T (member s.from forward)
  pub by : T (by_bearing bears s)
  pub to : T (member s.to live)

module _ (bears : List ℕ) (forward live : ℕ) {s : Step} where
  pub test_says : T (reaches bears forward live s) → Reaches bears forward live s
  test_says h =
      let c = and_parts (member s.from forward && by_bearing bears s) (member s.to live) h in
      let d = and_parts (member s.from forward) (by_bearing bears s) c.0 in
      record { from = d.0; by = d.1; to = c.1 }

  pub test_passes : Reaches bears forward live s → T (reaches bears forward live s)
  test_passes c =
      and_both (member s.from forward && by_bearing bears s) (member s.to live)
      (and_both (member s.from forward) (by_bearing bears s) c.from c.by) c.to

-- the type a is marked
abbrev pub IsMarked : Queued → ℕ → Type 0
IsMarked m a = T (get_or m.reached a false)

-- the type at the place i of the queue
abbrev pub type_at : Queued → ℕ → ℕ
type_at m i = get_or m.queue i 0

-- the type a stands in the queue
pub record Placed (m : Queued) (a : ℕ) : Type 0 where
  pub place : ℕ
  pub below : place < m.count
  pub is : type_at m place ≡ a

-- The marked types are those in the queue, each once, and have P.
pub record Kept (P : ℕ → Type 0) (m : Queued) : Type 0 where
  pub long : length m.reached ≡ most_types
  pub room : length m.queue ≡ most_types
  pub counted : count m.reached ≡ m.count
  pub marked : (i : ℕ) → i < m.count → IsMarked m (type_at m i)
  pub placed : (a : ℕ) → IsMarked m a → Placed m a
  pub sound : (a : ℕ) → IsMarked m a → P a

-- from m to m' marks and entries are only added
pub record Grows (P : ℕ → Type 0) (m m' : Queued) : Type 0 where
  pub kept : Kept P m'
  pub more : m.count ≤ m'.count
  pub marks : (a : ℕ) → IsMarked m a → IsMarked m' a
  pub entries : (i : ℕ) → i < m.count → type_at m' i ≡ type_at m i

-- with one more type
abbrev joined : ℕ → Queued → Queued
joined b m = queued (set m.reached b true) (set m.queue m.count b) (m.count + 1)

-- the marks and the queue after one step
abbrev after_step : List ℕ → ℕ → ℕ → Step → Queued → Queued
after_step bears forward live s m = cond (reaches bears forward live s) (join_type (s.by % most_types) m) m

module _ {P : ℕ → Type 0} where
  stays : {m : Queued} → Kept P m → Grows P m m
  stays k = record { kept = k; more = omega arith; marks = λ a t. t; entries = λ i l. refl }

  grows_then : {m m' m'' : Queued} → Grows P m m' → Grows P m' m'' → Grows P m m''
  grows_then g h =
      record {
        kept = h.kept;
        more = omega (arith, g.more, h.more);
        marks = λ a t. h.marks a (g.marks a t);
        entries = λ i l. h.entries i (omega (arith, g.more)) ∙ g.entries i l;
      }

  module _ {m : Queued} (k : Kept P m) (b : ℕ) (below : b < most_types) where
    -- a type that is not marked finds room in the queue
    free : get_or m.reached b false ≡ false → m.count < most_types
    free new =
        omega (
          arith,
          count-le (set m.reached b true),
          length-set m.reached b true,
          count_set m.reached b (omega (arith, k.long)) new,
          k.long,
          k.counted,
        )

    old_type : (i : ℕ) → i < m.count → type_at (joined b m) i ≡ type_at m i
    old_type i l = get_or-set_other m.queue m.count i b 0 (omega arith)

    new_type : m.count < most_types → type_at (joined b m) m.count ≡ b
    new_type l = get_or-set_same m.queue m.count b 0 (omega (arith, k.room))

    new_mark : IsMarked (joined b m) b
    new_mark = rw (get_or-set_same m.reached b true false (omega (arith, k.long))) tt

    old_mark : (a : ℕ) → IsMarked m a → IsMarked (joined b m) a
    old_mark a t =
        elim (ℕ_discrete a b) [ yes e ↦ rw e new_mark | no d ↦ rw (get_or-set_other m.reached b a true false d) t ]

    -- a marked type is the new one, or was marked before
    each_marked : (Q : ℕ → Type 0) → Q b → ((a : ℕ) → IsMarked m a → Q a) → (a : ℕ) → IsMarked (joined b m) a → Q a
    each_marked Q new olds a t =
        elim (ℕ_discrete a b) [ yes e ↦ rw e new | no d ↦ olds a (rw (get_or-set_other m.reached b a true false d) at t) ]

    join_marked_lem : m.count < most_types → (i : ℕ) → i < m.count + 1 → IsMarked (joined b m) (type_at (joined b m) i)
    join_marked_lem free i l =
        elim (dec_lt i m.count) [
          | yes h ↦ rw (old_type i h) (old_mark (type_at m i) (k.marked i h))
          | no h ↦ let e : i ≡ m.count = omega arith in rw (e, new_type free) new_mark
        ]

    joined_kept : P b → get_or m.reached b false ≡ false → Kept P (joined b m)
    joined_kept p new =
        record {
          long = length-set m.reached b true ∙ k.long;
          room = length-set m.queue m.count b ∙ k.room;
          counted = omega (arith, count_set m.reached b (omega (arith, k.long)) new, k.counted);
          marked = join_marked_lem (free new);
          placed =
              each_marked (Placed (joined b m)) (record { place = m.count; below = omega arith; is = new_type (free new) })
              (λ a t.
              let r = k.placed a t in
              record { place = r.place; below = omega (arith, r.below); is = old_type r.place r.below ∙ r.is });
          sound = each_marked P p k.sound;
        }

    -- the type is marked already, or it joins
    join_either : (Q : Queued → Type 0) → (IsMarked m b → Q m) → (get_or m.reached b false ≡ false → Q (joined b m)) → Q (join_type b m)
    unfolding join_type
    join_either Q old new = go (get_or m.reached b false) refl
      where
        go : (t : Bool) → get_or m.reached b false ≡ t → Q (cond t m (cond (ltb m.count most_types) (joined b m) m))
        go true e = old (rw e tt)
        go false e = rw (lt-ltb m.count most_types (free e)) (new e)

    join_grows : P b → Grows P m (join_type b m)
    join_grows p =
        join_either (Grows P m) (λ t. stays k)
        (λ new. record { kept = joined_kept p new; more = omega arith; marks = old_mark; entries = old_type })

    join_takes : IsMarked (join_type b m) b
    join_takes = join_either (λ m'. IsMarked m' b) (λ t. t) (λ new. new_mark)

  module _ (bears : List ℕ) (forward live : ℕ) where
    step_grows : {m : Queued} (s : Step) → (T (reaches bears forward live s) → P (s.by % most_types)) → Kept P m → Grows P m (after_step bears forward live s m)
    step_grows {m} s rule k =
        cond_either (Grows P m) (reaches bears forward live s) (λ h. join_grows k (s.by % most_types) (omega arith) (rule h)) (λ n. stays k)

    step_takes : {m : Queued} (s : Step) → Kept P m → T (reaches bears forward live s) → IsMarked (after_step bears forward live s m) (s.by % most_types)
    step_takes {m} s k c =
        cond_either (λ (u : Queued). IsMarked u (s.by % most_types)) (reaches bears forward live s)
        (λ h. join_takes k (s.by % most_types) (omega arith)) (λ n. absurd (n c))

    steps_grow :
        {m : Queued} (ss : List Step) → ((s : Step) → Memᴰ s ss → T (reaches bears forward live s) → P (s.by % most_types))
        → Kept P m → Grows P m (reach_steps bears forward live ss m)
    unfolding reach_steps
    steps_grow [] rule k = stays k
    steps_grow {m = m} (s ∷ ss) rule k =
        let g = step_grows s (rule s (Memᴰ.head refl)) k in
        grows_then g (steps_grow {m = after_step bears forward live s m} ss (λ r i. rule r (Memᴰ.tail i)) g.kept)

    -- the steps that reach their types mark them
    steps_take :
        {s : Step} {m : Queued} {ss : List Step} → ((r : Step) → Memᴰ r ss → T (reaches bears forward live r) → P (r.by % most_types))
        → Kept P m → Memᴰ s ss → T (reaches bears forward live s) → IsMarked (reach_steps bears forward live ss m) (s.by % most_types)
    unfolding reach_steps
    steps_take {s = s} {m = m} rule k (Memᴰ.head {x = r} {xs = ss} e) c =
        let g = step_grows r (rule r (Memᴰ.head refl)) k in
        let t : IsMarked (after_step bears forward live r m) (s.by % most_types) = rw (← e) (step_takes s k c) in
        (steps_grow ss (λ x i. rule x (Memᴰ.tail i)) g.kept).marks (s.by % most_types) t
    steps_take {m = m} rule k (Memᴰ.tail {x = r} {xs = ss} i) c =
        steps_take {m = after_step bears forward live r m} (λ x j. rule x (Memᴰ.tail j)) (step_grows r (rule r (Memᴰ.head refl)) k).kept i c

  -- the types that a table marks have P
  module _ (marks : List Bool) (rule : (a : ℕ) → a < most_types → T (get_or marks a false) → P a) where
    abbrev after_mark : ℕ → Queued → Queued
    after_mark a m = cond (get_or marks a false) (join_type a m) m

    mark_grows : {m : Queued} (a : ℕ) → a < most_types → Kept P m → Grows P m (after_mark a m)
    mark_grows {m} a l k = cond_either (Grows P m) (get_or marks a false) (λ t. join_grows k a l (rule a l t)) (λ n. stays k)

    mark_takes : {m : Queued} (a : ℕ) → a < most_types → Kept P m → T (get_or marks a false) → IsMarked (after_mark a m) a
    mark_takes a l k t =
        cond_either (λ (u : Queued). IsMarked u a) (get_or marks a false) (λ h. join_takes k a l) (λ none. absurd (none t))

    pub marked_grow : {m : Queued} (a n : ℕ) → Kept P m → a + n ≤ most_types → Grows P m (join_marked marks a n m)
    unfolding join_marked
    marked_grow a zero k l = stays k
    marked_grow {m = m} a (suc n) k l =
        let g = mark_grows a (omega arith) k in
        grows_then g (marked_grow {m = after_mark a m} (suc a) n g.kept (omega arith))

    -- they are marked in the queue
    pub marked_take : {m : Queued} (a n : ℕ) → Kept P m → a + n ≤ most_types
        → (b : ℕ) → a ≤ b → b < a + n → T (get_or marks b false) → IsMarked (join_marked marks a n m) b
    unfolding join_marked
    marked_take a zero k l b from to t = absurd (omega arith)
    marked_take {m = m} a (suc n) k l b from to t =
        let g = mark_grows a (omega arith) k in
        elim (ℕ_discrete b a) [
          | yes e ↦ rw e ((marked_grow {m = after_mark a m} (suc a) n g.kept (omega arith)).marks a (mark_takes a (omega arith) k (rw e at t)))
          | no d ↦ marked_take {m = after_mark a m} (suc a) n g.kept (omega arith) b (omega arith) (omega arith) t
        ]

none_counted : (n : ℕ) → count (replicate n false) ≡ 0
none_counted zero = refl
none_counted (suc n) = none_counted n

module _ (own : ℕ → List Step) (bears forward live : List ℕ) (roots : List Bool) where
  -- all that the steps of the type a reach is marked
  abbrev Done : Queued → ℕ → Type 0
  Done m a = (s : Step) → Memᴰ s (own a) → T (reaches bears (get_or forward a 0) (get_or live a 0) s) → IsMarked m (s.by % most_types)

  -- the types before the place `at` of the queue are done
  pub record Visited (at : ℕ) (m : Queued) : Type 0 where
    pub kept : Kept (Reaching own bears forward live roots) m
    pub before : at ≤ m.count
    pub roots_marked : (a : ℕ) → a < most_types → T (get_or roots a false) → IsMarked m a
    pub done : (i : ℕ) → i < at → Done m (type_at m i)

  pub visited_most : {at : ℕ} {m : Queued} → Visited at m → m.count ≤ most_types
  visited_most {m = m} v = omega (arith, count-le m.reached, v.kept.counted, v.kept.long)

  -- at the start nothing is marked; then the roots are
  none_marked : Kept (Reaching own bears forward live roots) (queued (replicate most_types false) (replicate most_types 0) 0)
  none_marked =
      record {
        long = length-replicate most_types false;
        room = length-replicate {A = ℕ} most_types 0;
        counted = none_counted most_types;
        marked = λ i l. absurd (omega arith);
        placed = λ a t. absurd (rw (same_everywhere false most_types a) at t);
        sound = λ a t. absurd (rw (same_everywhere false most_types a) at t);
      }

  pub visited_first : Visited 0 (join_marked roots 0 most_types (queued (replicate most_types false) (replicate most_types 0) 0))
  visited_first =
      record {
        kept = (marked_grow roots (λ a. first) 0 most_types none_marked (omega arith)).kept;
        before = omega arith;
        roots_marked = λ a l t. marked_take roots (λ b. first) 0 most_types none_marked (omega arith) a (omega arith) (omega arith) t;
        done = λ i l. absurd (omega arith);
      }

  -- the type at the place `at` is gone over
  pub visited_next : {at : ℕ} {m : Queued} → Visited at m → at < m.count
      → Visited (suc at) (reach_steps bears (get_or forward (type_at m at) 0) (get_or live (type_at m at) 0) (own (type_at m at)) m)
  visited_next {at} {m} v l =
      let a = type_at m at in
      let rule : (s : Step) → Memᴰ s (own a) → T (reaches bears (get_or forward a 0) (get_or live a 0) s)
      → Reaching own bears forward live roots (s.by % most_types) =
      λ s i c. next s (v.kept.sound a (v.kept.marked at l)) i c in
      let g = steps_grow bears (get_or forward a 0) (get_or live a 0) (own a) rule v.kept in
      record {
        kept = g.kept;
        before = omega (arith, g.more);
        roots_marked = λ b h t. g.marks b (v.roots_marked b h t);
        done =
            λ i h s.
            elim (dec_lt i at) [
              | yes p ↦ rw (g.entries i (omega arith)) (λ j c. g.marks (s.by % most_types) (v.done i p s j c))
              | no p ↦
                  let e : i ≡ at = omega arith in
                  rw (e, g.entries at l) (λ j c. steps_take bears (get_or forward a 0) (get_or live a 0) rule v.kept j c)
            ];
      }

  -- at the end of the queue the marked types are those that are reached
  pub visited_last : {at : ℕ} {m : Queued} → Visited at m → m.count ≤ at → ReachedFrom own bears forward live roots m.reached
  visited_last {at} {m} v l a = (v.kept.sound a, has)
    where
      done : (b : ℕ) → IsMarked m b → Done m b
      done b t = let p = v.kept.placed b t in rw p.is at (v.done p.place (omega (arith, p.below)))

      has : {b : ℕ} → Reaching own bears forward live roots b → IsMarked m b
      has (first {a = b} h t) = v.roots_marked b h t
      has (next {a = b} s r i c) = done b (has r) s i c
