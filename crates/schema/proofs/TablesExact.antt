-- The tables that the rounds of trimming settle at are exactly the definitions.
use mathlib.Core.Path.{refl}
use mathlib.Core.Logic.{◌↔◌, inl, inr, ⊎_elim}
use mathlib.Core.Bool.{Bool, true, false}
use mathlib.Core.List.{List, [], ◌∷◌, ◌++◌, Memᴰ}
use Prim.Native.Nat.{ℕ, ◌<◌}
use native.Mathlib.Omega.{arith}
use lib.Dec.{T}
use lib.ListN.{get_or}
use Rattle.sdtd.specs.Limits.{most_types}
use Rattle.sdtd.specs.Schema.{Step, block_of, WithinLimits, Leads, stay, go}
use Rattle.sdtd.specs.Tree.{IsRoot}
use Rattle.sdtd.specs.Trim.{Bears, AllBear, none, both, Live, Reached}
use Rattle.sdtd.proofs.Within.{root_below}
use Rattle.sdtd.proofs.Automata.{leads_append, all_append}
use Rattle.sdtd.proofs.Fixpoint.{LiveClosed, live_closed, live_exact, Forward, ReachedClosed, reached_closed, reached_exact}
use Rattle.schema.specs.States.{member}
use Rattle.schema.specs.Ways.{bears_in}
use Rattle.schema.specs.Value.{steps_of, roots_of, meaning}
use Rattle.schema.specs.Trimming.{LiveExactly, WaysExactly, MarksExactly, Exact}
use Rattle.schema.specs.Spread.{spread_all, Settled, steps_in, reaches, Reaching, first, next, ReachedFrom, first_sets, start_states, ways_by}
use Rattle.schema.specs.declared.value.Schema.{Schema}
use Rattle.schema.proofs.WaysLaws.{bears_in_lem, bears_by}
use Rattle.schema.proofs.Rounds.{start_sets}
use Rattle.schema.proofs.SpreadLaws.{settled_keeps, by_bearing, own, Table, round_keeps, settled_takes}
use Rattle.schema.proofs.FirstTables.{Fits, OwnStep, back, forth, turned, first_live, types_most}
use Rattle.schema.proofs.FirstTables.{own-steps, steps_in_lem, own_step, own_back, accepts, first_long, first_below}
use Rattle.schema.proofs.FirstTables.{start_only, start_in}
use Rattle.schema.proofs.ReachLaws.{test_says, test_passes}

-- the table marks exactly the root types
abbrev RootsMarked : Schema → List Bool → Type 0
RootsMarked v table = (a : ℕ) → T (get_or table a false) ↔ IsRoot (meaning v) a

-- inside the limits each root type has an entry
pub roots_marked : (v : Schema) (table : List Bool) → WithinLimits (meaning v) → MarksExactly (roots_of v.root v.roots) table → RootsMarked v table
unfolding meaning
roots_marked v table within marks a = (
  λ t. ((marks a).0 t).1,
  λ r. (marks a).1 (root_below within r, r),
)

-- the two rounds
abbrev live_round : Schema → List ℕ → List ℕ
live_round v t = spread_all v.steps (forth v) (ways_by v.nillable v.types) 0 0 v.types t

abbrev forward_round : Schema → List ℕ → List ℕ → List ℕ
forward_round v ways t = spread_all v.steps (turned v) (λ u. ways) 0 0 v.types t

-- what the tables on the way have
abbrev LiveTable : Schema → List ℕ → Type 0
LiveTable v = Table (first_live v) (Live (meaning v))

abbrev ForwardTable : Schema → List ℕ → Type 0
ForwardTable v = Table start_states (Forward (meaning v))

-- the steps of a type
abbrev own_steps : Schema → ℕ → List Step
own_steps v = steps_in v.steps (forth v) v.types

module _
    {v : Schema} (fits : Fits v) (within : WithinLimits (meaning v)) {live : List ℕ}
    (settled : Settled (live_round v) (first_live v) live) where
  live_first : LiveTable v (first_live v)
  live_first =
      record {
        sets = record { long = first_long fits within; below = first_below fits within };
        grown = λ a q m. m;
        sound = λ a q m. live_closed.accepting a q ((accepts fits within a q).1 m);
      }

  live_rule :
      (t : List ℕ) → LiveTable v t → (a : ℕ) (s : Step) → a < v.types → Memᴰ s (own v.steps (forth v) a)
      → T (by_bearing (ways_by v.nillable v.types t) s)
      → Live (meaning v) a s.to → Live (meaning v) a s.from
  live_rule t k a s l i b to =
      let m = rw (← own-steps fits within a l) at i in
      let o = own_step fits within a s m in
      let starts = (bears_by v (types_most fits within) t s.by o.by_type).0 (rw o.by at b) in
      live_closed.step a s m (⊎_elim (λ p. inl (k.sound s.by 0 p)) (λ n. inr n) starts) to

  live_round_lem : (t : List ℕ) → LiveTable v t → LiveTable v (live_round v t)
  live_round_lem t k = round_keeps v.steps (forth v) (ways_by v.nillable v.types) v.types 0 0 t refl (omega (arith, types_most fits within)) k (λ u h a s l. live_rule u h a s (omega arith))

  live_table : LiveTable v live
  live_table = settled_keeps (LiveTable v) live_round_lem live_first settled

  live_rules : LiveClosed (meaning v) (λ a q. T (member q (get_or live a 0)))
  live_rules =
      record {
        accepting = λ a q m. live_table.grown a q ((accepts fits within a q).0 m);
        step =
            λ a s m b to.
            let o = own_step fits within a s m in
            settled_takes v.steps (forth v) (ways_by v.nillable v.types) v.types live (types_most fits within) live_table.sets
            settled.settled a s o.type o.given o.from
            (rw o.by ((bears_by v (types_most fits within) live s.by o.by_type).1 b)) to;
      }

  live_is : (a q : ℕ) → Live (meaning v) a q ↔ T (member q (get_or live a 0))
  live_is = live_exact live_rules live_table.sound

-- the table that the first loop settles at
pub live_exactly :
    {v : Schema} {live : List ℕ} → Fits v → WithinLimits (meaning v)
    → Settled (λ t. spread_all v.steps (steps_of v.from v.by v.to) (ways_by v.nillable v.types) 0 0 v.types t) (first_sets v.types v.accepting) live
    → LiveExactly (meaning v) live
live_exactly fits within l a q = ((live_is fits within l a q).1, (live_is fits within l a q).0)

module _
    {v : Schema} (fits : Fits v) (within : WithinLimits (meaning v)) (live ways : List ℕ)
    (exactly : LiveExactly (meaning v) live) (opened : WaysExactly (meaning v) ways) where
  bears_is : (a : ℕ) → Bears (meaning v) a ↔ T (bears_in ways a)
  bears_is a = let b = bears_in_lem (meaning v) ways opened a in (b.1, b.0)

  module _ {forward : List ℕ} (onward : Settled (forward_round v ways) start_states forward) where
    forward_first : ForwardTable v start_states
    forward_first =
        record {
          sets = start_sets;
          grown = λ a q m. m;
          sound = λ a q m. rw (start_only most_types a q m) (record { word = []; leads = stay; bear = none });
        }

    forward_rule :
        (a : ℕ) (s : Step) → a < v.types → Memᴰ s (own v.steps (turned v) a) → T (by_bearing ways s)
        → Forward (meaning v) a s.to → Forward (meaning v) a s.from
    forward_rule a s l i b f =
        let m = rw (← own-steps fits within a l) at (own_back v.to v.by v.from v.steps a s i) in
        let c = (bears_is s.by).1 (rw (own_step fits within a (back s) m).by at b) in
        record { word = f.word ++ (s.by ∷ []); leads = leads_append f.leads (go m stay); bear = all_append f.bear (both c none) }

    forward_round_lem : (t : List ℕ) → ForwardTable v t → ForwardTable v (forward_round v ways t)
    forward_round_lem t k =
        round_keeps v.steps (turned v) (λ u. ways) v.types 0 0 t refl (omega (arith, types_most fits within)) k (λ u h a s l. forward_rule a s (omega arith))

    forward_table : ForwardTable v forward
    forward_table = settled_keeps (ForwardTable v) forward_round_lem forward_first onward

    forward_takes :
        (a : ℕ) (s : Step) → Memᴰ s (block_of (meaning v) a).steps → Bears (meaning v) s.by
        → T (member s.from (get_or forward a 0)) → T (member s.to (get_or forward a 0))
    forward_takes a s i b m =
        let o = own_step fits within a s i in
        settled_takes v.steps (turned v) (λ u. ways) v.types forward (types_most fits within) forward_table.sets onward.settled
        a (back s) o.type (own_back v.from v.by v.to v.steps a s o.given) o.to
        (rw o.by ((bears_is s.by).0 b)) m

    -- from the start state on, the table has every state that children reach
    along :
        (a : ℕ) {p r : ℕ} {w : List ℕ} → Leads (block_of (meaning v) a) p w r → AllBear (meaning v) w
        → T (member p (get_or forward a 0)) → T (member r (get_or forward a 0))
    along a stay b m = m
    along a (go {p = p} {j = j} {q = q} i l) (both b c) m =
        along a l c (forward_takes a (record { from = p; by = j; to = q }) i b m)

    forward_has : (a p : ℕ) → a < v.types → Forward (meaning v) a p → T (member p (get_or forward a 0))
    forward_has a p l f =
        let n = types_most fits within in
        along a f.leads f.bear (forward_table.grown a 0 (start_in most_types a (omega arith)))

    sound : {roots : List Bool} → RootsMarked v roots → {a : ℕ} → Reaching (own_steps v) ways forward live roots a → Reached (meaning v) a
    sound are (first {a = a} l t) = reached_closed.root a ((are a).0 t)
    sound are (next {a = a} s r i t) =
        let m = rw (steps_in_lem fits within a) at i in
        let e = (own_step fits within a s m).by in
        let c = test_says ways (get_or forward a 0) (get_or live a 0) t in
        let b = (bears_is s.by).1 (rw e at c.by) in
        rw e (reached_closed.step a s (sound are r) m (forward_table.sound a s.from c.from) b ((exactly a s.to).0 c.to))

    reaches_own :
        (a : ℕ) (s : Step) → OwnStep v a s → Forward (meaning v) a s.from → Bears (meaning v) s.by → Live (meaning v) a s.to
        → T (reaches ways (get_or forward a 0) (get_or live a 0) s)
    reaches_own a s o f b l =
        test_passes ways (get_or forward a 0) (get_or live a 0)
        (record {
          from = forward_has a s.from o.type f;
          by = rw o.by ((bears_is s.by).0 b);
          to = (exactly a s.to).1 l;
        })

    closed : {roots : List Bool} → RootsMarked v roots → ReachedClosed (meaning v) (Reaching (own_steps v) ways forward live roots)
    closed are =
        record {
          root = λ a e. first (root_below within e) ((are a).1 e);
          step =
              λ a s r m f b l.
              let o = own_step fits within a s m in
              rw o.by at (next s r (rw (steps_in_lem fits within a) m) (reaches_own a s o f b l));
        }

    exact : {roots reached : List Bool} → RootsMarked v roots → ReachedFrom (own_steps v) ways forward live roots reached
        → Exact (meaning v) (record { inside = true; live = live; ways = ways; reached = reached })
    exact are marked =
        record {
          live = exactly;
          ways = opened;
          reached =
              λ a.
              let e = reached_exact (closed are) (λ b. sound are) a in (λ t. e.1 ((marked a).0 t), λ r. (marked a).1 (e.0 r));
        }

-- the tables that the next two loops end with
pub tables_exact :
    {v : Schema} {forward : List ℕ} {roots reached : List Bool} → Fits v → WithinLimits (meaning v) → (live ways : List ℕ)
    → LiveExactly (meaning v) live → WaysExactly (meaning v) ways
    → Settled (λ t. spread_all v.steps (steps_of v.to v.by v.from) (λ u. ways) 0 0 v.types t) start_states forward
    → MarksExactly (roots_of v.root v.roots) roots
    → ReachedFrom (steps_in v.steps (steps_of v.from v.by v.to) v.types) ways forward live roots reached
    → Exact (meaning v) (record { inside = true; live = live; ways = ways; reached = reached })
tables_exact {v} {roots = roots} fits within live ways exactly opened f m r =
    exact fits within live ways exactly opened f (roots_marked v roots within m) r
