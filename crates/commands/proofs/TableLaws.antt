-- What the tables hold of the blocks, and how they grow.
use mathlib.Core.Path.{◌≡◌, refl, ap, ◌∙◌}
use mathlib.Core.Bool.{false}
use mathlib.Core.List.{List, [], ◌∷◌}
use Prim.Native.Nat.{ℕ, suc, ◌+◌, ◌-◌, ◌%◌, ◌≤◌, ◌<◌}
use native.Mathlib.Omega.{arith}
use lib.ListN.{length, get_or, set, length-set}
use lib.Seq.{get_or-set_same, get_or-set_other}
use Rattle.sdtd.specs.Schema.{Step, step}
use Rattle.sdtd.specs.Limits.{most_types, most_steps}
use Rattle.schema.specs.States.{insert, no_states}
use Rattle.schema.specs.Value.{step_at}
use Rattle.commands.specs.File.{Draft, current, step_count, with_final, with_step, with_nil, in_current}
use Rattle.commands.specs.Value.{EmptyFrom}
use Rattle.commands.specs.Building.{last_type}
use Rattle.commands.proofs.SchemaTables.{SchemaTables}
use Rattle.commands.proofs.Holding.{StepsHold, DraftHolds, BlocksHold, Sized, EmptyPast}

-- the tables with one type more
abbrev pub with_type : SchemaTables → ℕ → ℕ → ℕ → SchemaTables
with_type t a g k =
    record {
      tag = set t.tag a g;
      states = set t.states a k;
      accepting = t.accepting;
      counts = t.counts;
      from = t.from;
      by = t.by;
      to = t.to;
    }

-- the tables with one accepting state more
abbrev pub with_accepting : SchemaTables → ℕ → ℕ → SchemaTables
with_accepting t a q =
    record {
      tag = t.tag;
      states = t.states;
      accepting = set t.accepting a (insert q (get_or t.accepting a 0));
      counts = t.counts;
      from = t.from;
      by = t.by;
      to = t.to;
    }

-- the tables with one step more
abbrev pub with_one_step : SchemaTables → ℕ → ℕ → ℕ → ℕ → ℕ → SchemaTables
with_one_step t a n p j q =
    record {
      tag = t.tag;
      states = t.states;
      accepting = t.accepting;
      counts = set t.counts a (get_or t.counts a 0 % most_steps + 1);
      from = set t.from n p;
      by = set t.by n j;
      to = set t.to n q;
    }

-- the block that the file is in is the last type, and its steps are the last; before the first there is none, and the tables are empty
pub current_holds : {t : SchemaTables} {types n : ℕ} (bs : List Draft) → types ≡ length bs → types ≤ most_types → EmptyPast t types n
    → BlocksHold t bs → DraftHolds t (current bs) (last_type types) (step_count bs - length (current bs).steps)
current_holds {types = types} [] e l z h =
    let a = last_type types in
    record {
      tag = z.tag a (omega arith);
      states = z.states a (omega arith);
      accepting = z.accepting a (omega arith);
      count = z.counts a (omega arith);
      steps = tt;
    }
current_holds {types = types} (d ∷ ds) e l z h =
    let a : last_type types ≡ length ds = omega arith in
    let n : step_count (d ∷ ds) - length d.steps ≡ step_count ds = omega arith in
    rw (a, n) h.0

-- the count has that block's steps
pub current_count : (bs : List Draft) → length (current bs).steps ≤ step_count bs
current_count [] = omega arith
current_count (d ∷ ds) = omega arith

-- what is done to the block that the file is in leaves the number of blocks, and that of steps if it leaves the steps
pub same_count : (f : Draft → Draft) (bs : List Draft) → length bs ≡ length (in_current f bs)
same_count f [] = refl
same_count f (d ∷ ds) = refl

pub same_steps : (f : Draft → Draft) (bs : List Draft) → ((d : Draft) → (f d).steps ≡ d.steps) → step_count bs ≡ step_count (in_current f bs)
same_steps f [] e = refl
same_steps f (d ∷ ds) e = rw (e d)

-- one step more is one more in the count
pub step_steps : (x : Step) (bs : List Draft) → 0 < length bs → step_count (in_current (with_step x) bs) ≡ step_count bs + 1
step_steps x [] l = absurd (omega arith)
step_steps x (d ∷ ds) l = omega arith

-- the tables agree on the types below a and on the steps below n
pub record Below (t u : SchemaTables) (a n : ℕ) : Type 0 where
  pub tag : (b : ℕ) → b < a → get_or u.tag b 0 ≡ get_or t.tag b 0
  pub states : (b : ℕ) → b < a → get_or u.states b 0 ≡ get_or t.states b 0
  pub accepting : (b : ℕ) → b < a → get_or u.accepting b 0 ≡ get_or t.accepting b 0
  pub counts : (b : ℕ) → b < a → get_or u.counts b 0 ≡ get_or t.counts b 0
  pub step : (k : ℕ) → k < n → step_at u.from u.by u.to k ≡ step_at t.from t.by t.to k

module _ {t u : SchemaTables} {a n : ℕ} (w : Below t u a n) where
  pub steps_below : (xs : List Step) (s : ℕ) → s + length xs ≤ n → StepsHold t xs s → StepsHold u xs s
  steps_below [] s l h = tt
  steps_below (x ∷ xs) s l h = (w.step (s + length xs) (omega arith) ∙ h.0, steps_below xs s (omega arith) h.1)

  draft_below : (d : Draft) {b s : ℕ} → b < a → s + length d.steps ≤ n → DraftHolds t d b s → DraftHolds u d b s
  draft_below d {b} {s} l m h =
      record {
        tag = w.tag b l ∙ h.tag;
        states = w.states b l ∙ h.states;
        accepting = w.accepting b l ∙ h.accepting;
        count = w.counts b l ∙ h.count;
        steps = steps_below d.steps s m h.steps;
      }

  pub blocks_below : (bs : List Draft) → length bs ≤ a → step_count bs ≤ n → BlocksHold t bs → BlocksHold u bs
  blocks_below [] l m h = tt
  blocks_below (d ∷ ds) l m h = (draft_below d l m h.0, blocks_below ds (omega arith) (omega arith) h.1)

-- what is set at the place a leaves the places below it
pub set_below : (l : List ℕ) (a v b : ℕ) → b < a → get_or (set l a v) b 0 ≡ get_or l b 0
set_below l a v b h = get_or-set_other l a b v 0 (omega arith)

-- what is set below the place m leaves the table empty from there on
pub set_empty : {n : ℕ} (l : List ℕ) (a v m : ℕ) → n ≤ m → a < m → EmptyFrom n l → EmptyFrom m (set l a v)
set_empty {n} l a v m h b e i k = get_or-set_other l a i v 0 (omega arith) ∙ e i (omega arith)

module _ {t : SchemaTables} {a n : ℕ} (e : EmptyPast t a n) where
  -- one type more
  pub type_empty : (b g k : ℕ) → a ≡ b → EmptyPast (with_type t b g k) (b + 1) n
  type_empty b g k q =
      record {
        tag = set_empty t.tag b g (b + 1) (omega arith) (omega arith) e.tag;
        states = set_empty t.states b k (b + 1) (omega arith) (omega arith) e.states;
        accepting = λ i l. e.accepting i (omega arith);
        counts = λ i l. e.counts i (omega arith);
        from = e.from;
        by = e.by;
        to = e.to;
      }

  -- one accepting state more
  pub accepting_empty : (b q : ℕ) → b < a → EmptyPast (with_accepting t b q) a n
  accepting_empty b q l =
      record {
        tag = e.tag;
        states = e.states;
        accepting = set_empty t.accepting b (insert q (get_or t.accepting b 0)) a (omega arith) l e.accepting;
        counts = e.counts;
        from = e.from;
        by = e.by;
        to = e.to;
      }

  -- one step more
  pub step_empty : (b m p j q : ℕ) → b < a → n ≡ m → EmptyPast (with_one_step t b m p j q) a (m + 1)
  step_empty b m p j q l d =
      record {
        tag = e.tag;
        states = e.states;
        accepting = e.accepting;
        counts = set_empty t.counts b (get_or t.counts b 0 % most_steps + 1) a (omega arith) l e.counts;
        from = set_empty t.from m p (m + 1) (omega arith) (omega arith) e.from;
        by = set_empty t.by m j (m + 1) (omega arith) (omega arith) e.by;
        to = set_empty t.to m q (m + 1) (omega arith) (omega arith) e.to;
      }

-- a NIL leaves the tables
pub nil_blocks : (t : SchemaTables) (bs : List Draft) → BlocksHold t bs → BlocksHold t (in_current with_nil bs)
nil_blocks t [] h = h
nil_blocks t (d ∷ ds) h =
    let x = h.0 in
    (record { tag = x.tag; states = x.states; accepting = x.accepting; count = x.count; steps = x.steps }, h.1)

module _ (t : SchemaTables) (k : Sized t) where
  pub type_sized : (a g n : ℕ) → Sized (with_type t a g n)
  type_sized a g n =
      record {
        tag = rw length-set k.tag;
        states = rw length-set k.states;
        accepting = k.accepting;
        counts = k.counts;
        from = k.from;
        by = k.by;
        to = k.to;
      }

  pub accepting_sized : (a q : ℕ) → Sized (with_accepting t a q)
  accepting_sized a q =
      record {
        tag = k.tag;
        states = k.states;
        accepting = rw length-set k.accepting;
        counts = k.counts;
        from = k.from;
        by = k.by;
        to = k.to;
      }

  pub step_sized : (a n p j q : ℕ) → Sized (with_one_step t a n p j q)
  step_sized a n p j q =
      record {
        tag = k.tag;
        states = k.states;
        accepting = k.accepting;
        counts = rw length-set k.counts;
        from = rw length-set k.from;
        by = rw length-set k.by;
        to = rw length-set k.to;
      }

  -- one type more
  pub type_blocks : {m : ℕ} (bs : List Draft) (a g n i : ℕ) → a ≡ length bs → a < most_types → EmptyPast t a m → BlocksHold t bs
      → BlocksHold (with_type t a g n) (record { place = i; tag = g; nillable = false; states = n; accepting = no_states; steps = [] } ∷ bs)
  type_blocks bs a g n i e l z h =
      rw (← e) (
        record {
          tag = get_or-set_same t.tag a g 0 (omega (arith, k.tag));
          states = get_or-set_same t.states a n 0 (omega (arith, k.states));
          accepting = z.accepting a (omega arith);
          count = z.counts a (omega arith);
          steps = tt;
        },
        blocks_below w bs (omega arith) (omega arith) h,
      )
    where
      w : Below t (with_type t a g n) a (step_count bs)
      w =
          record {
            tag = set_below t.tag a g;
            states = set_below t.states a n;
            accepting = λ b l. refl;
            counts = λ b l. refl;
            step = λ i l. refl;
          }

  -- one accepting state more
  pub final_blocks : (bs : List Draft) (a q : ℕ) → suc a ≡ length bs → a < most_types → BlocksHold t bs
      → BlocksHold (with_accepting t a q) (in_current (with_final q) bs)
  final_blocks [] a q e l h = absurd (omega arith)
  final_blocks (d ∷ ds) a q e l h =
      let c : length ds ≡ a = omega arith in
      let x : DraftHolds t d a (step_count ds) = rw c at h.0 in
      let v = insert q (get_or t.accepting a 0) in (
        rw c
            (record {
              tag = x.tag;
              states = x.states;
              accepting = get_or-set_same t.accepting a v 0 (omega (arith, k.accepting)) ∙ ap (insert q) x.accepting;
              count = x.count;
              steps = steps_below (w (step_count ds + length d.steps)) d.steps (step_count ds) (omega arith) x.steps;
            }),
        blocks_below (w (step_count ds)) ds (omega arith) (omega arith) h.1,
      )
    where
      w : (n : ℕ) → Below t (with_accepting t a q) a n
      w n =
          record {
            tag = λ b l. refl;
            states = λ b l. refl;
            accepting = set_below t.accepting a (insert q (get_or t.accepting a 0));
            counts = λ b l. refl;
            step = λ i l. refl;
          }

  -- a new step leaves what is below its places
  step_below : (a n p j q : ℕ) → Below t (with_one_step t a n p j q) a n
  step_below a n p j q =
      record {
        tag = λ b l. refl;
        states = λ b l. refl;
        accepting = λ b l. refl;
        counts = set_below t.counts a (get_or t.counts a 0 % most_steps + 1);
        step = λ b l. rw (set_below t.from n p b l, set_below t.by n j b l, set_below t.to n q b l);
      }

  -- the new step stands at its place
  step_stands : (n p j q : ℕ) → n < most_steps
      → ◌≡◌ {A = Step} (step_at (set t.from n p) (set t.by n j) (set t.to n q) n) (step p j q)
  step_stands n p j q l =
      rw (
        get_or-set_same t.from n p 0 (omega (arith, k.from)),
        get_or-set_same t.by n j 0 (omega (arith, k.by)),
        get_or-set_same t.to n q 0 (omega (arith, k.to)),
      )

  -- one step more
  pub step_blocks : (bs : List Draft) (a n p j q : ℕ) → suc a ≡ length bs → a < most_types → n ≡ step_count bs → n < most_steps → BlocksHold t bs
      → BlocksHold (with_one_step t a n p j q) (in_current (with_step (step p j q)) bs)
  step_blocks [] a n p j q e l f m h = absurd (omega arith)
  step_blocks (d ∷ ds) a n p j q e l f m h =
      let c : length ds ≡ a = omega arith in
      let x : DraftHolds t d a (step_count ds) = rw c at h.0 in
      let b : Below t (with_one_step t a n p j q) a n = step_below a n p j q in
      let y : get_or t.counts a 0 % most_steps + 1 ≡ suc (length d.steps) = omega (arith, x.count) in (
        rw c
            (record {
              tag = x.tag;
              states = x.states;
              accepting = x.accepting;
              count = get_or-set_same t.counts a (get_or t.counts a 0 % most_steps + 1) 0 (omega (arith, k.counts)) ∙ y;
              steps =
                  rw (← f) (step_stands n p j q m, steps_below b d.steps (step_count ds) (omega arith) x.steps);
            }),
        blocks_below b ds (omega arith) (omega arith) h.1,
      )
