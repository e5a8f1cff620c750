-- The tables after an expression: its automaton is the block that the file is in.
use mathlib.Core.Path.{◌≡◌, refl, ap, ◌∙◌}
use mathlib.Core.List.{List, [], ◌∷◌, map, reverse_aux}
use Prim.Native.Nat.{ℕ, suc, ◌+◌, ◌≤◌, ◌<◌}
use native.Mathlib.Omega.{arith}
use lib.ListN.{length, set, length-set, length-reverse, length-map}
use lib.Seq.{get_or-set_same}
use Rattle.sdtd.specs.Limits.{most_types, most_states, most_steps}
use Rattle.sdtd.specs.Schema.{Step}
use Rattle.schema.specs.Value.{step_at}
use Rattle.schema.specs.Putting.{put_all}
use Rattle.schema.proofs.PuttingLaws.{put_long, put_before, put_past}
use Rattle.expression.specs.Expression.{Expression as Exp}
use Rattle.expression.specs.Automaton.{uses}
use Rattle.expression.specs.Tests.{accepts, all_steps}
use Rattle.expression.specs.Content.{Name}
use Rattle.expression.specs.Answer.{set_of}
use Rattle.commands.specs.File.{Draft, current, step_count, with_automaton, in_current}
use Rattle.commands.specs.Value.{EmptyFrom}
use Rattle.commands.specs.Building.{built_with}
use Rattle.commands.specs.declared.builder.Builder.{Builder}
use Rattle.commands.proofs.SchemaTables.{SchemaTables}
use Rattle.commands.proofs.Holding.{StepsHold, DraftHolds, BlocksHold, Sized, EmptyPast}
use Rattle.commands.proofs.TableLaws.{Below, steps_below, blocks_below, set_below, set_empty}

-- the steps put into the tables from the place n on
abbrev pub with_steps : SchemaTables → ℕ → List Step → SchemaTables
with_steps t n xs =
    record {
      tag = t.tag;
      states = t.states;
      accepting = t.accepting;
      counts = t.counts;
      from = put_all (map (λ (x : Step). x.from) xs) n t.from;
      by = put_all (map (λ (x : Step). x.by) xs) n t.by;
      to = put_all (map (λ (x : Step). x.to) xs) n t.to;
    }

-- the state count, the accepting states and the number of steps of the type a
abbrev pub with_parts : SchemaTables → ℕ → ℕ → ℕ → ℕ → SchemaTables
with_parts t a states accepting count =
    record {
      tag = t.tag;
      states = set t.states a states;
      accepting = set t.accepting a accepting;
      counts = set t.counts a count;
      from = t.from;
      by = t.by;
      to = t.to;
    }

-- the tables with the automaton of the type a, its steps from the place n on
abbrev pub tables_with : SchemaTables → ℕ → ℕ → Exp → SchemaTables
tables_with t a n e = with_steps (with_parts t a (suc (uses e)) (set_of (accepts e) most_states) (length (all_steps e))) n (all_steps e)

-- what is built after the expression
abbrev pub built_from : Builder → Exp → List Name → Builder
built_from s e ns = built_with s (suc (uses e)) (set_of (accepts e) most_states) (all_steps e) ns

-- the steps are as many more
pub automaton_total : (e : Exp) (ds : List Draft) {n : ℕ} → (current ds).steps ≡ [] → 0 < length ds → n ≡ step_count ds
    → n + length (all_steps e) ≡ step_count (in_current (with_automaton e) ds)
automaton_total e [] f l q = absurd (omega arith)
automaton_total e (d ∷ ds) f l q =
    let z : length d.steps ≡ 0 = ap length f in
    omega (arith, length-reverse (all_steps e))

steps_sized : (t : SchemaTables) → Sized t → (n : ℕ) (xs : List Step) → Sized (with_steps t n xs)
steps_sized t k n xs =
    record {
      tag = k.tag;
      states = k.states;
      accepting = k.accepting;
      counts = k.counts;
      from = put_long (map (λ (x : Step). x.from) xs) n t.from ∙ k.from;
      by = put_long (map (λ (x : Step). x.by) xs) n t.by ∙ k.by;
      to = put_long (map (λ (x : Step). x.to) xs) n t.to ∙ k.to;
    }

-- what stands before the new steps stays
steps_before : (t : SchemaTables) (a n : ℕ) (xs : List Step) → Below t (with_steps t n xs) a n
steps_before t a n xs =
    record {
      tag = λ b l. refl;
      states = λ b l. refl;
      accepting = λ b l. refl;
      counts = λ b l. refl;
      step = λ k l.
          rw (
            put_before (map (λ (x : Step). x.from) xs) n t.from k l,
            put_before (map (λ (x : Step). x.by) xs) n t.by k l,
            put_before (map (λ (x : Step). x.to) xs) n t.to k l,
          );
    }

-- the new steps stand behind those that stood there
steps_put : (t : SchemaTables) → Sized t → (xs ys : List Step) (s n : ℕ) → n ≡ s + length ys → n + length xs ≤ most_steps → StepsHold t ys s
    → StepsHold (with_steps t n xs) (reverse_aux xs ys) s
unfolding put_all
steps_put t k [] ys s n e l h = h
steps_put t k (x ∷ xs) ys s n e l h =
    let u = with_steps t n (x ∷ []) in
    let stands : step_at u.from u.by u.to n ≡ x =
    rw (
      get_or-set_same t.from n x.from 0 (omega (arith, k.from)),
      get_or-set_same t.by n x.by 0 (omega (arith, k.by)),
      get_or-set_same t.to n x.to 0 (omega (arith, k.to)),
    ) in
    steps_put u (steps_sized t k n (x ∷ [])) xs (x ∷ ys) s (suc n) (omega arith) (omega arith)
    (rw (← e) stands, steps_below (steps_before t 0 n (x ∷ [])) ys s (omega arith) h)

-- what is set of the type a leaves the types before it, and all steps
parts_before : (t : SchemaTables) (a states accepting count n : ℕ) → Below t (with_parts t a states accepting count) a n
parts_before t a states accepting count n =
    record {
      tag = λ b l. refl;
      states = set_below t.states a states;
      accepting = set_below t.accepting a accepting;
      counts = set_below t.counts a count;
      step = λ k l. refl;
    }

parts_sized : (t : SchemaTables) → Sized t → (a states accepting count : ℕ) → Sized (with_parts t a states accepting count)
parts_sized t k a states accepting count =
    record {
      tag = k.tag;
      states = rw length-set k.states;
      accepting = rw length-set k.accepting;
      counts = rw length-set k.counts;
      from = k.from;
      by = k.by;
      to = k.to;
    }

module _ (t : SchemaTables) (k : Sized t) (a n : ℕ) (e : Exp) where
  abbrev own : SchemaTables
  own = with_parts t a (suc (uses e)) (set_of (accepts e) most_states) (length (all_steps e))

  pub automaton_sized : Sized (tables_with t a n e)
  automaton_sized = steps_sized own (parts_sized t k a _ _ _) n (all_steps e)

  -- the automaton is the block that the file is in, which has no step yet
  pub automaton_blocks : (bs : List Draft) → suc a ≡ length bs → a < most_types → n ≡ step_count bs → (current bs).steps ≡ []
      → n + length (all_steps e) ≤ most_steps → BlocksHold t bs → BlocksHold (tables_with t a n e) (in_current (with_automaton e) bs)
  automaton_blocks [] p l q f m h = absurd (omega arith)
  automaton_blocks (d ∷ ds) p l q f m h =
      let c : length ds ≡ a = omega arith in
      let z : length d.steps ≡ 0 = ap length f in
      let s : step_count ds ≡ n = omega arith in
      let x : DraftHolds t d a (step_count ds) = rw c at h.0 in
      let w = steps_put own (parts_sized t k a _ _ _) (all_steps e) [] n n (omega arith) m tt in (
        rw (c, s)
            (record {
              tag = x.tag;
              states = get_or-set_same t.states a (suc (uses e)) 0 (omega (arith, k.states));
              accepting = get_or-set_same t.accepting a (set_of (accepts e) most_states) 0 (omega (arith, k.accepting));
              count = rw length-reverse (get_or-set_same t.counts a (length (all_steps e)) 0 (omega (arith, k.counts)));
              steps = w;
            }),
        blocks_below (steps_before own a n (all_steps e)) ds (omega arith) (omega arith)
            (blocks_below (parts_before t a _ _ _ n) ds (omega arith) (omega arith) h.1),
      )

  -- past the types and the steps so far the tables still hold 0
  pub automaton_empty : {types : ℕ} → a < types → EmptyPast t types n → EmptyPast (tables_with t a n e) types (n + length (all_steps e))
  automaton_empty {types} l z =
      record {
        tag = z.tag;
        states = set_empty t.states a _ types (omega arith) l z.states;
        accepting = set_empty t.accepting a _ types (omega arith) l z.accepting;
        counts = set_empty t.counts a _ types (omega arith) l z.counts;
        from = past (λ x. x.from) t.from z.from;
        by = past (λ x. x.by) t.by z.by;
        to = past (λ x. x.to) t.to z.to;
      }
    where
      past : (part : Step → ℕ) (table : List ℕ) → EmptyFrom n table → EmptyFrom (n + length (all_steps e)) (put_all (map part (all_steps e)) n table)
      past part table z i l =
          let m : length (map part (all_steps e)) ≡ length (all_steps e) = length-map (all_steps e) part in
          put_past (map part (all_steps e)) n table i (omega arith) ∙ z i (omega arith)
