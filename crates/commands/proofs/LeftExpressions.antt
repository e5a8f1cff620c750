-- An expression's block in the new file: of the expression with the new numbers where all its types are kept, or by its states.
use mathlib.Core.Path.{◌≡◌, refl, sym, ap, subst, ◌∙◌}
use mathlib.Core.Logic.{⊎_elim}
use mathlib.Core.Bool.{Bool, true, false}
use mathlib.Core.List.Memᴰ
use mathlib.Core.List.{List, [], ◌∷◌, ◌++◌, map, reverse, map-append, Memᴰ}
use Prim.Native.Nat.{ℕ, suc, ◌+◌, ◌^◌, ◌≤◌, ◌<◌}
use native.Mathlib.Omega.{arith}
use lib.Dec.{T}
use lib.ListN.{length, length-map}
use Rattle.sdtd.specs.Limits.{most_types, most_states, most_steps}
use Rattle.sdtd.specs.Schema.{Block}
use Rattle.sdtd.specs.Schema.{Step as StepOf}
use Rattle.sdtd.specs.Reduced.{new_number, steps_left, block_left}
use Rattle.sdtd.specs.declared.Tag.{Tag}
use Rattle.sdtd.proofs.NewNumbers.{new_at_most, new_rises}
use Rattle.sdtd.proofs.Reducing.{steps_left_lem, step_was}
use Rattle.schema.specs.States.{member}
use Rattle.command.specs.declared.Command.TheVariants.{TypeBlock}
use Rattle.expression.specs.Limits.{most_uses}
use Rattle.expression.specs.Expression.{Expression as Exp}
use Rattle.expression.specs.Automaton.{uses, named, Before}
use Rattle.expression.specs.Tests.{accepts, all_steps}
use Rattle.expression.specs.Content.{Name}
use Rattle.expression.specs.Answer.{set_of}
use Rattle.sdtd.proofs.EachLaws.{Sorted}
use Rattle.expression.proofs.TestSets.{set_below, member_set}
use Rattle.expression.proofs.TestLaws.{accepts_below}
use Rattle.expression.proofs.UseTypes.{named-uses, relabel_expression}
use Rattle.expression.proofs.AutomatonLaws.{before_strict, steps_sorted}
use Rattle.expression.proofs.AutomatonLimits.{steps_inside}
use Rattle.expression.proofs.RelabelledAutomata.{uses_relabelled, accepting_relabelled, automaton_left}
use Rattle.expression.proofs.WholeContents.{types_of}
use Rattle.commands.specs.Questions.{rank, failed}
use Rattle.commands.specs.File.{Draft, Stated, step_count, seen_of, after, with_automaton, after_expression}
use Rattle.commands.specs.declared.phase.Phase.TheVariants.{InBlock, AfterExpression}
use Rattle.commands.proofs.Passing.{passed}
use Rattle.commands.proofs.StatedLimits.{Each, mem-reverse}
use Rattle.commands.proofs.LeftDrafts.{unplaced, draft_left, none_left, step_kept, step_dropped, steps_fewer, steps_turned, left_steps}
use Rattle.commands.proofs.LeftCommands.{Related, typed, passes_type, type_related, type_skipped}
use Rattle.commands.proofs.LeftBlocks.{in_block, with_accepting, with_steps, Distinct, StepFits}

-- a list sorted by a strict order has none twice
sorted_distinct : (ss : List StepOf) → Sorted Before ss → Distinct ss
sorted_distinct [] o = tt
sorted_distinct (s ∷ ss) o = (λ m. before_strict s (o.0 s m), sorted_distinct ss o.1)

-- nor have the steps left of it
distinct_left : (kept : ℕ → Bool) (ss : List StepOf) → Distinct ss → Distinct (steps_left kept ss)
distinct_left kept [] d = subst Distinct (sym (none_left kept)) tt
distinct_left kept (s ∷ ss) d = by_test (kept s.by) refl (distinct_left kept ss d.1)
  where
    by_test : (b : Bool) → kept s.by ≡ b → Distinct (steps_left kept ss) → Distinct (steps_left kept (s ∷ ss))
    by_test true e later =
        let t : T (kept s.by) = rw e tt in
        subst Distinct (sym (step_kept kept s ss t)) (λ m. d.0 (step_was kept {ss = ss} {p = s.from} {j = s.by} {q = s.to} t m), later)
    by_test false e later = subst Distinct (sym (step_dropped kept s ss (rw e (λ t. t)))) later

-- An expression that is read in the old file, its types those of the n types of the schema.
module _ {kept : ℕ → Bool} {n : ℕ} {g h : Stated} (r : Related kept n g h) (t : Tag) (e : Exp) (ns : List Name)
    (passes : failed (seen_of g (TypeBlock t 0)) (TypeBlock t 0) ≡ 0) (names : types_of ns ≡ named e) (few : length ns ≤ most_uses)
    (below : Each (λ j. j < most_types) (types_of ns)) (known : Each (λ j. j < n) (types_of ns))
    (fits : step_count g.blocks + length (all_steps e) ≤ most_steps) where
  before : rank g.phase ≤ rank AfterExpression
  before = (passed g (TypeBlock t 0) passes).1

  in_names : {j : ℕ} → Memᴰ j (named e) → Memᴰ j (types_of ns)
  in_names {j} m = subst (Memᴰ j) (sym names) m

  few_uses : uses e ≤ most_uses
  few_uses = omega (arith, few, named-uses e, ap length names, length-map ns (λ (x : Name). x.type))

  -- .. of a type that is not kept
  pub skips_expression : (i : ℕ) → ¬ T (kept (length g.blocks)) → Related kept n (after_expression (after g i (TypeBlock t 0)) e ns) h
  unfolding after
  skips_expression i k =
      let p = passed g (TypeBlock t 0) passes in
      type_skipped r (with_automaton e (typed i t 0)) AfterExpression (reverse ns ++ g.names) p.0 before (omega arith) (omega arith) k

  -- .. of one that is kept, all its types kept
  module _ (own : T (kept (length g.blocks))) (all : Each (λ j. T (kept j)) (types_of ns)) where
    steps_copied : steps_left kept (all_steps e) ≡ all_steps (relabel_expression (new_number kept) e)
    unfolding block_left
    steps_copied =
        ap (λ (b : Block). b.steps)
        (automaton_left kept e (λ j m. all j (in_names m)) (λ j m. below j (in_names m))
        (λ j m. omega (arith, new_at_most kept j, below j (in_names m))) (λ j k m o l. new_rises kept j k (all j (in_names m)) l) 0 false)

    draft_copied : (i k : ℕ)
        → unplaced (with_automaton (relabel_expression (new_number kept) e) (typed k t 0)) ≡ draft_left kept (with_automaton e (typed i t 0))
    draft_copied i k a =
        record {
          place = 0;
          tag = t.0;
          nillable = false;
          states = suc (uses_relabelled (new_number kept) e a);
          accepting = accepting_relabelled (new_number kept) e most_states a;
          steps = (ap reverse (sym steps_copied) ∙ sym (steps_turned kept (all_steps e))) a;
        }

    pub copied_passes : failed (seen_of h (TypeBlock t 0)) (TypeBlock t 0) ≡ 0
    copied_passes = passes_type r t 0 0 passes (omega arith)

    pub copied_fits : step_count h.blocks + length (all_steps (relabel_expression (new_number kept) e)) ≤ most_steps
    copied_fits = omega (arith, left_steps r.blocks, ap length steps_copied, steps_fewer kept (all_steps e), fits)

    pub copied_related : (i k : ℕ) (ns' : List Name) → types_of ns' ≡ map (new_number kept) (types_of ns)
        → Related kept n (after_expression (after g i (TypeBlock t 0)) e ns)
        (after_expression (after h k (TypeBlock t 0)) (relabel_expression (new_number kept) e) ns')
    unfolding after
    copied_related i k ns' same =
        type_related r (with_automaton e (typed i t 0)) (with_automaton (relabel_expression (new_number kept) e) (typed k t 0))
        AfterExpression AfterExpression (reverse ns ++ g.names) (reverse ns' ++ h.names) before (omega arith) (omega arith) tt
        (λ q. absurd (omega arith)) own (draft_copied i k) named_below
      where
        new_below : Each (λ j. j < new_number kept n) (types_of ns')
        new_below j m =
            let o = Memᴰ.of_map (new_number kept) (types_of ns) (subst (Memᴰ j) same m) in
            subst (λ (k : ℕ). k < new_number kept n) o.2 (new_rises kept o.0 n (all o.0 o.1) (known o.0 o.1))

        turned : Each (λ j. j < new_number kept n) (types_of (reverse ns'))
        turned j m =
            let o = Memᴰ.of_map (λ (x : Name). x.type) (reverse ns') m in
            new_below j (subst (λ (k : ℕ). Memᴰ k (types_of ns')) o.2 (Memᴰ.map (λ (x : Name). x.type) (mem-reverse ns' o.1)))

        named_below : Each (λ j. j < new_number kept n) (types_of (reverse ns' ++ h.names))
        named_below j m =
            ⊎_elim (turned j) (r.names j)
            (Memᴰ.append_cases (types_of (reverse ns'))
            (subst (Memᴰ j) (map-append (λ (x : Name). x.type) (reverse ns') h.names) m))

  -- .. written by its states
  module _ (own : T (kept (length g.blocks))) where
    pub states_passes : failed (seen_of h (TypeBlock t (suc (uses e)))) (TypeBlock t (suc (uses e))) ≡ 0
    states_passes = passes_type r t 0 (suc (uses e)) passes (omega (arith, few_uses))

    pub states_below : set_of (accepts e) most_states < 2 ^ most_states
    states_below = set_below (accepts e) most_states

    pub states_within : (q : ℕ) → T (member q (set_of (accepts e) most_states)) → q < suc (uses e)
    states_within q m = accepts_below e q ((member_set (accepts e) most_states q (omega arith)).0 m).0

    pub states_steps : Each (StepFits (new_number kept n) (typed 0 t (suc (uses e)))) (steps_left kept (all_steps e))
    states_steps s m =
        let f = (steps_left_lem kept (all_steps e) s).0 m in
        let o = f.member in
        let b = steps_inside e o f.given in
        let j = in_names b.3 in
        subst (λ (x : StepOf). StepFits (new_number kept n) (typed 0 t (suc (uses e))) x) f.holds.1 (
          b.0,
          b.2,
          omega (arith, new_at_most kept o.by, below o.by j),
          new_rises kept o.by n f.holds.0 (known o.by j),
        )

    pub states_distinct : Distinct (steps_left kept (all_steps e))
    states_distinct = distinct_left kept (all_steps e) (sorted_distinct (all_steps e) (steps_sorted e))

    pub states_fit : step_count h.blocks + length (steps_left kept (all_steps e)) ≤ most_steps
    states_fit = omega (arith, left_steps r.blocks, steps_fewer kept (all_steps e), fits)

    -- the block that they leave
    abbrev block_read : ℕ → Draft
    block_read k = with_steps (reverse (steps_left kept (all_steps e))) (with_accepting (set_of (accepts e) most_states) (typed k t (suc (uses e))))

    draft_states : (i k : ℕ) → unplaced (block_read k) ≡ draft_left kept (with_automaton e (typed i t 0))
    draft_states i k a =
        record {
          place = 0;
          tag = t.0;
          nillable = false;
          states = suc (uses e);
          accepting = set_of (accepts e) most_states;
          steps = sym (steps_turned kept (all_steps e)) a;
        }

    pub states_related : (i k : ℕ) (ns' : List Name) → Each (λ j. j < new_number kept n) (types_of ns')
        → Related kept n (after_expression (after g i (TypeBlock t 0)) e ns)
        (in_block h (block_read k) ns')
    unfolding after
    states_related i k ns' named =
        type_related r (with_automaton e (typed i t 0)) (block_read k) AfterExpression InBlock (reverse ns ++ g.names) ns' before (omega arith)
        (omega arith) tt (λ q. absurd (omega arith)) own (draft_states i k) named
