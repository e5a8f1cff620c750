-- When a command passes its questions, by what is stated; and what is not given yet where a STEP, a ROOT or a NIL passes.
use mathlib.Core.Path.{◌≡◌, refl, sym}
use mathlib.Core.Bool.{Bool, true, false, not, ◌&&◌, ◌||◌}
use mathlib.Core.List.{List, [], ◌∷◌, Memᴰ}
use Prim.Native.Nat.{ℕ, ◌≤◌, ◌<◌}
use borrow.Author.Tests.{le-leb, lt-ltb, eq-eqb}
use lib.Dec.{T, eqb, leb, ltb, eqb→eq, T_not, not_T}
use lib.ListN.{length}
use Rattle.sdtd.proofs.Basics.{and_parts, and_both, is_true, ◌&◌}
use Rattle.sdtd.specs.Limits.{most_tags, most_types, most_roots, most_states, most_steps}
use Rattle.sdtd.specs.Schema.{Step as StepOf, step}
use Rattle.sdtd.specs.declared.Tag.{Tag}
use Rattle.sdtd.specs.declared.TypeNo.{TypeNo}
use Rattle.schema.specs.States.{member}
use Rattle.command.specs.Asked.{first_no}
use Rattle.command.specs.declared.Command.{Command}
use Rattle.command.specs.declared.Command.TheVariants.{Tags, TypeBlock, Final, Step, Root, Nil, Done}
use Rattle.command.proofs.AskedLaws.{AllYes}
use Rattle.commands.specs.Questions.{rank, same_phase, in_type_block, in_order, in_range, within_counts, not_given, questions, failed}
use Rattle.commands.specs.File.{Stated, current, step_count, same_step, has_step, has_root, seen_of}
use Rattle.commands.specs.declared.phase.Phase.TheVariants.{BeforeTags, BeforeTypes, InBlock, AfterRoot}
use Rattle.commands.proofs.Passing.{answered}

-- one of two tests
pub or_left : (a b : Bool) → T a → T (a || b)
or_left true b t = tt
or_left false b t = absurd t

pub or_right : (a b : Bool) → T b → T (a || b)
or_right true b t = tt
or_right false b t = t

-- a test of numbers, from the fact
le_test : (m n : ℕ) → m ≤ n → T (leb m n)
le_test m n l = rw (le-leb m n l) tt

lt_test : (m n : ℕ) → m < n → T (ltb m n)
lt_test m n l = rw (lt-ltb m n l) tt

pub eq_test : (m n : ℕ) → m ≡ n → T (eqb m n)
eq_test m n e = rw (eq-eqb m n e) tt

-- where all questions are answered yes, none is failed
none_no : (qs : List (ℕ × Bool)) → AllYes qs → first_no qs ≡ 0
none_no [] y = refl
none_no (q ∷ qs) y = rw (is_true q.1 y.0) (none_no qs y.1)

-- whether a step is among steps
pub has_step_says : (p j q : ℕ) (ss : List StepOf) → T (has_step p j q ss) → Memᴰ (step p j q) ss
has_step_says p j q [] t = absurd t
has_step_says p j q (s ∷ ss) t = either (has_step_says p j q ss) (same_step p j q s) refl t
  where
    either : (T (has_step p j q ss) → Memᴰ (step p j q) ss) → (b : Bool) → same_step p j q s ≡ b → T (b || has_step p j q ss)
        → Memᴰ (step p j q) (s ∷ ss)
    either later true e t =
        let h = and_parts (eqb s.from p) (eqb s.by j && eqb s.to q) (rw e tt) in
        let k = and_parts (eqb s.by j) (eqb s.to q) h.1 in
        Memᴰ.head (λ i. step (sym (eqb→eq s.from p h.0) i) (sym (eqb→eq s.by j k.0) i) (sym (eqb→eq s.to q k.1) i))
    either later false e t = Memᴰ.tail (later t)

pub has_step_passes : (p j q : ℕ) (ss : List StepOf) → Memᴰ (step p j q) ss → T (has_step p j q ss)
has_step_passes p j q (s ∷ ss) (Memᴰ.head e) =
    or_left (same_step p j q s) (has_step p j q ss)
    (and_both (eqb s.from p) (eqb s.by j && eqb s.to q) (eq_test s.from p (λ i. (sym e i).from))
    (and_both (eqb s.by j) (eqb s.to q) (eq_test s.by j (λ i. (sym e i).by)) (eq_test s.to q (λ i. (sym e i).to))))
has_step_passes p j q (s ∷ ss) (Memᴰ.tail m) = or_right (same_step p j q s) (has_step p j q ss) (has_step_passes p j q ss m)
has_step_passes p j q [] m = elim m [ ]

-- a test beside others that fail
alone_not : (b : Bool) → ¬ T b → T (not (b || false))
alone_not true n = absurd (n tt)
alone_not false n = tt

not_alone : (b : Bool) → T (not (b || false)) → ¬ T b
not_alone true n t = n
not_alone false n t = t

module _ (g : Stated) where
  -- by the questions one by one
  passes : (c : Command) → let s = seen_of g c in
      T (in_order s c) → T (in_range s c) → T (within_counts s c) → T (not_given s c) → failed s c ≡ 0
  passes c order range counts new = none_no (questions (seen_of g c) c) (order & range & counts & new & tt)

  pub pass_tags : (n : ℕ) → rank g.phase ≡ rank BeforeTags → 1 ≤ n → n ≤ most_tags → failed (seen_of g (Tags n)) (Tags n) ≡ 0
  pass_tags n o a b =
      passes (Tags n) (eq_test (rank g.phase) 0 o) (and_both (leb 1 n) (leb n most_tags) (le_test 1 n a) (le_test n most_tags b)) tt tt

  pub pass_type : (t : Tag) (s : ℕ) → T (same_phase g.phase BeforeTypes || in_type_block g.phase) → t.0 < g.tags → s ≤ most_states
      → length g.blocks < most_types → failed (seen_of g (TypeBlock t s)) (TypeBlock t s) ≡ 0
  pass_type t s o a b few =
      passes (TypeBlock t s) o (and_both (ltb t.0 g.tags) (leb s most_states) (lt_test t.0 g.tags a) (le_test s most_states b))
      (lt_test (length g.blocks) most_types few) tt

  pub pass_final : (q : ℕ) → rank g.phase ≡ rank InBlock → q < (current g.blocks).states → ¬ T (member q (current g.blocks).accepting)
      → failed (seen_of g (Final q)) (Final q) ≡ 0
  pass_final q o a new =
      passes (Final q) (eq_test (rank g.phase) (rank InBlock) o) (lt_test q (current g.blocks).states a) tt
      (not_T (member q (current g.blocks).accepting) new)

  pub pass_step : (p : ℕ) (j : TypeNo) (q : ℕ) → rank g.phase ≡ rank InBlock → p < (current g.blocks).states → j.0 < most_types
      → q < (current g.blocks).states → step_count g.blocks < most_steps → ¬ T (has_step p j.0 q (current g.blocks).steps)
      → failed (seen_of g (Step p j q)) (Step p j q) ≡ 0
  pass_step p j q o a b c few new =
      let n = (current g.blocks).states in
      passes (Step p j q) (eq_test (rank g.phase) (rank InBlock) o)
      (and_both (ltb p n) (ltb j.0 most_types && ltb q n) (lt_test p n a)
      (and_both (ltb j.0 most_types) (ltb q n) (lt_test j.0 most_types b) (lt_test q n c)))
      (lt_test (step_count g.blocks) most_steps few) (alone_not (has_step p j.0 q (current g.blocks).steps) new)

  pub pass_root : (a : TypeNo) → T (same_phase g.phase AfterRoot || in_type_block g.phase) → a.0 < length g.blocks
      → length g.roots < most_roots → ¬ T (has_root a.0 g.roots) → failed (seen_of g (Root a)) (Root a) ≡ 0
  pass_root a o b few new =
      passes (Root a) o (lt_test a.0 (length g.blocks) b) (lt_test (length g.roots) most_roots few)
      (alone_not (has_root a.0 g.roots) new)

  pub pass_nil : T (in_type_block g.phase) → ¬ T (current g.blocks).nillable → failed (seen_of g Nil) Nil ≡ 0
  pass_nil o new = passes Nil o tt tt (not_T (current g.blocks).nillable new)

  pub pass_done : rank g.phase ≡ rank AfterRoot → failed (seen_of g Done) Done ≡ 0
  pass_done o = passes Done (eq_test (rank g.phase) (rank AfterRoot) o) tt tt tt

  -- what passes is not given yet
  pub step_new : (p : ℕ) (j : TypeNo) (q : ℕ) → failed (seen_of g (Step p j q)) (Step p j q) ≡ 0
      → ¬ T (has_step p j.0 q (current g.blocks).steps)
  step_new p j q z = not_alone (has_step p j.0 q (current g.blocks).steps) (answered g (Step p j q) z).3

  pub root_new : (a : TypeNo) → failed (seen_of g (Root a)) (Root a) ≡ 0 → ¬ T (has_root a.0 g.roots)
  root_new a z = not_alone (has_root a.0 g.roots) (answered g (Root a) z).3

  pub nil_new : failed (seen_of g Nil) Nil ≡ 0 → ¬ T (current g.blocks).nillable
  nil_new z = T_not (current g.blocks).nillable (answered g Nil z).3
