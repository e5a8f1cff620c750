-- What a command that passes its questions has; what each such command and each expression keeps holds where the commands end; and the
-- commands are refused with a number of 2 to 6 or 21 to 23.
use mathlib.Core.Path.{◌≡◌, refl, subst}
use mathlib.Core.Logic.{◌⊎◌, ◌≢◌, inl, inr, ⊎_elim}
use mathlib.Core.Bool.{Bool, true, false, cond, ◌&&◌, ◌||◌}
use mathlib.Core.List.{List}
use Rattle.std.specs.Prelude.{Option, Some, None}
use Prim.Native.Nat.{ℕ, zero, suc, ◌+◌, ◌≤◌, ◌<◌}
use native.Mathlib.Omega.{arith}
use lib.Dec.{T, eqb, leb, ltb, leb→le, ltb→lt, eqb→eq, T_not}
use lib.ListN.{length}
use borrow.Author.Tests.{eqb-true, eq-eqb, leb-true}
use Rattle.sdtd.proofs.Basics.{and_parts, cond_both, cond_either}
use Rattle.sdtd.specs.Limits.{most_tags, most_types, most_roots, most_states, most_steps}
use Rattle.schema.specs.States.{member}
use Rattle.command.specs.Command.{command_at, size}
use Rattle.command.specs.declared.Command.{Command}
use Rattle.command.specs.declared.Command.TheVariants.{Tags, TypeBlock, Final, Step, Root, Nil, Done, Expression}
use Rattle.command.proofs.AskedLaws.{Numbered, all_yes, first_number}
use Rattle.expression.specs.Expression.{Expression as Exp}
use Rattle.expression.specs.Tests.{all_steps}
use Rattle.expression.specs.Content.{Name, Content, broken, whole, content_at}
use Rattle.expression.proofs.WholeContents.{broken_number}
use Rattle.expression.specs.Answer.{NumberInside}
use Rattle.commands.specs.Questions.{rank, same_phase, in_type_block, in_order, in_range, within_counts, not_given, questions, failed}
use Rattle.commands.specs.File.{Stated, nothing_stated, current, step_count, seen_of, after, after_expression}
use Rattle.commands.specs.File.{Commands, stopped, states, by_content, by_command, commands_from, commands}
use Rattle.commands.specs.declared.phase.Phase.{Phase}
use Rattle.commands.specs.declared.phase.Phase.TheVariants.{BeforeTags, BeforeTypes, InBlock, InExpression, AfterExpression, AfterRoot}
use Rattle.commands.specs.declared.phase.Phase.TheVariants.{AfterDone}

-- what the questions say of a command that passes them
abbrev pub Passed : Stated → Command → Type 0
Passed g (Tags n) = (rank g.phase ≡ rank BeforeTags) × (1 ≤ n) × (n ≤ most_tags)
Passed g (TypeBlock t s) =
    (rank BeforeTypes ≤ rank g.phase) × (rank g.phase ≤ rank AfterExpression) × (rank g.phase ≢ rank InExpression) × (t.0 < g.tags)
    × (s ≤ most_states) × (length g.blocks < most_types)
Passed g (Final q) =
    (rank g.phase ≡ rank InBlock) × (q < (current g.blocks).states) × ¬ T (member q (current g.blocks).accepting)
Passed g (Step p j q) =
    (rank g.phase ≡ rank InBlock) × (p < (current g.blocks).states) × (q < (current g.blocks).states)
    × (step_count g.blocks < most_steps) × (j.0 < most_types)
Passed g (Root a) =
    (rank InBlock ≤ rank g.phase) × (rank g.phase ≤ rank AfterRoot) × (rank g.phase ≢ rank InExpression)
    × (a.0 < length g.blocks) × (length g.roots < most_roots)
Passed g Nil =
    (rank InBlock ≤ rank g.phase) × (rank g.phase ≤ rank AfterExpression) × (rank g.phase ≢ rank InExpression)
Passed g Done = rank g.phase ≡ rank AfterRoot
Passed g (Expression x) = ⊥

-- one of two tests
or_parts : (a b : Bool) → T (a || b) → T a ⊎ T b
or_parts true b t = inl tt
or_parts false b t = inr t

-- one of two numbers
either_is : (n a b : ℕ) → T (eqb n a || eqb n b) → (n ≡ a) ⊎ (n ≡ b)
either_is n a b t = ⊎_elim (λ h. inl (eqb→eq n a h)) (λ h. inr (eqb→eq n b h)) (or_parts (eqb n a) (eqb n b) t)

-- in a type's block, where a NIL can stand; where a ROOT can stand, and where a TYPE
in_type_block_lem : (p : Phase) → T (in_type_block p) → (rank InBlock ≤ rank p) × (rank p ≤ rank AfterExpression) × (rank p ≢ rank InExpression)
in_type_block_lem p t = ⊎_elim (λ e. omega arith) (λ e. omega arith) (either_is (rank p) (rank InBlock) (rank AfterExpression) t)

before_root : (p : Phase) → T (same_phase p AfterRoot || in_type_block p)
    → (rank InBlock ≤ rank p) × (rank p ≤ rank AfterRoot) × (rank p ≢ rank InExpression)
before_root p t =
    ⊎_elim (λ h. omega (arith, eqb→eq (rank p) (rank AfterRoot) h)) (λ h. omega (arith, in_type_block_lem p h))
    (or_parts (same_phase p AfterRoot) (in_type_block p) t)

before_type : (p : Phase) → T (same_phase p BeforeTypes || in_type_block p)
    → (rank BeforeTypes ≤ rank p) × (rank p ≤ rank AfterExpression) × (rank p ≢ rank InExpression)
before_type p t =
    ⊎_elim (λ h. omega (arith, eqb→eq (rank p) (rank BeforeTypes) h)) (λ h. omega (arith, in_type_block_lem p h))
    (or_parts (same_phase p BeforeTypes) (in_type_block p) t)

pub answered : (g : Stated) (c : Command) → let s = seen_of g c in failed s c ≡ 0
    → T (in_order s c) × T (in_range s c) × T (within_counts s c) × T (not_given s c)
answered g c z =
    let h = all_yes (questions (seen_of g c) c) (omega arith) z in
    (search h, search h, search h, search h)

pub passed : (g : Stated) (c : Command) → failed (seen_of g c) c ≡ 0 → Passed g c
passed g (Tags n) z =
    let h = answered g (Tags n) z in
    let r = and_parts (leb 1 n) (leb n most_tags) h.1 in
    omega (arith, eqb→eq, leb→le)
passed g (TypeBlock t s) z =
    let h = answered g (TypeBlock t s) z in
    let r = and_parts (ltb t.0 g.tags) (leb s most_states) h.1 in
    let o = before_type g.phase h.0 in
    let few = ltb→lt (length g.blocks) most_types h.2 in
    (o.0, o.1, o.2, ltb→lt t.0 g.tags r.0, leb→le s most_states r.1, few)
passed g (Final q) z =
    let h = answered g (Final q) z in
    let d = current g.blocks in
    (eqb→eq (rank g.phase) (rank InBlock) h.0, ltb→lt q d.states h.1, T_not (member q d.accepting) h.3)
passed g (Step p j q) z =
    let h = answered g (Step p j q) z in
    let n = (current g.blocks).states in
    let r = and_parts (ltb p n) (ltb j.0 most_types && ltb q n) h.1 in
    let l = and_parts (ltb j.0 most_types) (ltb q n) r.1 in
    omega (arith, eqb→eq, ltb→lt)
passed g (Root a) z =
    let h = answered g (Root a) z in
    let o = before_root g.phase h.0 in
    (o.0, o.1, o.2, ltb→lt a.0 (length g.blocks) h.1, ltb→lt (length g.roots) most_roots h.2)
passed g Nil z = in_type_block_lem g.phase (answered g Nil z).0
passed g Done z = let h = answered g Done z in omega (arith, eqb→eq)
passed g (Expression x) z = absurd (omega arith)

-- an expression was read at the place i, up to the 3F at the place p, and its steps fit
pub record ExpressionRead (file : List ℕ) (i : ℕ) (g : Stated) (e : Exp) (ns : List Name) (p : ℕ) : Type 0 where
  pub phase : rank g.phase ≡ rank InExpression
  pub content : content_at file i ≡ whole e ns p
  pub fits : step_count g.blocks + length (all_steps e) ≤ most_steps

-- A property of a place and of what is stated there is kept by each command that passes its questions and by each expression.
pub record Kept (file : List ℕ) (P : ℕ → Stated → Type 0) : Type 0 where
  pub by_command : (i : ℕ) (g : Stated) (c : Command) → command_at file i ≡ Some c → Passed g c → P i g → P (i + size c) (after g i c)
  pub by_expression : (i : ℕ) (g : Stated) (e : Exp) (ns : List Name) (p : ℕ) → ExpressionRead file i g e ns p → P i g
      → P (p + 1) (after_expression g e ns)

-- it holds at the end of the file, where the commands end
pub record HoldsAtEnd (P : ℕ → Stated → Type 0) (file : List ℕ) (g : Stated) : Type 0 where
  pub place : ℕ
  pub all_read : length file ≤ place
  pub phase : rank g.phase ≡ rank AfterDone
  pub holds : P place g

-- a refusal states nothing
pub not_stopped : {A : Type 0} {n p : ℕ} {g : Stated} → stopped n p ≡ states g → A
not_stopped e = absurd (let z : ◌≡◌ {A = ℕ} 0 1 = cc in omega arith)

-- one turn: the commands end here, or an expression is read, or a command
pub turn : {R : Type 0} (a b x : Bool) (i : ℕ) {g g' : Stated} {expression command : Commands}
    → cond a (cond b (states g) (stopped 3 i)) (cond x expression command) ≡ states g'
    → (a ≡ true → b ≡ true → g ≡ g' → R) → (x ≡ true → expression ≡ states g' → R) → (command ≡ states g' → R) → R
turn true true x i e last read more = last refl refl (cc)
turn true false x i e last read more = not_stopped e
turn false b true i e last read more = read refl e
turn false b false i e last read more = more e

-- the rest after a command that passes
passes_or_stops : {R : Type 0} (b : Bool) (rest : Commands) (n p : ℕ) {g' : Stated} → cond b rest (stopped n p) ≡ states g'
    → (b ≡ true → rest ≡ states g' → R) → R
passes_or_stops true rest n p e f = f refl e
passes_or_stops false rest n p e f = not_stopped e

pub after_command : {R : Type 0} (g : Stated) (i : ℕ) (rest : ℕ → Stated → Commands) (k : Option Command) {g' : Stated}
    → by_command g i rest k ≡ states g'
    → ((c : Command) → k ≡ Some c → failed (seen_of g c) c ≡ 0 → rest (i + size c) (after g i c) ≡ states g' → R) → R
unfolding by_command
after_command g i rest None e f = not_stopped e
after_command g i rest (Some c) e f =
    let n = failed (seen_of g c) c in
    passes_or_stops (eqb n 0) (rest (i + size c) (after g i c)) n i e (λ b q. f c refl (eqb-true n 0 b) q)

-- the rest after an expression
pub after_content : {R : Type 0} (g : Stated) (rest : ℕ → Stated → Commands) (k : Content) {g' : Stated} → by_content g rest k ≡ states g'
    → ((e : Exp) (ns : List Name) (p : ℕ) → k ≡ whole e ns p → step_count g.blocks + length (all_steps e) ≤ most_steps
    → rest (p + 1) (after_expression g e ns) ≡ states g' → R) → R
unfolding by_content
after_content g rest (broken n p) e f = not_stopped e
after_content g rest (whole e ns p) h f =
    passes_or_stops (leb (step_count g.blocks + length (all_steps e)) most_steps) (rest (p + 1) (after_expression g e ns)) 5 p h
    (λ b q. f e ns p refl (leb-true (step_count g.blocks + length (all_steps e)) most_steps b) q)

-- by induction over the fuel
kept_from : {P : ℕ → Stated → Type 0} {file : List ℕ} → Kept file P → (fuel i : ℕ) (g : Stated) {g' : Stated}
    → commands_from fuel file i g ≡ states g' → P i g → HoldsAtEnd P file g'
unfolding commands_from
kept_from k zero i g e p = not_stopped e
kept_from {P} {file} k (suc fuel) i g {g'} e p =
    turn (same_phase g.phase AfterDone) (leb (length file) i) (same_phase g.phase InExpression) i e
    (λ a b same. subst (λ (x : Stated). HoldsAtEnd P file x) same
    (record { place = i; all_read = leb-true (length file) i b; phase = eqb-true (rank g.phase) (rank AfterDone) a; holds = p }))
    (λ x read. after_content g (commands_from fuel file) (content_at file i) read
    (λ e ns q content fits rest. kept_from k fuel (q + 1) (after_expression g e ns) rest
    (k.by_expression i g e ns q (record { phase = eqb-true (rank g.phase) (rank InExpression) x; content = content; fits = fits }) p)))
    (λ read. after_command g i (commands_from fuel file) (command_at file i) read
    (λ c stands z rest. kept_from k fuel (i + size c) (after g i c) rest (k.by_command i g c stands (passed g c z) p)))

-- what holds before any command and is kept holds at the end
pub kept_to_end : {P : ℕ → Stated → Type 0} (file : List ℕ) → Kept file P → {g : Stated} → commands file ≡ states g → P 0 nothing_stated
    → HoldsAtEnd P file g
unfolding commands
kept_to_end file k e p = kept_from k (suc (length file)) 0 nothing_stated e p

-- the number of a refusal
abbrev pub CommandNumber : ℕ → Type 0
CommandNumber n = (2 ≤ n) × ((n ≤ 6) ⊎ ((21 ≤ n) × (n ≤ 23)))

low_number : (n : ℕ) → 2 ≤ n → n ≤ 6 → CommandNumber n
low_number n l m = (l, inl m)

inside_number : (n : ℕ) → NumberInside n → CommandNumber n
inside_number n k = (k.0, ⊎_elim (λ l. inl (omega arith)) inr k.1)

abbrev NumberFits : Commands → Type 0
NumberFits (stopped n p) = CommandNumber n
NumberFits (states g) = Unit

module _ (file : List ℕ) where
  content_range : (i : ℕ) (g : Stated) (rest : ℕ → Stated → Commands) → ((j : ℕ) (h : Stated) → NumberFits (rest j h))
      → (k : Content) → content_at file i ≡ k → NumberFits (by_content g rest k)
  unfolding by_content
  content_range i g rest fit (broken n p) e = inside_number n (broken_number file i e)
  content_range i g rest fit (whole e ns p) h =
      cond_both NumberFits (leb (step_count g.blocks + length (all_steps e)) most_steps) _ _ (fit (p + 1) (after_expression g e ns))
      (low_number 5 (omega arith) (omega arith))

  command_range : (i : ℕ) (g : Stated) (rest : ℕ → Stated → Commands) → ((j : ℕ) (h : Stated) → NumberFits (rest j h))
      → (k : Option Command) → NumberFits (by_command g i rest k)
  unfolding by_command
  command_range i g rest fit None = low_number 2 (omega arith) (omega arith)
  command_range i g rest fit (Some c) =
      let n = failed (seen_of g c) c in
      let low : (k : ℕ) → 2 ≤ k → k ≤ 6 → CommandNumber k = low_number in
      let numbered : Numbered CommandNumber (questions (seen_of g c) c) =
      (low 3 (omega arith) (omega arith), (low 4 (omega arith) (omega arith), (low 5 (omega arith) (omega arith), (low 6 (omega arith) (omega arith), tt)))) in
      cond_either NumberFits (eqb n 0) (λ t. fit (i + size c) (after g i c))
      (λ f. first_number CommandNumber (questions (seen_of g c) c) numbered (λ z. f (rw (eq-eqb n 0 z) tt)))

  range_from : (fuel i : ℕ) (g : Stated) → NumberFits (commands_from fuel file i g)
  unfolding commands_from
  range_from zero i g = low_number 2 (omega arith) (omega arith)
  range_from (suc fuel) i g =
      cond_both NumberFits (same_phase g.phase AfterDone) _ _
      (cond_both NumberFits (leb (length file) i) _ _ tt (low_number 3 (omega arith) (omega arith)))
      (cond_both NumberFits (same_phase g.phase InExpression) _ _
      (content_range i g (commands_from fuel file) (range_from fuel) (content_at file i) refl)
      (command_range i g (commands_from fuel file) (range_from fuel) (command_at file i)))

pub stopped_number : (file : List ℕ) {n p : ℕ} → commands file ≡ stopped n p → CommandNumber n
unfolding commands
stopped_number file e = subst NumberFits e (range_from file (suc (length file)) 0 nothing_stated)

pub stopped_least : (file : List ℕ) {n p : ℕ} → commands file ≡ stopped n p → 2 ≤ n
stopped_least file e = (stopped_number file e).0

-- it is none that is asked after DONE
pub stopped_before : (file : List ℕ) {n p : ℕ} → commands file ≡ stopped n p → 7 ≤ n → n ≤ 20 → ⊥
stopped_before file e a b = ⊎_elim (λ l. absurd (omega arith)) (λ l. absurd (omega arith)) (stopped_number file e).1
