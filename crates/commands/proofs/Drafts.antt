-- What is built holds what the commands so far state.
use mathlib.Core.Path.{◌≡◌, refl, sym, ap, ◌∙◌}
use mathlib.Core.Logic.{◌≢◌}
use mathlib.Core.Bool.{Bool, true, false, cond, ◌||◌}
use mathlib.Core.List.{List, ◌∷◌, map}
use Rattle.std.specs.Prelude.{Option, Some, None}
use Prim.Native.Nat.{ℕ, zero, suc, ◌+◌, ◌-◌, ◌%◌, ◌≤◌, ◌<◌, min}
use native.Mathlib.Decide.{dec_lt}
use native.Mathlib.Omega.{arith}
use lib.Dec.{T, eqb, leb, eqb→eq}
use lib.ListN.{length, get_or, set, replicate, length-replicate, get_or-replicate, get_or-eq_default}
use Rattle.sdtd.specs.Limits.{most_types, most_roots, most_steps}
use Rattle.sdtd.specs.Schema.{step}
use Rattle.sdtd.specs.declared.Tag.{Tag}
use Rattle.sdtd.specs.declared.TypeNo.{TypeNo}
use Rattle.schema.specs.Value.{up_from, offset, block_at, roots_of, meaning}
use Rattle.command.specs.Cases.{on_nil}
use Rattle.command.specs.Command.{command_at, size}
use Rattle.command.specs.declared.Command.{Command}
use Rattle.command.specs.declared.Command.TheVariants.{Tags, TypeBlock, Final, Step, Root, Nil, Done, Expression}
use Rattle.command.proofs.CommandLaws.{command_in_file, size_some}
use Rattle.command.proofs.CaseLaws.{step_same, root_same}
use Rattle.expression.specs.Expression.{Expression as Exp}
use Rattle.expression.specs.Tests.{all_steps}
use Rattle.expression.specs.Content.{Name, Content, broken, whole, content_at}
use Rattle.expression.proofs.WholeContents.{rise_most, whole_content}
use Rattle.commands.specs.Questions.{rank, same_phase, failed}
use Rattle.commands.specs.File.{Stated, nothing_stated, current, step_count, has_step, has_root, seen_of, with_final, with_step, with_nil}
use Rattle.commands.specs.File.{after, with_automaton, after_expression, Commands, stopped, states, by_content, by_command, commands_from, schema_by}
use Rattle.commands.specs.Value.{EmptyFrom, StatedValue}
use Rattle.commands.specs.Building.{nothing_built, step_given, root_among, last_type, seen_by, built}
use Rattle.commands.proofs.SchemaTables.{tables_of}
use Rattle.commands.specs.declared.phase.Phase.{Phase}
use Rattle.commands.specs.declared.phase.Phase.TheVariants.{BeforeTags, BeforeTypes, InBlock, InExpression, AfterExpression, AfterRoot, AfterDone}
use Rattle.commands.specs.declared.builder.Builder.{Builder}
use Rattle.commands.proofs.Passing.{passed}
use Rattle.commands.proofs.Holding.{DraftHolds, EmptyPast, Holds}
use Rattle.commands.proofs.RootTables.{RootTable, roots_back, given_back, root_more, no_roots}
use Rattle.commands.proofs.Standing.{none_stands}
use Rattle.commands.proofs.NilTables.{flags_count, nil_same, nil_type, current_nil, nil_more}
use Rattle.commands.proofs.StepTables.{given_holds}
use Rattle.commands.proofs.TableLaws.{current_holds, current_count, same_count, same_steps, type_sized, type_blocks, type_empty}
use Rattle.commands.proofs.TableLaws.{accepting_sized, final_blocks, accepting_empty, nil_blocks}
use Rattle.commands.proofs.TableLaws.{step_sized, step_blocks, step_steps, step_empty}
use Rattle.commands.proofs.ExpressionTables.{built_from, automaton_sized, automaton_blocks, automaton_empty, automaton_total}
use Rattle.commands.proofs.StatedLaws.{offset_back, blocks_back}

-- a table of zeros is empty from the start
pub zeros_empty : (n : ℕ) → EmptyFrom 0 (replicate n 0)
zeros_empty n i l = elim (dec_lt i n) [
  | yes b ↦ get_or-replicate n i 0 0 b
  | no b ↦ get_or-eq_default (replicate n 0) 0 (rw length-replicate (omega arith))
]

-- before any command nothing is stated
pub first_holds : (n : ℕ) → Holds nothing_stated (nothing_built n)
first_holds n =
    record {
      sized = record { tag = refl; states = refl; accepting = refl; counts = refl; from = refl; by = refl; to = refl };
      phase = refl;
      tags = refl;
      roots = refl;
      root = no_roots;
      nillable = none_stands false most_types;
      types = refl;
      steps = refl;
      types_most = omega arith;
      steps_most = omega arith;
      some = omega arith;
      fresh = λ p. refl;
      blocks = tt;
      empty =
          record {
            tag = zeros_empty most_types;
            states = zeros_empty most_types;
            accepting = zeros_empty most_types;
            counts = zeros_empty most_types;
            from = zeros_empty most_steps;
            by = zeros_empty most_steps;
            to = zeros_empty most_steps;
          };
    }

module _ {g : Stated} {s : Builder} (h : Holds g s) where
  -- the block that the file is in
  own_holds : DraftHolds (tables_of s.schema) (current g.blocks) (last_type s.schema.types) (s.steps - length (current g.blocks).steps)
  own_holds = rw h.steps (current_holds g.blocks h.types h.types_most h.empty h.blocks)

  -- whether the STEP is given already is whether that block has it
  given_step : (p j q : ℕ) → step_given s p j q ≡ has_step p j q (current g.blocks).steps
  given_step p j q =
      let n = length (current g.blocks).steps in
      let all : min n (most_steps - (s.steps - n)) ≡ n = omega (arith, h.steps, h.steps_most, current_count g.blocks) in
      rw (own_holds.count, all) (given_holds p j q (tables_of s.schema) (current g.blocks).steps (s.steps - n) own_holds.steps)

  -- whether the ROOT is given already is whether it is one of the roots
  given_root : (a : ℕ) → root_among s.schema.root s.schema.roots a ≡ has_root a g.roots
  given_root a = rw h.roots (given_back h.root a)

  -- whether the NIL is given already is whether that block has one
  given_nil : get_or s.schema.nillable (last_type s.schema.types) false ≡ (current g.blocks).nillable
  given_nil = current_nil s.schema.nillable g.blocks h.types h.types_most h.nillable

  -- what is seen by what is built is what is seen of what is stated
  pub seen_holds : (c : Command) → seen_by s c ≡ seen_of g c
  seen_holds c i =
      record {
        phase = h.phase i;
        tags = h.tags i;
        types = h.types i;
        roots = h.roots i;
        steps = h.steps i;
        states = own_holds.states i;
        accepting = record { 0 = own_holds.accepting i };
        given = step_same false given_step c i || (root_same false given_root c i || on_nil (given_nil i) false c);
      }

  -- a command that changes neither the blocks nor the tables, and after which the file is in no block
  stays : (phase : Phase) (tags n : ℕ) (table roots : List ℕ) → n ≡ length roots → RootTable table roots
      → (rank InBlock ≤ rank phase → 0 < s.schema.types) → rank phase ≢ rank InExpression
      → Holds
      (record { phase = phase; tags = tags; blocks = g.blocks; names = g.names; roots = roots })
      (record s { phase = phase; schema = record (s.schema) { tags = tags; roots = n; root = table } })
  stays phase tags n table roots e k some o =
      record {
        sized = h.sized;
        phase = refl;
        tags = refl;
        roots = e;
        root = k;
        nillable = h.nillable;
        types = h.types;
        steps = h.steps;
        types_most = h.types_most;
        steps_most = h.steps_most;
        some = some;
        fresh = λ e. absurd (o e);
        blocks = h.blocks;
        empty = h.empty;
      }

  -- one type, one accepting state or one step more
  after_type : (i : ℕ) (a : Tag) (k : ℕ) → length g.blocks < most_types
      → Holds (after g i (TypeBlock a k)) (built s i (TypeBlock a k))
  unfolding after built
  after_type i a k l =
      let n : s.schema.types % most_types ≡ s.schema.types = omega (arith, h.types) in
      let z : EmptyPast (tables_of s.schema) (s.schema.types % most_types) s.steps = rw n h.empty in
      record {
        sized = type_sized (tables_of s.schema) h.sized (s.schema.types % most_types) a.0 k;
        phase = refl;
        tags = h.tags;
        roots = h.roots;
        root = h.root;
        nillable = nil_type s.schema.nillable g.blocks l h.nillable;
        types = omega (arith, h.types);
        steps = omega (arith, h.steps);
        types_most = omega (arith, h.types);
        steps_most = h.steps_most;
        some = omega arith;
        fresh = λ p. refl;
        blocks = type_blocks (tables_of s.schema) h.sized g.blocks (s.schema.types % most_types) a.0 k i (omega (arith, h.types)) (omega arith) z h.blocks;
        empty = type_empty h.empty (s.schema.types % most_types) a.0 k (omega (arith, h.types));
      }

  -- where there is a block
  last_block : rank InBlock ≤ rank g.phase → suc (last_type s.schema.types) ≡ length g.blocks
  last_block l = omega (arith, h.some l, h.types, h.types_most)

  -- a NIL in a type's block
  after_nil : (i : ℕ) → rank InBlock ≤ rank g.phase → rank g.phase ≢ rank InExpression
      → Holds (after g i Nil) (built s i Nil)
  unfolding after built
  after_nil i l outside =
      record {
        sized = h.sized;
        phase = h.phase;
        tags = h.tags;
        roots = h.roots;
        root = h.root;
        nillable = nil_more s.schema.nillable (last_type s.schema.types) g.blocks (last_block l) h.nillable;
        types = h.types ∙ same_count with_nil g.blocks;
        steps = h.steps ∙ same_steps with_nil g.blocks (λ d. refl);
        types_most = h.types_most;
        steps_most = h.steps_most;
        some = h.some;
        fresh = λ p. absurd (outside p);
        blocks = nil_blocks (tables_of s.schema) g.blocks h.blocks;
        empty = h.empty;
      }

  -- in a block by states
  module _ (in_block : rank g.phase ≡ rank InBlock) where
    own_block : suc (last_type s.schema.types) ≡ length g.blocks
    own_block = last_block (omega arith)

    phase_block : s.phase ≡ InBlock
    phase_block = h.phase ∙ only g.phase in_block
      where
        only : (p : Phase) → rank p ≡ rank InBlock → p ≡ InBlock
        only BeforeTags e = absurd (omega arith)
        only BeforeTypes e = absurd (omega arith)
        only InBlock e = refl
        only InExpression e = absurd (omega arith)
        only AfterExpression e = absurd (omega arith)
        only AfterRoot e = absurd (omega arith)
        only AfterDone e = absurd (omega arith)

    after_final : (i q : ℕ) → Holds (after g i (Final q)) (built s i (Final q))
    unfolding after built
    after_final i q =
        let a = last_type s.schema.types in
        record {
          sized = accepting_sized (tables_of s.schema) h.sized a q;
          phase = phase_block;
          tags = h.tags;
          roots = h.roots;
          root = h.root;
          nillable = nil_same s.schema.nillable (with_final q) g.blocks (λ d. refl) h.nillable;
          types = h.types ∙ same_count (with_final q) g.blocks;
          steps = h.steps ∙ same_steps (with_final q) g.blocks (λ d. refl);
          types_most = h.types_most;
          steps_most = h.steps_most;
          some = λ p. h.some (omega arith);
          fresh = λ p. absurd (omega arith);
          blocks = final_blocks (tables_of s.schema) h.sized g.blocks a q own_block (omega arith) h.blocks;
          empty = accepting_empty h.empty a q (omega (arith, h.types, own_block));
        }

    after_step : (i p : ℕ) (j : TypeNo) (q : ℕ) → step_count g.blocks < most_steps
        → Holds (after g i (Step p j q)) (built s i (Step p j q))
    unfolding after built
    after_step i p j q l =
        let a = last_type s.schema.types in
        let m = s.steps % most_steps in
        let n : m ≡ step_count g.blocks = omega (arith, h.steps) in
        let y = step p j.0 q in
        record {
          sized = step_sized (tables_of s.schema) h.sized a m p j.0 q;
          phase = phase_block;
          tags = h.tags;
          roots = h.roots;
          root = h.root;
          nillable = nil_same s.schema.nillable (with_step y) g.blocks (λ d. refl) h.nillable;
          types = h.types ∙ same_count (with_step y) g.blocks;
          steps = omega (arith, h.steps, step_steps y g.blocks (omega (arith, own_block)));
          types_most = h.types_most;
          steps_most = omega (arith, h.steps);
          some = λ p. h.some (omega arith);
          fresh = λ p. absurd (omega arith);
          blocks = step_blocks (tables_of s.schema) h.sized g.blocks a m p j.0 q own_block (omega arith) n (omega arith) h.blocks;
          empty = step_empty h.empty a m p j.0 q (omega (arith, h.types, own_block)) (omega (arith, h.steps));
        }

  -- after a command that passed its questions, they hold what is stated then
  pub after_holds : (i : ℕ) (c : Command) → failed (seen_of g c) c ≡ 0 → Holds (after g i c) (built s i c)
  unfolding after built
  after_holds i (Tags n) e = stays BeforeTypes n s.schema.roots s.schema.root g.roots h.roots h.root (omega arith) (omega arith)
  after_holds i (TypeBlock a k) e = after_type i a k (passed g (TypeBlock a k) e).5
  after_holds i (Final q) e = after_final (passed g (Final q) e).0 i q
  after_holds i (Step p j q) e = let r = passed g (Step p j q) e in after_step r.0 i p j q r.3
  after_holds i (Root a) e =
      let r = passed g (Root a) e in
      let n : s.schema.roots % most_roots ≡ length g.roots = omega (arith, h.roots, r.4) in
      let more = root_more h.root a.0 r.4 (omega (arith, r.3, h.types, h.types_most)) in
      rw (n, ← h.tags)
      (stays AfterRoot s.schema.tags (length g.roots + 1) (set s.schema.root (length g.roots) a.0) (a.0 ∷ g.roots) (omega arith) more
      (λ l. h.some r.0) (omega arith))
  after_holds i Nil e = let r = passed g Nil e in after_nil i r.0 r.2
  after_holds i Done e =
      let r = passed g Done e in
      rw (← h.tags)
      (stays AfterDone s.schema.tags s.schema.roots s.schema.root g.roots h.roots h.root (λ l. h.some (omega arith)) (omega arith))
  after_holds i (Expression x) e = absurd (passed g (Expression x) e)

  -- after an expression whose steps fit, too
  pub expression_holds : rank g.phase ≡ rank InExpression → (e : Exp) (ns : List Name) → s.steps + length (all_steps e) ≤ most_steps
      → Holds (after_expression g e ns) (built_from s e ns)
  expression_holds inside e ns fits =
      let a = last_type s.schema.types in
      let some = h.some (omega arith) in
      let last : suc a ≡ length g.blocks = omega (arith, h.types, h.types_most) in
      record {
        sized = automaton_sized (tables_of s.schema) h.sized a s.steps e;
        phase = refl;
        tags = h.tags;
        roots = h.roots;
        root = h.root;
        nillable = nil_same s.schema.nillable (with_automaton e) g.blocks (λ d. refl) h.nillable;
        types = h.types ∙ same_count (with_automaton e) g.blocks;
        steps = automaton_total e g.blocks (h.fresh inside) (omega arith) h.steps;
        types_most = h.types_most;
        steps_most = fits;
        some = λ l. some;
        fresh = λ p. absurd (omega arith);
        blocks = automaton_blocks (tables_of s.schema) h.sized a s.steps e g.blocks last (omega arith) h.steps (h.fresh inside) fits h.blocks;
        empty = automaton_empty (tables_of s.schema) h.sized a s.steps e (omega arith) h.empty;
      }

  -- the schema value is that of what is stated
  pub stated_value : StatedValue g s.schema
  unfolding meaning schema_by
  stated_value =
      let steps : s.steps ≡ offset s.schema.steps s.schema.types =
      rw h.types (h.steps ∙ sym (offset_back (tables_of s.schema) g.blocks h.blocks)) in
      let empty : EmptyPast (tables_of s.schema) s.schema.types (offset s.schema.steps s.schema.types) = rw (← steps) h.empty in
      record {
        schema = λ i.
            record {
              tags = h.tags i;
              blocks =
                  (ap (λ (n : ℕ). map (block_at s.schema) (up_from 0 n)) h.types
                  ∙ blocks_back s.schema g.blocks h.nillable.holds h.blocks) i;
              roots = (ap (roots_of s.schema.root) h.roots ∙ roots_back h.root) i;
            };
        unused =
            record {
              root = rw h.roots h.root.standing.empty;
              tag = empty.tag;
              states = empty.states;
              accepting = empty.accepting;
              nillable = rw (h.types, ← flags_count g.blocks) h.nillable.empty;
              steps = empty.counts;
              from = empty.from;
              by = empty.by;
              to = empty.to;
            };
      }

-- what depends on a test is the same where it is the same under it
under : {A : Type 0} (b : Bool) {x y : A} (z : A) → (T b → x ≡ y) → cond b x z ≡ cond b y z
under true z f = f tt
under false z f = refl

-- what follows an expression is the same where the rest after it is
content_same : (g : Stated) (rest rest' : ℕ → Stated → Commands) (k : Content)
    → ((e : Exp) (ns : List Name) (p : ℕ) → k ≡ whole e ns p → rest (p + 1) (after_expression g e ns) ≡ rest' (p + 1) (after_expression g e ns))
    → by_content g rest k ≡ by_content g rest' k
unfolding by_content
content_same g rest rest' (broken n p) f = refl
content_same g rest rest' (whole e ns p) f =
    ap (λ (k : Commands). cond (leb (step_count g.blocks + length (all_steps e)) most_steps) k (stopped 5 p)) (f e ns p refl)

-- and what follows a command
command_same : (g : Stated) (i : ℕ) (rest rest' : ℕ → Stated → Commands) (k : Option Command)
    → ((c : Command) → k ≡ Some c → failed (seen_of g c) c ≡ 0 → rest (i + size c) (after g i c) ≡ rest' (i + size c) (after g i c))
    → by_command g i rest k ≡ by_command g i rest' k
unfolding by_command
command_same g i rest rest' None f = refl
command_same g i rest rest' (Some c) f =
    let n = failed (seen_of g c) c in
    under (eqb n 0) (stopped n i) (λ t. f c refl (eqb→eq n 0 t))

-- fuel above the bytes left makes no difference
pub fuel_enough : (file : List ℕ) (f f' i : ℕ) (g : Stated) → length file - i < f → length file - i < f'
    → commands_from f file i g ≡ commands_from f' file i g
unfolding commands_from
fuel_enough file zero f' i g l l' = absurd (omega arith)
fuel_enough file (suc f) zero i g l l' = absurd (omega arith)
fuel_enough file (suc f) (suc f') i g l l' =
    let command = command_same g i (commands_from f file) (commands_from f' file) (command_at file i) λ c e z.
    let in_file = command_in_file file i e in
    let some = size_some c in
    fuel_enough file f f' (i + size c) (after g i c) (omega arith) (omega arith) in
    let expression = content_same g (commands_from f file) (commands_from f' file) (content_at file i) λ e ns p h.
    let w = whole_content file i h in
    let b = rise_most i ns p w.rises in
    let m = w.ends in
    fuel_enough file f f' (p + 1) (after_expression g e ns) (omega arith) (omega arith) in
    ap (cond (same_phase g.phase AfterDone) (cond (leb (length file) i) (states g) (stopped 3 i)))
    (λ j. cond (same_phase g.phase InExpression) (expression j) (command j))
