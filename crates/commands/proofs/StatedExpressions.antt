-- A TYPE with state count 0 that a file states has the automaton of the expression that follows it.
use mathlib.Core.Path.{◌≡◌, refl, sym, ap, subst, ◌∙◌}
use mathlib.Core.Logic.{◌≢◌}
use mathlib.Core.Bool.{Bool, true, false, cond}
use Rattle.std.specs.Prelude.{Some}
use mathlib.Core.List.{List, [], ◌∷◌, ◌++◌, map, reverse, reverse-reverse, append-nil, Memᴰ}
use Prim.Native.Nat.{ℕ, zero, suc, ◌+◌, ◌≤◌, ◌<◌}
use native.Mathlib.Decide.{dec_lt}
use native.Mathlib.Omega.{arith}
use lib.Dec.{eqb}
use borrow.Author.Tests.{eqb-true}
use lib.ListN.{length, get_or, length-map}
use Rattle.sdtd.specs.Limits.{most_types, most_states}
use Rattle.sdtd.proofs.Basics.{is_false, same_test, get_or_member}
use Rattle.schema.specs.States.{member, members, members_below, no_states}
use Rattle.expression.specs.Expression.{Expression as Exp}
use Rattle.expression.specs.Automaton.{uses, named, AutomatonOf}
use Rattle.sdtd.specs.Lists.{of_each}
use Rattle.expression.specs.Tests.{accepts, all_steps, automaton}
use Rattle.expression.specs.Content.{Name, whole, content_at}
use Rattle.expression.specs.Answer.{set_of}
use Rattle.expression.proofs.TestSets.{member_set}
use Rattle.expression.proofs.TestLaws.{accepts_below}
use Rattle.expression.proofs.AutomatonLaws.{automaton_of, automaton_flag}
use Rattle.sdtd.specs.Schema.{Block, Schema, block_of, no_block}
use Rattle.sdtd.specs.declared.Tag.{Tag}
use Rattle.command.specs.Command.{command_at, size}
use Rattle.command.specs.declared.Command.{Command}
use Rattle.command.specs.declared.Command.TheVariants.{Tags, TypeBlock, Final, Step as StepCommand, Root, Nil, Done, Expression}
use Rattle.sdtd.specs.Schema.{step}
use Rattle.commands.specs.Written.{ByExpression, Written}
use Rattle.commands.specs.TypePlaces.{place_of_type}
use Rattle.commands.specs.Questions.{rank}
use Rattle.commands.specs.declared.phase.Phase.TheVariants.{InBlock, InExpression}
use Rattle.expression.proofs.WholeContents.{types_of, TypesBelow, whole_content}
use Rattle.commands.proofs.StatedLimits.{Each, each_none, each_more, mem-reverse, each_turned, each_current, others, same_others, type_phase}
use Rattle.commands.proofs.Passing.{Passed, ExpressionRead, kept_to_end}
use Rattle.commands.proofs.TypePlaces.{type_place_stated}
use Rattle.expression.proofs.UseTypes.{named-uses}
use Rattle.commands.specs.File.{Draft, Stated, current, with_final, with_step, with_nil, in_current, after, with_automaton, after_expression}
use Rattle.commands.specs.File.{states, commands, block_by, schema_by, StatesSchema}
use Rattle.sdtd.proofs.EachLaws.{each_last, each_same}

-- where nothing is made of the numbers from a on, the first a make all
each_below : {A : Type 0} (f : ℕ → List A) (a n : ℕ) → a ≤ n → ((k : ℕ) → a ≤ k → f k ≡ []) → of_each f 0 n ≡ of_each f 0 a
each_below f a zero l none = ap (of_each f 0) (omega arith)
each_below f a (suc n) l none = elim (dec_lt n a) [
  | yes h ↦ ap (of_each f 0) (let e : suc n ≡ a = omega arith in e)
  | no h ↦
      let z : 0 + n ≡ n = omega arith in
      (rw z at (each_last f 0 n)) ∙ rw (none n (omega arith)) (append-nil (of_each f 0 n)) ∙ each_below f a n (omega arith) none
]

-- the states of a set, one by one
members_each : (x n : ℕ) → members_below n x ≡ of_each (λ q. cond (member q x) (q ∷ []) []) 0 n
unfolding members_below of_each
members_each x zero = refl
members_each x (suc n) =
    let f : ℕ → List ℕ = λ q. cond (member q x) (q ∷ []) [] in
    let z : 0 + n ≡ n = omega arith in
    ap (λ (l : List ℕ). l ++ f n) (members_each x n) ∙ sym (rw z at (each_last f 0 n))

-- the accepting states of an automaton
accepting_same : (e : Exp) → uses e < most_states → members (set_of (accepts e) most_states) ≡ (automaton 0 false e).accepting
accepting_same e l =
    let f : ℕ → List ℕ = λ q. cond (accepts e q) (q ∷ []) [] in
    members_each (set_of (accepts e) most_states) most_states
    ∙ each_same (λ q. cond (member q (set_of (accepts e) most_states)) (q ∷ []) []) f 0 most_states (λ q a b.
    let m = member_set (accepts e) most_states q (omega arith) in
    ap (λ (t : Bool). cond t (q ∷ []) []) (same_test (member q (set_of (accepts e) most_states)) (accepts e q) (λ h. (m.0 h).0) (λ h. m.1 (h, omega arith))))
    ∙ each_below f (suc (uses e)) most_states (omega arith)
    (λ k a. rw (is_false (accepts e k) (λ t. omega (arith, accepts_below e k t))))

-- the block that an expression leaves is its automaton
pub automaton_block : (e : Exp) → uses e < most_states → (d : Draft) → block_by (with_automaton e d) ≡ automaton d.tag d.nillable e
automaton_block e l d i =
    record {
      tag = d.tag;
      nillable = d.nillable;
      states = suc (uses e);
      accepting = accepting_same e l i;
      steps = reverse-reverse (all_steps e) i;
    }

-- a block as the schema has it, begun by the TYPE at its place
pub record DraftWritten (file : List ℕ) (d : Draft) : Type 0 where
  pub tag : Tag
  pub states : ℕ
  pub begins : command_at file d.place ≡ Some (TypeBlock tag states)
  pub same_tag : d.tag ≡ tag.0
  pub stands : states ≡ 0 → ByExpression file (d.place + 3) (block_by d)

-- the TYPE of the block that the file is in, of so many states
record Begun (file : List ℕ) (d : Draft) (states : ℕ) : Type 0 where
  tag : Tag
  begins : command_at file d.place ≡ Some (TypeBlock tag states)
  same_tag : d.tag ≡ tag.0

-- a NIL more
nil_written : {file : List ℕ} (d : Draft) → DraftWritten file d → DraftWritten file (with_nil d)
nil_written d w =
    record {
      tag = w.tag;
      states = w.states;
      begins = w.begins;
      same_tag = w.same_tag;
      stands = λ z.
          let x = w.stands z in
          record {
            expression = x.expression;
            names = x.names;
            end = x.end;
            read = x.read;
            automaton = automaton_flag x.expression (block_by d) true x.automaton;
          };
    }

-- a block by states, whatever its accepting states and steps
by_states : {file : List ℕ} {d : Draft} {k : ℕ} → Begun file d (suc k) → DraftWritten file d
by_states {k = k} b =
    record { tag = b.tag; states = suc k; begins = b.begins; same_tag = b.same_tag; stands = λ z. absurd (omega arith) }

-- What holds of the blocks before the place i: each is written, but the one whose expression begins there.
record AllWritten (file : List ℕ) (i : ℕ) (g : Stated) : Type 0 where
  older : Each (DraftWritten file) (others g.blocks)
  whole : rank g.phase ≢ rank InExpression → Each (DraftWritten file) g.blocks
  block : rank g.phase ≡ rank InBlock → (k : ℕ) × Begun file (current g.blocks) (suc k)
  waits : rank g.phase ≡ rank InExpression → Begun file (current g.blocks) 0 × (i ≡ (current g.blocks).place + 3)

-- the types that it names are below the number of types
pub types_below : (xs : List Name) → TypesBelow xs → Each (λ j. j < most_types) (types_of xs)
types_below [] h = each_none (λ j. j < most_types) [] refl
types_below (x ∷ xs) h = each_more (λ j. j < most_types) h.0 (types_below xs h.1)

-- what is done to a block leaves the place and the tag of its TYPE
record LeavesType (f : Draft → Draft) : Type 0 where
  place : (d : Draft) → (f d).place ≡ d.place
  tag : (d : Draft) → (f d).tag ≡ d.tag

module _ (file : List ℕ) where
  same_begun : {f : Draft → Draft} → LeavesType f → (ds : List Draft) (k : ℕ) → Begun file (current ds) k → Begun file (current (in_current f ds)) k
  same_begun l [] k b = b
  same_begun l (d ∷ ds) k b = record { tag = b.tag; begins = rw (l.place d) b.begins; same_tag = l.tag d ∙ b.same_tag }

  -- the blocks, the first of them by states
  one_written : (ds : List Draft) {k : ℕ} → Begun file (current ds) (suc k) → Each (DraftWritten file) (others ds) → Each (DraftWritten file) ds
  one_written [] b h = each_none (DraftWritten file) [] refl
  one_written (d ∷ ds) b h = each_more (DraftWritten file) (by_states b) h

  -- what is done to a block by states, and leaves its TYPE
  in_block : {i j : ℕ} {g : Stated} (f : Draft → Draft) → LeavesType f → (ns : List Name) → rank g.phase ≡ rank InBlock → AllWritten file i g
      → AllWritten file j (record { phase = InBlock; tags = g.tags; blocks = in_current f g.blocks; names = ns; roots = g.roots })
  in_block {g = g} f l ns q h =
      let b = h.block q in
      let begun = same_begun l g.blocks (suc b.0) b.1 in
      let older : Each (DraftWritten file) (others (in_current f g.blocks)) = rw (same_others f g.blocks) h.older in
      record {
        older = older;
        whole = λ d. one_written (in_current f g.blocks) begun older;
        block = λ z. (b.0, begun);
        waits = λ z. absurd (omega arith);
      }

  by_command : (i : ℕ) (g : Stated) (c : Command) → command_at file i ≡ Some c → Passed g c → AllWritten file i g
      → AllWritten file (i + size c) (after g i c)
  unfolding after
  by_command i g (Tags n) e p h =
      record { older = h.older; whole = λ d. h.whole (omega arith); block = λ q. absurd (omega arith); waits = λ q. absurd (omega arith) }
  by_command i g (TypeBlock t s) e p h =
      let phase = type_phase s in
      record {
        older = h.whole p.2;
        whole = λ d. each_more (DraftWritten file)
            (record { tag = t; states = s; begins = e; same_tag = refl; stands = λ z. absurd (omega (arith, phase.2 d)) })
            (h.whole p.2);
        block = λ q. some_states s (phase.2 (λ z. omega arith)) (record { tag = t; begins = e; same_tag = refl });
        waits = λ q. (waiting s q (record { tag = t; begins = e; same_tag = refl }), omega arith);
      }
    where
      d : Draft
      d = record { place = i; tag = t.0; nillable = false; states = s; accepting = no_states; steps = [] }

      some_states : (n : ℕ) → 1 ≤ n → Begun file d n → (k : ℕ) × Begun file d (suc k)
      some_states zero l b = absurd (omega arith)
      some_states (suc n) l b = (n, b)

      waiting : (n : ℕ) → rank (cond (eqb n 0) InExpression InBlock) ≡ rank InExpression → Begun file d n → Begun file d 0
      waiting n q b = subst (Begun file d) (no_states_lem n q) b
        where
          no_states_lem : (n : ℕ) → rank (cond (eqb n 0) InExpression InBlock) ≡ rank InExpression → n ≡ 0
          no_states_lem n q = go (eqb n 0) (λ t. eqb-true n 0 t) q
            where
              go : (b : Bool) → (b ≡ true → n ≡ 0) → rank (cond b InExpression InBlock) ≡ rank InExpression → n ≡ 0
              go true f q = f refl
              go false f q = absurd (omega arith)
  by_command i g (Final q) e p h =
      in_block (with_final q) (record { place = λ d. refl; tag = λ d. refl }) g.names p.0 h
  by_command i g (StepCommand x j y) e p h =
      let name : Name = record { type = j.0; place = i } in
      in_block (with_step (step x j.0 y)) (record { place = λ d. refl; tag = λ d. refl }) (name ∷ g.names) p.0 h
  by_command i g (Root a) e p h =
      record { older = h.older; whole = λ d. h.whole p.2; block = λ q. absurd (omega arith); waits = λ q. absurd (omega arith) }
  by_command i g Nil e p h =
      record {
        older = rw (same_others with_nil g.blocks) h.older;
        whole = λ d. each_current (DraftWritten file) with_nil g.blocks (nil_written (current g.blocks)) (h.whole p.2);
        block = λ q.
            let b = h.block q in
            (b.0, same_begun (record { place = λ d. refl; tag = λ d. refl }) g.blocks (suc b.0) b.1);
        waits = λ q. absurd (p.2 q);
      }
  by_command i g Done e p h =
      record { older = h.older; whole = λ d. h.whole (omega arith); block = λ q. absurd (omega arith); waits = λ q. absurd (omega arith) }
  by_command i g (Expression x) e p h = absurd p

  -- the automaton in place of the block that waited for it
  expression_written : (e : Exp) (ns : List Name) (p : ℕ) (ds : List Draft) → content_at file ((current ds).place + 3) ≡ whole e ns p
      → Begun file (current ds) 0 → Each (DraftWritten file) (others ds) → Each (DraftWritten file) (in_current (with_automaton e) ds)
  expression_written e ns p [] q b h = each_none (DraftWritten file) [] refl
  expression_written e ns p (d ∷ ds) q b h =
      let w = whole_content file (d.place + 3) q in
      let few : uses e < most_states = omega (arith, w.few, named-uses e, ap length w.names, length-map ns (λ (x : Name). x.type)) in
      let below : (j : ℕ) → Memᴰ j (named e) → j < most_types =
      λ j m. types_below ns w.types j (subst (λ (l : List ℕ). Memᴰ j l) (sym w.names) m) in
      each_more (DraftWritten file)
      (record {
        tag = b.tag;
        states = 0;
        begins = b.begins;
        same_tag = b.same_tag;
        stands = λ z.
            record {
              expression = e;
              names = ns;
              end = p;
              read = q;
              automaton = subst (AutomatonOf e) (sym (automaton_block e few d)) (automaton_of d.tag d.nillable e below);
            };
      })
      h

  by_expression : (i : ℕ) (g : Stated) (e : Exp) (ns : List Name) (p : ℕ) → ExpressionRead file i g e ns p → AllWritten file i g
      → AllWritten file (p + 1) (after_expression g e ns)
  by_expression i g e ns p r h =
      let w = h.waits r.phase in
      let content : content_at file ((current g.blocks).place + 3) ≡ whole e ns p = rw w.1 at r.content in
      record {
        older = rw (same_others (with_automaton e) g.blocks) h.older;
        whole = λ d. expression_written e ns p g.blocks content w.0 h.older;
        block = λ q. absurd (omega arith);
        waits = λ q. absurd (omega arith);
      }

-- Each block that a file states is written so.
all_written : (file : List ℕ) {g : Stated} → commands file ≡ states g → Each (DraftWritten file) g.blocks
all_written file e =
    let r = kept_to_end file (record { by_command = by_command file; by_expression = by_expression file }) e
    (record {
      older = each_none (DraftWritten file) [] refl;
      whole = λ d. each_none (DraftWritten file) [] refl;
      block = λ q. absurd (omega arith);
      waits = λ q. absurd (omega arith);
    }) in
    let end = r.phase in
    r.holds.whole (omega arith)

draft_block : {file : List ℕ} (d : Draft) → DraftWritten file d → Written file (block_by d)
draft_block d w =
    record { place = d.place; tag = w.tag; states = w.states; begins = w.begins; same_tag = w.same_tag; stands = w.stands }

-- "The accepted schema is the one that the file states": each block of a schema that a file states is begun by a TYPE of the file, and if
-- that has state count 0 it has the automaton of the expression that follows.
pub stated_written : {file : List ℕ} {S : Schema} → StatesSchema file S → (b : Block) → Memᴰ b S.blocks → Written file b
unfolding schema_by
stated_written {file} {S} x b m =
    let o : Memᴰ b (map block_by (reverse x.stated.blocks)) = subst (λ (R : Schema). Memᴰ b R.blocks) (sym x.schema) m in
    each_turned (Written file) block_by x.stated.blocks (λ d k. draft_block d (all_written file x.passes d k)) b o

-- the entry at a place of a mapped list
entry_of : {A B : Type 0} (f : A → B) (xs : List A) (n : ℕ) (d : A) (z : B) → n < length xs → get_or (map f xs) n z ≡ f (get_or xs n d)
entry_of f [] n d z l = absurd (omega arith)
entry_of f (x ∷ xs) zero d z l = refl
entry_of f (x ∷ xs) (suc n) d z l = entry_of f xs n d z (omega arith)

-- The block of the type a is begun by the TYPE number a.
pub type_written : {file : List ℕ} {S : Schema} → StatesSchema file S → (a : ℕ) → a < length S.blocks
    → (w : Written file (block_of S a)) × (w.place ≡ place_of_type file a)
unfolding schema_by draft_block
type_written {file} {S} x a l =
    subst (λ (R : Schema). (w : Written file (block_of R a)) × (w.place ≡ place_of_type file a)) x.schema
    (subst (λ (b : Block). (w : Written file b) × (w.place ≡ place_of_type file a)) (sym (entry_of block_by ds a (current []) no_block inside))
    (draft_block d (all_written file x.passes d (mem-reverse x.stated.blocks (get_or_member ds a (current []) inside))), sym place))
  where
    ds : List Draft
    ds = reverse x.stated.blocks

    d : Draft
    d = get_or ds a (current [])

    inside : a < length ds
    inside = omega (arith, l, ap (λ (R : Schema). length R.blocks) x.schema, length-map ds block_by)

    place : place_of_type file a ≡ d.place
    place = type_place_stated file a x.passes ∙ entry_of (λ (d : Draft). d.place) ds a (current []) 0 inside
