-- What the commands state is inside the limits of a schema.
use mathlib.Core.Path.{◌≡◌, refl, sym, ap, subst}
use mathlib.Core.Logic.{◌≢◌, ⊎_elim}
use mathlib.Core.Bool.{Bool, true, false, cond}
use mathlib.Core.List.{List, [], ◌∷◌, ◌++◌, map, reverse, reverse-cons, map-append, Memᴰ}
use Prim.Native.Nat.{ℕ, ◌+◌, ◌^◌, ◌≤◌, ◌<◌}
use native.Mathlib.Omega.{arith}
use lib.Dec.{T, eqb, ltb}
use lib.ListN.{length, length-map, length-reverse}
use borrow.Author.Tests.{ltb-true, eqb-false}
use Rattle.sdtd.specs.Limits.{most_tags, most_types, most_roots, most_states, most_steps}
use Rattle.sdtd.specs.Schema.{Schema, Block, Step, step, steps_in, BlockWithin, WithinLimits}
use Rattle.schema.specs.States.{member, no_states}
use Rattle.schema.proofs.Bits.{member_none, insert_below, member-insert, mem-members}
use Rattle.expression.specs.Limits.{most_uses}
use Rattle.expression.specs.Expression.{Expression as Exp}
use Rattle.expression.specs.Automaton.{uses, named}
use Rattle.expression.specs.Tests.{accepts, all_steps}
use Rattle.expression.specs.Content.{Name}
use Rattle.expression.proofs.TestSets.{set_below, member_set}
use Rattle.expression.proofs.UseTypes.{named-uses}
use Rattle.expression.proofs.TestLaws.{accepts_below}
use Rattle.expression.proofs.AutomatonLimits.{steps_inside}
use Rattle.expression.proofs.WholeContents.{types_of, types_more, whole_content}
use Rattle.commands.specs.Questions.{rank}
use Rattle.commands.specs.declared.phase.Phase.TheVariants.{BeforeTypes, InBlock, InExpression, AfterRoot}
use Rattle.commands.specs.File.{Draft, Stated, nothing_stated, current, step_count, with_final, with_step, with_nil, in_current, after, with_automaton}
use Rattle.commands.specs.File.{after_expression, states, commands, block_by, schema_by, unknown_in, unknown}
use Rattle.command.specs.declared.Command.{Command}
use Rattle.command.specs.declared.Command.TheVariants.{Tags, TypeBlock, Final, Step as StepCommand, Root, Nil, Done, Expression}
use Rattle.commands.proofs.TableLaws.{same_count, same_steps, step_steps}
use Rattle.commands.proofs.Passing.{Passed, ExpressionRead, HoldsAtEnd, kept_to_end}

-- each member of a list has the property
abbrev pub Each : {A : Type 0} → (A → Type 0) → List A → Type 0
Each {A} P l = (x : A) → Memᴰ x l → P x

pub each_none : {A : Type 0} (P : A → Type 0) (l : List A) → length l ≡ 0 → Each P l
each_none P [] e x m = absurd (mathlib.Core.List.Memᴰ.not-nil m)
each_none P (y ∷ l) e x m = absurd (omega arith)

pub each_more : {A : Type 0} (P : A → Type 0) {a : A} {l : List A} → P a → Each P l → Each P (a ∷ l)
each_more P h every x m = ⊎_elim (λ e. subst P (sym e) h) (every x) (mathlib.Core.List.Memᴰ.cases_cons m)

-- the list turned round and mapped
pub mem-reverse : {A : Type 0} {x : A} (l : List A) → Memᴰ x (reverse l) → Memᴰ x l
mem-reverse [] m = m
mem-reverse {x = x} (y ∷ l) m =
    ⊎_elim (λ n. mathlib.Core.List.Memᴰ.tail (mem-reverse l n)) (λ n. mathlib.Core.List.Memᴰ.head (mathlib.Core.List.Memᴰ.eq_of_singleton n))
    (mathlib.Core.List.Memᴰ.append_cases (reverse l) (subst (λ (r : List _). Memᴰ x r) (reverse-cons y l) m))

pub each_turned : {A B : Type 0} (Q : B → Type 0) (f : A → B) (l : List A) → Each (λ x. Q (f x)) l → Each Q (map f (reverse l))
each_turned Q f l every y m = let o = mathlib.Core.List.Memᴰ.of_map f (reverse l) m in subst Q o.2 (every o.0 (mem-reverse l o.1))

-- a step's states are below the state count
abbrev EndsWithin : ℕ → Step → Type 0
EndsWithin n s = (s.from < n) × (s.to < n)

-- a block's numbers are inside the limits; a TYPE with state count 0 waits for its expression
pub record DraftWithin (tags : ℕ) (d : Draft) : Type 0 where
  pub tag : d.tag < tags
  pub states_most : d.states ≤ most_states
  pub below : d.accepting < 2 ^ most_states
  pub accepting : (q : ℕ) → T (member q d.accepting) → q < d.states
  pub steps : Each (EndsWithin d.states) d.steps

-- the counts so far are inside the limits
pub record CountsWithin (g : Stated) : Type 0 where
  pub tags_least : rank BeforeTypes ≤ rank g.phase → 1 ≤ g.tags
  pub tags_most : g.tags ≤ most_tags
  pub no_types : rank g.phase ≤ rank BeforeTypes → length g.blocks ≡ 0
  pub types_least : rank InBlock ≤ rank g.phase → 1 ≤ length g.blocks
  pub types_most : length g.blocks ≤ most_types
  pub steps_most : step_count g.blocks ≤ most_steps
  pub roots_least : rank AfterRoot ≤ rank g.phase → 1 ≤ length g.roots
  pub roots_most : length g.roots ≤ most_roots

-- a block has states
abbrev HasStates : Draft → Type 0
HasStates d = 1 ≤ d.states

-- the blocks before the one that the file is in
abbrev pub others : List Draft → List Draft
others [] = []
others (d ∷ ds) = ds

-- each step's type is one that is named
abbrev NamedIn : List Name → Draft → Type 0
NamedIn ns d = Each (λ s. Memᴰ s.by (types_of ns)) d.steps

-- What is stated so far is inside the limits: every block has states, but for one that waits for its expression.
pub record StatedWithin (g : Stated) : Type 0 where
  pub counts : CountsWithin g
  pub blocks : Each (DraftWithin g.tags) g.blocks
  pub whole : rank g.phase ≢ rank InExpression → Each HasStates g.blocks
  pub older : Each HasStates (others g.blocks)
  pub named : Each (NamedIn g.names) g.blocks
  pub roots : Each (λ a. a < length g.blocks) g.roots

pub nothing_within : StatedWithin nothing_stated
nothing_within =
    record {
      counts = omega arith;
      blocks = each_none (DraftWithin 0) [] refl;
      whole = λ d. each_none HasStates [] refl;
      older = each_none HasStates [] refl;
      named = each_none (NamedIn []) [] refl;
      roots = each_none (λ a. a < 0) [] refl;
    }

-- what is done to the block that the file is in keeps a property of each block, if it keeps that of this one
pub each_current : (P : Draft → Type 0) (f : Draft → Draft) (ds : List Draft) → (P (current ds) → P (f (current ds))) → Each P ds
    → Each P (in_current f ds)
each_current P f [] k every = every
each_current P f (d ∷ ds) k every = each_more P (k (every d (mathlib.Core.List.Memᴰ.head refl))) (λ x m. every x (mathlib.Core.List.Memᴰ.tail m))

pub same_others : (f : Draft → Draft) (ds : List Draft) → others (in_current f ds) ≡ others ds
same_others f [] = refl
same_others f (d ∷ ds) = refl

-- an accepting state more, a step more, and a NIL
final_within : {tags : ℕ} (q : ℕ) (d : Draft) → q < d.states → DraftWithin tags d → DraftWithin tags (with_final q d)
final_within q d l h =
    record {
      tag = h.tag;
      states_most = h.states_most;
      below = insert_below q d.accepting h.below;
      accepting = λ t m. ⊎_elim (h.accepting t) (λ p. rw p.0 l) ((member-insert q t d.accepting h.below).0 m);
      steps = h.steps;
    }

step_within : {tags : ℕ} (s : Step) (d : Draft) → EndsWithin d.states s → DraftWithin tags d → DraftWithin tags (with_step s d)
step_within s d l h =
    record {
      tag = h.tag;
      states_most = h.states_most;
      below = h.below;
      accepting = h.accepting;
      steps = each_more (EndsWithin d.states) l h.steps;
    }

nil_within : {tags : ℕ} (d : Draft) → DraftWithin tags d → DraftWithin tags (with_nil d)
nil_within d h =
    record { tag = h.tag; states_most = h.states_most; below = h.below; accepting = h.accepting; steps = h.steps }

-- a block that has only its TYPE
draft_within : {tags t s : ℕ} (i : ℕ) → t < tags → s ≤ most_states
    → DraftWithin tags (record { place = i; tag = t; nillable = false; states = s; accepting = no_states; steps = [] })
draft_within {s = s} i a c =
    record {
      tag = a;
      states_most = c;
      below = omega arith;
      accepting = λ q m. absurd (member_none q m);
      steps = each_none (EndsWithin s) [] refl;
    }

-- the phase after a TYPE
pub type_phase : (s : ℕ) → let p = cond (eqb s 0) InExpression InBlock in
    (rank InBlock ≤ rank p) × (rank p ≤ rank InExpression) × (rank p ≢ rank InExpression → 1 ≤ s)
type_phase s = go (eqb s 0) (λ e. eqb-false s 0 e)
  where
    go : (b : Bool) → (b ≡ false → s ≢ 0) → let p = cond b InExpression InBlock in
        (rank InBlock ≤ rank p) × (rank p ≤ rank InExpression) × (rank p ≢ rank InExpression → 1 ≤ s)
    go true f = (omega arith, omega arith, λ d. absurd (d refl))
    go false f = (omega arith, omega arith, λ d. let n = f refl in omega arith)

-- names more
named_onto : (xs ns : List Name) (d : Draft) → NamedIn ns d → NamedIn (xs ++ ns) d
named_onto xs ns d h s m = rw (map-append (λ (x : Name). x.type) xs ns) (mathlib.Core.List.Memᴰ.append_right (types_of xs) (h s m))

-- Each command that passes its questions keeps it.
pub within_kept : (i : ℕ) (g : Stated) (c : Command) → Passed g c → StatedWithin g → StatedWithin (after g i c)
unfolding after
within_kept i g (Tags n) p h =
    let none = h.counts.no_types (omega arith) in
    record {
      counts = omega arith;
      blocks = each_none (DraftWithin n) g.blocks none;
      whole = λ d. each_none HasStates g.blocks none;
      older = h.older;
      named = h.named;
      roots = h.roots;
    }
within_kept i g (TypeBlock t s) p h =
    let o = type_phase s in
    let tags = h.counts.tags_least p.0 in
    record {
      counts =
          record {
            tags_least = λ l. tags;
            tags_most = h.counts.tags_most;
            no_types = λ l. absurd (omega arith);
            types_least = λ l. omega arith;
            types_most = p.5;
            steps_most = omega (arith, h.counts.steps_most);
            roots_least = λ l. absurd (omega arith);
            roots_most = h.counts.roots_most;
          };
      blocks = each_more (DraftWithin g.tags) (draft_within i p.3 p.4) h.blocks;
      whole = λ d. each_more HasStates (o.2 d) (h.whole p.2);
      older = h.whole p.2;
      named = each_more (NamedIn g.names) (each_none (λ s. Memᴰ s.by (types_of g.names)) [] refl) h.named;
      roots = λ a m. omega (arith, h.roots a m);
    }
within_kept i g (Final q) p h =
    let f = with_final q in
    let n = same_count f g.blocks in
    let m = same_steps f g.blocks (λ d. refl) in
    let t = h.counts.tags_least (omega arith) in
    let l = h.counts.types_least (omega arith) in
    record {
      counts = omega arith;
      blocks = each_current (DraftWithin g.tags) f g.blocks (final_within q (current g.blocks) p.1) h.blocks;
      whole = λ d. each_current HasStates f g.blocks (λ k. k) (h.whole (omega arith));
      older = rw (same_others f g.blocks) h.older;
      named = each_current (NamedIn g.names) f g.blocks (λ k. k) h.named;
      roots = λ a m. omega (arith, h.roots a m);
    }
within_kept i g (StepCommand x j y) p h =
    let s = step x j.0 y in
    let f = with_step s in
    let t = h.counts.tags_least (omega arith) in
    let l = h.counts.types_least (omega arith) in
    let n = same_count f g.blocks in
    let m = step_steps s g.blocks l in
    let name : Name = record { type = j.0; place = i } in
    record {
      counts = omega arith;
      blocks = each_current (DraftWithin g.tags) f g.blocks (step_within s (current g.blocks) (p.1, p.2)) h.blocks;
      whole = λ d. each_current HasStates f g.blocks (λ k. k) (h.whole (omega arith));
      older = rw (same_others f g.blocks) h.older;
      named =
          each_current (NamedIn (name ∷ g.names)) f g.blocks
          (λ k. each_more (λ s. Memᴰ s.by (types_of (name ∷ g.names))) (mathlib.Core.List.Memᴰ.head refl) k)
          (λ d m. named_onto (name ∷ []) g.names d (h.named d m));
      roots = λ a m. omega (arith, h.roots a m);
    }
within_kept i g (Root a) p h =
    let t = h.counts.tags_least (omega arith) in
    record {
      counts = omega arith;
      blocks = h.blocks;
      whole = λ d. h.whole p.2;
      older = h.older;
      named = h.named;
      roots = each_more (λ b. b < length g.blocks) p.3 h.roots;
    }
within_kept i g Nil p h =
    let n = same_count with_nil g.blocks in
    let m = same_steps with_nil g.blocks (λ d. refl) in
    let t = h.counts.tags_least (omega arith) in
    let l = h.counts.types_least p.0 in
    record {
      counts = omega arith;
      blocks = each_current (DraftWithin g.tags) with_nil g.blocks (nil_within (current g.blocks)) h.blocks;
      whole = λ d. each_current HasStates with_nil g.blocks (λ k. k) (h.whole p.2);
      older = rw (same_others with_nil g.blocks) h.older;
      named = each_current (NamedIn g.names) with_nil g.blocks (λ k. k) h.named;
      roots = λ a m. omega (arith, h.roots a m);
    }
within_kept i g Done p h =
    let t = h.counts.tags_least (omega arith) in
    let l = h.counts.types_least (omega arith) in
    let r = h.counts.roots_least (omega arith) in
    record { counts = omega arith; blocks = h.blocks; whole = λ d. h.whole (omega arith); older = h.older; named = h.named; roots = h.roots }
within_kept i g (Expression x) p h = absurd p

-- the automaton of an expression in the block that the file is in
automaton_within : {tags : ℕ} (e : Exp) (d : Draft) → uses e ≤ most_uses → DraftWithin tags d → DraftWithin tags (with_automaton e d)
automaton_within e d l h =
    record {
      tag = h.tag;
      states_most = omega arith;
      below = set_below (accepts e) most_states;
      accepting = λ q m. accepts_below e q ((member_set (accepts e) most_states q (omega arith)).0 m).0;
      steps = λ s m. let h = steps_inside e s (mem-reverse (all_steps e) m) in (h.0, h.2);
    }

automaton_states : (e : Exp) (ds : List Draft) → Each HasStates (others ds) → Each HasStates (in_current (with_automaton e) ds)
automaton_states e [] h = h
automaton_states e (d ∷ ds) h = each_more HasStates (omega arith) h

-- the block had no more steps than there were
automaton_steps : (e : Exp) (ds : List Draft) → step_count (in_current (with_automaton e) ds) ≤ step_count ds + length (all_steps e)
automaton_steps e [] = omega arith
automaton_steps e (d ∷ ds) = omega (arith, length-reverse (all_steps e))

types_reversed : {j : ℕ} (ns : List Name) → Memᴰ j (types_of ns) → Memᴰ j (types_of (reverse ns))
types_reversed [] m = m
types_reversed (x ∷ ns) m =
    rw (types_more x ns)
    (⊎_elim (λ e. mathlib.Core.List.Memᴰ.append_right (types_of (reverse ns)) (mathlib.Core.List.Memᴰ.head e)) (λ t. mathlib.Core.List.Memᴰ.append_left (x.type ∷ []) (types_reversed ns t))
    (mathlib.Core.List.Memᴰ.cases_cons m))

-- Each expression keeps it.
expression_kept : (file : List ℕ) (i : ℕ) (g : Stated) (e : Exp) (ns : List Name) (p : ℕ) → ExpressionRead file i g e ns p → StatedWithin g
    → StatedWithin (after_expression g e ns)
expression_kept file i g e ns p r h =
    let w = whole_content file i r.content in
    let c = h.counts in
    let q = r.phase in
    let f = with_automaton e in
    let n = same_count f g.blocks in
    let few : uses e ≤ most_uses = omega (arith, w.few, named-uses e, ap length w.names, length-map ns (λ (x : Name). x.type)) in
    let own : Each (λ j. Memᴰ j (types_of (reverse ns ++ g.names))) (named e) = λ j m.
    rw (map-append (λ (x : Name). x.type) (reverse ns) g.names)
    (mathlib.Core.List.Memᴰ.append_left (types_of g.names) (types_reversed ns (subst (λ (l : List ℕ). Memᴰ j l) (sym w.names) m))) in
    record {
      counts =
          record {
            tags_least = λ l. c.tags_least (omega arith);
            tags_most = c.tags_most;
            no_types = λ l. absurd (omega arith);
            types_least = λ l. omega (arith, c.types_least (omega arith));
            types_most = omega (arith, c.types_most);
            steps_most = omega (arith, automaton_steps e g.blocks, r.fits);
            roots_least = λ l. absurd (omega arith);
            roots_most = c.roots_most;
          };
      blocks = each_current (DraftWithin g.tags) f g.blocks (automaton_within e (current g.blocks) few) h.blocks;
      whole = λ d. automaton_states e g.blocks h.older;
      older = rw (same_others f g.blocks) h.older;
      named =
          each_current (NamedIn (reverse ns ++ g.names)) f g.blocks
          (λ k s m. own s.by (steps_inside e s (mem-reverse (all_steps e) m)).3)
          (λ d m. named_onto (reverse ns) g.names d (h.named d m));
      roots = λ a m. omega (arith, n, h.roots a m);
    }

-- what all the commands of a file state
within_at_end : (file : List ℕ) {g : Stated} → commands file ≡ states g → HoldsAtEnd (λ i x. StatedWithin x) file g
within_at_end file e =
    kept_to_end file (record { by_command = λ i g c q. within_kept i g c; by_expression = expression_kept file }) e nothing_within

-- where no name is unknown, each step's type is below the count
none_both : {A : Type 0} (s t : List A) → s ++ t ≡ [] → (s ≡ []) × (t ≡ [])
none_both [] t e = (refl, e)
none_both (x ∷ s) t e = absurd (let z : ◌≡◌ {A = ℕ} 0 1 = cc in omega arith)

known_one : (b : Bool) (p : ℕ) → cond b [] (p ∷ []) ≡ [] → b ≡ true
known_one true p e = refl
known_one false p e = cc

pub known_in : (n : ℕ) (ns : List Name) → unknown_in n ns ≡ [] → Each (λ j. j < n) (types_of ns)
known_in n [] e = each_none (λ j. j < n) [] refl
known_in n (x ∷ ns) e =
    let r = none_both (unknown_in n ns) _ e in
    each_more (λ j. j < n) (ltb-true x.type n (known_one (ltb x.type n) x.place r.1)) (known_in n ns r.0)

-- the schema has the steps that were counted
steps_append : (bs cs : List Block) → steps_in (bs ++ cs) ≡ steps_in bs + steps_in cs
steps_append [] cs = omega arith
steps_append (b ∷ bs) cs = omega (arith, steps_append bs cs)

steps_counted : (ds : List Draft) → steps_in (map block_by (reverse ds)) ≡ step_count ds
steps_counted [] = refl
steps_counted (d ∷ ds) =
    let own : length (block_by d).steps ≡ length d.steps = length-reverse d.steps in
    subst (λ (r : List Draft). steps_in (map block_by r) ≡ step_count (d ∷ ds)) (sym (reverse-cons d ds))
    (simp (map-append, steps_append) (omega (arith, steps_counted ds)))

-- the schema's block of a draft, each step's type known
block_within : (S : Schema) (d : Draft) → DraftWithin S.tags d → HasStates d → Each (λ s. s.by < length S.blocks) d.steps
    → BlockWithin S (block_by d)
block_within S d h some known =
    record {
      tag = h.tag;
      states_least = some;
      states_most = h.states_most;
      accepting = λ q m. h.accepting q ((mem-members q d.accepting h.below).0 m);
      steps = λ s m.
          let n = mem-reverse d.steps m in
          record { from = (h.steps s n).0; by = known s n; to = (h.steps s n).1 };
    }

-- The schema that a file states, each type that is named given, is inside the limits.
pub stated_within : (file : List ℕ) (g : Stated) → commands file ≡ states g → unknown g ≡ [] → WithinLimits (schema_by g)
unfolding schema_by
stated_within file g e none =
    let r = within_at_end file e in
    let h = r.holds.counts in
    let end = r.phase in
    let n : length (map block_by (reverse g.blocks)) ≡ length g.blocks = simp (length-map, length-reverse) in
    record {
      tags_least = h.tags_least (omega arith);
      tags_most = h.tags_most;
      types_least = omega (arith, h.types_least (omega arith));
      types_most = omega arith;
      steps_most = rw (steps_counted g.blocks) h.steps_most;
      roots_least = omega (arith, h.roots_least (omega arith), length-reverse g.roots);
      roots_most = omega (arith, h.roots_most, length-reverse g.roots);
      roots = λ a m. omega (arith, r.holds.roots a (mem-reverse g.roots m));
      blocks = each_turned (BlockWithin (schema_by g)) block_by g.blocks
          (λ d m. block_within (schema_by g) d (r.holds.blocks d m) (r.holds.whole (omega arith) d m)
          (λ s k. rw n (known_in (length g.blocks) g.names none s.by (r.holds.named d m s k))));
    }
