-- A file of 8,389 bytes that is accepted: 64 types of one tag and of 32 states, all accepting, each with 16 steps by the next type, one from a state;
-- so each is used.
use mathlib.Core.Path.{◌≡◌, refl, sym, ap, subst, ◌∙◌}
use mathlib.Core.Logic.{⊎_elim}
use mathlib.Core.Bool.{true, false}
use mathlib.Core.List.Memᴰ
use mathlib.Core.List.{List, [], ◌∷◌, ◌++◌, map, reverse_aux, Memᴰ}
use Prim.Native.Nat.{ℕ, zero, suc, ◌+◌, ◌*◌, ◌/◌, ◌%◌, ◌-◌, ◌≤◌, ◌<◌}
use native.Mathlib.Decide.{dec_lt}
use native.Mathlib.Omega.{arith}
use lib.Dec.{T}
use lib.ListN.{length, get_or, length-reverse, length-map}
use borrow.Author.Tests.{lt-ltb, ne_eqb}
use Rattle.sdtd.specs.Schema.{Schema, Block, step, no_block, block_of, stay, go}
use Rattle.sdtd.specs.Schema.{Step as StepOf}
use Rattle.sdtd.specs.Tree.{plain as opened_plainly}
use Rattle.sdtd.specs.Trim.{SomeRootBears, Bears, none, both, Reached, root, child}
use Rattle.sdtd.specs.Reduced.{EveryTypeUsed}
use Rattle.sdtd.specs.Competition.{Competition, of_roots, in_type}
use Rattle.sdtd.proofs.Basics.{is_false}
use Rattle.sdtd.proofs.Bearing.{by_bears, word_bears}
use Rattle.sdtd.proofs.Ambiguity.{useful_used}
use Rattle.sdtd.proofs.Rivals.{compete_rivals}
use Rattle.schema.specs.States.{member, insert}
use Rattle.schema.proofs.Bits.{mem-members}
use Rattle.sdtd.specs.Numbered.{tag_no, type_no}
use Rattle.sdtd.specs.Limits.{most_tags, most_types, most_states, most_steps}
use Rattle.commands.specs.Questions.{failed}
use Rattle.commands.specs.declared.phase.Phase.{Phase}
use Rattle.commands.specs.declared.phase.Phase.TheVariants.{BeforeTypes, InBlock, AfterDone}
use Rattle.commands.specs.File.{Draft, Stated, step_count, has_step, seen_of, after, states, commands}
use Rattle.commands.specs.File.{block_by, schema_by, unknown_in, unknown, root_count, OldWithOneRoot, most_bytes}
use Rattle.expression.specs.Content.{Name}
use Rattle.expression.specs.Answer.{set_of}
use Rattle.expression.proofs.TestSets.{set_below, member_set}
use Rattle.command.specs.Cases.{on_root}
use Rattle.command.specs.Command.{is_old, file_of}
use Rattle.command.specs.declared.Command.{Command}
use Rattle.command.specs.declared.Command.TheVariants.{Tags, TypeBlock, Final, Step, Root, Done}
use Rattle.command.proofs.CommandLaws.{length_more}
use Rattle.commands.proofs.Lengths.{roots_append}
use Rattle.commands.proofs.Runs.{CommandsPass, pass_none, pass_more, pass_all}

-- each type has so many steps; they are by the next type, for the last one by the first
abbrev own_steps : ℕ
own_steps = most_steps / most_types

abbrev next_type : ℕ → ℕ
next_type a = suc a % most_types

-- the TAGS, the TYPE of each block, the STEP from the state n of the type a, and the ROOT
abbrev tags_command : Command
tags_command = Tags most_tags

abbrev type_command : Command
type_command = TypeBlock (tag_no 0) most_states

abbrev step_command : ℕ → ℕ → Command
step_command a n = Step n (type_no (next_type a)) n

abbrev root_command : Command
root_command = Root (type_no 0)

-- the commands, then FINAL 0 to n - 1
unfoldable pub then_finals : List Command → ℕ → List Command
then_finals cs zero = cs
then_finals cs (suc n) = then_finals cs n ++ (Final n ∷ [])

-- the commands, then the STEPs of the type a from the states below n
unfoldable pub then_steps : List Command → ℕ → ℕ → List Command
then_steps cs a zero = cs
then_steps cs a (suc n) = then_steps cs a n ++ (step_command a n ∷ [])

-- the commands, then a TYPE with its FINALs
unfoldable pub then_states : List Command → List Command
then_states cs = then_finals (cs ++ (type_command ∷ [])) most_states

-- the commands, then the blocks of the types below n
unfoldable pub then_blocks : List Command → ℕ → List Command
then_blocks cs zero = cs
then_blocks cs (suc n) = then_steps (then_states (then_blocks cs n)) n own_steps

-- the blocks of the types below n
abbrev blocks_below : ℕ → List Command
blocks_below n = then_blocks (tags_command ∷ []) n

unfoldable pub longest_commands : List Command
longest_commands = blocks_below most_types ++ (root_command ∷ []) ++ (Done ∷ [])

unfoldable pub longest_file : List ℕ
longest_file = file_of longest_commands

-- how many bytes they have
finals_length : (cs : List Command) (n : ℕ) → length (file_of (then_finals cs n)) ≡ length (file_of cs) + 2 * n
unfolding then_finals
finals_length cs zero = omega arith
finals_length cs (suc n) = rw (length_more (then_finals cs n) (Final n)) (omega (arith, finals_length cs n))

steps_length : (cs : List Command) (a n : ℕ) → length (file_of (then_steps cs a n)) ≡ length (file_of cs) + 4 * n
unfolding then_steps
steps_length cs a zero = omega arith
steps_length cs a (suc n) = rw (length_more (then_steps cs a n) (step_command a n)) (omega (arith, steps_length cs a n))

states_length : (cs : List Command) → length (file_of (then_states cs)) ≡ length (file_of cs) + (3 + 2 * most_states)
unfolding then_states
states_length cs = omega (arith, finals_length (cs ++ (type_command ∷ [])) most_states, length_more cs type_command)

blocks_length : (cs : List Command) (n : ℕ) → length (file_of (then_blocks cs n)) ≡ length (file_of cs) + (3 + 2 * most_states + 4 * own_steps) * n
unfolding then_blocks
blocks_length cs zero = omega arith
blocks_length cs (suc n) =
    let ds = then_blocks cs n in
    omega (arith, blocks_length cs n, states_length ds, steps_length (then_states ds) n own_steps)

pub longest_length : length longest_file ≡ most_bytes
unfolding longest_file longest_commands
longest_length =
    let cs = blocks_below most_types in
    let t : length (file_of (tags_command ∷ [])) ≡ 2 = unfold file_of in refl in
    omega (arith, length_more (cs ++ (root_command ∷ [])) Done, length_more cs root_command, blocks_length (tags_command ∷ []) most_types)

-- all of them are old commands
abbrev AllOld : List Command → Type 0
AllOld cs = (c : Command) → Memᴰ c cs → T (is_old c)

old_more : (cs : List Command) (c : Command) → T (is_old c) → AllOld cs → AllOld (cs ++ (c ∷ []))
old_more cs c t h d m = ⊎_elim (h d) (λ k. subst (λ (x : Command). T (is_old x)) (sym (Memᴰ.eq_of_singleton k)) t) (Memᴰ.append_cases cs m)

old_finals : (cs : List Command) (n : ℕ) → AllOld cs → AllOld (then_finals cs n)
unfolding then_finals
old_finals cs zero h = h
old_finals cs (suc n) h = old_more (then_finals cs n) (Final n) tt (old_finals cs n h)

old_steps : (cs : List Command) (a n : ℕ) → AllOld cs → AllOld (then_steps cs a n)
unfolding then_steps
old_steps cs a zero h = h
old_steps cs a (suc n) h = old_more (then_steps cs a n) (step_command a n) tt (old_steps cs a n h)

old_blocks : (cs : List Command) (n : ℕ) → AllOld cs → AllOld (then_blocks cs n)
unfolding then_blocks then_states
old_blocks cs zero h = h
old_blocks cs (suc n) h =
    let ds = then_blocks cs n in
    let typed = old_more ds type_command tt (old_blocks cs n h) in
    old_steps (then_states ds) n own_steps (old_finals (ds ++ (type_command ∷ [])) most_states typed)

-- one of them is a ROOT
roots_more : (cs : List Command) (c : Command) → root_count (cs ++ (c ∷ [])) ≡ root_count cs + on_root (λ a. 1) 0 c
roots_more cs c = omega (arith, roots_append cs (c ∷ []))

roots_finals : (cs : List Command) (n : ℕ) → root_count (then_finals cs n) ≡ root_count cs
unfolding then_finals
roots_finals cs zero = refl
roots_finals cs (suc n) = omega (arith, roots_more (then_finals cs n) (Final n), roots_finals cs n)

roots_steps : (cs : List Command) (a n : ℕ) → root_count (then_steps cs a n) ≡ root_count cs
unfolding then_steps
roots_steps cs a zero = refl
roots_steps cs a (suc n) = omega (arith, roots_more (then_steps cs a n) (step_command a n), roots_steps cs a n)

roots_blocks : (cs : List Command) (n : ℕ) → root_count (then_blocks cs n) ≡ root_count cs
unfolding then_blocks then_states
roots_blocks cs zero = refl
roots_blocks cs (suc n) =
    let ds = then_blocks cs n in
    let f = roots_finals (ds ++ (type_command ∷ [])) most_states in
    omega (arith, roots_steps (then_states ds) n own_steps, f, roots_more ds type_command, roots_blocks cs n)

one_root : root_count longest_commands ≡ 1
unfolding longest_commands
one_root =
    let cs = blocks_below most_types in
    omega (arith, roots_more (cs ++ (root_command ∷ [])) Done, roots_more cs root_command, roots_blocks (tags_command ∷ []) most_types)

pub longest_old : OldWithOneRoot longest_file
unfolding longest_file longest_commands
longest_old =
    let tags : AllOld (tags_command ∷ []) = λ c m. subst (λ (x : Command). T (is_old x)) (sym (Memᴰ.eq_of_singleton m)) tt in
    let cs = blocks_below most_types in
    record {
      given = longest_commands;
      bytes = refl;
      old = old_more (cs ++ (root_command ∷ [])) Done tt (old_more cs root_command tt (old_blocks (tags_command ∷ []) most_types tags));
      one_root = one_root;
    }

-- the states below n as a set
abbrev first_states : ℕ → ℕ
first_states n = set_of (λ q. true) n

first_new : (n : ℕ) → n ≤ most_states → member n (first_states n) ≡ false
first_new n l = is_false (member n (first_states n)) (λ m. omega (arith, (member_set (λ q. true) n n l).0 m))

-- the steps of the type a from the states below n, the last first, and what they name with their places, before the names so far
steps_given : ℕ → ℕ → List StepOf
steps_given a zero = []
steps_given a (suc n) = step n (next_type a) n ∷ steps_given a n

names_given : List Command → ℕ → ℕ → List Name → List Name
names_given cs a zero ns = ns
names_given cs a (suc n) ns = record { type = next_type a; place = length (file_of (then_steps cs a n)) } ∷ names_given cs a n ns

given_count : (a n : ℕ) → length (steps_given a n) ≡ n
unfolding steps_given
given_count a zero = refl
given_count a (suc n) = ap suc (given_count a n)

-- the step from a later state is not among them
step_new : (a n m : ℕ) → n ≤ m → has_step m (next_type a) m (steps_given a n) ≡ false
unfolding steps_given
step_new a zero m l = refl
step_new a (suc n) m l = rw (ne_eqb n m (λ e. omega arith), step_new a n m (omega arith))

-- a block with n FINALs whose TYPE is at the place i; the block of the type a with n steps; and what is stated with these blocks
abbrev accepting : ℕ → ℕ → Draft
accepting i n = record { place = i; tag = 0; nillable = false; states = most_states; accepting = first_states n; steps = [] }

abbrev stepped : ℕ → ℕ → ℕ → Draft
stepped i a n =
    record { place = i; tag = 0; nillable = false; states = most_states; accepting = first_states most_states; steps = steps_given a n }

abbrev stated : Phase → List Draft → List Name → Stated
stated phase ds ns = record { phase = phase; tags = most_tags; blocks = ds; names = ns; roots = [] }

-- a run of FINALs, and one of STEPs
finals_pass : {cs : List Command} (i : ℕ) (ds : List Draft) (ns : List Name) (n : ℕ) → n ≤ most_states
    → CommandsPass cs (stated InBlock (accepting i 0 ∷ ds) ns) → CommandsPass (then_finals cs n) (stated InBlock (accepting i n ∷ ds) ns)
unfolding then_finals after set_of
finals_pass i ds ns zero l r = r
finals_pass i ds ns (suc n) l r = pass_more (Final n) (finals_pass i ds ns n (omega arith) r) (rw (lt-ltb n most_states l, first_new n (omega arith)))

steps_pass : {cs : List Command} (i a : ℕ) (ds : List Draft) (ns : List Name) (n : ℕ) → n ≤ own_steps → step_count ds + n ≤ most_steps
    → CommandsPass cs (stated InBlock (accepting i most_states ∷ ds) ns)
    → CommandsPass (then_steps cs a n) (stated InBlock (stepped i a n ∷ ds) (names_given cs a n ns))
unfolding then_steps after steps_given names_given
steps_pass i a ds ns zero l m r = r
steps_pass {cs} i a ds ns (suc n) l m r =
    let state = lt-ltb n most_states (omega arith) in
    let type = lt-ltb (next_type a) most_types (omega arith) in
    let few = lt-ltb (step_count ds + length (steps_given a n)) most_steps (omega (arith, given_count a n)) in
    pass_more (step_command a n) (steps_pass i a ds ns n (omega arith) (omega arith) r) (rw (state, type, few, step_new a n n (omega arith)))

-- the draft of the type a, those of the types below n, and what their steps name
abbrev draft_of : ℕ → Draft
draft_of a = stepped (length (file_of (blocks_below a))) a own_steps

drafts : ℕ → List Draft
drafts zero = []
drafts (suc n) = draft_of n ∷ drafts n

names : ℕ → List Name
names zero = []
names (suc n) = names_given (then_states (blocks_below n)) n own_steps (names n)

drafts_count : (n : ℕ) → length (drafts n) ≡ n
unfolding drafts
drafts_count zero = refl
drafts_count (suc n) = ap suc (drafts_count n)

steps_count : (n : ℕ) → step_count (drafts n) ≡ own_steps * n
unfolding drafts
steps_count zero = refl
steps_count (suc n) = omega (arith, steps_count n, given_count n own_steps)

abbrev phase_at : ℕ → Phase
phase_at zero = BeforeTypes
phase_at (suc n) = InBlock

-- the blocks, one after another
type_passes : (n : ℕ) → n < most_types → let g = stated (phase_at n) (drafts n) (names n) in failed (seen_of g type_command) type_command ≡ 0
unfolding drafts
type_passes zero l = refl
type_passes (suc n) l = let few = lt-ltb (length (drafts (suc n))) most_types (omega (arith, drafts_count (suc n))) in rw few

blocks_pass : (n : ℕ) → n ≤ most_types → CommandsPass (blocks_below n) (stated (phase_at n) (drafts n) (names n))
unfolding then_blocks then_states drafts names after set_of
blocks_pass zero l = pass_more tags_command pass_none refl
blocks_pass (suc n) l =
    let i = length (file_of (blocks_below n)) in
    let typed = pass_more type_command (blocks_pass n (omega arith)) (type_passes n l) in
    steps_pass i n (drafts n) (names n) own_steps (omega arith) (omega (arith, steps_count n))
    (finals_pass i (drafts n) (names n) most_states (omega arith) typed)

abbrev all_stated : Stated
all_stated = record { phase = AfterDone; tags = most_tags; blocks = drafts most_types; names = names most_types; roots = 0 ∷ [] }

longest_pass : CommandsPass longest_commands all_stated
unfolding longest_commands after
longest_pass =
    let given = lt-ltb 0 (length (drafts most_types)) (omega (arith, drafts_count most_types)) in
    pass_more Done (pass_more root_command (blocks_pass most_types (omega arith)) (rw given)) refl

-- each step names a given type
known_more : (cs : List Command) (a n : ℕ) (ns : List Name) → unknown_in most_types ns ≡ [] → unknown_in most_types (names_given cs a n ns) ≡ []
unfolding names_given
known_more cs a zero ns e = e
known_more cs a (suc n) ns e = rw (known_more cs a n ns e, lt-ltb (next_type a) most_types (omega arith))

known_names : (n : ℕ) → unknown_in most_types (names n) ≡ []
unfolding names
known_names zero = refl
known_names (suc n) = known_more (then_states (blocks_below n)) n own_steps (names n) (known_names n)

known : unknown all_stated ≡ []
known = rw (drafts_count most_types) (known_names most_types)

-- the blocks in the schema stand as in the file
past_drafts : (n : ℕ) (ds : List Draft) (k : ℕ) → get_or (map block_by (reverse_aux (drafts n) ds)) (n + k) no_block ≡ get_or (map block_by ds) k no_block
unfolding drafts
past_drafts zero ds k = let e : 0 + k ≡ k = omega arith in rw e
past_drafts (suc n) ds k = let e : suc n + k ≡ n + suc k = omega arith in rw e (past_drafts n (draft_of n ∷ ds) (suc k))

block_at : (n : ℕ) (ds : List Draft) (a : ℕ) → a < n → get_or (map block_by (reverse_aux (drafts n) ds)) a no_block ≡ block_by (draft_of a)
unfolding drafts
block_at zero ds a l = absurd (omega arith)
block_at (suc n) ds a l = elim (dec_lt a n) [
  | yes b ↦ block_at n (draft_of n ∷ ds) a b
  | no b ↦ let e : a ≡ n + 0 = omega arith in let f : n + 0 ≡ n = omega arith in rw (e, f) (rw f at (past_drafts n (draft_of n ∷ ds) 0))
]

abbrev longest_schema : Schema
longest_schema = schema_by all_stated

own_block : (a : ℕ) → a < most_types → block_of longest_schema a ≡ block_by (draft_of a)
unfolding schema_by
own_block a l = block_at most_types [] a l

no_block_lem : (a : ℕ) → most_types ≤ a → block_of longest_schema a ≡ no_block
unfolding schema_by
no_block_lem a l = let e : a ≡ most_types + (a - most_types) = omega arith in rw e (past_drafts most_types [] (a - most_types))

-- state 0 accepts, and each step carries the next type; the first leads from state 0
start_accepts : (a : ℕ) → Memᴰ 0 (block_by (draft_of a)).accepting
unfolding set_of insert
start_accepts a = (mem-members 0 (first_states most_states) (set_below (λ q. true) most_states)).1 tt

abbrev OneType : ℕ → List StepOf → Type 0
OneType j steps = (s : StepOf) → Memᴰ s steps → s.by ≡ j

one_type : (a n : ℕ) (ss : List StepOf) → OneType (next_type a) ss → OneType (next_type a) (reverse_aux (steps_given a n) ss)
unfolding steps_given
one_type a zero ss h = h
one_type a (suc n) ss h =
    one_type a n (_ ∷ ss) (λ s m. ⊎_elim (λ e. ap (λ (x : StepOf). x.by) e) (h s) (Memᴰ.cases_cons m))

first_step : (a n : ℕ) (ss : List StepOf) → Memᴰ (step 0 (next_type a) 0) (reverse_aux (steps_given a (suc n)) ss)
unfolding steps_given
first_step a zero ss = Memᴰ.head refl
first_step a (suc n) ss = first_step a n (_ ∷ ss)

-- each type bears the tree of one element
start_of : (a : ℕ) → a < most_types → Memᴰ 0 (block_of longest_schema a).accepting
start_of a l = subst (λ (b : Block). Memᴰ 0 b.accepting) (sym (own_block a l)) (start_accepts a)

each_bears : (a : ℕ) → a < most_types → Bears longest_schema a
each_bears a l = by_bears opened_plainly (word_bears a (record { last = 0; leads = stay; accepting = start_of a l }) none)

root_bears : SomeRootBears longest_schema
unfolding schema_by
root_bears = record { type = 0; is_root = Memᴰ.head refl; bears = each_bears 0 (omega arith) }

-- each is reached: the first is the root, and each next one is the word of the type before it
each_reached : (a : ℕ) → a < most_types → Reached longest_schema a
unfolding schema_by
each_reached zero l = root (Memᴰ.head refl)
each_reached (suc a) l =
    let next : next_type a ≡ suc a = omega arith in
    let first = subst (λ (j : ℕ). Memᴰ (step 0 j 0) (block_by (draft_of a)).steps) next (first_step a (own_steps - 1) []) in
    let by_step = subst (λ (b : Block). Memᴰ (step 0 (suc a) 0) b.steps) (sym (own_block a (omega arith))) first in
    child (each_reached a (omega arith)) (record { last = 0; leads = go by_step stay; accepting = start_of a (omega arith) })
    (both (each_bears (suc a) l) none) (Memᴰ.head refl)

every_used : EveryTypeUsed longest_schema
unfolding schema_by
every_used a l =
    let count : length (map block_by (reverse_aux (drafts most_types) [])) ≡ most_types =
    rw (length-map) (length-reverse (drafts most_types) ∙ drafts_count most_types) in
    let below : a < most_types = omega arith in
    useful_used (each_reached a below, each_bears a below)

-- one root competes with none; types that compete in a block are types of two of its steps, and these are never different
one_type_free : {S : Schema} {root : ℕ} → S.roots ≡ root ∷ [] → ((a : ℕ) → (j : ℕ) × OneType j (block_of S a).steps) → ¬ Competition S
one_type_free one h (of_roots o) =
    let c = o.compete in
    omega (arith, c.order, Memᴰ.eq_of_singleton (rw one at c.is_root_j), Memᴰ.eq_of_singleton (rw one at c.is_root_k))
one_type_free one h (in_type {a = a} c) =
    let k = c.compete in
    let r = (compete_rivals k).rivals in
    let x = (h a).1 _ r.step_j in
    let y = (h a).1 _ r.step_k in
    let l = k.order in
    omega arith

block_type : (a : ℕ) → (j : ℕ) × OneType j (block_of longest_schema a).steps
block_type a = elim (dec_lt a most_types) [
  | yes l ↦
      let own = one_type a own_steps [] (λ s m. absurd (Memᴰ.not-nil m)) in
      (next_type a, subst (λ (b : Block). OneType (next_type a) b.steps) (sym (own_block a l)) own)
  | no n ↦
      let none : OneType 0 no_block.steps = λ s m. absurd (Memᴰ.not-nil m) in
      (0, subst (λ (b : Block). OneType 0 b.steps) (sym (no_block_lem a (omega arith))) none)
]

no_competition : ¬ Competition longest_schema
unfolding schema_by
no_competition = one_type_free refl block_type

-- What is asked of the file after questions 2 to 6.
pub record LongestStates : Type 0 where
  pub longest_states : Stated
  pub commands_pass : commands longest_file ≡ states longest_states
  pub steps_known : unknown longest_states ≡ []
  pub bears_tree : SomeRootBears (schema_by longest_states)
  pub every_type_used : EveryTypeUsed (schema_by longest_states)
  pub restrained : ¬ Competition (schema_by longest_states)

pub longest_stated : LongestStates
unfolding longest_file
longest_stated =
    record {
      longest_states = all_stated;
      commands_pass = pass_all longest_pass refl;
      steps_known = known;
      bears_tree = root_bears;
      every_type_used = every_used;
      restrained = no_competition;
    }
