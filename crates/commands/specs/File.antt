-- "The schema file": what its commands state, command by command, up to a refusal or the end.
use Rattle.std.specs.Prelude.{◌≡◌, Bool, true, false, cond, Option, Some, None, ◌&&◌, ◌||◌, ℕ, zero, suc, ◌+◌, T, eqb, leb, ltb, length, get_or}
use mathlib.Core.List.{List, [], ◌∷◌, ◌++◌, map, reverse, Memᴰ}
use Rattle.sdtd.specs.Schema.{Block, Schema, step}
use Rattle.sdtd.specs.Schema.{Step as StepOf}
use Rattle.sdtd.specs.Answer.{Question, ask}
use Rattle.schema.specs.States.{insert, members, no_states}
use Rattle.sdtd.specs.Limits.{most_states, most_steps}
use Rattle.command.specs.Command.{is_old, file_of, command_at, size}
use Rattle.command.specs.Cases.{on_step, on_root, on_nil}
use Rattle.command.specs.declared.Command.{Command}
use Rattle.command.specs.declared.Command.TheVariants.{Tags, TypeBlock, Final, Step, Root, Nil, Done, Expression}
use Rattle.expression.specs.Expression.{Expression as Exp}
use Rattle.expression.specs.Automaton.{uses}
use Rattle.expression.specs.Tests.{accepts, all_steps}
use Rattle.expression.specs.Content.{Name, Content, broken, whole, content_at}
use Rattle.expression.specs.Answer.{set_of}
use Rattle.commands.specs.Questions.{same_phase, failed}
use Rattle.commands.specs.declared.phase.Phase.{Phase}
use Rattle.commands.specs.declared.phase.Phase.TheVariants.{BeforeTags, BeforeTypes, InBlock, InExpression, AfterExpression, AfterRoot, AfterDone}
use Rattle.commands.specs.declared.questions.Seen.{Seen}

-- a type's block so far: the place of its TYPE, whether it has a NIL, its accepting states as a set, its steps the last first
pub record Draft : Type 0 where
  pub place : ℕ
  pub tag : ℕ
  pub nillable : Bool
  pub states : ℕ
  pub accepting : ℕ
  pub steps : List StepOf

-- what the commands so far state: the blocks, the types that STEPs and 32s name with their places, and the roots, the last first
pub record Stated : Type 0 where
  pub phase : Phase
  pub tags : ℕ
  pub blocks : List Draft
  pub names : List Name
  pub roots : List ℕ

abbrev pub nothing_stated : Stated
nothing_stated = record { phase = BeforeTags; tags = 0; blocks = []; names = []; roots = [] }

-- the block that the file is in
abbrev pub current : List Draft → Draft
current [] = record { place = 0; tag = 0; nillable = false; states = 0; accepting = no_states; steps = [] }
current (d ∷ ds) = d

-- the number of steps so far
abbrev pub step_count : List Draft → ℕ
step_count [] = 0
step_count (d ∷ ds) = step_count ds + length d.steps

-- the step s goes from p by the type j to q
abbrev pub same_step : ℕ → ℕ → ℕ → StepOf → Bool
same_step p j q s = eqb s.from p && (eqb s.by j && eqb s.to q)

-- one of the steps does
abbrev pub has_step : ℕ → ℕ → ℕ → List StepOf → Bool
has_step p j q [] = false
has_step p j q (s ∷ ss) = same_step p j q s || has_step p j q ss

-- one of the types is a
abbrev pub has_root : ℕ → List ℕ → Bool
has_root a [] = false
has_root a (x ∷ xs) = eqb x a || has_root a xs

-- what is seen of the file where the command is asked
abbrev pub seen_of : Stated → Command → Seen
seen_of g c =
    let d = current g.blocks in
    record {
      phase = g.phase;
      tags = g.tags;
      types = length g.blocks;
      roots = length g.roots;
      steps = step_count g.blocks;
      states = d.states;
      accepting = record { 0 = d.accepting };
      given =
          on_step (λ p j q. has_step p j q d.steps) false c
          || (on_root (λ a. has_root a g.roots) false c || on_nil d.nillable false c);
    }

-- a block with one accepting state more, with one step more, and with a NIL
abbrev pub with_final : ℕ → Draft → Draft
with_final q d =
    record {
      place = d.place;
      tag = d.tag;
      nillable = d.nillable;
      states = d.states;
      accepting = insert q d.accepting;
      steps = d.steps;
    }

abbrev pub with_step : StepOf → Draft → Draft
with_step s d =
    record {
      place = d.place;
      tag = d.tag;
      nillable = d.nillable;
      states = d.states;
      accepting = d.accepting;
      steps = s ∷ d.steps;
    }

abbrev pub with_nil : Draft → Draft
with_nil d =
    record {
      place = d.place;
      tag = d.tag;
      nillable = true;
      states = d.states;
      accepting = d.accepting;
      steps = d.steps;
    }

-- the blocks, with this done to the one that the file is in
abbrev pub in_current : (Draft → Draft) → List Draft → List Draft
in_current f [] = []
in_current f (d ∷ ds) = f d ∷ ds

-- what is stated after the command at the place i; "A TYPE with state count 0 is followed by an expression"; "NIL in a type's block [..] makes it
-- nillable"
unfoldable pub after : Stated → ℕ → Command → Stated
after g i (Tags n) = record { phase = BeforeTypes; tags = n; blocks = g.blocks; names = g.names; roots = g.roots }
after g i (TypeBlock t s) =
    let d : Draft = record { place = i; tag = t.0; nillable = false; states = s; accepting = no_states; steps = [] } in
    record {
      phase = cond (eqb s 0) InExpression InBlock;
      tags = g.tags;
      blocks = d ∷ g.blocks;
      names = g.names;
      roots = g.roots;
    }
after g i (Final q) =
    record { phase = InBlock; tags = g.tags; blocks = in_current (with_final q) g.blocks; names = g.names; roots = g.roots }
after g i (Step p j q) =
    record {
      phase = InBlock;
      tags = g.tags;
      blocks = in_current (with_step (step p j.0 q)) g.blocks;
      names = record { type = j.0; place = i } ∷ g.names;
      roots = g.roots;
    }
after g i (Root a) = record { phase = AfterRoot; tags = g.tags; blocks = g.blocks; names = g.names; roots = a.0 ∷ g.roots }
after g i Nil = record { phase = g.phase; tags = g.tags; blocks = in_current with_nil g.blocks; names = g.names; roots = g.roots }
after g i Done = record { phase = AfterDone; tags = g.tags; blocks = g.blocks; names = g.names; roots = g.roots }
after g i (Expression x) = g

-- "It becomes an automaton": the block has the expression's automaton (`automaton_block`)
abbrev pub with_automaton : Exp → Draft → Draft
with_automaton e d =
    record {
      place = d.place;
      tag = d.tag;
      nillable = d.nillable;
      states = suc (uses e);
      accepting = set_of (accepts e) most_states;
      steps = reverse (all_steps e);
    }

-- what is stated after an expression whose 32s name these types
abbrev pub after_expression : Stated → Exp → List Name → Stated
after_expression g e ns =
    record {
      phase = AfterExpression;
      tags = g.tags;
      blocks = in_current (with_automaton e) g.blocks;
      names = reverse ns ++ g.names;
      roots = g.roots;
    }

-- What becomes of the commands: a refusal with its number and place, or what they state.
pub data Commands : Type 0 where
  stopped : ℕ → ℕ → Commands
  states : Stated → Commands

-- "Its steps count toward the 1,024 (5, at the 3F)", where the 3F has passed 2 to 4 and 21 to 23: the rest of the file after an expression, or
-- a refusal
unfoldable pub by_content : Stated → (ℕ → Stated → Commands) → Content → Commands
by_content g rest (broken n p) = stopped n p
by_content g rest (whole e ns p) =
    cond (leb (step_count g.blocks + length (all_steps e)) most_steps) (rest (p + 1) (after_expression g e ns)) (stopped 5 p)

-- the rest of the file after the command at the place i, or a refusal; where none stands there, by question 2
unfoldable pub by_command : Stated → ℕ → (ℕ → Stated → Commands) → Option Command → Commands
by_command g i rest None = stopped 2 i
by_command g i rest (Some c) =
    let n = failed (seen_of g c) c in
    cond (eqb n 0) (rest (i + size c) (after g i c)) (stopped n i)

-- The commands from the place i on, after what is stated so far; `fuel` is more than the bytes left (so its first clause is never reached).
-- "A refusal answers number and place, the offset of the command in question unless said otherwise." "A byte after DONE gets 3 at that byte,
-- whichever it is." "An empty or unfinished file gets 2 at its length." Inside an expression `content_at` asks its commands.
unfoldable pub commands_from : ℕ → List ℕ → ℕ → Stated → Commands
commands_from zero file i g = stopped 2 i
commands_from (suc fuel) file i g =
    let expression = by_content g (commands_from fuel file) (content_at file i) in
    let command = by_command g i (commands_from fuel file) (command_at file i) in
    cond (same_phase g.phase AfterDone) (cond (leb (length file) i) (states g) (stopped 3 i))
    (cond (same_phase g.phase InExpression) expression command)

unfoldable pub commands : List ℕ → Commands
commands file = commands_from (suc (length file)) file 0 nothing_stated

-- a block as the schema has it: its accepting states rising, its steps in file order
abbrev pub block_by : Draft → Block
block_by d =
    record {
      tag = d.tag;
      nillable = d.nillable;
      states = d.states;
      accepting = members d.accepting;
      steps = reverse d.steps;
    }

-- The schema that is stated: the types in the order of their blocks, the roots in that of their commands.
unfoldable pub schema_by : Stated → Schema
schema_by g = record { tags = g.tags; blocks = map block_by (reverse g.blocks); roots = reverse g.roots }

-- the places of the TYPEs in order, and that of the type a
abbrev pub type_places : Stated → List ℕ
type_places g = map (λ d. d.place) (reverse g.blocks)

abbrev pub type_place : Stated → ℕ → ℕ
type_place g a = get_or (type_places g) a 0

-- the places of the names, in file order, that are no type below the count
abbrev pub unknown_in : ℕ → List Name → List ℕ
unknown_in types [] = []
unknown_in types (x ∷ xs) = unknown_in types xs ++ cond (ltb x.type types) [] (x.place ∷ [])

-- the places of the STEPs and 32s that name no type that was given, in file order
abbrev pub unknown : Stated → List ℕ
unknown g = unknown_in (length g.blocks) g.names

-- "Does each STEP name a type that was given? No: 7, at the first that does not"; "question 7 covers each 32": by the places of those that do
-- not.
abbrev pub known_asked : {A : Type 0} → (ℕ → A) → List ℕ → Question A
known_asked refusal places = ask (refusal (get_or places 0 0)) (places ≡ [])

-- the file passes questions 2 to 7 and 21 to 23 and states the schema S
pub record StatesSchema (file : List ℕ) (S : Schema) : Type 0 where
  pub stated : Stated
  pub passes : commands file ≡ states stated
  pub known : unknown stated ≡ []
  pub schema : schema_by stated ≡ S

-- how many ROOTs the commands have
abbrev pub root_count : List Command → ℕ
root_count [] = 0
root_count (c ∷ cs) = on_root (λ a. 1) 0 c + root_count cs

-- the file is one "with one ROOT and only the old commands"
pub record OldWithOneRoot (file : List ℕ) : Type 0 where
  pub given : List Command
  pub bytes : file ≡ file_of given
  pub old : (c : Command) → Memᴰ c given → T (is_old c)
  pub one_root : root_count given ≡ 1

-- "The longest accepted file has 8,389 bytes." "The 8,389 bytes hold for files with one ROOT and only the old commands."
abbrev pub most_bytes : ℕ
most_bytes = 8389
