-- Schemas, content automata and their words: document 01, "Schemas and valid trees"; source document 000, definitions 1 and 2.
use Rattle.std.specs.Prelude.{Bool, false, ℕ, ◌+◌, ◌≤◌, ◌<◌, T, length, get_or}
use mathlib.Core.List.{List, [], ◌∷◌, Memᴰ}
use Rattle.sdtd.specs.Limits.{most_tags, most_types, most_roots, most_states, most_steps}

-- "steps (from state, type, to state)"
pub record Step : Type 0 where
  pub from : ℕ
  pub by : ℕ
  pub to : ℕ

-- the step from the state p by the type j to the state q
abbrev pub step : ℕ → ℕ → ℕ → Step
step p j q = record { from = p; by = j; to = q }

-- "Each type has one tag and one content automaton: 1 to 32 states, start state 0, some accepting states, steps".
-- The list of steps may hold several from one state that carry one type. "Command 15 NIL in a type's block [..] makes it nillable".
pub record Block : Type 0 where
  pub tag : ℕ
  pub nillable : Bool
  pub states : ℕ
  pub accepting : List ℕ
  pub steps : List Step

-- "A schema has 1 to 32 tags, 1 to 64 types". "Both are numbered from 0": a type's number is its place in `blocks`, and `tags` is the number
-- of tags. "ROOT may be given one to eight times": the root types, in the file's order. A file gives each another type (question 6); a made-up value
-- may repeat one. Source document 000 has one start symbol.
pub record Schema : Type 0 where
  pub tags : ℕ
  pub blocks : List Block
  pub roots : List ℕ

-- what stands for the block of a number that is no type: it has no word and is not nillable
abbrev pub no_block : Block
no_block = record { tag = 0; nillable = false; states = 0; accepting = []; steps = [] }

-- the block of the type a
abbrev pub block_of : Schema → ℕ → Block
block_of S a = get_or S.blocks a no_block

-- the tag of the type a
abbrev pub tag_of : Schema → ℕ → ℕ
tag_of S a = (block_of S a).tag

-- the type a is nillable: an element of it may be empty on purpose
abbrev pub Nillable : Schema → ℕ → Type 0
Nillable S a = T (block_of S a).nillable

-- The types of the list lead, step by step, from the state p to the state q: a run of the automaton.
pub data Leads (b : Block) : ℕ → List ℕ → ℕ → Type 0 where
  stay : {p : ℕ} → Leads b p [] p
  go : {p j q r : ℕ} {w : List ℕ} → Memᴰ (step p j q) b.steps → Leads b q w r → Leads b p (j ∷ w) r

-- The types of w lead from the state p to an accepting state.
pub record Accepts (b : Block) (p : ℕ) (w : List ℕ) : Type 0 where
  pub last : ℕ
  pub leads : Leads b p w last
  pub accepting : Memᴰ last b.accepting

-- "A word is a list of types; an automaton's words lead from state 0 to an accepting state."
abbrev pub Word : Block → List ℕ → Type 0
Word b w = Accepts b 0 w

-- the number of all steps
abbrev pub steps_in : List Block → ℕ
steps_in [] = 0
steps_in (b ∷ bs) = length b.steps + steps_in bs

-- A step's states are below the state count and its type is below the number of types.
pub record StepWithin (states types : ℕ) (s : Step) : Type 0 where
  pub from : s.from < states
  pub by : s.by < types
  pub to : s.to < states

-- A type's tag, its state count and its states and steps are inside document 01's limits.
pub record BlockWithin (S : Schema) (b : Block) : Type 0 where
  pub tag : b.tag < S.tags
  pub states_least : 1 ≤ b.states
  pub states_most : b.states ≤ most_states
  pub accepting : (q : ℕ) → Memᴰ q b.accepting → q < b.states
  pub steps : (s : Step) → Memᴰ s b.steps → StepWithin b.states (length S.blocks) s

-- The schema's part of "are the counts in the schema [..] inside this paper's limits, and is each tag, type and state in their used
-- entries [..] below its count?"
pub record WithinLimits (S : Schema) : Type 0 where
  pub tags_least : 1 ≤ S.tags
  pub tags_most : S.tags ≤ most_tags
  pub types_least : 1 ≤ length S.blocks
  pub types_most : length S.blocks ≤ most_types
  pub steps_most : steps_in S.blocks ≤ most_steps
  pub roots_least : 1 ≤ length S.roots
  pub roots_most : length S.roots ≤ most_roots
  pub roots : (a : ℕ) → Memᴰ a S.roots → a < length S.blocks
  pub blocks : (b : Block) → Memᴰ b S.blocks → BlockWithin S b
