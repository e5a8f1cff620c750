-- Document 01, "Trimming", and document 02, Req 05. "Useless types stay in the file and keep their numbers": nothing here renumbers.
use Rattle.std.specs.Prelude.{◌≡◌, ◌↔◌, Bool, cond, ◌&&◌, ℕ, suc, length}
use mathlib.Core.List.{List, [], ◌∷◌, Memᴰ}
use Rattle.sdtd.specs.Schema.{Step, Block, Schema, block_of, tag_of, Nillable, Accepts, Word}
use Rattle.sdtd.specs.Tree.{Kind, Tree, Forest, node, label, IsRoot, Derived}
use Rattle.sdtd.specs.Document.{Event, Valid, types_of}

-- "A type bears a tree if some finite tree is typed with it at its root." The field calls such a type productive. The tree may be opened
-- either way: "A nillable type bears a tree."
pub record Bears (S : Schema) (a : ℕ) : Type 0 where
  pub tree : Tree
  pub at_root : label tree ≡ a
  pub derived : Derived S tree

-- the type bears a tree opened so: "a tree opened by 21", or a nil element
pub record BearsBy (S : Schema) (κ : Kind) (a : ℕ) : Type 0 where
  pub children : Forest
  pub derived : Derived S (node κ a children)

-- "The root question (8) holds if any root bears a tree."
pub record SomeRootBears (S : Schema) : Type 0 where
  pub type : ℕ
  pub is_root : IsRoot S type
  pub bears : Bears S type

-- every number of the list has the property
pub data All (P : ℕ → Type 0) : List ℕ → Type 0 where
  none : All P []
  both : {j : ℕ} {w : List ℕ} → P j → All P w → All P (j ∷ w)

-- "Only steps by such types count from here on": a list of tree-bearing types
abbrev pub AllBear : Schema → List ℕ → Type 0
AllBear S w = All (Bears S) w

-- "A state is live if an accepting state can be reached from it": the state q of the type a. The field calls such a state coaccessible.
pub record Live (S : Schema) (a q : ℕ) : Type 0 where
  pub word : List ℕ
  pub accepts : Accepts (block_of S a) q word
  pub bear : AllBear S word

-- "A type is reached if it is [a] root type, or stands in a word of a reached type"; "each root type is reached". The field calls such a
-- type reachable.
pub data Reached (S : Schema) : ℕ → Type 0 where
  root : {a : ℕ} → IsRoot S a → Reached S a
  child : {a j : ℕ} {w : List ℕ} → Reached S a → Word (block_of S a) w → AllBear S w → Memᴰ j w → Reached S j

-- The type is used: some typing of some valid document gives it to an element.
pub record Used (S : Schema) (a : ℕ) : Type 0 where
  pub whole : List Event
  pub valid : Valid S whole
  pub given : Memᴰ a (types_of valid)

-- a type whose block trimming keeps
abbrev pub Useful : Schema → ℕ → Type 0
Useful S a = Reached S a × Bears S a

-- a step of the type a that trimming keeps: by a tree-bearing type, between live states, in a useful type
pub record KeptStep (S : Schema) (a : ℕ) (s : Step) : Type 0 where
  pub given : Memᴰ s (block_of S a).steps
  pub useful : Useful S a
  pub by_bearing : Bears S s.by
  pub from_live : Live S a s.from
  pub to_live : Live S a s.to

-- S' is S trimmed: the same tags, types, numbers and roots; a block that is unreached or bears no tree is emptied, and of the others just the
-- steps by tree-bearing types between live states are kept. Source document 000 removes the useless types themselves; document 01 keeps
-- their numbers.
pub record Trimmed (S S' : Schema) : Type 0 where
  pub tags : S'.tags ≡ S.tags
  pub types : length S'.blocks ≡ length S.blocks
  pub roots : S'.roots ≡ S.roots
  pub own_tags : (a : ℕ) → tag_of S' a ≡ tag_of S a
  pub states : (a : ℕ) → (block_of S' a).states ≡ (block_of S a).states
  pub nillable : (a : ℕ) → Nillable S' a ↔ (Nillable S a × Useful S a)
  pub accepting : (a q : ℕ) → Memᴰ q (block_of S' a).accepting ↔ (Memᴰ q (block_of S a).accepting × Useful S a)
  pub steps : (a : ℕ) (s : Step) → Memᴰ s (block_of S' a).steps ↔ KeptStep S a s

-- Tests of a schema's types and states: is the type reached, does it bear a tree, is the state of the type live?
pub record TypeTests : Type 0 where
  pub reached : ℕ → Bool
  pub bears : ℕ → Bool
  pub live : ℕ → ℕ → Bool

-- is the block of the type a kept?
unfoldable pub keeps_type : TypeTests → ℕ → Bool
keeps_type t a = t.reached a && t.bears a

-- is the step of the type a kept?
unfoldable pub keeps_step : TypeTests → ℕ → Step → Bool
keeps_step t a s = keeps_type t a && t.bears s.by && t.live a s.from && t.live a s.to

-- the steps that pass, in order
abbrev pub kept_steps : (Step → Bool) → List Step → List Step
kept_steps passes [] = []
kept_steps passes (s ∷ ss) = cond (passes s) (s ∷ kept_steps passes ss) (kept_steps passes ss)

-- the block of the type a, trimmed
unfoldable pub trim_at : TypeTests → ℕ → Block → Block
trim_at t a b =
    record {
      tag = b.tag;
      nillable = keeps_type t a && b.nillable;
      states = b.states;
      accepting = cond (keeps_type t a) b.accepting [];
      steps = kept_steps (keeps_step t a) b.steps;
    }

-- the blocks of the types from a on, trimmed
unfoldable pub trim_from : TypeTests → ℕ → List Block → List Block
trim_from t a [] = []
trim_from t a (b ∷ bs) = trim_at t a b ∷ trim_from t (suc a) bs

-- The schema trimmed by tests.
unfoldable pub trimmed_by_tests : TypeTests → Schema → Schema
trimmed_by_tests t S = record { tags = S.tags; blocks = trim_from t 0 S.blocks; roots = S.roots }
