-- Document 02, Req 06: types that no valid document uses, and the schema without them. The field calls a schema without such types reduced.
use Rattle.std.specs.Prelude.{Bool, cond, ◌↔◌, List, [], ◌∷◌, map, ℕ, zero, suc, ◌<◌, T, length}
use Rattle.sdtd.specs.Schema.{Step, step, Block, Schema}
use Rattle.sdtd.specs.Trim.{Used, kept_steps}
use Rattle.sdtd.specs.Answer.{Question, ask}

-- there is no "type that no valid document uses"
abbrev pub EveryTypeUsed : Schema → Type 0
EveryTypeUsed S = (a : ℕ) → a < length S.blocks → Used S a

-- "A file with a type that no valid document uses is refused": of each of the n types from the type a on, in order, whether it is used. The first
-- that is not decides.
abbrev pub used_asked : {A : Type 0} → (ℕ → A) → Schema → ℕ → ℕ → List (Question A)
used_asked refusal S a zero = []
used_asked refusal S a (suc n) = ask (refusal a) (Used S a) ∷ used_asked refusal S (suc a) n

-- the test tells exactly which types are used: these are kept
abbrev pub TellsUsed : Schema → (ℕ → Bool) → Type 0
TellsUsed S kept = (a : ℕ) → T (kept a) ↔ Used S a

-- "numbers closed up in order": the new number of a kept type is how many kept ones stand before it
unfoldable pub new_number : (ℕ → Bool) → ℕ → ℕ
new_number kept zero = 0
new_number kept (suc a) = cond (kept a) (suc (new_number kept a)) (new_number kept a)

-- "without those types and the steps by them": the steps by kept types, in order, with their new numbers
abbrev pub relabel_step : (ℕ → ℕ) → Step → Step
relabel_step image s = step s.from (image s.by) s.to

unfoldable pub steps_left : (ℕ → Bool) → List Step → List Step
steps_left kept ss = map (relabel_step (new_number kept)) (kept_steps (λ s. kept s.by) ss)

-- a kept type's block: its tag, its states and whether it is nillable stay
unfoldable pub block_left : (ℕ → Bool) → Block → Block
block_left kept b =
    record { tag = b.tag; nillable = b.nillable; states = b.states; accepting = b.accepting; steps = steps_left kept b.steps }

-- the kept ones of the blocks from the type a on
unfoldable pub blocks_left : (ℕ → Bool) → ℕ → List Block → List Block
blocks_left kept a [] = []
blocks_left kept a (b ∷ bs) = cond (kept a) (block_left kept b ∷ blocks_left kept (suc a) bs) (blocks_left kept (suc a) bs)

-- "a ROOT of a dropped type goes too"
unfoldable pub roots_left : (ℕ → Bool) → List ℕ → List ℕ
roots_left kept [] = []
roots_left kept (a ∷ rs) = cond (kept a) (new_number kept a ∷ roots_left kept rs) (roots_left kept rs)

-- The schema without the types that are not kept.
unfoldable pub reduced : (ℕ → Bool) → Schema → Schema
reduced kept S = record { tags = S.tags; blocks = blocks_left kept 0 S.blocks; roots = roots_left kept S.roots }
