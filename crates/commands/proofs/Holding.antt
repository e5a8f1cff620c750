-- What is built holds of the commands so far, while they are passed one after another.
use mathlib.Core.Path.{◌≡◌}
use mathlib.Core.List.{List, [], ◌∷◌}
use Prim.Native.Nat.{ℕ, ◌+◌, ◌≤◌, ◌<◌}
use lib.ListN.{length, get_or}
use Rattle.sdtd.specs.Limits.{most_types, most_steps}
use Rattle.schema.specs.Value.{step_at}
use Rattle.commands.specs.Questions.{rank}
use Rattle.sdtd.specs.Schema.{Step}
use Rattle.commands.specs.File.{Draft, Stated, current, step_count}
use Rattle.commands.specs.Value.{EmptyFrom}
use Rattle.commands.proofs.SchemaTables.{SchemaTables, tables_of}
use Rattle.commands.proofs.RootTables.{RootTable}
use Rattle.commands.proofs.NilTables.{NilTable}
use Rattle.commands.specs.declared.phase.Phase.TheVariants.{InBlock, InExpression}
use Rattle.commands.specs.declared.builder.Builder.{Builder}

-- the steps of a block, the last first, stand from the place s of the tables on
abbrev pub StepsHold : SchemaTables → List Step → ℕ → Type 0
StepsHold t [] s = Unit
StepsHold t (x ∷ xs) s =
    (step_at t.from t.by t.to (s + length xs) ≡ x) × StepsHold t xs s

-- the block d is the type a, whose steps stand from the place s on
pub record DraftHolds (t : SchemaTables) (d : Draft) (a s : ℕ) : Type 0 where
  pub tag : get_or t.tag a 0 ≡ d.tag
  pub states : get_or t.states a 0 ≡ d.states
  pub accepting : get_or t.accepting a 0 ≡ d.accepting
  pub count : get_or t.counts a 0 ≡ length d.steps
  pub steps : StepsHold t d.steps s

-- the blocks, the last first, are the types from 0 on
abbrev pub BlocksHold : SchemaTables → List Draft → Type 0
BlocksHold t [] = Unit
BlocksHold t (d ∷ ds) = DraftHolds t d (length ds) (step_count ds) × BlocksHold t ds

-- the tables have their lengths
pub record Sized (t : SchemaTables) : Type 0 where
  pub tag : length t.tag ≡ most_types
  pub states : length t.states ≡ most_types
  pub accepting : length t.accepting ≡ most_types
  pub counts : length t.counts ≡ most_types
  pub from : length t.from ≡ most_steps
  pub by : length t.by ≡ most_steps
  pub to : length t.to ≡ most_steps

-- past the first a types and the first n steps the tables hold 0
pub record EmptyPast (t : SchemaTables) (a n : ℕ) : Type 0 where
  pub tag : EmptyFrom a t.tag
  pub states : EmptyFrom a t.states
  pub accepting : EmptyFrom a t.accepting
  pub counts : EmptyFrom a t.counts
  pub from : EmptyFrom n t.from
  pub by : EmptyFrom n t.by
  pub to : EmptyFrom n t.to

-- What is built holds what is stated.
pub record Holds (g : Stated) (s : Builder) : Type 0 where
  pub sized : Sized (tables_of s.schema)
  pub phase : s.phase ≡ g.phase
  pub tags : s.schema.tags ≡ g.tags
  pub roots : s.schema.roots ≡ length g.roots
  pub root : RootTable s.schema.root g.roots
  pub nillable : NilTable s.schema.nillable g.blocks
  pub types : s.schema.types ≡ length g.blocks
  pub steps : s.steps ≡ step_count g.blocks
  pub types_most : s.schema.types ≤ most_types
  pub steps_most : s.steps ≤ most_steps
  pub some : rank InBlock ≤ rank g.phase → 0 < s.schema.types
  pub fresh : rank g.phase ≡ rank InExpression → (current g.blocks).steps ≡ []
  pub blocks : BlocksHold (tables_of s.schema) g.blocks
  pub empty : EmptyPast (tables_of s.schema) s.schema.types s.steps
