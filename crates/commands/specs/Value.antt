-- The schema value that stands for what a file states, and the one that stands for no schema.
use Rattle.std.specs.Prelude.{◌≡◌, false, List, ℕ, ◌≤◌, get_or, replicate}
use Rattle.sdtd.specs.Limits.{most_types, most_roots, most_steps}
use Rattle.schema.specs.States.{no_states}
use Rattle.schema.specs.Value.{offset, meaning}
use Rattle.schema.specs.declared.value.Schema.{Schema}
use Rattle.commands.specs.File.{Stated, schema_by}

-- the schema value of no schema: no tag, no type, no root
abbrev pub no_schema : Schema
no_schema =
    record {
      tags = 0;
      types = 0;
      roots = 0;
      root = replicate most_roots 0;
      tag = replicate most_types 0;
      states = replicate most_types 0;
      accepting = replicate most_types no_states;
      nillable = replicate most_types false;
      steps = replicate most_types 0;
      from = replicate most_steps 0;
      by = replicate most_steps 0;
      to = replicate most_steps 0;
    }

-- the table holds d from the place n on
abbrev pub HoldsFrom : {A : Type 0} → A → ℕ → List A → Type 0
HoldsFrom d n table = (i : ℕ) → n ≤ i → get_or table i d ≡ d

-- it holds 0 from there on
abbrev pub EmptyFrom : ℕ → List ℕ → Type 0
EmptyFrom n table = HoldsFrom 0 n table

-- Past the roots, the types and the steps that the value uses, its tables hold 0, and false where they hold flags.
pub record UnusedEmpty (v : Schema) : Type 0 where
  pub root : EmptyFrom v.roots v.root
  pub tag : EmptyFrom v.types v.tag
  pub states : EmptyFrom v.types v.states
  pub accepting : EmptyFrom v.types v.accepting
  pub nillable : HoldsFrom false v.types v.nillable
  pub steps : EmptyFrom v.types v.steps
  pub from : EmptyFrom (offset v.steps v.types) v.from
  pub by : EmptyFrom (offset v.steps v.types) v.by
  pub to : EmptyFrom (offset v.steps v.types) v.to

-- The value of the schema that is stated: its used entries state that schema, and the others are 0 or false. No other value is one
-- (`one_result`).
pub record StatedValue (g : Stated) (v : Schema) : Type 0 where
  pub schema : meaning v ≡ schema_by g
  pub unused : UnusedEmpty v
