-- The bytes of a type's block by its states, from the schema's value.
use mathlib.Core.Path.{◌≡◌, ap, ◌∙◌}
use mathlib.Core.Bool.{Bool}
use mathlib.Core.List.{List, ◌++◌, map}
use Prim.Native.Nat.{ℕ, suc, ◌+◌, ◌≤◌, ◌<◌}
use native.Mathlib.Omega.{arith}
use lib.ListN.{get_or}
use Rattle.sdtd.specs.Limits.{most_types, most_steps}
use Rattle.sdtd.specs.Numbered.{tag_no}
use Rattle.sdtd.specs.Schema.{Block, block_of, WithinLimits}
use Rattle.sdtd.specs.Reduced.{block_left}
use Rattle.schema.specs.States.{members}
use Rattle.schema.specs.Value.{steps_of, offset, block_at, meaning}
use Rattle.schema.specs.declared.value.Schema.{Schema}
use Rattle.schema.proofs.LimitLaws.{within_room}
use Rattle.schema.proofs.Values.{offset_step, offset_up, block_of_lem}
use Rattle.command.specs.Command.{bytes_of, file_of}
use Rattle.command.specs.declared.Command.TheVariants.{TypeBlock, Final}
use Rattle.command.proofs.CommandLaws.{file_append}
use Rattle.schema_writer.specs.Left.{step_command, block_commands}
use Rattle.schema_writer.proofs.LeftLaws.{step_bytes}

-- where the tables of a value inside the limits have the type a
pub record TypeRoom (v : Schema) (a : ℕ) : Type 0 where
  pub type : a < most_types
  pub steps : offset v.steps a + get_or v.steps a 0 ≤ most_steps

module _ (v : Schema) (a : ℕ) (l : a < v.types) where
  pub type_room : WithinLimits (meaning v) → TypeRoom v a
  type_room w =
      let r = within_room v w in
      record {
        type = omega (arith, r.types);
        steps = omega (arith, r.steps, offset_step v.steps a, offset_up v.steps (suc a) v.types l);
      }

  pub block_bytes : (kept : ℕ → Bool)
      → file_of (block_commands (block_left kept (block_of (meaning v) a)))
      ≡ bytes_of (TypeBlock (tag_no (get_or v.tag a 0)) (get_or v.states a 0))
      ++ (file_of (map Final (members (get_or v.accepting a 0)))
      ++ step_bytes kept (steps_of v.from v.by v.to (offset v.steps a) (get_or v.steps a 0)))
  unfolding block_at block_left file_of
  block_bytes kept =
      let b = block_left kept (block_at v a) in
      ap (λ (x : Block). file_of (block_commands (block_left kept x))) (block_of_lem v a l)
      ∙ ap (λ (l : List ℕ). bytes_of (TypeBlock (tag_no b.tag) b.states) ++ l)
      (file_append (map Final b.accepting) (map step_command b.steps))
