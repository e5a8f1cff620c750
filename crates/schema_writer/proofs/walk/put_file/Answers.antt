-- `schema_writer::walk::put_file` meets its contract, command after command.
use mathlib.Core.Path.{sym, ap, ◌∙◌}
use Prim.Native.Nat.{◌+◌}
use native.Mathlib.Omega.{arith}
use mir.Val.{bool_byte}
use Rattle.schema_writer.specs.Laying.{kept_by}
use Rattle.schema_writer.proofs.ContentLaws.{states_end}
use Rattle.schema_writer.proofs.FileLaws.{count_is, walked_none, walked_end, walked_block, walked_given}
use Rattle.schema_writer.proofs.walk.put_file.Goals as goal

pub loop-command-init : goal.loop-command-init
loop-command-init c = walked_none _ _ _ c.args.page.now

pub loop-command-smaller-in-Some-past_states : goal.loop-command-smaller-in-Some-past_states
loop-command-smaller-in-Some-past_states c =
    let l = c.loop-command in
    let ends = states_end (kept_by c.args.kept.now.kept) c.args.file.now (l.at + c.size.result) l.types c.in-Some.command
    (sym c.past_states.ensures ∙ c.in-Some-past_states.is) in
    omega (arith, ends.0, ends.1)

pub loop-command-preserved-in-Some-past_states : goal.loop-command-preserved-in-Some-past_states
loop-command-preserved-in-Some-past_states c =
    walked_block _ _ _ c.loop-command.invariant (sym c.command_at.ensures ∙ c.in-Some.is) (rw c.size.ensures at c.past_states.ensures)
    c.in-Some-past_states.is c.put_block.ensures

pub loop-command-preserved : goal.loop-command-preserved
loop-command-preserved c =
    rw c.size.ensures
    (walked_given _ _ _ c.loop-command.invariant (sym c.command_at.ensures ∙ c.in-Some.is) (rw c.size.ensures at c.past_states.ensures)
    c.in_default-past_states.is c.put_left.ensures (c.from-types.ensures ∙ ap bool_byte c.is_type.ensures ∙ sym (count_is c.in-Some.command)))

pub returns : goal.returns
returns c = walked_end _ _ _ c.loop-command.invariant (sym c.command_at.ensures ∙ c.in_default.is)
