-- `schema_writer::blocks::put_block` meets its contract: its TYPE, then its FINALs, then its steps.
use mathlib.Core.Path.{◌≡◌, sym, ap, ◌∙◌}
use lib.ListN.{get_or}
use Rattle.schema.specs.Value.{offset}
use native.Mathlib.Omega.{arith}
use Rattle.text.specs.Page.{sheet, laid}
use Rattle.text.proofs.PageLaws.{laid_then}
use Rattle.schema_writer.specs.Laying.{kept_by}
use Rattle.schema_writer.proofs.BlockLaws.{TypeRoom, type_room, block_bytes}
use Rattle.schema_writer.proofs.blocks.put_block.Goals as goal

pub bounds-schema-i : goal.bounds-schema-i
bounds-schema-i c =
    let room : TypeRoom c.args.schema.now c.args.a.0 = type_room _ _ c.requires.1 c.requires.0 in
    omega (arith, c.from-i.ensures, room.type)

pub bounds-schema-i-2 : goal.bounds-schema-i-2
bounds-schema-i-2 c =
    let room : TypeRoom c.args.schema.now c.args.a.0 = type_room _ _ c.requires.1 c.requires.0 in
    omega (arith, c.from-i.ensures, room.type)

pub bounds-schema-i-3 : goal.bounds-schema-i-3
bounds-schema-i-3 c =
    let room : TypeRoom c.args.schema.now c.args.a.0 = type_room _ _ c.requires.1 c.requires.0 in
    omega (arith, c.from-i.ensures, room.type)

pub returns : goal.returns
returns c =
    let a = c.args in
    let head = rw c.from-i.ensures at c.put_command.ensures.1 in
    let finals = rw c.from-i.ensures at c.put_finals.ensures.1 in
    let room : TypeRoom a.schema.now a.a.0 = type_room _ _ c.requires.1 c.requires.0 in
    let start : c.span.result.start ≡ offset a.schema.now.steps a.a.0 = omega (arith, c.span.ensures.start, room.steps) in
    let n : c.span.result.n ≡ get_or a.schema.now.steps a.a.0 0 = omega (arith, c.span.ensures.n, start, room.steps) in
    let steps = rw (c.steps_in.ensures, start, n) at c.put_steps.ensures.1 in (
      c.put_steps.ensures.0 ∙ c.put_finals.ensures.0 ∙ c.put_command.ensures.0,
      laid_then _ _ _ head (laid_then _ _ _ finals steps)
          ∙ ap (laid (sheet a.page.now)) (sym (block_bytes a.schema.now a.a.0 c.requires.1 (kept_by a.kept.now.kept))),
    )
