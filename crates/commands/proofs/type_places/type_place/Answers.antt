-- The loop's invariant: the type sought is the type number `left` from `at` on.
use mathlib.Core.Path.{◌≡◌, sym, ◌∙◌}
use Rattle.std.proofs.Common.{Some}
use Rattle.command.specs.Command.{command_at}
use Rattle.commands.proofs.TypePlaces.{type_missing, type_here, type_later, type_other}
use Rattle.commands.proofs.type_places.type_place.Goals as goal
use Rattle.commands.proofs.type_places.type_place.Goals.{then-is_type+else-left-eq0, else-is_type}

pub returns-then-left-eq0 : goal.returns-then-left-eq0
returns-then-left-eq0 c =
    let l = c.loop-command in
    let stands : command_at c.args.file.now l.at ≡ Some c.in-Some.command = sym c.command_at.ensures ∙ c.in-Some.is in
    sym (type_here c.args.file.now l.at l.left stands (sym c.is_type.ensures ∙ c.if-is_type.true) c.if-left-eq0.true) ∙ l.invariant

pub loop-command-preserved : goal.loop-command-preserved
loop-command-preserved c =
    let l = c.loop-command in
    let stands : command_at c.args.file.now l.at ≡ Some c.in-Some.command = sym c.command_at.ensures ∙ c.in-Some.is in
    rw c.size-at.ensures
    (elim c.if-is_type.branch [
      | then-is_type+else-left-eq0 w ↦
          rw w.left-is (type_later c.args.file.now l.at l.left stands (sym c.is_type.ensures ∙ w.if-is_type.true) w.if-left-eq0.false ∙ l.invariant)
      | else-is_type w ↦
          rw w.left-is (type_other c.args.file.now l.at l.left stands (sym c.is_type.ensures ∙ w.if-is_type.false) ∙ l.invariant)
    ])

pub returns : goal.returns
returns c =
    sym (type_missing c.args.file.now c.loop-command.at c.loop-command.left (sym c.command_at.ensures ∙ c.in_default.is)) ∙ c.loop-command.invariant
