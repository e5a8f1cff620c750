-- `schema_writer::blocks::put_finals` meets its contract. The loop's invariant: with the FINALs that are left the page is what all of them make of it.
use mathlib.Core.Path.{◌≡◌}
use mathlib.Core.List.{map}
use Rattle.schema.specs.States.{members}
use Rattle.schema.specs.StatesLeft.{states_left}
use Rattle.command.specs.Command.{file_of}
use Rattle.command.specs.declared.Command.TheVariants.{Final}
use Rattle.text.specs.Page.{sheet, laid}
use Rattle.schema_writer.proofs.blocks.put_finals.Given as goal

abbrev pub invariant-loop-q : goal.invariant-loop-q
invariant-loop-q l =
    (l.page.out.ghost_name ≡ l.initial.page.out.ghost_name)
    × (laid (sheet l.page) (file_of (map Final (states_left l.q-iterator))) ≡ laid (sheet l.initial.page) (file_of (map Final (members l.fn.accepting.0))))
