-- A command with the number of each type that it names replaced by its image.
use Rattle.std.specs.Prelude.{ℕ}
use Rattle.sdtd.specs.Numbered.{type_no}
use Rattle.command.specs.declared.Command.{Command}
use Rattle.command.specs.declared.Command.TheVariants.{Tags, TypeBlock, Final, Step, Root, Nil, Done, Expression}
use Rattle.command.specs.declared.Part.{Part}
use Rattle.command.specs.declared.Part.TheVariants.{OpenBracket, CloseBracket, Use, Or, Repeat, End}

abbrev pub relabel_part : (ℕ → ℕ) → Part → Part
relabel_part image OpenBracket = OpenBracket
relabel_part image CloseBracket = CloseBracket
relabel_part image (Use j) = Use (type_no (image j.0))
relabel_part image Or = Or
relabel_part image Repeat = Repeat
relabel_part image End = End

abbrev pub relabel_command : (ℕ → ℕ) → Command → Command
relabel_command image (Tags n) = Tags n
relabel_command image (TypeBlock g s) = TypeBlock g s
relabel_command image (Final q) = Final q
relabel_command image (Step p j q) = Step p (type_no (image j.0)) q
relabel_command image (Root a) = Root (type_no (image a.0))
relabel_command image Nil = Nil
relabel_command image Done = Done
relabel_command image (Expression x) = Expression (relabel_part image x)
