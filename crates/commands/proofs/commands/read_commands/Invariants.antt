-- The loop's invariant: what is built holds what the commands so far state, and the commands from the place on decide. The measure is what is
-- left of the file: a command that passed ends inside it, and so does an expression.
use Prim.Native.Nat.{◌-◌}
use lib.ListN.{length}
use Rattle.commands.proofs.OneByOne.{Reads}
use Rattle.commands.proofs.commands.read_commands.Given as goal

abbrev pub invariant-loop-built : goal.invariant-loop-built
invariant-loop-built l = Reads l.file l.at l.built

abbrev pub decreases-loop-built : goal.decreases-loop-built
decreases-loop-built l = length l.file - l.at
