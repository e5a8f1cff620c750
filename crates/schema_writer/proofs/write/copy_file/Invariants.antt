-- `schema_writer::write::copy_file` meets its contract. The loop's invariant: the rest of the file, laid from the place i on, makes the claim.
use mathlib.Core.Path.{◌≡◌}
use Prim.Native.Nat.{◌-◌, ◌≤◌}
use lib.ListN.{length, drop}
use lib.Seq.{sets}
use Rattle.schema_writer.proofs.write.copy_file.Given as goal

abbrev pub invariant-loop-i : goal.invariant-loop-i
invariant-loop-i l = (length l.out ≡ length l.initial.out) × (l.i ≤ length l.file) × (sets l.out l.i (drop l.i l.file) ≡ sets l.initial.out 0 l.file)

abbrev pub decreases-loop-i : goal.decreases-loop-i
decreases-loop-i l = length l.file - l.i
