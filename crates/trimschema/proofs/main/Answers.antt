-- `trimschema::main` is safe and ends: what is written ends inside the output.
use mathlib.Core.Path.{refl, sym}
use lib.Seq.{length-take-le}
use Rattle.schema_writer.proofs.Outcomes.{length_inside}
use Rattle.trimschema.proofs.main.Goals as goal

pub slice_bounds-out-end : goal.slice_bounds-out-end
slice_bounds-out-end c = length_inside _ _ _ c.in-Ok.ensures refl

pub slice_bounds-write_all-end : goal.slice_bounds-write_all-end
slice_bounds-write_all-end c = sym (length-take-le _ _ (length_inside _ _ _ c.in-Ok.ensures refl))
