-- `schema_writer::write::copy_file` meets its contract. The loop's invariant: the rest of the file, laid from the place i on, makes the claim.
use mathlib.Core.Path.{sym, ap, ◌∙◌}
use lib.ListN.{drop_of_length-le}
use lib.Seq.{sets}
use Rattle.schema_writer.proofs.Answered.{sets_whole}
use Rattle.schema_writer.proofs.write.copy_file.Goals as goal

pub returns : goal.returns
returns c =
    let l = c.loop-i in
    ap (sets l.out l.i) (sym (drop_of_length-le c.args.file.now {i = l.i} c.loop-i-test.false)) ∙ l.invariant.2
    ∙ sets_whole c.args.out.now c.args.file.now c.requires
