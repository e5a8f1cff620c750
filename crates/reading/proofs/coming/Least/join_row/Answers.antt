-- A turn takes the first of the entries that are left.
use Rattle.std.proofs.Common.{rules}
use Rattle.std.proofs.lemmas.List.{drop_more}
use Rattle.reading.proofs.ComingLaws.{joins_most, joins_first}
use Rattle.reading.specs.Coming.{entry_moves}
use Rattle.reading.specs.Sought.{kind_sought, tag_sought}
use Rattle.reading.proofs.coming.Least.join_row.Goals as goal

pub loop-e-preserved : goal.loop-e-preserved
loop-e-preserved c =
    let i = c.loop-e.invariant in
    let o = c.args.o in
    (joins_most _ _ _ c.join_entry.ensures i.0, joins_first (entry_moves (kind_sought o.n) (tag_sought o.n)) _ (drop_more c.args.row.now c.loop-e.e-index 0 (search rules)) c.join_entry.ensures i.1)
