-- Before the loop no tag is told.
use Rattle.reading.proofs.Asking.{told_none}
use Rattle.reading.proofs.stop.tags_first.Goals as goal

pub loop-g-init : goal.loop-g-init
loop-g-init c = told_none _
