-- `competition::search::roots_compete` meets its contract: two types of one tag that open a document alike are
-- roots that compete, and where there are none, no roots do.
use Rattle.competition.proofs.RootLaws.{rivals_found, no_rivals_found}
use Rattle.competition.proofs.search.roots_compete.Goals as goal

pub returns-in-Some : goal.returns-in-Some
returns-in-Some c =
    rivals_found _ _ c.requires.0 c.requires.1 _ _ (rw c.in-Some.is at c.rival_roots.ensures)
    c.args.witness.now _ c.write_head.ensures

pub returns : goal.returns
returns c =
    no_rivals_found _ _ c.requires.0 c.requires.1 (rw c.in_default.is at c.rival_roots.ensures) _
