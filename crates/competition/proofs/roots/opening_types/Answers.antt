-- `competition::roots::opening_types` meets its contract: inside the limits the tables of roots and of ways tell.
use Rattle.competition.proofs.RootLaws.{opens_exactly}
use Rattle.competition.proofs.roots.opening_types.Goals as goal

pub returns : goal.returns
returns c =
    rw c.ways_of_roots.ensures (opens_exactly _ _ c.root_types-roots.result c.requires.0 c.requires.1 c.root_types-roots.ensures)
