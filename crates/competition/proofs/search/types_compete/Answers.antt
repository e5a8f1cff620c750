-- `competition::search::types_compete` meets its contract: by the tables of the trimming and the rows, what the search finds is the smallest
-- type in which two compete, with a shortest word after which two compete in it; or there is none.
use mathlib.Core.Path.{refl}
use Rattle.competition.proofs.SearchMeaning.{none_compete, competing_written}
use Rattle.competition.proofs.search.types_compete.Goals as goal

pub returns-in-Some : goal.returns-in-Some
returns-in-Some c =
    let given = c.requires in
    let f = rw (c.used_in-used.ensures, c.in-Some.is) at c.first_competing.ensures in
    competing_written _ _ _ _ given.0 given.1 given.2 given.3 _ _ _ _ _ f.0 f.1 _ _ c.write_witness.ensures

pub returns : goal.returns
returns c =
    let given = c.requires in
    (none_compete _ _ _ _ given.0 given.1 given.2 given.3 (rw (c.used_in-used.ensures, c.in_default.is) at c.first_competing.ensures), refl)
