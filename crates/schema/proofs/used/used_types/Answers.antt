-- `schema::used::used_types` meets its contract: the tables are exact inside the limits.
use mathlib.Core.Path.{refl}
use Rattle.schema.proofs.UsedTables.{used_exactly}
use Rattle.schema.proofs.used.used_types.Goals as goal

pub returns-in-None : goal.returns-in-None
returns-in-None c = record { exact = λ w. absurd (c.in-None.ensures.means w); outside = λ n. refl }

pub returns-in-Some : goal.returns-in-Some
returns-in-Some c =
    let within = c.in-Some.ensures.means.0 in
    record { exact = λ w. rw c.used_in.ensures (used_exactly _ w c.trim_inside.ensures.1); outside = λ n. absurd (n within) }
