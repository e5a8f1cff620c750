-- `schema::tables::trim` meets its contract: outside the limits there are no live states, and the tables are of nothing.
use mathlib.Core.Path.{refl, ap}
use Rattle.schema.proofs.tables.trim.Goals as goal

pub returns-in-None-clause-means : goal.returns-in-None-clause-means
returns-in-None-clause-means c =
    let out = c.in-None.ensures.means in (
      record { inside = (λ f. absurd f, λ w. absurd (out w)); exact = λ w. absurd (out w); outside = λ n. refl },
      record { rows = λ w. absurd (out w); outside = λ n. (ap (λ t. t.entries) c.clear_rows.ensures, ap (λ t. t.begins) c.clear_rows.ensures) },
    )
