-- What is copied stands in front of what is left of the table of nothing.
use mathlib.Core.Path.{ap, ◌∙◌}
use mathlib.Core.List.{◌++◌}
use lib.ListN.{take, drop, replicate}
use Rattle.std.proofs.lemmas.List.{drop-replicate}
use Rattle.schema.specs.Spread.{first_sets}
use Rattle.schema.proofs.tables.first_sets.Goals as goal

pub returns : goal.returns
unfolding first_sets
returns c =
    let n = c.args.types in
    ap (λ l. l ++ drop n (replicate 64 0)) c.copy_from_slice.ensures.after ∙ ap (λ l. take n c.args.sets.now ++ l) (drop-replicate n 64 0)
