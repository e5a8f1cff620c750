-- What holds of the first entries of the table holds of each root.
use native.Mathlib.Omega.{arith}
use Prim.Native.Nat.{◌<◌}
use borrow.Author.Rules.{rules}
use Rattle.schema.proofs.RootLaws.{roots_taken}
use Rattle.schema.proofs.roots.roots_within.Goals as goal

pub returns : goal.returns
returns c =
    let v = c.args.schema.now in
    let below = rw c.from-n.ensures at c.roots_below.ensures in
    let is = roots_taken (λ x. x < v.types) v.root v.roots (search rules) in (
      λ t. record { least = omega arith; most = omega arith; below = is.0 (below.0 t) },
      λ w. below.1 (is.1 w.below),
    )
