-- A closing of the innermost element's own tag is asked.
use mathlib.Core.Logic.Iff
use Prim.Native.Nat.{ℕ}
use lib.ListN.{get_or}
use mir.Syntax.{w32}
use mir.Val.{Fits as FitsIn}
use borrow.Author.Rules.{rules}
use Rattle.schema.proofs.FirstTables.{Fits}
use Rattle.reading.proofs.Asking.{ok_took, closing_told}
use Rattle.reading.proofs.stop.would_close.Goals as goal

pub returns : goal.returns
returns c =
    let fits : Fits c.args.schema.now =
    record { accepting_long = search rules; accepting_below = c.requires.0 } in
    let below : (n : ℕ) → FitsIn w32 (get_or c.args.reading.sets n 0) = λ n. search rules in
    rw c.is_ok.ensures.value
    (Iff.trans (ok_took c.step_close.result)
    (closing_told fits c.requires.1 (λ n. (below n).fits) c.inner_of-own.result c.inner_of-own.ensures _ c.step_close.ensures))
