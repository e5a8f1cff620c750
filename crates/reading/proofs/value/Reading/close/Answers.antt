-- `close` meets its contract: question 10, then the step.
use Prim.Native.Nat.{ℕ}
use borrow.Author.Rules.{rules}
use lib.ListN.{get_or}
use mir.Syntax.{w32}
use mir.Val.{Fits as FitsIn}
use Rattle.schema.proofs.FirstTables.{Fits}
use Rattle.reading.proofs.StepLaws.{close_step_means}
use Rattle.reading.proofs.value.Reading.close.Goals as goal

pub returns : goal.returns
returns c =
    let fits : Fits c.args.schema.now =
    record { accepting_long = search rules; accepting_below = c.if-not-both_within.ensures.sets } in
    let below : (n : ℕ) → FitsIn w32 (get_or c.args.self.sets n 0) = λ n. search rules in
    rw (c.step_close-answer.ensures, c.inner_of-own.ensures)
    (close_step_means fits (c.if-not-both_within.ensures.ten.0 tt) (λ n. (below n).fits) c.args.tag.0)
