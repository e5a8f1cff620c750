-- `next` gives the first of the steps that are left.
use mathlib.Core.Path.{ap}
use native.Mathlib.Omega.{arith}
use lib.ListN.{length}
use Rattle.schema.proofs.Values.{steps_none, steps_first}
use Rattle.schema.proofs.steps.StepsIterator.next.Goals as goal

pub returns-then-n-eq0-clause-steps : goal.returns-then-n-eq0-clause-steps
returns-then-n-eq0-clause-steps c =
    let none = steps_none _ _ _ c.args.self.now.span.start c.args.self.now.span.n (omega arith) in (none, none)

pub returns-clause-steps : goal.returns-clause-steps
returns-clause-steps c = rw c.step.ensures (steps_first _ _ _ c.args.self.now.span.start c.args.self.now.span.n (omega arith))

pub returns-clause-goes : goal.returns-clause-goes
returns-clause-goes c =
    let v = c.args.self.now.schema.now in
    let s = c.args.self.now.span in
    let more = steps_first v.from v.by v.to s.start s.n (omega arith) in
    record { on = λ f. (tt, tt, omega (arith, ap length more)); keeps = tt; rests = λ f. tt }
