-- `next` takes the lowest of the states that are left.
use mathlib.Core.Path.{ap}
use native.Mathlib.Omega.{arith}
use lib.ListN.{length}
use Rattle.schema.proofs.LowestState.{members_none, members_first}
use Rattle.schema.proofs.state_set.StatesIterator.next.Goals as goal

pub returns-then-self-eq0-clause-steps : goal.returns-then-self-eq0-clause-steps
returns-then-self-eq0-clause-steps c =
    let none = members_none c.args.self.now.rest (omega arith) in (none, none)

pub returns-clause-steps : goal.returns-clause-steps
returns-clause-steps c = members_first c.args.self.now.rest (omega arith) (omega arith)

pub returns-clause-goes : goal.returns-clause-goes
returns-clause-goes c =
    record { on = λ f. (tt, tt, omega (arith, ap length (members_first c.args.self.now.rest (omega arith) (omega arith)))); keeps = tt; rests = λ f. tt }
