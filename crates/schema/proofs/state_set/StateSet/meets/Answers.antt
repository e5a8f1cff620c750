-- `StateSet::meets` meets its contract: `&` of two sets is not 0 exactly when they have a state in common.
use native.Mathlib.Omega.{arith}
use Rattle.schema.proofs.Bits.{and_is_meet}
use Rattle.schema.proofs.state_set.StateSet.meets.Goals as goal

pub returns : goal.returns
returns c =
    and_is_meet c.args.self.0 c.args.other.0 (omega arith) (omega arith)
