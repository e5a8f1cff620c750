-- `StateSet::has` meets its contract: no state past the limit is in the set, and `& 1` of the set shifted is the digit of any other.
use mathlib.Core.Path.{sym}
use native.Mathlib.Omega.{arith}
use Rattle.schema.proofs.Bits.{member_out}
use Rattle.schema.proofs.state_set.StateSet.has.Goals as goal

pub returns-then-state-ge-STATES : goal.returns-then-state-ge-STATES
returns-then-state-ge-STATES c = sym (member_out c.args.state c.args.self.0 (omega arith) (omega arith))
