-- `StateSet::below` meets its contract: a set of states below the count is a number below the power of 2.
use mathlib.Core.Path.{◌≡◌, ◌∙◌}
use Prim.Native.Nat.{ℕ, ◌*◌, ◌^◌, ◌%◌, ◌≤◌}
use native.Mathlib.Nat.{one-mul}
use native.Mathlib.Omega.{arith}
use lib.Dec.{ltb→lt, lt→ltb}
use lib.Pow.{shl_exact}
use mir.Syntax.{w64}
use mir.Val.{bits}
use Rattle.sdtd.specs.Limits.{most_states}
use Rattle.schema.proofs.Bits.{member_below, states_below}
use Rattle.schema.proofs.state_set.StateSet.below.Goals as goal

pub returns-then-count-ge-STATES : goal.returns-then-count-ge-STATES
returns-then-count-ge-STATES c = (λ t q m. omega (arith, member_below q c.args.self.0 (omega arith) m), λ h. tt)

-- the shift loses nothing
shifted : (n : ℕ) → n ≤ most_states → 1 * 2 ^ n % 2 ^ bits w64 ≡ 2 ^ n
shifted n l = shl_exact 1 n (bits w64) (omega arith) (omega arith) ∙ one-mul (2 ^ n)

pub returns : goal.returns
returns c =
    let x = c.args.self.0 in
    let n = c.args.count in
    let below = states_below n x (omega arith) (omega arith) in
    rw (c.from.ensures, c.from-2.ensures, shifted n (omega arith)) (λ t. below.0 (ltb→lt x (2 ^ n) t), λ h. lt→ltb x (2 ^ n) (below.1 h))
