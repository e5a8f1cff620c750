-- `StateSet::with` meets its contract: the test of the state, shifted, is no state for one past the limit, and the state's own digit for any other.
use mathlib.Core.Path.{◌≡◌, sym, ap, ◌∙◌}
use Prim.Native.Nat.{ℕ, ◌*◌, ◌%◌, ◌^◌}
use native.Mathlib.Nat.{mod-eq_of_lt, one-mul, zero-mul}
use native.Mathlib.Decide.{dec_lt}
use native.Mathlib.Omega.{arith}
use borrow.Author.Tests.{lt-ltb, le-ltb}
use mir.Syntax.{w32}
use mir.Val.{bool_byte, bits}
use lib.Dec.{ltb}
use lib.Bits.{bit_or, or_zero_r}
use lib.Pow.{shl_exact}
use Rattle.sdtd.specs.Limits.{most_states}
use Rattle.schema.specs.States.{insert}
use Rattle.schema.proofs.Bits.{insert_out, or_insert}
use Rattle.schema.proofs.state_set.StateSet.with.Goals as goal

shifted : (s x : ℕ) → bit_or x (bool_byte (ltb s most_states) * 2 ^ (s % most_states) % 2 ^ bits w32) ≡ insert s x
shifted s x =
    elim (dec_lt s most_states) [
      | yes l ↦
          rw (lt-ltb s most_states l, mod-eq_of_lt l)
          (ap (bit_or x) (shl_exact 1 s (bits w32) (omega arith) (omega arith) ∙ one-mul (2 ^ s)) ∙ or_insert s x l)
      | no n ↦ rw (le-ltb s most_states (omega arith), zero-mul) (or_zero_r x ∙ sym (insert_out s x (omega arith)))
    ]

pub returns : goal.returns
returns c = rw (c.from.ensures, c.from-2.ensures) (shifted c.args.state c.args.self.0)
