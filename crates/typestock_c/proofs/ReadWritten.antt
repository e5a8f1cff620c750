-- The writer's answer is read back from its numbers: 0 exactly where a file is written, and else 2 to 9 or 20 to 23.
use mathlib.Core.Path.{◌≡◌, refl, sym, ap, subst}
use mathlib.Core.Logic.{◌↔◌, ◌⊎◌, inl, inr, ⊎_elim}
use mathlib.Core.List.{List}
use Prim.Native.Nat.{ℕ, ◌≤◌}
use native.Mathlib.Omega.{arith}
use Rattle.sdtd.specs.Output.{Output, writes_nothing, FileWritten, Length, Refused}
use Rattle.commands.specs.File.{Commands, stopped, states, commands}
use Rattle.commands.proofs.Passing.{CommandNumber, stopped_number}
use Rattle.schema_writer.specs.Answer.{OutputBy, WriteMeans}
use Rattle.schema_writer.proofs.Outcomes.{WrittenOf, written_of}
use Rattle.typestock_c.specs.Numbers.{written_numbers}
use Rattle.typestock_c.specs.Exports.{WrittenMeans}
use Rattle.typestock_c.specs.declared.TypestockWritten.{TypestockWritten}

-- the numbers of the writer's refusals
abbrev pub RefusalNumber : ℕ → Type 0
RefusalNumber n = ((2 ≤ n) × (n ≤ 9)) ⊎ ((20 ≤ n) × (n ≤ 23))

-- a file is written, or the answer is one of these numbers and the buffer is as it was
abbrev Known : List ℕ → List ℕ → FileWritten → Type 0
Known was is (Length n) = Unit
Known was is (Refused n) = RefusalNumber n × (is ≡ was)

abbrev KnownOutput : List ℕ → Output → Type 0
KnownOutput was o = Known was o.buffer o.answer

refused : {was : List ℕ} {o : Output} {n : ℕ} → o ≡ writes_nothing was n → RefusalNumber n → KnownOutput was o
refused {was} e k = subst (KnownOutput was) (sym e) (k, refl)

command_number : (n : ℕ) → CommandNumber n → RefusalNumber n
command_number n k = ⊎_elim (λ l. inl (k.0, omega arith)) (λ l. inr (omega arith, l.1)) k.1

not_zero : (n : ℕ) → RefusalNumber n → n ≡ 0 → ⊥
not_zero n k z = ⊎_elim (λ l. absurd (omega arith)) (λ l. absurd (omega arith)) k

known_by : (file : List ℕ) (k : Commands) → commands file ≡ k → (was : List ℕ) (o : Output) → OutputBy file k was o → KnownOutput was o
known_by file (stopped n p) e was o r = refused r (command_number n (stopped_number file e))
known_by file (states g) e was o (inl r) = refused r.1 (inl (omega arith, omega arith))
known_by file (states g) e was o (inr (known, inl r)) = refused r.1 (inl (omega arith, omega arith))
known_by file (states g) e was o (inr (known, inr (bears, inl r))) = refused r.1 (inl (omega arith, omega arith))
known_by file (states g) e was o (inr (known, inr (bears, inr (free, w)))) =
    ⊎_elim (λ r. refused r.1 (inr (omega arith, omega arith))) (λ r. subst (KnownOutput was) (sym r.1) tt) w.output

-- What the numbers of a refusal say.
pub record RefusedAlone (was is : List ℕ) (a : FileWritten) (r : TypestockWritten) : Type 0 where
  pub answer : a ≡ Refused r.number
  pub among : RefusalNumber r.number
  pub no_length : r.length ≡ 0
  pub untouched : is ≡ was

-- a length that is written is told by 0 and the length
length_told : (was is : List ℕ) (a : FileWritten) → Known was is a → (n : ℕ)
    → (a ≡ Length n) ↔ (((written_numbers a).number ≡ 0) × ((written_numbers a).length ≡ n))
length_told was is (Length k) h n = (λ e. (refl, ap (λ (a : FileWritten). (written_numbers a).length) e), λ e. ap Length e.1)
length_told was is (Refused k) h n = (
  λ e. absurd (not_zero k h.0 (ap (λ (a : FileWritten). (written_numbers a).number) e)),
  λ e. absurd (not_zero k h.0 e.0),
)

written_or_refused : (was is : List ℕ) (a : FileWritten) → Known was is a
    → ((written_numbers a).number ≡ 0) ⊎ RefusedAlone was is a (written_numbers a)
written_or_refused was is (Length n) h = inl refl
written_or_refused was is (Refused n) h = inr (record { answer = refl; among = h.0; no_length = refl; untouched = h.1 })

module _ {file was is : List ℕ} {r : TypestockWritten} (m : WrittenMeans file was is r) where
  known : Known was is m.written
  known = known_by file (commands file) refl was (record { answer = m.written; buffer = is }) m.means

  -- The writer's number is 0 exactly where a file is written, of the length that stands beside it.
  pub written_told : (n : ℕ) → (m.written ≡ Length n) ↔ ((r.number ≡ 0) × (r.length ≡ n))
  written_told n =
      subst (λ (x : TypestockWritten). (m.written ≡ Length n) ↔ ((x.number ≡ 0) × (x.length ≡ n))) (sym m.numbers)
      (length_told was is m.written known n)

  pub zero_written : r.number ≡ 0 → m.written ≡ Length r.length
  zero_written z = (written_told r.length).1 (z, refl)

  -- so the buffer then holds the file without the types that no valid document uses
  pub zero_written_of : r.number ≡ 0 → WrittenOf file was is r.length
  zero_written_of z = written_of file was is r.length (subst (WriteMeans file was is) (zero_written z) m.means)

  -- Where it is not 0 it is 2 to 9 or 20 to 23, alone, and the buffer is as it was.
  pub zero_or_refused : (r.number ≡ 0) ⊎ RefusedAlone was is m.written r
  zero_or_refused =
      subst (λ (x : TypestockWritten). (x.number ≡ 0) ⊎ RefusedAlone was is m.written x) (sym m.numbers)
      (written_or_refused was is m.written known)

  -- The writer's number is 0, 2 to 9 or 20 to 23.
  pub written_range : (r.number ≡ 0) ⊎ RefusalNumber r.number
  written_range = ⊎_elim inl (λ a. inr a.among) zero_or_refused
