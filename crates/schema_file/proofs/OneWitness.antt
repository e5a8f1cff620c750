-- The answer 9: its place is 0, a witness of the schema that the file states is written, and every call that gives it leaves one A and one n,
-- whatever the buffer is and whichever types and word the call chooses.
use mathlib.Core.Path.{◌≡◌, refl, ap, subst, ◌∙◌}
use mathlib.Core.Logic.{inl, inr}
use mathlib.Core.List.{List, []}
use Prim.Native.Nat.{ℕ}
use native.Mathlib.Omega.{arith}
use Rattle.std.specs.Prelude.{Result}
use Rattle.sdtd.specs.Schema.{Schema}
use Rattle.sdtd.proofs.Verdicts.{verdict_number, verdict_place, refused_not_fine}
use Rattle.competition.specs.Search.{Written}
use Rattle.competition.proofs.OneWitness.{SameTypeAndLength, same_written}
use Rattle.commands.specs.File.{Stated, Commands, stopped, states, commands, schema_by, unknown, StatesSchema}
use Rattle.commands.proofs.Passing.{stopped_before}
use Rattle.schema.specs.declared.value.Schema.{Schema as Value}
use Rattle.schema_file.specs.Answer.{AnswerBy, AnswerIs, OfStated, FileMeans}
use Rattle.sdtd.specs.Answer.{refused_at, verdict_of}
use Rattle.sdtd.specs.declared.Refusal.{Refusal}
use Rattle.schema_file.proofs.AfterDone.{AfterDone, unknown_type, treeless, unused, competing, accepted, after_cases}

-- a file that is answered 9: the place is 0, and it passes questions 2 to 7 and 21 to 23
record Nine (file : List ℕ) (place : ℕ) : Type 0 where
  first_place : place ≡ 0
  stated : Stated
  passes : commands file ≡ states stated
  known : unknown stated ≡ []

nine_after : (file : List ℕ) {p : ℕ} (g : Stated) → commands file ≡ states g → AfterDone g (refused_at 9 p) → Nine file p
nine_after file g e (unknown_type n o) = absurd (omega (arith, ap verdict_number o))
nine_after file g e (treeless k n o) = absurd (omega (arith, ap verdict_number o))
nine_after file g e (unused k b f) = absurd (omega (arith, ap verdict_number f.answer))
nine_after file g e (competing k b u c o) = record { first_place = ap verdict_place o; stated = g; passes = e; known = k }
nine_after file g e (accepted k b u n o) = refused_not_fine refl o

nine_by : (file : List ℕ) {p : ℕ} (k : Commands) → commands file ≡ k → AnswerBy k (refused_at 9 p) → Nine file p
nine_by file (stopped n l) e r = let z = ap verdict_number r in absurd (stopped_before file e (omega arith) (omega arith))
nine_by file {p} (states g) e r = nine_after file g e (after_cases g (refused_at 9 p) r)

nine : (file was : List ℕ) {p : ℕ} → AnswerIs file was (refused_at 9 p) → Nine file p
nine file was (inl o) = absurd (omega (arith, ap verdict_number o.1))
nine file was (inr o) = nine_by file (commands file) refl o.1

-- A call answered 9 to the file and left the witness buffer so.
pub record AnsweredNine (file is : List ℕ) : Type 0 where
  pub was : List ℕ
  pub read : Result Value Refusal
  pub means : FileMeans file was is read
  pub place : ℕ
  pub answer : verdict_of read ≡ refused_at 9 place

-- what it left: a witness of the schema that the file states
pub record NineWritten (file was is : List ℕ) : Type 0 where
  pub schema : Schema
  pub stated : StatesSchema file schema
  pub written : Written schema was is

module _ {file is : List ℕ} (x : AnsweredNine file is) where
  nine_of : Nine file x.place
  nine_of = nine file x.was (subst (AnswerIs file x.was) x.answer x.means.answer)

  -- the place is 0
  pub nine_zero : verdict_of x.read ≡ refused_at 9 0
  nine_zero = x.answer ∙ ap (λ (p : ℕ). refused_at 9 p) nine_of.first_place

  pub nine_written : NineWritten file x.was is
  nine_written =
      let k = nine_of in
      record {
        schema = schema_by k.stated;
        stated = record { stated = k.stated; passes = k.passes; known = k.known; schema = refl };
        written =
            subst (λ (c : Commands). OfStated c (λ g. Written (schema_by g) x.was is)) k.passes (x.means.buffer.0 nine_zero);
      }

by_stated : (was₁ is₁ was₂ is₂ : List ℕ) (c : Commands) → OfStated c (λ g. Written (schema_by g) was₁ is₁)
    → OfStated c (λ g. Written (schema_by g) was₂ is₂) → SameTypeAndLength is₁ is₂
by_stated was₁ is₁ was₂ is₂ (stopped n p) x y = absurd x
by_stated was₁ is₁ was₂ is₂ (states g) x y = same_written x y

-- Two calls that answered 9 to one file: their buffers have one A and one n.
pub one_witness : {file is₁ is₂ : List ℕ} → AnsweredNine file is₁ → AnsweredNine file is₂ → SameTypeAndLength is₁ is₂
one_witness {file} {is₁} {is₂} x y =
    by_stated x.was is₁ y.was is₂ (commands file) (x.means.buffer.0 (nine_zero x)) (y.means.buffer.0 (nine_zero y))
