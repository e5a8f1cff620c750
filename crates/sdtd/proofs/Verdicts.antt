-- Laws of a verdict: a refusal has one number and one place, and `fine` is no refusal; and what the code's answers tell of themselves.
use mathlib.Core.Path.{◌≡◌, refl, sym, ap, ◌∙◌}
use mathlib.Core.Logic.{◌≢◌}
use mathlib.Core.Bool.{cond}
use Prim.Native.Nat.{ℕ, ◌≤◌}
use native.Mathlib.Omega.{arith}
use lib.Dec.{eqb}
use Rattle.std.specs.Prelude.{Result, Ok, Err}
use Rattle.sdtd.specs.Answer.{Verdict, fine, refused_at, question_number, number_told, verdict_of}
use Rattle.sdtd.specs.declared.Refusal.{Refusal}
use Rattle.sdtd.specs.declared.Refused.{Refused}
use Rattle.sdtd.specs.declared.Refused.TheVariants.{
  ShortWitness,
  NoCommand,
  OutOfOrder,
  OutOfRange,
  TooMany,
  Repeated,
  UnknownType,
  NoRoot,
  Competition,
  OutsideLimits,
  Finished,
  UnknownTag,
  CannotOpen,
  TooDeep,
  NoneOpen,
  OtherTag,
  NoWord,
  NotClosed,
  NoEvent,
  NoRoom,
  CannotFollow,
  TooManyUses,
  TooManyBrackets,
  UnusedType,
}

-- a refusal's number and place, and 0 where there is none
abbrev pub verdict_number : Verdict → ℕ
verdict_number fine = 0
verdict_number (refused_at n p) = n

abbrev pub verdict_place : Verdict → ℕ
verdict_place fine = 0
verdict_place (refused_at n p) = p

-- equal refusals have one number and one place
pub same_number : {n m p q : ℕ} → refused_at n p ≡ refused_at m q → n ≡ m
same_number e = ap verdict_number e

pub same_place : {n m p q : ℕ} → refused_at n p ≡ refused_at m q → p ≡ q
same_place e = ap verdict_place e

-- a refusal with another number is not this one
pub other_number : {a : Verdict} {n m p q : ℕ} → a ≡ refused_at n p → n ≢ m → a ≢ refused_at m q
other_number e d f = d (same_number (sym e ∙ f))

-- no verdict is a refusal and `fine`
pub refused_not_fine : {A : Type 0} {a : Verdict} {n p : ℕ} → a ≡ refused_at n p → a ≡ fine → A
refused_not_fine e f = absurd (let z : ◌≡◌ {A = ℕ} 0 1 = cc in omega arith)

-- no question has the number 0
pub number_some : (why : Refused) → 1 ≤ question_number why
number_some ShortWitness = omega arith
number_some NoCommand = omega arith
number_some OutOfOrder = omega arith
number_some OutOfRange = omega arith
number_some TooMany = omega arith
number_some Repeated = omega arith
number_some UnknownType = omega arith
number_some NoRoot = omega arith
number_some Competition = omega arith
number_some OutsideLimits = omega arith
number_some Finished = omega arith
number_some UnknownTag = omega arith
number_some CannotOpen = omega arith
number_some TooDeep = omega arith
number_some NoneOpen = omega arith
number_some OtherTag = omega arith
number_some NoWord = omega arith
number_some NotClosed = omega arith
number_some NoEvent = omega arith
number_some NoRoom = omega arith
number_some CannotFollow = omega arith
number_some TooManyUses = omega arith
number_some TooManyBrackets = omega arith
number_some UnusedType = omega arith

-- an answer that is no refusal tells 0
pub told_none : {A : Type 0} {r : Result A Refused} → ((why : Refused) → r ≢ Err why) → number_told r ≡ 0
told_none {r = Ok x} none = refl
told_none {r = Err why} none = absurd (none why refl)

-- the question of each number
question : ℕ → Refused
question n =
    cond (eqb n 1) ShortWitness (
    cond (eqb n 2) NoCommand (
    cond (eqb n 3) OutOfOrder (
    cond (eqb n 4) OutOfRange (
    cond (eqb n 5) TooMany (
    cond (eqb n 6) Repeated (
    cond (eqb n 7) UnknownType (
    cond (eqb n 8) NoRoot (
    cond (eqb n 9) Competition (
    cond (eqb n 10) OutsideLimits (
    cond (eqb n 11) Finished (
    cond (eqb n 12) UnknownTag (
    cond (eqb n 13) CannotOpen (
    cond (eqb n 14) TooDeep (
    cond (eqb n 15) NoneOpen (
    cond (eqb n 16) OtherTag (
    cond (eqb n 17) NoWord (
    cond (eqb n 18) NotClosed (
    cond (eqb n 19) NoEvent (
    cond (eqb n 20) NoRoom (
    cond (eqb n 21) CannotFollow (
    cond (eqb n 22) TooManyUses (
    cond (eqb n 23) TooManyBrackets (
    UnusedType)))))))))))))))))))))))

question_of : (why : Refused) → question (question_number why) ≡ why
unfolding question
question_of ShortWitness = refl
question_of NoCommand = refl
question_of OutOfOrder = refl
question_of OutOfRange = refl
question_of TooMany = refl
question_of Repeated = refl
question_of UnknownType = refl
question_of NoRoot = refl
question_of Competition = refl
question_of OutsideLimits = refl
question_of Finished = refl
question_of UnknownTag = refl
question_of CannotOpen = refl
question_of TooDeep = refl
question_of NoneOpen = refl
question_of OtherTag = refl
question_of NoWord = refl
question_of NotClosed = refl
question_of NoEvent = refl
question_of NoRoom = refl
question_of CannotFollow = refl
question_of TooManyUses = refl
question_of TooManyBrackets = refl
question_of UnusedType = refl

-- questions of one number are one
pub same_question : {v w : Refused} → question_number v ≡ question_number w → v ≡ w
same_question {v} {w} e = sym (question_of v) ∙ ap question e ∙ question_of w

-- answers that tell one refusal are one
pub same_refusals : {A : Type 0} {r s : Result A Refusal} {n p : ℕ} → verdict_of r ≡ refused_at n p → verdict_of s ≡ refused_at n p → r ≡ s
same_refusals {r = Ok x} e f = refused_not_fine e refl
same_refusals {r = Err v} {s = Ok y} e f = refused_not_fine f refl
same_refusals {r = Err v} {s = Err w} e f =
    let same = e ∙ sym f in
    let why = same_question (same_number same) in
    let place = same_place same in
    ap Err (λ i. record { why = why i; place = place i })

-- an answer that tells no refusal is a value
pub told_value : {A : Type 0} {r : Result A Refusal} → verdict_of r ≡ fine → (x : A) × (r ≡ Ok x)
told_value {r = Ok x} e = (x, refl)
told_value {r = Err v} e = refused_not_fine refl e
