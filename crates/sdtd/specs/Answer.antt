-- Answers by ordered questions.
use Rattle.std.specs.Prelude.{◌≡◌, ◌⊎◌, List, [], ◌∷◌, ℕ, Result, Ok, Err}
use Rattle.sdtd.specs.declared.Refusal.{Refusal}
use Rattle.sdtd.specs.declared.Refused.{Refused}
use Rattle.sdtd.specs.declared.Refused.TheVariants.{
  ShortWitness,
  NoCommand,
  OutOfOrder,
  OutOfRange,
  TooMany,
  Repeated,
  UnknownType,
  NoRoot,
  Competition,
  OutsideLimits,
  Finished,
  UnknownTag,
  CannotOpen,
  TooDeep,
  NoneOpen,
  OtherTag,
  NoWord,
  NotClosed,
  NoEvent,
  NoRoom,
  CannotFollow,
  TooManyUses,
  TooManyBrackets,
  UnusedType,
}

-- A question: what is answered yes, and the answer given where it is answered no.
pub record Question (A : Type 0) : Type 1 where
  pub holds : Type 0
  pub refusal : A

-- the question that gets this refusal where it does not hold
abbrev pub ask : {A : Type 0} → A → Type 0 → Question A
ask refusal holds = record { holds = holds; refusal = refusal }

-- "Questions in order": the answer is the refusal of the first question answered no; where all are answered yes, it is as stated for a
-- call or file that is taken.
abbrev pub Ordered : {A : Type 0} → List (Question A) → (A → Type 0) → A → Type 0
Ordered [] accepted a = accepted a
Ordered (q ∷ qs) accepted a = ((¬ q.holds) × (a ≡ q.refusal)) ⊎ (q.holds × Ordered qs accepted a)

-- "Opening (tag) answers the type; closing (tag) and finish answer taken." "A refusal answers its number alone".
pub data Answer : Type 0 where
  refused : ℕ → Answer
  typed : ℕ → Answer
  taken : Answer

-- What becomes of a file, or of a part of one: fine, or "A refusal answers number and place".
pub data Verdict : Type 0 where
  fine : Verdict
  refused_at : ℕ → ℕ → Verdict

-- the number of each question
abbrev pub question_number : Refused → ℕ
question_number ShortWitness = 1
question_number NoCommand = 2
question_number OutOfOrder = 3
question_number OutOfRange = 4
question_number TooMany = 5
question_number Repeated = 6
question_number UnknownType = 7
question_number NoRoot = 8
question_number Competition = 9
question_number OutsideLimits = 10
question_number Finished = 11
question_number UnknownTag = 12
question_number CannotOpen = 13
question_number TooDeep = 14
question_number NoneOpen = 15
question_number OtherTag = 16
question_number NoWord = 17
question_number NotClosed = 18
question_number NoEvent = 19
question_number NoRoom = 20
question_number CannotFollow = 21
question_number TooManyUses = 22
question_number TooManyBrackets = 23
question_number UnusedType = 24

-- the number that an answer tells: 0 where nothing is refused
abbrev pub number_told : {A : Type 0} → Result A Refused → ℕ
number_told (Ok x) = 0
number_told (Err why) = question_number why

-- what becomes of a file by an answer of the code: with a place of its own, or at the one given
abbrev pub verdict_of : {A : Type 0} → Result A Refusal → Verdict
verdict_of (Ok x) = fine
verdict_of (Err e) = refused_at (question_number e.why) e.place

abbrev pub verdict_at : {A : Type 0} → ℕ → Result A Refused → Verdict
verdict_at p (Ok x) = fine
verdict_at p (Err why) = refused_at (question_number why) p
