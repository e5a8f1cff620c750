-- What the calls about competition answer.
use Rattle.std.specs.Prelude.{◌≡◌, List, [], ◌∷◌, ◌++◌, ℕ, length, drop, Result, Ok, Err}
use Rattle.sdtd.specs.Schema.{Schema}
use Rattle.sdtd.specs.Competition.{Witness}
use Rattle.sdtd.specs.Reduced.{used_asked}
use Rattle.sdtd.specs.declared.Refused.{Refused}
use Rattle.sdtd.specs.declared.Refused.TheVariants.{ShortWitness, OutsideLimits, NoRoot, UnusedType, Competition}
use Rattle.sdtd.specs.Answer.{Question, Ordered, fine, refused_at, Verdict}
use Rattle.competition.specs.Questions.{buffer_asked, limits_asked, root_asked, competition_asked}
use Rattle.competition.specs.declared.verdict.Judged.{Judged}
use Rattle.competition.specs.declared.verdict.Judged.TheVariants.{ShortBuffer, Outside, NoRootBears, Unused, Competes}

-- a witness fills the first bytes of the buffer, and the rest is as it was
pub record Written (S : Schema) (was is : List ℕ) : Type 0 where
  pub bytes : List ℕ
  pub witness : Witness S bytes
  pub filled : is ≡ bytes ++ drop (length bytes) was

-- "Has the witness buffer at least 532 bytes? No: 1". Is the schema inside the limits? No: 10. "Is there no competition? No: 9".
abbrev pub search_questions : Schema → List ℕ → List (Question ℕ)
search_questions S was = buffer_asked 1 was ∷ limits_asked 10 S ∷ competition_asked 9 S ∷ []

-- What the search answers, and what the buffer holds: "on 9" a witness; "on every other answer it is all unchanged".
pub record SearchMeans (S : Schema) (was is : List ℕ) (n : ℕ) : Type 0 where
  pub answer : Ordered (search_questions S was) (λ m. m ≡ 0) n
  pub written : n ≡ 9 → Written S was is
  pub unchanged : ¬ (n ≡ 9) → is ≡ was

-- The same with a verdict, each refusal at "place 0", and with 8 before 9: "The root question (8) holds if any root bears a tree." Between them it is
-- asked of the first n types whether they are used: "Just before competition, after 8, such a file gets 24"; the place is the number of the type.
abbrev pub questions_of : Schema → List ℕ → ℕ → List (Question Verdict)
questions_of S was n =
    buffer_asked (refused_at 1 0) was
    ∷ limits_asked (refused_at 10 0) S
    ∷ root_asked (refused_at 8 0) S
    ∷ (used_asked (λ a. refused_at 24 a) S 0 n ++ (competition_asked (refused_at 9 0) S ∷ []))

-- The verdict on a schema by these questions, and what the buffer holds: "on 9" a witness; "on every other answer it is all unchanged".
pub record JudgedBy (questions : List (Question Verdict)) (S : Schema) (was is : List ℕ) (r : Verdict) : Type 0 where
  pub answer : Ordered questions (λ a. a ≡ fine) r
  pub written : r ≡ refused_at 9 0 → Written S was is
  pub unchanged : ¬ (r ≡ refused_at 9 0) → is ≡ was

-- of no type, as files were judged that are stored
abbrev pub JudgeMeans : Schema → List ℕ → List ℕ → Verdict → Type 0
JudgeMeans S was is r = JudgedBy (questions_of S was 0) S was is r

-- of each type
abbrev pub ReducedMeans : Schema → List ℕ → List ℕ → Verdict → Type 0
ReducedMeans S was is r = JudgedBy (questions_of S was (length S.blocks)) S was is r

-- the question that an answer of the code names, and the verdict that it tells: the place of a type that is not used is its number
abbrev pub why_of : Judged → Refused
why_of ShortBuffer = ShortWitness
why_of Outside = OutsideLimits
why_of NoRootBears = NoRoot
why_of (Unused a) = UnusedType
why_of Competes = Competition

abbrev pub judged_of : {A : Type 0} → Result A Judged → Verdict
judged_of (Ok x) = fine
judged_of (Err ShortBuffer) = refused_at 1 0
judged_of (Err Outside) = refused_at 10 0
judged_of (Err NoRootBears) = refused_at 8 0
judged_of (Err (Unused a)) = refused_at 24 a.0
judged_of (Err Competes) = refused_at 9 0
