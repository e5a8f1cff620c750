-- The answer to a schema file: questions 1 to 9 and 21 to 24 in order, the witness buffer, and the schema that is accepted.
use Rattle.std.specs.Prelude.{◌≡◌, ◌↔◌, ◌⊎◌, List, [], ◌∷◌, ◌++◌, ℕ, ◌<◌, length, Result, IfOk}
use Rattle.sdtd.specs.Schema.{Schema as Meaning}
use Rattle.sdtd.specs.Document.{Ambiguous}
use Rattle.sdtd.specs.Trim.{SomeRootBears, Used}
use Rattle.sdtd.specs.Reduced.{used_asked}
use Rattle.sdtd.specs.Answer.{Question, Ordered, fine, refused_at, Verdict, verdict_of}
use Rattle.sdtd.specs.declared.Refusal.{Refusal}
use Rattle.competition.specs.Questions.{buffer_asked, root_asked, competition_asked}
use Rattle.competition.specs.Search.{Written}
use Rattle.schema.specs.declared.value.Schema.{Schema}
use Rattle.commands.specs.File.{Stated, Commands, stopped, states, commands, schema_by, type_place, unknown, known_asked}
use Rattle.commands.specs.Value.{StatedValue}

-- "After DONE": "Does each STEP name a type that was given? No: 7, at the first that does not." "[Q]uestion 7 covers each 32." "The root
-- question (8) holds if any root bears a tree": "No: 8, place 0." "A file with a type that no valid document uses is refused from now on"; "Just
-- before competition, after 8, such a file gets 24, place that of the first such TYPE". "Is there no competition? No: 9, place 0."
abbrev pub after_done : Stated → List (Question Verdict)
after_done g =
    known_asked (λ p. refused_at 7 p) (unknown g)
    ∷ root_asked (refused_at 8 0) (schema_by g)
    ∷ (used_asked (λ a. refused_at 24 (type_place g a)) (schema_by g) 0 (length (schema_by g).blocks)
    ++ (competition_asked (refused_at 9 0) (schema_by g) ∷ []))

-- the answer where the buffer is long enough
abbrev pub AnswerBy : Commands → Verdict → Type 0
AnswerBy (stopped n p) a = a ≡ refused_at n p
AnswerBy (states g) a = Ordered (after_done g) (λ b. b ≡ fine) a

-- "Has the witness buffer at least 532 bytes? No: 1, place 0." Then the questions of each command, and those after DONE.
abbrev pub AnswerIs : List ℕ → List ℕ → Verdict → Type 0
AnswerIs file was a = Ordered (buffer_asked (refused_at 1 0) was ∷ []) (AnswerBy (commands file)) a

-- the commands pass, and P holds of what they state
abbrev pub OfStated : Commands → (Stated → Type 0) → Type 0
OfStated (stopped n p) P = ⊥
OfStated (states g) P = P g

-- "On 9 the witness fills 5 + n bytes and the rest of the buffer is unchanged; on every other answer it is all unchanged."
abbrev pub BufferBy : Commands → List ℕ → List ℕ → Verdict → Type 0
BufferBy k was is a =
    (a ≡ refused_at 9 0 → OfStated k (λ g. Written (schema_by g) was is))
    × (¬ (a ≡ refused_at 9 0) → is ≡ was)

-- What the schema file's call answers. "The accepted schema is the one that the file states."
pub record FileMeans (file was is : List ℕ) (r : Result Schema Refusal) : Type 0 where
  pub answer : AnswerIs file was (verdict_of r)
  pub buffer : BufferBy (commands file) was is (verdict_of r)
  pub schema : IfOk r (λ v. OfStated (commands file) (λ g. StatedValue g v))

-- The file passes questions 2 to 8 and 21 to 23, and p is the place of the first TYPE of a type "that no valid document uses".
pub record FirstUnusedAt (file : List ℕ) (p : ℕ) : Type 0 where
  pub stated : Stated
  pub passes : commands file ≡ states stated
  pub known : unknown stated ≡ []
  pub bears : SomeRootBears (schema_by stated)
  pub type : ℕ
  pub given : type < length (schema_by stated).blocks
  pub unused : ¬ Used (schema_by stated) type
  pub before : (b : ℕ) → b < type → Used (schema_by stated) b
  pub place : p ≡ type_place stated type

-- What is demanded of a file that passes questions 1 to 7 and 21 to 23, states S, has a valid document and no type that no valid document uses ("the
-- third demand supposes a file without one"): "It is refused for competition exactly when two valid documents [..] agree in every event through
-- some opening tag and differ in that element's type. Otherwise it is accepted".
pub record Demand3File (S : Meaning) (a : Verdict) : Type 0 where
  pub refused : (a ≡ refused_at 9 0) ↔ Ambiguous S
  pub accepted : (a ≡ fine) ↔ (¬ Ambiguous S)
  pub either : (a ≡ refused_at 9 0) ⊎ (a ≡ fine)
