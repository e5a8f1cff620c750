-- What the writer answers and leaves in the buffer lent.
use Rattle.std.specs.Prelude.{◌≡◌, Bool, List, [], ◌∷◌, ℕ, ◌≤◌, length}
use Rattle.sdtd.specs.Schema.{Schema}
use Rattle.sdtd.specs.Reduced.{TellsUsed}
use Rattle.sdtd.specs.Answer.{Question, ask, Ordered}
use Rattle.sdtd.specs.Output.{Output, writes, writes_nothing, FileWritten}
use Rattle.competition.specs.Questions.{root_asked, competition_asked}
use Rattle.command.specs.Command.{file_of}
use Rattle.commands.specs.File.{Stated, Commands, stopped, states, commands, schema_by, unknown, known_asked}
use Rattle.schema_writer.specs.Left.{commands_left}

-- the bytes are those of the file, which states S, without the types that no valid document uses
pub record ReducedFile (file : List ℕ) (S : Schema) (bytes : List ℕ) : Type 0 where
  pub kept : ℕ → Bool
  pub tells_used : TellsUsed S kept
  pub is : bytes ≡ file_of (commands_left kept S file)

-- "it takes a file that passed until now [..]; any other gets its number of 2 to 9 or 21 to 23": those after DONE
abbrev pub stored_asked : List ℕ → Stated → List (Question Output)
stored_asked was g =
    known_asked (λ p. writes_nothing was 7) (unknown g)
    ∷ root_asked (writes_nothing was 8) (schema_by g)
    ∷ competition_asked (writes_nothing was 9) (schema_by g) ∷ []

-- "the writer with a short output gives 20 last"
abbrev pub room_asked : List ℕ → List ℕ → Question Output
room_asked was bytes = ask (writes_nothing was 20) (length bytes ≤ length was)

-- what is written of a file that passes
pub record Writes (file : List ℕ) (S : Schema) (was : List ℕ) (o : Output) : Type 0 where
  pub bytes : List ℕ
  pub reduced : ReducedFile file S bytes
  pub output : Ordered (room_asked was bytes ∷ []) (λ x. x ≡ writes was bytes) o

-- the answer by what the commands of the file state
abbrev pub OutputBy : List ℕ → Commands → List ℕ → Output → Type 0
OutputBy file (stopped n p) was o = o ≡ writes_nothing was n
OutputBy file (states g) was o = Ordered (stored_asked was g) (Writes file (schema_by g) was) o

-- What the writer's call answers, where the buffer was `was` and is `is`.
abbrev pub WriteMeans : List ℕ → List ℕ → List ℕ → FileWritten → Type 0
WriteMeans file was is r = OutputBy file (commands file) was (record { answer = r; buffer = is })
