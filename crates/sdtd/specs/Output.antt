-- Calls that write a file into a lent buffer: "From here on a call that writes a file answers 0 and the length written, bytes past it unchanged; or
-- a number, alone unless a place is stated, with its output untouched."
use Rattle.std.specs.Prelude.{List, ◌++◌, ℕ, length, drop, Result, Ok, Err}
use Rattle.sdtd.specs.Answer.{question_number}
use Rattle.sdtd.specs.declared.Refused.{Refused as Why}

-- the length of the file that was written, or a refusal's number
pub data FileWritten : Type 0 where
  Length : ℕ → FileWritten
  Refused : ℕ → FileWritten

-- each answer of the code as one of these
abbrev pub written_of : Result ℕ Why → FileWritten
written_of (Ok n) = Length n
written_of (Err why) = Refused (question_number why)

-- the number and the length of each case: "0 and the length written"; "or a number, alone"
abbrev pub written_number : FileWritten → ℕ
written_number (Length n) = 0
written_number (Refused n) = n

abbrev pub written_length : FileWritten → ℕ
written_length (Length n) = n
written_length (Refused n) = 0

-- the answer, and what the buffer holds beside it
pub record Output : Type 0 where
  pub answer : FileWritten
  pub buffer : List ℕ

-- "0 and the length written, bytes past it unchanged"
abbrev pub writes : List ℕ → List ℕ → Output
writes was bytes = record { answer = Length (length bytes); buffer = bytes ++ drop (length bytes) was }

-- "or a number, alone [..], with its output untouched"
abbrev pub writes_nothing : List ℕ → ℕ → Output
writes_nothing was n = record { answer = Refused n; buffer = was }
