-- What the program prints for the bytes of `schema.tab` and of standard input.
use Rattle.std.specs.Prelude.{◌≡◌, Result, List, ◌++◌, ℕ, ◌+◌, ◌*◌, ◌≤◌, ◌<◌, min, length, take, drop, replicate}
use Rattle.sdtd.specs.Limits.{least_witness}
use Rattle.typing.specs.Job.{JobMeans}
use Rattle.sdtd.specs.declared.Refusal.{Refusal}
use Rattle.reading.specs.declared.event_file.EventFile.{EventFile}
use Rattle.report.specs.Words.{header, too_long}
use Rattle.report.specs.Text.{text_of}

-- "`schema.tab` (its first 16,384 bytes; none if it is missing)"
abbrev pub most_schema : ℕ
most_schema = 16384

-- "above 32,768 bytes of events it prints only `too long`"
abbrev pub most_events : ℕ
most_events = 32768

-- "Its buffer holds 16,384 types."
abbrev pub types_held : ℕ
types_held = 16384

-- the most bytes of an opening's line: a level of at most 5 digits, a tag and a type of at most 3, two spaces and its end
abbrev pub most_line : ℕ
most_line = 14

-- the most bytes of the last line: a number of at most 3 digits and a place of at most 20 among them
abbrev pub most_last : ℕ
most_last = 36

-- No text is longer: the first line, a line for each type that the buffer holds, and the last.
abbrev pub most_text : ℕ
most_text = length header + most_line * types_held + most_last

-- The text of a job on the schema's bytes and the events, from buffers of zeros. J and K of the witness line are the program's choice, as the
-- job's promise leaves them; all else is fixed by the two files (`one_text`).
pub record JobPrinted (schema events text : List ℕ) : Type 0 where
  pub witness : List ℕ
  pub types : List ℕ
  pub job : Result EventFile Refusal
  pub means : JobMeans schema events (replicate least_witness 0) witness (replicate types_held 0) types job
  pub prints : text ≡ text_of events witness types job

-- "above 32,768 bytes of events it prints only `too long`, even where the schema would be refused.": of the schema's bytes that count and the
-- events a job prints the text.
pub record PrintedBy (Prints : List ℕ → List ℕ → List ℕ → Type 0) (schema events text : List ℕ) : Type 0 where
  pub too_long : most_events < length events → text ≡ too_long
  pub answered : length events ≤ most_events → Prints (take most_schema schema) events text

-- What a report leaves: the text's first bytes, as far as they fit the buffer, and the buffer's other bytes as they were; it answers how
-- many bytes of the text are there. A buffer of `most` bytes takes the whole of it.
pub record ReportedBy (Prints : List ℕ → List ℕ → List ℕ → Type 0) (most : ℕ) (schema events was is : List ℕ) (r : ℕ) : Type 0 where
  pub text : List ℕ
  pub printed : PrintedBy Prints schema events text
  pub short : length text ≤ most
  pub buffer : is ≡ take (length was) text ++ drop (length text) was
  pub count : r ≡ min (length text) (length was)

-- of the program `typestock`
abbrev pub Printed : List ℕ → List ℕ → List ℕ → Type 0
Printed = PrintedBy JobPrinted

abbrev pub Reported : List ℕ → List ℕ → List ℕ → List ℕ → ℕ → Type 0
Reported = ReportedBy JobPrinted most_text
