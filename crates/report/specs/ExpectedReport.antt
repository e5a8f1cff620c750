-- What the program `whatnext` prints for the bytes of `schema.tab` and of standard input, which it reads as `typestock` does.
use Rattle.std.specs.Prelude.{◌≡◌, Result, List, ℕ, ◌+◌, ◌*◌, length, replicate}
use Rattle.sdtd.specs.Limits.{least_witness, most_levels}
use Rattle.expected.specs.Expected.{most_openings}
use Rattle.typing.specs.ExpectedJob.{ExpectedJobMeans}
use Rattle.sdtd.specs.declared.Refusal.{Refusal}
use Rattle.expected.specs.declared.Expected.{Expected}
use Rattle.report.specs.Words.{inside, open_nil, close_line, finish_line}
use Rattle.report.specs.ExpectedText.{expected_text_of}
use Rattle.report.specs.Report.{most_last, ReportedBy}

-- The text of a job on the schema's bytes and the events, from a witness buffer of zeros. J and K of the witness line are the program's choice; all
-- else is fixed by the two files (`one_expected_text`).
pub record ExpectedPrinted (schema events text : List ℕ) : Type 0 where
  pub witness : List ℕ
  pub job : Result Expected Refusal
  pub means : ExpectedJobMeans schema events (replicate least_witness 0) witness job
  pub prints : text ≡ expected_text_of witness job

-- the most bytes of a type's number with the space before it, or of a tag's with the line's end: at most 3 digits
abbrev pub most_number : ℕ
most_number = 4

-- No text is longer: the line of the refusal, the line `inside`, a line for each opening, and the last two.
abbrev pub most_expected : ℕ
most_expected =
    most_last + (length inside + most_number * most_levels + 1) + (length open_nil + most_number) * most_openings + (length close_line + length finish_line)

abbrev pub ExpectedReported : List ℕ → List ℕ → List ℕ → List ℕ → ℕ → Type 0
ExpectedReported = ReportedBy ExpectedPrinted most_expected
