-- The text that the program `whatnext` prints for shop staff: what would have been taken where an event file is refused.
use Rattle.std.specs.Prelude.{Bool, cond, Result, Ok, Err, List, [], ◌∷◌, ◌++◌, ℕ, eqb, take}
use Rattle.sdtd.specs.Answer.{question_number}
use Rattle.sdtd.specs.declared.Refusal.{Refusal}
use Rattle.expected.specs.declared.Expected.{Expected}
use Rattle.text.specs.Line.{line_end}
use Rattle.report.specs.Words.{refused, space, accepted_line, inside, open_plain, open_nil, close_line, finish_line}
use Rattle.report.specs.Text.{numbered, refusal_line, schema_refused_text}

-- the types, each after a space
abbrev pub spaced : List ℕ → List ℕ
spaced [] = []
spaced (t ∷ ts) = numbered space t ++ spaced ts

-- the line `inside` with the types from the root down, the word alone where none is open
unfoldable pub inside_line : List ℕ → List ℕ
inside_line ts = inside ++ (spaced ts ++ line_end)

-- `open TAG`, or `open nil TAG`
unfoldable pub open_line : Bool → ℕ → List ℕ
open_line nil g = numbered (cond nil open_nil open_plain) g ++ line_end

-- a line for each opening: its tag, and whether it is as nil
abbrev pub open_lines : List ℕ → List Bool → List ℕ
open_lines [] ns = []
open_lines (g ∷ gs) [] = []
open_lines (g ∷ gs) (n ∷ ns) = open_line n g ++ open_lines gs ns

-- `close` and `finish`, where they would have been taken
unfoldable pub end_lines : Bool → Bool → List ℕ
end_lines closes finishes = cond closes close_line [] ++ cond finishes finish_line []

-- what would have been taken: the elements that are open, then the calls
unfoldable pub taken_lines : Expected → List ℕ
taken_lines e =
    inside_line (take e.depth e.types)
    ++ (open_lines (take e.count e.tags) (take e.count e.nils) ++ end_lines e.closes e.finishes)

-- Only `accepted` for a document taken whole; else `refused N at P`, and what would have been taken there.
unfoldable pub expected_text : Expected → List ℕ
expected_text e = cond (eqb e.number 0) accepted_line (refusal_line refused e.number e.place ++ taken_lines e)

-- A refused schema prints what `typestock` prints for it.
abbrev pub expected_text_of : List ℕ → Result Expected Refusal → List ℕ
expected_text_of witness (Err e) = schema_refused_text witness (question_number e.why) e.place
expected_text_of witness (Ok e) = expected_text e
