-- The answers as numbers: of each case of an answer, what each field of the exported struct is.
use Rattle.std.specs.Prelude.{true, false, ℕ, Option, Some, None, Result, Ok, Err}
use Rattle.sdtd.specs.Answer.{Verdict, fine, refused_at, question_number, verdict_of}
use Rattle.sdtd.specs.Output.{written_number, written_length, FileWritten}
use Rattle.sdtd.specs.declared.Refusal.{Refusal}
use Rattle.sdtd.specs.declared.Tag.{Tag}
use Rattle.reading.specs.declared.event_file.EventFile.{EventFile}
use Rattle.expected.specs.Expected.{nothing, laid_out}
use Rattle.expected.specs.declared.Expected.{Expected}
use Rattle.events.specs.declared.outline.Cursor.{Cursor}
use Rattle.typestock_c.specs.declared.TypestockSchema.{TypestockSchema}
use Rattle.typestock_c.specs.declared.TypestockWritten.{TypestockWritten}
use Rattle.typestock_c.specs.declared.TypestockDocument.{TypestockDocument}
use Rattle.typestock_c.specs.declared.TypestockExpected.{TypestockExpected}
use Rattle.typestock_c.specs.declared.TypestockOpening.{TypestockOpening}

-- "A refusal answers number and place". An accepted schema has neither: it has 0 and 0, and no refusal has the number 0.
abbrev pub schema_numbers : Verdict → TypestockSchema
schema_numbers fine = record { number = 0; place = 0 }
schema_numbers (refused_at n p) = record { number = n; place = p }

-- "a call that writes a file answers 0 and the length written [..]; or a number, alone": the length is then 0
abbrev pub written_numbers : FileWritten → TypestockWritten
written_numbers w = record { number = written_number w; length = written_length w }

-- A refused schema's number and place, in both answers, so that 0 is said of no document but one that is taken; no opening is. An accepted
-- one's 0 and 0, and beside them "a number (0 for taken), a place (of the refused event; the file's length for 0) and the count of openings
-- taken".
abbrev pub document_numbers : Result EventFile Refusal → TypestockDocument
document_numbers (Err e) =
    record {
      schema_number = question_number e.why;
      schema_place = e.place;
      number = question_number e.why;
      place = e.place;
      count = 0;
    }
document_numbers (Ok e) =
    record { schema_number = 0; schema_place = 0; number = e.number; place = e.place; count = e.count }

-- the schema file's numbers, and what is told of the event file as it is
abbrev pub expected_beside : TypestockSchema → Expected → TypestockExpected
expected_beside s told =
    record {
      schema_number = s.number;
      schema_place = s.place;
      number = told.number;
      place = told.place;
      depth = told.depth;
      types = told.types;
      count = told.count;
      tags = told.tags;
      nils = told.nils;
      closes = told.closes;
      finishes = told.finishes;
    }

-- The schema file's numbers, and under an accepted schema the event file's. Under a refused one the schema's number and place once more, so that 0 is
-- said of no document but one that is taken, and nothing is open or listed.
abbrev pub expected_numbers : Result Expected Refusal → TypestockExpected
expected_numbers (Ok e) = expected_beside (schema_numbers fine) e
expected_numbers (Err e) =
    expected_beside (schema_numbers (verdict_of {A = Expected} (Err e))) (laid_out e.place (nothing (verdict_of {A = Expected} (Err e))))

-- the cursor of a place and a level
abbrev pub cursor_at : ℕ → ℕ → Cursor
cursor_at at level = record { at = at; level = level }

-- An opening's tag, and the cursor past it, which is at the opening's level; with none the tag 0 and the cursor handed in.
abbrev pub opening_numbers : Cursor → Option (Tag × Cursor) → TypestockOpening
opening_numbers from (Some (g, past)) = record { found = true; tag = g.0; at = past.at; level = past.level }
opening_numbers from None = record { found = false; tag = 0; at = from.at; level = from.level }
