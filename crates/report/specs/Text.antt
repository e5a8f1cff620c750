-- The text that the program `typestock` prints.
use Rattle.std.specs.Prelude.{cond, Result, Ok, Err, List, [], ◌∷◌, ◌++◌, ℕ, eqb, take, decimal}
use Rattle.text.specs.Line.{line_end}
use Rattle.sdtd.specs.Answer.{question_number}
use Rattle.sdtd.specs.declared.Refusal.{Refusal}
use Rattle.events.specs.Events.{events_of}
use Rattle.competition.specs.Witness.{head_of}
use Rattle.competition.specs.declared.witness.WitnessHead.{WitnessHead}
use Rattle.reading.specs.EventFile.{stored_types}
use Rattle.reading.specs.declared.event_file.EventFile.{EventFile}
use Rattle.events.specs.Outline.{Line, outline}
use Rattle.report.specs.Words.{header, schema_refused, refused, at_place, type_of, gives, or_else, after, accepted, space}

-- words, and a number after them
abbrev pub numbered : List ℕ → ℕ → List ℕ
numbered words n = words ++ decimal n

-- `refused N at P`, or `schema refused N at P`
unfoldable pub refusal_line : List ℕ → ℕ → ℕ → List ℕ
refusal_line words n p = numbered words n ++ numbered at_place p ++ line_end

-- `type A gives J or K`
unfoldable pub rivals : ℕ → ℕ → ℕ → List ℕ
rivals a j k = numbered type_of a ++ numbered gives j ++ numbered or_else k

-- "for 9, a line `type A gives J or K after n`", from the head of the witness
unfoldable pub witness_line : WitnessHead → List ℕ
witness_line h = rivals h.of.0 h.first.0 h.second.0 ++ (numbered after h.word ++ line_end)

-- "Each middle line has the opening's level, tag and type".
unfoldable pub opening_line : ℕ → ℕ → ℕ → List ℕ
opening_line level tag type = decimal level ++ numbered space tag ++ numbered space type ++ line_end

-- A line for each type of an opening taken: the levels and tags are those of the events' openings in order. No opening taken lacks its line
-- (`every_line`).
abbrev pub opening_lines : List ℕ → List Line → List ℕ
opening_lines [] ls = []
opening_lines (j ∷ js) [] = []
opening_lines (j ∷ js) (l ∷ ls) = opening_line l.level l.tag j ++ opening_lines js ls

-- "the last the count of openings, or `refused N at P`": `accepted` and the count where the file is taken whole.
unfoldable pub last_line : EventFile → List ℕ
last_line e = cond (eqb e.number 0) (numbered accepted e.count ++ line_end) (refusal_line refused e.number e.place)

-- "A refused schema prints only `schema refused N at P` and, for 9, a line" from the witness buffer.
abbrev pub schema_refused_text : List ℕ → ℕ → ℕ → List ℕ
schema_refused_text witness n p = refusal_line schema_refused n p ++ cond (eqb n 9) (witness_line (head_of witness)) []

-- The text under an accepted schema: the first line, a line for each opening taken, its type from the types buffer, and the last line.
unfoldable pub events_text : List ℕ → List ℕ → EventFile → List ℕ
events_text events types e = header ++ (opening_lines (take e.count (stored_types types)) (outline 0 (events_of events)) ++ last_line e)

-- what is printed, by the job's answer
abbrev pub text_of : List ℕ → List ℕ → List ℕ → Result EventFile Refusal → List ℕ
text_of events witness types (Err e) = schema_refused_text witness (question_number e.why) e.place
text_of events witness types (Ok e) = events_text events types e
