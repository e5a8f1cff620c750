-- No text is longer than `most_text`.
use mathlib.Core.Path.{◌≡◌}
use mathlib.Core.Bool.{Bool, true, false, cond}
use mathlib.Core.List.{List, [], ◌∷◌, ◌++◌}
use Prim.Native.Nat.{ℕ, zero, suc, ◌+◌, ◌*◌, ◌^◌, ◌-◌, ◌≤◌, ◌<◌}
use native.Mathlib.Omega.{arith}
use borrow.Author.Tests.{ne_eqb}
use lib.Dec.{eqb}
use lib.ListN.{length, take, get_or, length-append, length-take}
use Rattle.sdtd.proofs.Basics.{cond_both}
use Rattle.competition.specs.Witness.{head_of}
use Rattle.competition.specs.declared.witness.WitnessHead.{WitnessHead}
use Rattle.sdtd.specs.Tree.{plain, nil}
use Rattle.sdtd.specs.Document.{opening, closing, finish}
use Rattle.events.specs.Events.{Events, ends, stray, event, events_of}
use Rattle.reading.specs.declared.event_file.EventFile.{EventFile}
use Rattle.events.specs.Outline.{Line, outline}
use Rattle.report.specs.Words.{header, schema_refused, refused, accepted}
use Rattle.report.specs.Text.{numbered, refusal_line, rivals, witness_line, opening_line, opening_lines, last_line, schema_refused_text, events_text}
use Rattle.report.specs.Report.{most_events, types_held, most_line, most_last, most_text}
use Rattle.report.specs.Steps.{most_refused}
use Rattle.std.proofs.lemmas.Fmt.{length-decimal-le}
use Rattle.text.specs.Line.{line_end}

-- every byte of a list
abbrev pub Bytes : List ℕ → Type 0
Bytes [] = Unit
Bytes (b ∷ l) = (b < 256) × Bytes l

pub bytes : (l : List ℕ) → ((i : ℕ) → get_or l i 0 < 256) → Bytes l
bytes [] h = tt
bytes (b ∷ l) h = (h 0, bytes l (λ i. h (suc i)))

pub bytes_take : (n : ℕ) (l : List ℕ) → Bytes l → Bytes (take n l)
bytes_take zero l h = tt
bytes_take (suc n) [] h = tt
bytes_take (suc n) (b ∷ l) (k, h) = (k, bytes_take n l h)

-- every line's level is at most m and its tag a byte
abbrev Lines : ℕ → List Line → Type 0
Lines m [] = Unit
Lines m (l ∷ ls) = (l.level ≤ m) × (l.tag < 256) × Lines m ls

module _ (m : ℕ) where
  abbrev Outlined : ℕ → Events → Type 0
  Outlined n es = (level : ℕ) → level + n ≤ m → Lines m (outline level es)

  outlined : (file : List ℕ) → Bytes file → Outlined (length file) (events_of file)
  outlined [] k = λ level h. tt
  outlined (b ∷ []) k = cond_both (Outlined 1) (eqb b 0x2f) (event finish ends) stray (λ level h. tt) (λ level h. tt)
  outlined (b ∷ (g ∷ rest)) (k, (l, more)) =
      let n = suc (suc (length rest)) in
      let opens = event (opening plain g) (events_of rest) in
      let opens_nil = event (opening nil g) (events_of rest) in
      let closes = event (closing g) (events_of rest) in
      let ended = event finish (events_of (g ∷ rest)) in
      let last = cond (eqb b 0x2f) ended stray in
      let third = cond (eqb b 0x23) opens_nil last in
      cond_both (Outlined n) (eqb b 0x21) opens (cond (eqb b 0x22) closes third)
      (λ level h. (omega arith, l, outlined rest more (suc level) (omega arith)))
      (cond_both (Outlined n) (eqb b 0x22) closes third (λ level h. outlined rest more (level - 1) (omega arith))
      (cond_both (Outlined n) (eqb b 0x23) opens_nil last (λ level h. (omega arith, l, outlined rest more (suc level) (omega arith)))
      (cond_both (Outlined n) (eqb b 0x2f) ended stray (λ level h. outlined (g ∷ rest) (l, more) level (omega arith)) (λ level h. tt))))

-- an opening's line
line_long : (level tag type : ℕ) → level ≤ most_events → tag < 256 → type < 256 → length (opening_line level tag type) ≤ most_line
unfolding opening_line
line_long level tag type h k l =
    let a = length-decimal-le 5 level (omega arith) (omega arith) (omega arith) in
    let b = length-decimal-le 3 tag (omega arith) (omega arith) (omega arith) in
    let c = length-decimal-le 3 type (omega arith) (omega arith) (omega arith) in
    simp length-append (omega arith)

lines_long : (js : List ℕ) (ls : List Line) → Bytes js → Lines most_events ls → length (opening_lines js ls) ≤ most_line * length js
lines_long [] ls h k = omega arith
lines_long (j ∷ js) [] h k = omega arith
lines_long (j ∷ js) (l ∷ ls) (h, hs) (k, g, ks) =
    let a = line_long l.level l.tag j k g h in
    let b = lines_long js ls hs ks in
    omega (arith, length-append (opening_line l.level l.tag j) (opening_lines js ls))

pub refusal_long : (words : List ℕ) (n p : ℕ) → n < 256 → p < 2 ^ 64 → length (refusal_line words n p) ≤ length words + 28
unfolding refusal_line
refusal_long words n p h k =
    let a = length-decimal-le 3 n (omega arith) (omega arith) (omega arith) in
    let b = length-decimal-le 20 p (omega arith) (omega arith) (omega arith) in
    simp length-append (omega arith)

last_long : (e : EventFile) → e.number < 256 → e.place < 2 ^ 64 → e.count < 2 ^ 64 → length (last_line e) ≤ most_last
unfolding last_line
last_long e h k l = by (eqb e.number 0)
  where
    by : (c : Bool) → length (cond c (numbered accepted e.count ++ line_end) (refusal_line refused e.number e.place)) ≤ most_last
    by true = let a = length-decimal-le 20 e.count (omega arith) (omega arith) (omega arith) in simp length-append (omega arith)
    by false = omega (arith, refusal_long refused e.number e.place h k)

witness_long : (h : WitnessHead) → h.of.0 < 256 → h.first.0 < 256 → h.second.0 < 256 → h.word < 2 ^ 64
    → length (witness_line h) ≤ 53
unfolding rivals witness_line
witness_long h of first second word =
    let a = length-decimal-le 3 h.of.0 (omega arith) (omega arith) (omega arith) in
    let b = length-decimal-le 3 h.first.0 (omega arith) (omega arith) (omega arith) in
    let c = length-decimal-le 3 h.second.0 (omega arith) (omega arith) (omega arith) in
    let d = length-decimal-le 20 h.word (omega arith) (omega arith) (omega arith) in
    simp length-append (omega arith)

-- the text of a schema that is refused with 9, from the head of the witness
pub nine_short : (witness : List ℕ) {h : WitnessHead} {n p : ℕ} → h ≡ head_of witness → h.of.0 < 256
    → h.first.0 < 256 → h.second.0 < 256 → h.word < 2 ^ 64 → n < 256 → p < 2 ^ 64
    → length (schema_refused_text witness n p) ≤ most_refused
nine_short witness {h} {n} {p} q of first second word k l = by (eqb n 9)
  where
    line : length (witness_line (head_of witness)) ≤ 53
    line = rw q at (witness_long h of first second word)

    by : (c : Bool) → length (refusal_line schema_refused n p ++ cond c (witness_line (head_of witness)) []) ≤ most_refused
    by true =
        omega (
          arith,
          length-append (refusal_line schema_refused n p) (witness_line (head_of witness)),
          refusal_long schema_refused n p k l,
          line,
        )
    by false = omega (arith, length-append (refusal_line schema_refused n p) [], refusal_long schema_refused n p k l)

-- that of a schema that is refused with another number
pub refused_short : (witness : List ℕ) {n p : ℕ} → ¬ (n ≡ 9) → n < 256 → p < 2 ^ 64
    → length (schema_refused_text witness n p) ≤ most_refused
refused_short witness {n} {p} d k l =
    rw (ne_eqb n 9 d) (omega (arith, length-append (refusal_line schema_refused n p) [], refusal_long schema_refused n p k l))

pub read_short : (events types : List ℕ) (e : EventFile) → ((i : ℕ) → get_or events i 0 < 256) → ((i : ℕ) → get_or types i 0 < 256)
    → length events ≤ most_events → length types ≤ types_held → e.number < 256 → e.place < 2 ^ 64 → e.count < 2 ^ 64
    → length (events_text events types e) ≤ most_text
unfolding events_text
read_short events types e h k long held number place count =
    let js = take e.count types in
    let ls = outline 0 (events_of events) in
    let lines = lines_long js ls (bytes_take e.count types (bytes types k)) (outlined most_events events (bytes events h) 0 (omega arith)) in
    let last = last_long e number place count in
    omega (
      arith,
      length-append header (opening_lines js ls ++ last_line e),
      length-append (opening_lines js ls) (last_line e),
      length-take e.count types,
    )
