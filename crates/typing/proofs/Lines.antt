-- Each opening that is taken has its line in the outline, with the tag of the type that it was given.
use mathlib.Core.Path.{◌≡◌, refl, sym, ap, ap₂, ◌∙◌}
use mathlib.Core.List.{List, [], ◌∷◌, map}
use Prim.Native.Nat.{ℕ, zero, suc, ◌≤◌}
use native.Mathlib.Omega.{arith}
use lib.ListN.{length, take, length-take, length-map}
use Rattle.sdtd.specs.Schema.{Schema, tag_of}
use Rattle.sdtd.specs.Document.{Event, opening, closing, finish}
use Rattle.sdtd.specs.Answer.{Answer, refused, typed, taken}
use Rattle.sdtd.specs.Calls.{IsTaken}
use Rattle.sdtd.proofs.Answers.{ordered_taken}
use Rattle.reading.specs.declared.value.Reading.{Reading}
use Rattle.reading.specs.declared.event_file.EventFile.{EventFile}
use Rattle.reading.specs.Levels.{fresh}
use Rattle.reading.specs.Questions.{Next, gives, OpeningTaken, questions, TakenBy, CallMeans}
use Rattle.events.specs.Events.{Events, event, events_of}
use Rattle.reading.specs.Passage.{TakenCall, taken_call, Passage, Passes}
use Rattle.reading.specs.EventFile.{by_calls, types_with, EventsMean}
use Rattle.reading.proofs.Passages.{passes_each}
use Rattle.reading.proofs.RoomLaws.{types_in}
use Rattle.reading.proofs.OneAnswer.{typed_refused, taken_refused}
use Rattle.events.specs.Outline.{shallower, Line, outline}

-- the first of the lines, one for each type, have the types' tags
abbrev pub Tags : Schema → List ℕ → List Line → Type 0
Tags S ts ls = map (λ (l : Line). l.tag) (take (length ts) ls) ≡ map (tag_of S) ts

-- a type is neither taken nor a refusal, and taken is no refusal
typed_taken : {A : Type 0} {a : Answer} {j : ℕ} → a ≡ typed j → a ≡ taken → A
typed_taken p q = absurd (let z : ◌≡◌ {A = ℕ} 0 1 = cc in omega arith)

module _ (S : Schema) (r : Reading) (n : Next) where
  -- an answer that is a type, or taken, is no refusal
  typed_none : {j : ℕ} → n.answer ≡ typed j → (k : ℕ) → ¬ (n ≡ gives (refused k) r)
  typed_none e k q = typed_refused e (ap (λ (m : Next). m.answer) q)

  taken_none : n.answer ≡ taken → (k : ℕ) → ¬ (n ≡ gives (refused k) r)
  taken_none e k q = taken_refused e (ap (λ (m : Next). m.answer) q)

  -- what a call that refuses nothing answers and hands back
  called_taken : (x : Event) → ((k : ℕ) → ¬ (n ≡ gives (refused k) r)) → CallMeans S r x n → TakenBy S r x n
  called_taken (opening κ g) none m =
      (ordered_taken (TakenBy S r (opening κ g)) (questions S r (opening κ g)) (none 10, (none 11, (none 12, (none 13, (none 14, tt))))) m).1
  called_taken (closing g) none m =
      (ordered_taken (TakenBy S r (closing g)) (questions S r (closing g)) (none 10, (none 11, (none 12, (none 15, (none 16, (none 17, tt)))))) m).1
  called_taken finish none m = (ordered_taken (TakenBy S r finish) (questions S r finish) (none 10, (none 11, (none 18, tt))) m).1

  -- only an opening is given a type, and one of its tag
  typed_line : (x : Event) (es : Events) (level : ℕ) {j : ℕ} (us : List ℕ) → CallMeans S r x n → n.answer ≡ typed j
      → ((l : ℕ) → Tags S us (outline l es)) → Tags S (j ∷ us) (outline level (event x es))
  typed_line (opening κ g) es level {j} us m e later =
      let t : OpeningTaken S r κ g n = called_taken (opening κ g) (typed_none e) m in
      let p : n.answer ≡ typed t.type = ap (λ (m : Next). m.answer) t.next in
      let q : typed t.type ≡ typed j = sym p ∙ e in
      let same : t.type ≡ j = cc in
      let tag : g ≡ tag_of S j = sym t.can_open.tag ∙ ap (tag_of S) same in
      ap₂ (λ (h : ℕ) (hs : List ℕ). h ∷ hs) tag (later (suc level))
  typed_line (closing g) es level us m e later =
      typed_taken e (ap (λ (m : Next). m.answer) (called_taken (closing g) (typed_none e) m))
  typed_line finish es level us m e later = typed_taken e (ap (λ (m : Next). m.answer) (called_taken finish (typed_none e) m))

  -- an event that is taken with no type is no opening
  other_lines : (x : Event) (es : Events) (level : ℕ) (ts : List ℕ) → CallMeans S r x n → n.answer ≡ taken
      → ((l : ℕ) → Tags S ts (outline l es)) → Tags S ts (outline level (event x es))
  other_lines (opening κ g) es level ts m e later =
      let t : OpeningTaken S r κ g n = called_taken (opening κ g) (taken_none e) m in
      typed_taken (ap (λ (m : Next). m.answer) t.next) e
  other_lines (closing g) es level ts m e later = later (shallower level)
  other_lines finish es level ts m e later = later level

-- by the answer to the event, where the events after it have their lines
taken_lines : (S : Schema) (r : Reading) (at : ℕ) (x : Event) (es : Events) (a : Answer) (after : Reading) (cs : List TakenCall) → IsTaken a
    → CallMeans S r x (gives a after) → ((level : ℕ) → Tags S (types_in cs) (outline level es)) → (level : ℕ)
    → Tags S (types_in (taken_call at x a ∷ cs)) (outline level (event x es))
taken_lines S r at x es (refused n) after cs t m later level = absurd t
taken_lines S r at x es (typed j) after cs t m later level = typed_line S r (gives (typed j) after) x es level (types_in cs) m refl later
taken_lines S r at x es taken after cs t m later level = other_lines S r (gives taken after) x es level (types_in cs) m refl later

passage_tags : (S : Schema) (r : Reading) (at : ℕ) (es : Events) (p : Passage Reading) → Passes (by_calls S) r at es p → (level : ℕ)
    → Tags S (types_in p.calls) (outline level es)
passage_tags S =
    passes_each (by_calls S) (λ r at es p. (level : ℕ) → Tags S (types_in p.calls) (outline level es)) (λ r at h level. refl)
    (λ r at n level. refl)
    (λ r at level. refl)
    (λ r at x es n after m level. refl)
    (λ r at x es a after q t m later. taken_lines S r at x es a after q.calls t m later)

-- the first of the types have their lines where all have
first_tags : (S : Schema) (room : ℕ) (ts : List ℕ) (ls : List Line) → Tags S ts ls → Tags S (take room ts) ls
first_tags S zero ts ls h = refl
first_tags S (suc room) [] ls h = refl
first_tags S (suc room) (t ∷ ts) [] h = absurd (omega (arith, ap length h))
first_tags S (suc room) (t ∷ ts) (l ∷ ls) h =
    let head : l.tag ≡ tag_of S t = cc in
    let rest : Tags S ts ls = cc in
    ap₂ (λ (g : ℕ) (gs : List ℕ). g ∷ gs) head (first_tags S room ts ls rest)

module _ {S : Schema} {file was is : List ℕ} {r : EventFile} (m : EventsMean S file was is r) where
  -- The openings taken are the first of the outline, in order, and each has the tag of the type that it was given.
  pub line_tags : Tags S (types_with (length was) m.passage) (outline 0 (events_of file))
  line_tags =
      first_tags S (length was) (types_in m.passage.calls) (outline 0 (events_of file))
      (passage_tags S fresh 0 (events_of file) m.passage m.passes 0)

  -- so each of them has its line
  pub lines_enough : r.count ≤ length (outline 0 (events_of file))
  lines_enough =
      let ts = types_with (length was) m.passage in
      let ls = take (length ts) (outline 0 (events_of file)) in
      omega (
        arith,
        m.told.count,
        ap length line_tags,
        length-map ls (λ (l : Line). l.tag),
        length-map ts (tag_of S),
        length-take (length ts) (outline 0 (events_of file)),
      )
