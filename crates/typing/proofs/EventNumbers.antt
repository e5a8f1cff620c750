-- The numbers that an event file can be answered, and how long a types buffer is always enough.
use mathlib.Core.Path.{◌≡◌, refl, sym, ap, subst, ◌∙◌}
use mathlib.Core.Bool.{Bool, true, false, cond}
use mathlib.Core.Logic.{◌⊎◌, ◌≢◌, inl, inr, ⊎_elim}
use mathlib.Core.List.{List, [], ◌∷◌}
use Prim.Native.Nat.{ℕ, suc, ◌*◌, ◌≤◌}
use native.Mathlib.Omega.{arith}
use lib.Dec.{eqb}
use lib.ListN.{length}
use Rattle.sdtd.specs.Schema.{Schema}
use Rattle.sdtd.specs.Tree.{plain, nil}
use Rattle.sdtd.specs.Document.{Event, opening, closing, finish}
use Rattle.sdtd.specs.Answer.{Question, Ordered, Answer, refused, typed, taken, Verdict}
use Rattle.sdtd.specs.Reading.{TakenAnswer, Right}
use Rattle.sdtd.specs.Reading.{questions as questions_after}
use Rattle.reading.specs.declared.value.Reading.{Reading}
use Rattle.reading.specs.declared.event_file.EventFile.{EventFile}
use Rattle.reading.specs.Levels.{fresh}
use Rattle.reading.specs.Questions.{Next, gives, CallMeans}
use Rattle.events.specs.Events.{Events, ends, stray, event, events_of}
use Rattle.events.specs.Outline.{shallower, outline}
use Rattle.reading.specs.Passage.{TakenCall, taken_call, Passage, Answerer, Passes}
use Rattle.reading.specs.EventFile.{by_calls, types_given, verdict_with, number_of, EventsMean}
use Rattle.reading.specs.EventMeaning.{by_documents, EventFileMeets}
use Rattle.reading.proofs.Passages.{passes_each}
use Rattle.reading.proofs.RoomLaws.{room_enough, room_or_20}
use Rattle.expected.proofs.PassageLaws.{each_answer}

-- what holds of each question's refusal
abbrev Each : {A : Type 0} → (A → Type 0) → List (Question A) → Type 0
Each Q [] = Unit
Each Q (q ∷ qs) = Q q.refusal × Each Q qs

-- what holds of each refusal, and of an answer that is taken, holds of the answer
ordered_has : {A : Type 0} (Q P : A → Type 0) (qs : List (Question A)) {a : A} → Each Q qs → (P a → Q a) → Ordered qs P a → Q a
ordered_has Q P [] h k o = k o
ordered_has Q P (q ∷ qs) h k (inl o) = subst Q (sym o.1) h.0
ordered_has Q P (q ∷ qs) h k (inr o) = ordered_has Q P qs h.1 k o.1

abbrev IsOpening : Event → Type 0
IsOpening (opening κ g) = Unit
IsOpening (closing g) = ⊥
IsOpening finish = ⊥

-- a refusal's number is from `least` to 18, and only an opening is given a type
abbrev CanAnswer : ℕ → Event → Answer → Type 0
CanAnswer least x (refused k) = (least ≤ k) × (k ≤ 18)
CanAnswer least x (typed j) = IsOpening x
CanAnswer least x taken = Unit

-- what a call can answer under any schema
call_answer : (S : Schema) (r : Reading) (x : Event) (n : Next) → CallMeans S r x n → CanAnswer 10 x n.answer
call_answer S r x n m =
    each_answer r (λ y n. CanAnswer 10 y n.answer) (λ y i l h. (l, h)) (λ κ g j kept u l. tt) (λ g u. tt) (λ o. tt) S x m

-- what a right answer can be: 10 is none
right_answer : (S : Schema) (e : List Event) (x : Event) (a : Answer) → Right S e x a → CanAnswer 11 x a
right_answer S e (opening κ g) a m =
    ordered_has (CanAnswer 11 (opening κ g)) (TakenAnswer S e (opening κ g)) (questions_after S e (opening κ g))
    (omega arith, (omega arith, (omega arith, (omega arith, tt))))
    (λ t. subst (CanAnswer 11 (opening κ g)) (sym t.answer) tt) m
right_answer S e (closing g) a m =
    ordered_has (CanAnswer 11 (closing g)) (TakenAnswer S e (closing g)) (questions_after S e (closing g))
    (omega arith, (omega arith, (omega arith, (omega arith, (omega arith, tt)))))
    (λ t. subst (CanAnswer 11 (closing g)) (sym t) tt) m
right_answer S e finish a m =
    ordered_has (CanAnswer 11 finish) (TakenAnswer S e finish) (questions_after S e finish) (omega arith, (omega arith, tt))
    (λ t. subst (CanAnswer 11 finish) (sym t) tt) m

-- a number is 0, or from `least` to `most`
abbrev pub Range : ℕ → ℕ → ℕ → Type 0
Range least most n = (n ≡ 0) ⊎ ((least ≤ n) × (n ≤ most))

-- at most one type for each line of the outline
abbrev FewTypes : Events → List TakenCall → Type 0
FewTypes es cs = (level : ℕ) → length (types_given cs) ≤ length (outline level es)

one_more : (least : ℕ) (x : Event) (es : Events) (a : Answer) (at : ℕ) (cs : List TakenCall) → CanAnswer least x a → FewTypes es cs
    → FewTypes (event x es) (taken_call at x a ∷ cs)
one_more least (opening κ g) es (refused n) at cs c later level = omega (arith, later (suc level))
one_more least (opening κ g) es (typed j) at cs c later level = omega (arith, later (suc level))
one_more least (opening κ g) es taken at cs c later level = omega (arith, later (suc level))
one_more least (closing g) es (refused n) at cs c later level = later (shallower level)
one_more least (closing g) es (typed j) at cs c later level = absurd c
one_more least (closing g) es taken at cs c later level = later (shallower level)
one_more least finish es (refused n) at cs c later level = later level
one_more least finish es (typed j) at cs c later level = absurd c
one_more least finish es taken at cs c later level = later level

-- A walk whose events can be answered so.
module _ {A : Type 0} (k : Answerer A) (least : ℕ) (small : least ≤ 18)
    (can : (s : A) (x : Event) (a : Answer) (after : A) → k.Answers s x a after → CanAnswer least x a) where
  -- its number is 0, or from `least` to 19
  passes_range : (s : A) (at : ℕ) (es : Events) (p : Passage A) → Passes k s at es p → Range least 19 (number_of p.verdict)
  passes_range =
      passes_each k (λ s at es p. Range least 19 (number_of p.verdict))
      (λ s at h. inl refl)
      (λ s at n. inr (omega arith, omega arith))
      (λ s at. inr (omega arith, omega arith))
      (λ s at x es n after m. let c = can s x (refused n) after m in inr (c.0, omega (arith, c.1)))
      (λ s at x es a after q t m later. later)

  -- it gives at most one type for each line of the outline
  few_types : (s : A) (at : ℕ) (es : Events) (p : Passage A) → Passes k s at es p → FewTypes es p.calls
  few_types =
      passes_each k (λ s at es p. FewTypes es p.calls) (λ s at h level. omega arith) (λ s at n level. omega arith)
      (λ s at level. omega arith)
      (λ s at x es n after m level. omega arith)
      (λ s at x es a after q t m later. one_more least x es a at q.calls (can s x a after m) later)

-- laid on it, the buffer can make the number 20
laid_range : {A : Type 0} (least room : ℕ) (p : Passage A) → least ≤ 18 → Range least 19 (number_of p.verdict)
    → Range least 20 (number_of (verdict_with room p))
laid_range least room p small range =
    ⊎_elim
    (λ h.
    subst (λ (v : Verdict). Range least 20 (number_of v)) (sym (room_enough room (types_given p.calls) p.verdict h))
    (⊎_elim (λ z. inl z) (λ r. inr (r.0, omega (arith, r.1))) range))
    (λ (h, at, q). subst (λ (v : Verdict). Range least 20 (number_of v)) (sym q) (inr (omega arith, omega arith)))
    (room_or_20 room (types_given p.calls) p.verdict)

by_calls_lem : (S : Schema) (r : Reading) (x : Event) (a : Answer) (after : Reading) → (by_calls S).Answers r x a after → CanAnswer 10 x a
by_calls_lem S r x a after m = call_answer S r x (gives a after) m

-- Under any schema the number of the walk alone is 0, or 10 to 19.
pub calls_range : (S : Schema) (file : List ℕ) (p : Passage Reading) → Passes (by_calls S) fresh 0 (events_of file) p
    → Range 10 19 (number_of p.verdict)
calls_range S file p = passes_range (by_calls S) 10 (omega arith) (by_calls_lem S) fresh 0 (events_of file) p

-- Under an accepted schema the number of the walk alone is 0, or 11 to 19,
pub walk_range : (S : Schema) (file : List ℕ) (p : Passage (List Event)) → Passes (by_documents S) [] 0 (events_of file) p
    → Range 11 19 (number_of p.verdict)
walk_range S file p =
    passes_range (by_documents S) 11 (omega arith) (λ e x a after r. right_answer S e x a r.0) [] 0 (events_of file) p

-- and with a types' buffer 0, or 11 to 20.
pub judged_range : {S : Schema} {room : ℕ} {file : List ℕ} {v : Verdict} {ts : List ℕ} → EventFileMeets S room file v ts
    → Range 11 20 (number_of v)
judged_range {S} {room} {file} m =
    subst (λ (v : Verdict). Range 11 20 (number_of v)) (sym m.verdict)
    (laid_range 11 room m.passage (omega arith) (walk_range S file m.passage m.judged))

-- at most half as many lines as bytes
abbrev Half : Events → ℕ → Type 0
Half es n = (level : ℕ) → 2 * length (outline level es) ≤ n

half_test : (b : Bool) {n : ℕ} (x y : Events) → Half x n → Half y n → Half (cond b x y) n
half_test true x y p q = p
half_test false x y p q = q

half_from : (file : List ℕ) → Half (events_of file) (length file)
half_from [] level = omega arith
half_from (b ∷ []) level = half_test (eqb b 0x2f) (event finish ends) stray (λ l. omega arith) (λ l. omega arith) level
half_from (b ∷ (g ∷ rest)) level =
    half_test (eqb b 0x21) (event (opening plain g) (events_of rest)) _ (λ l. omega (arith, half_from rest (suc l)))
    (half_test (eqb b 0x22) (event (closing g) (events_of rest)) _ (λ l. omega (arith, half_from rest (shallower l)))
    (half_test (eqb b 0x23) (event (opening nil g) (events_of rest)) _ (λ l. omega (arith, half_from rest (suc l)))
    (half_test (eqb b 0x2f) (event finish (events_of (g ∷ rest))) stray (λ l. omega (arith, half_from (g ∷ rest) l)) (λ l. omega arith))))
    level

-- An event file has at most one opening for every two of its bytes.
pub half_openings : (file : List ℕ) → 2 * length (outline 0 (events_of file)) ≤ length file
half_openings file = half_from file 0

-- A types' buffer with a byte for every two of the event file changes no verdict, under any schema.
pub room_for_half : (S : Schema) (file : List ℕ) (room : ℕ) (p : Passage Reading) → Passes (by_calls S) fresh 0 (events_of file) p
    → length file ≤ 2 * room → verdict_with room p ≡ p.verdict
room_for_half S file room p walk h =
    let few = few_types (by_calls S) 10 (omega arith) (by_calls_lem S) fresh 0 (events_of file) p walk 0 in
    room_enough room (types_given p.calls) p.verdict (omega (arith, half_openings file))

module _ {S : Schema} {file was is : List ℕ} {r : EventFile} (m : EventsMean S file was is r) where
  range : Range 10 19 (number_of m.passage.verdict)
  range = calls_range S file m.passage m.passes

  -- Under any schema the number is 0, or 10 to 20.
  pub events_range : Range 10 20 r.number
  events_range = subst (Range 10 20) (sym m.told.number) (laid_range 10 (length was) m.passage (omega arith) range)

  -- A byte for every two of the event file is always enough: the answer is never 20, under any schema.
  pub always_enough : length file ≤ 2 * length was → r.number ≢ 20
  always_enough h z =
      let same = room_for_half S file (length was) m.passage m.passes h in
      let number : r.number ≡ number_of m.passage.verdict = m.told.number ∙ ap number_of same in
      ⊎_elim (λ q. omega arith) (λ q. omega arith) range
