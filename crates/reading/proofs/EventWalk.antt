-- The walk over an event file by the reading's calls: there is one passage, and so one answer; and under an accepted schema each event is
-- judged by demand 3's questions.
use mathlib.Core.Path.{◌≡◌, refl, sym, ap, subst, ◌∙◌}
use mathlib.Core.Logic.{◌↔◌, ◌≢◌, ⊎_elim}
use mathlib.Core.Bool.{Bool, true, false, true≢false, false≢true}
use mathlib.Core.List.Memᴰ
use mathlib.Core.List.{List, [], ◌∷◌, ◌++◌, Memᴰ}
use Prim.Native.Nat.{ℕ}
use native.Mathlib.Omega.{arith}
use lib.ListN.{length, drop}
use Rattle.sdtd.specs.Schema.{Schema}
use Rattle.sdtd.specs.Document.{Event, opening, closing, finish}
use Rattle.sdtd.specs.Competition.{Accepted}
use Rattle.sdtd.specs.Answer.{Answer, Verdict}
use Rattle.sdtd.specs.Reading.{NotFinished, Right}
use Rattle.sdtd.specs.Calls.{if_taken}
use Rattle.sdtd.proofs.Tests.{to_dec, true_means}
use Rattle.reading.specs.declared.value.Reading.{Reading}
use Rattle.reading.specs.declared.event_file.EventFile.{EventFile}
use Rattle.reading.specs.Levels.{fresh}
use Rattle.reading.specs.Questions.{gives, CallMeans, Next}
use Rattle.events.specs.Events.{Events, events_of}
use Rattle.reading.specs.Passage.{Passage, Passes}
use Rattle.reading.specs.EventFile.{by_calls, verdict_with, types_with, number_of, place_of, EventsTold, EventsMean}
use Rattle.reading.specs.EventMeaning.{by_documents}
use Rattle.reading.proofs.Keeping.{After, fresh_after}
use Rattle.reading.proofs.CallAnswers.{not_finished, call_answered}
use Rattle.reading.proofs.OneAnswer.{call_unique}
use Rattle.reading.proofs.AnswerExists.{call_exists}
use Rattle.reading.proofs.Passages.{OneAnswer, SomeAnswer, passes_unique, passes_exists, Alike, passes_alike}

module _ (S : Schema) where
  pub one_call : OneAnswer (by_calls S)
  one_call r x a b after later m n =
      let same = call_unique S r x m n in (ap (λ (k : Next). k.answer) same, ap (λ (k : Next). k.reading) same)

  some_call : SomeAnswer (by_calls S)
  some_call r x = let (n, m) = call_exists S r x in (n.answer, n.reading, m)

  -- one passage, for any schema and any reading
  pub passage_unique : (r : Reading) (at : ℕ) (es : Events) {p q : Passage Reading} → Passes (by_calls S) r at es p
      → Passes (by_calls S) r at es q → p ≡ q
  passage_unique = passes_unique (by_calls S) one_call

  pub passage_exists : (r : Reading) (at : ℕ) (es : Events) → (p : Passage Reading) × Passes (by_calls S) r at es p
  passage_exists = passes_exists (by_calls S) some_call (λ r. to_dec (true_means r.finished))

  -- Every event file has an answer, with what the buffer holds after it.
  pub events_exist : (file was : List ℕ) → (r : EventFile) × (is : List ℕ) × EventsMean S file was is r
  events_exist file was =
      let (p, f) = passage_exists fresh 0 (events_of file) in
      let v = verdict_with (length was) p in
      let ts = types_with (length was) p in (
        record { number = number_of v; place = place_of (length file) v; count = length ts },
        ts ++ drop (length ts) was,
        record { passage = p; passes = f; told = record { number = refl; place = refl; count = refl; buffer = refl } },
      )

-- What the answer says fixes its number, place and count, and each byte of the buffer.
pub told_unique : {file was is₁ is₂ : List ℕ} {v : Verdict} {ts : List ℕ} {r₁ r₂ : EventFile} → EventsTold file was is₁ v ts r₁
    → EventsTold file was is₂ v ts r₂ → (r₁ ≡ r₂) × (is₁ ≡ is₂)
told_unique m n = (
  λ i.
      record {
        number = (m.number ∙ sym n.number) i;
        place = (m.place ∙ sym n.place) i;
        count = (m.count ∙ sym n.count) i;
      },
  m.buffer ∙ sym n.buffer,
)

-- What the event file's call promises fixes its answer.
pub events_unique : {S : Schema} {file was is₁ is₂ : List ℕ} {r₁ r₂ : EventFile} → EventsMean S file was is₁ r₁
    → EventsMean S file was is₂ r₂ → (r₁ ≡ r₂) × (is₁ ≡ is₂)
events_unique {S} {file} {was} {is₂ = is} {r₂ = r} m n =
    let same = passage_unique S fresh 0 (events_of file) n.passes m.passes in
    told_unique m.told
    (subst (λ (p : Passage Reading). EventsTold file was is (verdict_with (length was) p) (types_with (length was) p) r) same n.told)

among_with : {x : Event} {e : List Event} → finish ≢ x → Dec (Memᴰ finish e) → Dec (Memᴰ finish (x ∷ e))
among_with d (yes m) = yes (Memᴰ.tail m)
among_with d (no n) = no (λ m. ⊎_elim d n (Memᴰ.cases_cons m))

-- whether a finish is among the events
finish_among : (e : List Event) → Dec (Memᴰ finish e)
finish_among [] = no Memᴰ.not-nil
finish_among (opening κ g ∷ e) = among_with (λ q. let z : ◌≡◌ {A = ℕ} 0 1 = cc in omega arith) (finish_among e)
finish_among (closing g ∷ e) = among_with (λ q. let z : ◌≡◌ {A = ℕ} 0 1 = cc in omega arith) (finish_among e)
finish_among (finish ∷ e) = yes (Memᴰ.head refl)

-- the reading's mark says whether a finish is among the events
mark_finished : (mark : Bool) (e : List Event) → (mark ≡ false) ↔ NotFinished e → (mark ≡ true) ↔ Memᴰ finish e
mark_finished false e u = (λ q. absurd (false≢true q), λ m. absurd (u.0 refl m))
mark_finished true e u = (
  λ q.
      elim (finish_among e) [
        | yes m ↦ m
        | no n ↦ absurd (true≢false (u.1 n))
      ],
  λ m. refl,
)

module _ {S : Schema} (accepted : Accepted S) where
  -- a call on the reading after the events e gives the right answer for e
  call_judged : (r : Reading) (e : List Event) (x : Event) (a : Answer) (after : Reading) → After S e r → CallMeans S r x (gives a after)
      → (later : List Event) × (Right S e x a × (later ≡ e ++ if_taken a x)) × After S later after
  call_judged r e x a after k m =
      let c = call_answered accepted k x m in (
        e ++ if_taken a x,
        (c.right, refl),
        c.next,
      )

  -- Under an accepted schema the walk from a fresh reading judges each event by demand 3's questions: it has the verdict and the calls of the
  -- walk that keeps the events taken, and stops at the reading after these.
  pub passage_judged : (file : List ℕ) (p : Passage Reading) → Passes (by_calls S) fresh 0 (events_of file) p
      → (q : Passage (List Event)) × Passes (by_documents S) [] 0 (events_of file) q × Alike (λ r e. After S e r) p q
  passage_judged file p f =
      passes_alike (by_calls S) (by_documents S) (λ r e. After S e r) call_judged
      (λ r e k. mark_finished r.finished e (not_finished k.frames k.at k.reads))
      fresh 0 (events_of file) p f [] (fresh_after accepted)
