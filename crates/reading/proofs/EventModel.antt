-- What an event file gets as a function of its bytes, under an accepted schema: with a byte of the buffer for each type that the function
-- gives, the event file's call answers what the function does.
use mathlib.Core.Path.{◌≡◌, refl, sym, ap, subst, ◌∙◌}
use mathlib.Core.List.{List, [], ◌∷◌, ◌++◌, Memᴰ}
use Prim.Native.Nat.{ℕ, ◌+◌, ◌≤◌}
use native.Mathlib.Omega.{arith}
use lib.ListN.{length, drop}
use Rattle.sdtd.specs.Schema.{Schema}
use Rattle.sdtd.specs.Document.{Event, finish}
use Rattle.sdtd.specs.Competition.{Competition, Accepted}
use Rattle.sdtd.specs.Answer.{Answer, refused, typed, taken, Verdict, fine, refused_at}
use Rattle.sdtd.specs.Reading.{Right}
use Rattle.sdtd.specs.Calls.{IsTaken, if_taken}
use Rattle.sdtd.proofs.Machine.{Frame, start}
use Rattle.sdtd.proofs.Position.{Position}
use Rattle.sdtd.proofs.Questions.{position_unfinished, position_finished}
use Rattle.sdtd.proofs.Answers.{right_unique}
use Rattle.sdtd.proofs.Decide.{LiveTable, LiveExact}
use Rattle.sdtd.proofs.Model.{model, frames_after, model_right, model_next, fresh_position}
use Rattle.reading.specs.declared.event_file.EventFile.{EventFile}
use Rattle.events.specs.Events.{Events, ends, stray, event, events_of, size_of}
use Rattle.reading.specs.Passage.{taken_call, Passage, stops, before, Passes}
use Rattle.reading.specs.EventFile.{verdict_with, number_of, place_of, EventsTold, EventsMean}
use Rattle.reading.specs.EventMeaning.{by_documents}
use Rattle.reading.proofs.Passages.{passes_each}
use Rattle.reading.proofs.EventWalk.{told_unique, passage_judged}
use Rattle.sdtd.proofs.Calls.{if_taken_lem}
use Rattle.reading.proofs.RoomLaws.{types_in, laid_enough}

-- the verdict, and the types given
record Modelled : Type 0 where
  verdict : Verdict
  types : List ℕ

abbrev stops_at : Verdict → Modelled
stops_at v = record { verdict = v; types = [] }

-- what the answer at the place `at`, and what the events after it come to, come to
abbrev answers_with : Answer → ℕ → Modelled → Modelled
answers_with (refused n) at o = stops_at (refused_at n at)
answers_with (typed j) at o = record { verdict = o.verdict; types = j ∷ o.types }
answers_with taken at o = o

-- with no frame left the events are finished
abbrev ends_with : List Frame → ℕ → Modelled
ends_with [] at = stops_at fine
ends_with (f ∷ fs) at = stops_at (refused_at 19 at)

-- What the events from the place `at` on come to, after the events e, which led to the frames: each gets the model's answer.
abbrev modelled : Schema → LiveTable → List Event → List Frame → ℕ → Events → Modelled
modelled S L e fs at ends = ends_with fs at
modelled S L e fs at stray = stops_at (refused_at 19 at)
modelled S L e fs at (event x es) =
    answers_with (model S L e fs x) at (modelled S L (e ++ (x ∷ [])) (frames_after (model S L e fs x) x fs) (at + size_of x) es)

-- the passage has this verdict and these types
abbrev Is : Passage (List Event) → Modelled → Type 0
Is p o = (p.verdict ≡ o.verdict) × (types_in p.calls ≡ o.types)

ended_is : {S : Schema} {e : List Event} (fs : List Frame) → Position S e fs → Memᴰ finish e → (at : ℕ) → Is (stops fine e) (ends_with fs at)
ended_is [] p h at = (refl, refl)
ended_is (f ∷ fs) p h at = absurd (position_unfinished p h)

unfinished_is : {S : Schema} {e : List Event} (fs : List Frame) → Position S e fs → ¬ Memᴰ finish e → (at : ℕ)
    → Is (stops (refused_at 19 at) e) (ends_with fs at)
unfinished_is [] p n at = absurd (position_finished p n)
unfinished_is (f ∷ fs) p n at = (refl, refl)

taken_is : (a : Answer) (at : ℕ) (x : Event) (q : Passage (List Event)) (o : Modelled) → IsTaken a → Is q o
    → Is (before (taken_call at x a) q) (answers_with a at o)
taken_is (refused n) at x q o t i = absurd t
taken_is (typed j) at x q o t i = (i.0, ap (λ (l : List ℕ). j ∷ l) i.1)
taken_is taken at x q o t i = i

module _ {S : Schema} {L : LiveTable} (free : ¬ Competition S) (exact : LiveExact S L) where
  abbrev Modelled-by : List Event → ℕ → Events → Passage (List Event) → Type 0
  Modelled-by e at es p = (fs : List Frame) → Position S e fs → Is p (modelled S L e fs at es)

  -- an event that is taken with the model's answer
  takes_is : (e : List Event) (at : ℕ) (x : Event) (es : Events) (a : Answer) (after : List Event) (q : Passage (List Event)) → IsTaken a
      → Right S e x a × (after ≡ e ++ if_taken a x) → Modelled-by after (at + size_of x) es q
      → Modelled-by e at (event x es) (before (taken_call at x a) q)
  takes_is e at x es a after q t (r, k) later fs p =
      let b = model S L e fs x in
      let same : a ≡ b = right_unique S e x r (model_right free exact p x) in
      let next : after ≡ e ++ (x ∷ []) = k ∙ ap (λ (l : List Event). e ++ l) (if_taken_lem a x t) in
      let position : Position S after (frames_after b x fs) =
      subst (λ (l : List Event). Position S l (frames_after b x fs)) (sym (k ∙ ap (λ (c : Answer). e ++ if_taken c x) same)) (model_next free exact p x) in
      let rest : Is q (modelled S L (e ++ (x ∷ [])) (frames_after b x fs) (at + size_of x) es) =
      subst (λ (l : List Event). Is q (modelled S L l (frames_after b x fs) (at + size_of x) es)) next (later (frames_after b x fs) position) in
      let o = modelled S L (e ++ (x ∷ [])) (frames_after b x fs) (at + size_of x) es in
      subst (λ (c : Answer). Is (before (taken_call at x a) q) (answers_with c at o)) same (taken_is a at x q o t rest)

  judged_modelled : (e : List Event) (at : ℕ) (es : Events) (p : Passage (List Event)) → Passes (by_documents S) e at es p
      → Modelled-by e at es p
  judged_modelled =
      passes_each (by_documents S) Modelled-by
      (λ e at h fs p. ended_is fs p h at)
      (λ e at n fs p. unfinished_is fs p n at)
      (λ e at fs p. (refl, refl))
      (λ e at x es n after (r, k) fs p.
      let o = modelled S L (e ++ (x ∷ [])) (frames_after (model S L e fs x) x fs) (at + size_of x) es in
      subst (λ (c : Answer). Is (stops (refused_at n at) e) (answers_with c at o)) (right_unique S e x r (model_right free exact p x))
      (refl, refl))
      takes_is

-- what an event file gets: number, place, and the types of the openings taken
pub record EventsGot : Type 0 where
  pub number : ℕ
  pub place : ℕ
  pub types : List ℕ

abbrev got_by : ℕ → Modelled → EventsGot
got_by end o = record { number = number_of o.verdict; place = place_of end o.verdict; types = o.types }

abbrev pub got_of : Schema → LiveTable → List ℕ → EventsGot
got_of S L file = got_by (length file) (modelled S L [] start 0 (events_of file))

pub events_got : {S : Schema} {L : LiveTable} → Accepted S → LiveExact S L → {file was is : List ℕ} {r : EventFile}
    → EventsMean S file was is r → length (got_of S L file).types ≤ length was
    → (r ≡ record { number = (got_of S L file).number; place = (got_of S L file).place; count = length (got_of S L file).types })
    × (is ≡ (got_of S L file).types ++ drop (length (got_of S L file).types) was)
events_got {S} {L} accepted exact {file} {was} {is} {r} m h =
    let (q, judged, same) = passage_judged accepted file m.passage m.passes in
    let o = modelled S L [] start 0 (events_of file) in
    let (v, ts) = judged_modelled accepted.no_competition exact [] 0 (events_of file) q judged start (fresh_position accepted.bears) in
    let given : types_in m.passage.calls ≡ o.types = ap types_in (sym same.calls) ∙ ts in
    let (verdict, types) = laid_enough (length was) m.passage (omega (arith, ap length given)) in
    told_unique (subst (λ (x : Verdict). EventsTold file was is x o.types r) (verdict ∙ sym same.verdict ∙ v)
    (subst (λ (x : List ℕ). EventsTold file was is (verdict_with (length was) m.passage) x r) (types ∙ given) m.told))
    (record { number = refl; place = refl; count = refl; buffer = refl })
