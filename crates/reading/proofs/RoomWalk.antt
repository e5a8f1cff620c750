-- The passage of a file with the types' buffer laid on it is the walk that asks each opening for its byte: "Then the reading's questions; for an
-- opening, last: is a byte of the buffer left? No: 20."
use mathlib.Core.Path.{◌≡◌, refl, sym, ap, subst, ◌∙◌}
use mathlib.Core.Logic.{◌↔◌, inl, inr}
use mathlib.Core.List.{List, [], ◌∷◌}
use Prim.Native.Nat.{ℕ, zero, suc, ◌+◌}
use lib.ListN.{length}
use lib.Seq.{take-nil}
use Rattle.sdtd.specs.Answer.{ask, Ordered, Answer, refused, typed, taken, Verdict, fine, refused_at}
use Rattle.sdtd.specs.Schema.{Schema}
use Rattle.sdtd.specs.Document.{Event}
use Rattle.sdtd.proofs.Answers.{ordered_unique}
use Rattle.events.specs.Events.{Events, ends, stray, event, events_of, size_of}
use Rattle.reading.specs.declared.value.Reading.{Reading}
use Rattle.reading.specs.Passage.{Passage, stops, Answerer, Follows, Passes}
use Rattle.reading.specs.declared.event_file.EventFile.{EventFile}
use Rattle.reading.specs.Levels.{fresh}
use Rattle.reading.specs.EventFile.{by_calls, verdict_with, types_with, EventsTold, EventsMean}
use Rattle.reading.proofs.Passages.{OneAnswer}
use Rattle.reading.proofs.EventWalk.{one_call, passage_exists}

-- What follows the answer to the event at the place `at`, with `room` bytes of the buffer left.
abbrev FollowsWith : Answer → ℕ → ℕ → Verdict → List ℕ → (ℕ → List ℕ → Type 0) → Type 0
FollowsWith (refused n) room at v ts Rest = (v ≡ refused_at n at) × (ts ≡ [])
FollowsWith (typed j) zero at v ts Rest = (v ≡ refused_at 20 at) × (ts ≡ [])
FollowsWith (typed j) (suc room) at v ts Rest = (us : List ℕ) × (ts ≡ j ∷ us) × Rest room us
FollowsWith taken room at v ts Rest = Rest room ts

-- With s kept and `room` bytes left, the walk over the events from the place `at` on gets the verdict v, and its openings the types ts.
abbrev pub WalkWith : {A : Type 0} → Answerer A → A → ℕ → ℕ → Events → Verdict → List ℕ → Type 0
WalkWith k s room at ends v ts = Ordered (ask (refused_at 19 at) (k.Finished s) ∷ []) (λ w. w ≡ fine) v × (ts ≡ [])
WalkWith k s room at stray v ts = (v ≡ refused_at 19 at) × (ts ≡ [])
WalkWith {A} k s room at (event x es) v ts =
    (a : Answer) × (after : A) × k.Answers s x a after
    × FollowsWith a room at v ts (λ left us. WalkWith k after left (at + size_of x) es v us)

-- where the walk stops, no type is given
stopped_with : {A : Type 0} (room : ℕ) (s : A) {v : Verdict} {p : Passage A} → p ≡ stops v s → (verdict_with room p ≡ v) × (types_with room p ≡ [])
stopped_with room s e = (ap (λ p. verdict_with room p) e, ap (λ p. types_with room p) e ∙ take-nil room)

-- the walk with this judge, from what is kept after an event on
abbrev With : {A : Type 0} → Answerer A → A → ℕ → Events → Type 0
With {A} k after at es =
    (room : ℕ) (p : Passage A) → Passes k after at es p → WalkWith k after room at es (verdict_with room p) (types_with room p)

followed : {A : Type 0} (k : Answerer A) (s after : A) (at : ℕ) (x : Event) (es : Events) (p : Passage A) → With k after (at + size_of x) es
    → (a : Answer) (room : ℕ) → Follows s at x a p (λ q. Passes k after (at + size_of x) es q)
    → FollowsWith a room at (verdict_with room p) (types_with room p)
    (λ left us. WalkWith k after left (at + size_of x) es (verdict_with room p) us)
followed k s after at x es p later (refused n) room e = stopped_with room s e
followed k s after at x es p later (typed j) zero (q, r, e) = rw e (refl, refl)
followed k s after at x es p later (typed j) (suc room) (q, r, e) = rw e (types_with room q, refl, later room q r)
followed k s after at x es p later taken room (q, r, e) = rw e (later room q r)

-- the passage with the buffer laid on it is such a walk
pub room_walk : {A : Type 0} (k : Answerer A) (s : A) (at : ℕ) (es : Events) → With k s at es
room_walk k s at ends room p (inl (n, e)) = let w = stopped_with room s e in (inl (n, w.0), w.1)
room_walk k s at ends room p (inr (h, e)) = let w = stopped_with room s e in (inr (h, w.0), w.1)
room_walk k s at stray room p e = stopped_with room s e
room_walk k s at (event x es) room p (a, after, m, f) = (
  a,
  after,
  m,
  followed k s after at x es p (room_walk k after (at + size_of x) es) a room f,
)

follows_fixed : (a : Answer) (room at : ℕ) {v v' : Verdict} {ts ts' : List ℕ} {Rest Rest' : ℕ → List ℕ → Type 0}
    → ((left : ℕ) (us us' : List ℕ) → Rest left us → Rest' left us' → (v ≡ v') × (us ≡ us')) → FollowsWith a room at v ts Rest
    → FollowsWith a room at v' ts' Rest' → (v ≡ v') × (ts ≡ ts')
follows_fixed (refused n) room at same f g = (f.0 ∙ sym g.0, f.1 ∙ sym g.1)
follows_fixed (typed j) zero at same f g = (f.0 ∙ sym g.0, f.1 ∙ sym g.1)
follows_fixed (typed j) (suc room) at same (us, p, f) (us', q, g) =
    let r = same room us us' f g in (r.0, p ∙ ap (λ (l : List ℕ). j ∷ l) r.1 ∙ sym q)
follows_fixed taken room at {ts = ts} {ts'} same f g = same room ts ts' f g

-- there is one such walk
walk_fixed : {A : Type 0} (k : Answerer A) → OneAnswer k → (s : A) (room at : ℕ) (es : Events) {v v' : Verdict} {ts ts' : List ℕ}
    → WalkWith k s room at es v ts → WalkWith k s room at es v' ts' → (v ≡ v') × (ts ≡ ts')
walk_fixed k one s room at ends (o, t) (o', t') = (
  ordered_unique (λ (w : Verdict). w ≡ fine) (ask (refused_at 19 at) (k.Finished s) ∷ []) (λ all e d. e ∙ sym d) o o',
  t ∙ sym t',
)
walk_fixed k one s room at stray (e, t) (e', t') = (e ∙ sym e', t ∙ sym t')
walk_fixed {A} k one s room at (event x es) {v' = v'} {ts' = ts'} (a, after, m, f) (b, later, n, g) =
    let (same, kept) = one s x a b after later m n in
    let h = subst (λ (c : Answer). FollowsWith c room at v' ts' (λ left us. WalkWith k later left (at + size_of x) es v' us)) (sym same) g in
    follows_fixed a room at
    (λ left us us' i j.
    walk_fixed k one after left (at + size_of x) es i (subst (λ (t : A). WalkWith k t left (at + size_of x) es v' us') (sym kept) j))
    f h

-- a verdict and types are those of the passage with the buffer laid on it exactly when the walk that asks each opening for its byte gets them
pub walk_laid : (S : Schema) (r : Reading) (room at : ℕ) (es : Events) (p : Passage Reading) (v : Verdict) (ts : List ℕ)
    → Passes (by_calls S) r at es p → WalkWith (by_calls S) r room at es v ts ↔ ((v ≡ verdict_with room p) × (ts ≡ types_with room p))
walk_laid S r room at es p v ts passes =
    let w = room_walk (by_calls S) r at es room p passes in (
      λ u. walk_fixed (by_calls S) (one_call S) r room at es u w,
      λ e. rw (e.0, e.1) w,
    )

-- What such a walk from a fresh reading answers.
pub record EventsWalked (S : Schema) (file was is : List ℕ) (r : EventFile) : Type 0 where
  pub verdict : Verdict
  pub types : List ℕ
  pub walk : WalkWith (by_calls S) fresh (length was) 0 (events_of file) verdict types
  pub told : EventsTold file was is verdict types r

-- The event file's promise says exactly this.
pub events_walked : (S : Schema) (file was is : List ℕ) (r : EventFile) → EventsMean S file was is r ↔ EventsWalked S file was is r
events_walked S file was is r = (
  λ m.
      record {
        verdict = verdict_with (length was) m.passage;
        types = types_with (length was) m.passage;
        walk = room_walk (by_calls S) fresh 0 (events_of file) (length was) m.passage m.passes;
        told = m.told;
      },
  λ w.
      let (p, passes) = passage_exists S fresh 0 (events_of file) in
      let e = (walk_laid S fresh (length was) 0 (events_of file) p w.verdict w.types passes).0 w.walk in
      record { passage = p; passes = passes; told = rw (e.0, e.1) at w.told },
)
