-- What is known of a walk over an event file, and that it holds after each event.
use mathlib.Core.Path.{◌≡◌, refl, sym, subst}
use mathlib.Core.List.{List, [], ◌∷◌, ◌++◌, append_assoc, append-nil}
use Prim.Native.Nat.{ℕ, ◌+◌, ◌≤◌}
use lib.ListN.{length, drop}
use Rattle.sdtd.specs.Limits.{most_levels}
use Rattle.sdtd.specs.Schema.{Schema as Meaning}
use Rattle.sdtd.specs.Document.{Event}
use Rattle.sdtd.specs.Answer.{Verdict, refused_at, refused, Answer}
use Rattle.sdtd.specs.Calls.{IsTaken}
use Rattle.reading.specs.declared.value.Reading.{Reading}
use Rattle.reading.specs.Levels.{fresh, Within}
use Rattle.reading.specs.Questions.{gives, CallMeans, Next}
use Rattle.events.specs.Events.{Events, event, events_of, size_of}
use Rattle.reading.specs.Passage.{TakenCall, taken_call, Passage, stops, before, Passes}
use Rattle.reading.specs.EventFile.{by_calls, GivenType, type_given, types_given}
use Rattle.reading.proofs.OneAnswer.{refused_unchanged}
use Rattle.reading.proofs.WithinKept.{within_kept}
use Rattle.reading.proofs.SetsKept.{Below, sets_kept}
use Rattle.reading.proofs.Passages.{follows_taken}

-- a reading as the walk keeps it
pub record Held (S : Meaning) (r : Reading) : Type 0 where
  pub within : Within S r
  pub types_long : length r.types ≡ most_levels
  pub sets_long : length r.sets ≡ most_levels
  pub below : Below r.sets

-- the passage that has the calls before the passage's own
abbrev pub before_all : List TakenCall → Passage Reading → Passage Reading
before_all cs p = record { verdict = p.verdict; calls = cs ++ p.calls; last = p.last }

-- the walk over the whole file comes to the passage
abbrev pub WholePasses : Meaning → List ℕ → Passage Reading → Type 0
WholePasses S file p = Passes (by_calls S) fresh 0 (events_of file) p

-- how far a walk has come: the place, and the reading there
pub record Going : Type 0 where
  pub at : ℕ
  pub reading : Reading

abbrev pub going_at : ℕ → Reading → Going
going_at at r = record { at = at; reading = r }

-- What is known of a walk that has taken the calls and goes on: the passage from here is the rest of the whole.
pub record WalkSound (S : Meaning) (file : List ℕ) (cs : List TakenCall) (w : Going) : Type 0 where
  pub place : w.at ≤ length file
  pub reading : Held S w.reading
  pub goes : (p : Passage Reading) → Passes (by_calls S) w.reading w.at (events_of (drop w.at file)) p → WholePasses S file (before_all cs p)

-- What is known after a turn: it has taken more calls, which give the types.
pub record TurnSound (S : Meaning) (file : List ℕ) (cs : List TakenCall) (ts : List GivenType) (v : Going) : Type 0 where
  pub more : List TakenCall
  pub sound : WalkSound S file (cs ++ more) v
  pub gave : types_given more ≡ ts

-- the passage that comes to the verdict after these calls, with the reading r
abbrev pub stopped_at : List TakenCall → Verdict → Reading → Passage Reading
stopped_at cs v r = record { verdict = v; calls = cs; last = r }

-- a walk that stops at what stands at its place
pub stop_here : {S : Meaning} {file : List ℕ} {cs : List TakenCall} {w : Going} → WalkSound S file cs w → (v : Verdict) (es : Events)
    → events_of (drop w.at file) ≡ es → Passes (by_calls S) w.reading w.at es (stops v w.reading) → WholePasses S file (stopped_at cs v w.reading)
stop_here {S} {file} {cs} {w} k v es stands f =
    subst (λ (ds : List TakenCall). WholePasses S file (stopped_at ds v w.reading)) (append-nil cs)
    (k.goes (stops v w.reading) (subst (λ (l : Events). Passes (by_calls S) w.reading w.at l (stops v w.reading)) (sym stands) f))

module _ {S : Meaning} {file : List ℕ} {cs : List TakenCall} {w : Going} (k : WalkSound S file cs w) where
  -- the event x stands at the place, and the call of it gives m
  module _ (x : Event) (m : Next) (means : CallMeans S w.reading x m)
      (stands : events_of (drop w.at file) ≡ event x (events_of (drop (w.at + size_of x) file)))
      (inside : w.at + size_of x ≤ length file) where
    pub held : Held S m.reading
    held =
        let r = k.reading in
        let n = within_kept S w.reading x m r.within r.types_long r.sets_long means in
        record { within = n.0; types_long = n.1; sets_long = n.2; below = sets_kept S w.reading x m r.below means }

    called : (a : Answer) → m.answer ≡ a → CallMeans S w.reading x (gives a m.reading)
    called a e = subst (λ (b : Answer). CallMeans S w.reading x (gives b m.reading)) e means

    -- the whole passage, by the passage from here
    from_here : (p : Passage Reading)
        → Passes (by_calls S) w.reading w.at (event x (events_of (drop (w.at + size_of x) file))) p → WholePasses S file (before_all cs p)
    from_here p f = k.goes p (subst (λ (es : Events). Passes (by_calls S) w.reading w.at es p) (sym stands) f)

    -- the event is taken with the answer, and the walk goes on
    takes : (a : Answer) → m.answer ≡ a → IsTaken a
        → WalkSound S file (cs ++ (taken_call w.at x a ∷ [])) (going_at (w.at + size_of x) m.reading)
    takes a e t =
        let c = taken_call w.at x a in
        record {
          place = inside;
          reading = held;
          goes =
              λ p f.
              subst (λ (ds : List TakenCall). WholePasses S file (record { verdict = p.verdict; calls = ds; last = p.last }))
              (sym (append_assoc cs (c ∷ []) p.calls))
              (from_here (before c p) (a, m.reading, called a e, follows_taken w.reading w.at x a _ p t f));
        }

    -- after an event that is taken, by its answer
    pub turned : (a : Answer) → m.answer ≡ a → IsTaken a → TurnSound S file cs (type_given w.at a) (going_at (w.at + size_of x) m.reading)
    turned a e t = record { more = taken_call w.at x a ∷ []; sound = takes a e t; gave = append-nil (type_given w.at a) }

    -- an event that is refused ends the walk, with the reading as it was
    pub refuses_here : (n : ℕ) → m.answer ≡ refused n
        → WholePasses S file (stopped_at cs (refused_at n w.at) m.reading)
    refuses_here n e =
        subst (λ (r : Reading). WholePasses S file (stopped_at cs (refused_at n w.at) r)) (sym (refused_unchanged S w.reading x means e))
        (stop_here k (refused_at n w.at) (event x (events_of (drop (w.at + size_of x) file))) stands (refused n, m.reading, called (refused n) e, refl))
