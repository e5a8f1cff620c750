-- A walk over the events of an event file: document 01, "The event file", up to the types' buffer, which `EventFile` lays on it.
use Rattle.std.specs.Prelude.{◌≡◌, List, [], ◌∷◌, ℕ, ◌+◌}
use Rattle.sdtd.specs.Document.{Event}
use Rattle.sdtd.specs.Calls.{Exchange}
use Rattle.sdtd.specs.Answer.{ask, Ordered, Answer, refused, typed, taken, Verdict, fine, refused_at}
use Rattle.events.specs.Events.{Events, ends, stray, event, size_of}

-- a call that was taken, and the place of its event
pub record TakenCall : Type 0 where
  pub place : ℕ
  pub exchange : Exchange

abbrev pub taken_call : ℕ → Event → Answer → TakenCall
taken_call at x a = record { place = at; exchange = record { call = x; answer = a } }

-- What a walk comes to: the verdict, the calls taken in order, and what is kept where it stopped.
pub record Passage (A : Type 0) : Type 0 where
  pub verdict : Verdict
  pub calls : List TakenCall
  pub last : A

-- the walk stops, and keeps s
abbrev pub stops : {A : Type 0} → Verdict → A → Passage A
stops v s = record { verdict = v; calls = []; last = s }

-- the same passage, with a call before its calls
abbrev pub before : {A : Type 0} → TakenCall → Passage A → Passage A
before c p = record { verdict = p.verdict; calls = c ∷ p.calls; last = p.last }

-- Who answers the events, with an A kept of those taken. `Answers s x a t`: with s kept, the event x gets a, and t is kept after it.
-- `Finished s`: a finish was taken. `by_calls` of `EventFile` keeps a reading, `by_documents` of `EventMeaning` the events taken.
pub record Answerer (A : Type 0) : Type 1 where
  pub Answers : A → Event → Answer → A → Type 0
  pub Finished : A → Type 0

-- What follows the answer to the event x at the place `at`, with s kept before it: a refusal stops the walk ("until the first refusal"), with
-- what was kept before it; else the walk goes on, and comes to the rest.
abbrev pub Follows : {A : Type 0} → A → ℕ → Event → Answer → Passage A → (Passage A → Type 0) → Type 0
Follows s at x (refused n) p Rest = p ≡ stops (refused_at n at) s
Follows {A} s at x (typed j) p Rest = (q : Passage A) × Rest q × (p ≡ before (taken_call at x (typed j)) q)
Follows {A} s at x taken p Rest = (q : Passage A) × Rest q × (p ≡ before (taken_call at x taken) q)

-- "A walker over the lent bytes gives one event after another [..] until the first refusal." With s kept, the walk over the events from the
-- place `at` on comes to the passage p. "First: is it one of the three with its operand inside the file? No: 19." With document 02's 23 it is one
-- of four. "A file that ends with no FINISH gets 19 at its length. Then the reading's questions".
abbrev pub Passes : {A : Type 0} → Answerer A → A → ℕ → Events → Passage A → Type 0
Passes {A} k s at ends p = Ordered (ask (stops (refused_at 19 at) s) (k.Finished s) ∷ []) (λ (q : Passage A). q ≡ stops fine s) p
Passes k s at stray p = p ≡ stops (refused_at 19 at) s
Passes {A} k s at (event x es) p =
    (a : Answer) × (after : A) × k.Answers s x a after × Follows s at x a p (λ q. Passes k after (at + size_of x) es q)
