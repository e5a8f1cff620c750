-- Walks over events, whatever is kept: where each event has one answer there is one passage; two walks that answer alike come to passages
-- that are alike.
use mathlib.Core.Path.{◌≡◌, refl, sym, ap, subst, ◌∙◌}
use mathlib.Core.Logic.{◌↔◌, inl, inr}
use mathlib.Core.List.{List, [], ◌∷◌}
use Prim.Native.Nat.{ℕ, ◌+◌}
use Rattle.sdtd.specs.Document.{Event}
use Rattle.sdtd.specs.Answer.{ask, Answer, refused, typed, taken, Verdict, fine, refused_at}
use Rattle.sdtd.specs.Calls.{IsTaken}
use Rattle.sdtd.proofs.Answers.{ordered_unique}
use Rattle.events.specs.Events.{Events, ends, stray, event, size_of}
use Rattle.reading.specs.Passage.{TakenCall, taken_call, Passage, stops, before, Answerer, Follows, Passes}

-- an event is answered in one way
abbrev pub OneAnswer : {A : Type 0} → Answerer A → Type 0
OneAnswer {A} k =
    (s : A) (x : Event) (a b : Answer) (after later : A) → k.Answers s x a after → k.Answers s x b later → (a ≡ b) × (after ≡ later)

-- an event is answered
abbrev pub SomeAnswer : {A : Type 0} → Answerer A → Type 0
SomeAnswer {A} k = (s : A) (x : Event) → (a : Answer) × (after : A) × k.Answers s x a after

follows_unique : {A : Type 0} (s : A) (at : ℕ) (x : Event) (a : Answer) {p q : Passage A} {Rest Rest' : Passage A → Type 0}
    → ((p q : Passage A) → Rest p → Rest' q → p ≡ q) → Follows s at x a p Rest → Follows s at x a q Rest' → p ≡ q
follows_unique s at x (refused n) same f g = f ∙ sym g
follows_unique s at x (typed j) same (p, f, e) (q, g, d) = e ∙ ap (before (taken_call at x (typed j))) (same p q f g) ∙ sym d
follows_unique s at x taken same (p, f, e) (q, g, d) = e ∙ ap (before (taken_call at x taken)) (same p q f g) ∙ sym d

-- one passage
pub passes_unique : {A : Type 0} (k : Answerer A) → OneAnswer k → (s : A) (at : ℕ) (es : Events) {p q : Passage A} → Passes k s at es p
    → Passes k s at es q → p ≡ q
passes_unique {A} k one s at ends f g =
    ordered_unique (λ (q : Passage A). q ≡ stops fine s) (ask (stops (refused_at 19 at) s) (k.Finished s) ∷ []) (λ all e d. e ∙ sym d) f g
passes_unique k one s at stray f g = f ∙ sym g
passes_unique {A} k one s at (event x es) {q = q} (a, after, m, f) (b, later, n, g) =
    let (same, kept) = one s x a b after later m n in
    let h = subst (λ (c : Answer). Follows s at x c q (λ p. Passes k later (at + size_of x) es p)) (sym same) g in
    follows_unique s at x a
    (λ p q i j. passes_unique k one after (at + size_of x) es i (subst (λ (t : A). Passes k t (at + size_of x) es q) (sym kept) j))
    f h

follows_exists : {A : Type 0} (s : A) (at : ℕ) (x : Event) (a : Answer) {Rest : Passage A → Type 0} → (q : Passage A) × Rest q
    → (p : Passage A) × Follows s at x a p Rest
follows_exists s at x (refused n) (q, r) = (stops (refused_at n at) s, refl)
follows_exists s at x (typed j) (q, r) = (before (taken_call at x (typed j)) q, (q, r, refl))
follows_exists s at x taken (q, r) = (before (taken_call at x taken) q, (q, r, refl))

-- some passage
module _ {A : Type 0} (k : Answerer A) (some : SomeAnswer k) (finished : (s : A) → Dec (k.Finished s)) where
  pub passes_exists : (s : A) (at : ℕ) (es : Events) → (p : Passage A) × Passes k s at es p
  passes_exists s at ends =
      elim (finished s) [
        | yes h ↦ (stops fine s, inr (h, refl))
        | no h ↦ (stops (refused_at 19 at) s, inl (h, refl))
      ]
  passes_exists s at stray = (stops (refused_at 19 at) s, refl)
  passes_exists s at (event x es) =
      let (a, after, m) = some s x in
      let (p, f) = follows_exists s at x a (passes_exists after (at + size_of x) es) in
      (p, (a, after, m, f))

-- What holds where a walk stops, and before an event taken where it holds after it, holds of every passage.
module _ {A : Type 0} (k : Answerer A) (P : A → ℕ → Events → Passage A → Type 0)
    (ended : (s : A) (at : ℕ) → k.Finished s → P s at ends (stops fine s))
    (unfinished : (s : A) (at : ℕ) → ¬ k.Finished s → P s at ends (stops (refused_at 19 at) s))
    (astray : (s : A) (at : ℕ) → P s at stray (stops (refused_at 19 at) s))
    (refuses : (s : A) (at : ℕ) (x : Event) (es : Events) (n : ℕ) (after : A) → k.Answers s x (refused n) after
    → P s at (event x es) (stops (refused_at n at) s))
    (takes : (s : A) (at : ℕ) (x : Event) (es : Events) (a : Answer) (after : A) (q : Passage A) → IsTaken a → k.Answers s x a after
    → P after (at + size_of x) es q → P s at (event x es) (before (taken_call at x a) q)) where
  pub passes_each : (s : A) (at : ℕ) (es : Events) (p : Passage A) → Passes k s at es p → P s at es p
  passes_each s at ends p (inl (n, e)) = subst (P s at ends) (sym e) (unfinished s at n)
  passes_each s at ends p (inr (h, e)) = subst (P s at ends) (sym e) (ended s at h)
  passes_each s at stray p e = subst (P s at stray) (sym e) (astray s at)
  passes_each s at (event x es) p (refused n, after, m, e) = subst (P s at (event x es)) (sym e) (refuses s at x es n after m)
  passes_each s at (event x es) p (typed j, after, m, (q, f, e)) =
      subst (P s at (event x es)) (sym e) (takes s at x es (typed j) after q tt m (passes_each after (at + size_of x) es q f))
  passes_each s at (event x es) p (taken, after, m, (q, f, e)) =
      subst (P s at (event x es)) (sym e) (takes s at x es taken after q tt m (passes_each after (at + size_of x) es q f))

-- the event at the place `at` is taken, and the rest follows
pub follows_taken : {A : Type 0} (s : A) (at : ℕ) (x : Event) (a : Answer) (Rest : Passage A → Type 0) (q : Passage A) → IsTaken a → Rest q
    → Follows s at x a (before (taken_call at x a) q) Rest
follows_taken s at x (refused n) Rest q t r = absurd t
follows_taken s at x (typed j) Rest q t r = (q, r, refl)
follows_taken s at x taken Rest q t r = (q, r, refl)

-- Passages with one verdict and the same calls, where what is kept last is alike.
pub record Alike {A B : Type 0} (Like : A → B → Type 0) (p : Passage A) (q : Passage B) : Type 0 where
  pub verdict : q.verdict ≡ p.verdict
  pub calls : q.calls ≡ p.calls
  pub last : Like p.last q.last

-- Two walks whose judges answer alike.
module _ {A B : Type 0} (k : Answerer A) (l : Answerer B) (Like : A → B → Type 0)
    (answers : (s : A) (t : B) (x : Event) (a : Answer) (after : A) → Like s t → k.Answers s x a after
    → (later : B) × l.Answers t x a later × Like after later)
    (finished : (s : A) (t : B) → Like s t → k.Finished s ↔ l.Finished t) where
  abbrev Walks : A → ℕ → Events → Passage A → Type 0
  Walks s at es p = (t : B) → Like s t → (q : Passage B) × Passes l t at es q × Alike Like p q

  stop_alike : (v : Verdict) {s : A} {t : B} → Like s t → Alike Like (stops v s) (stops v t)
  stop_alike v h = record { verdict = refl; calls = refl; last = h }

  pub passes_alike : (s : A) (at : ℕ) (es : Events) (p : Passage A) → Passes k s at es p → Walks s at es p
  passes_alike =
      passes_each k Walks
      (λ s at f t h. (stops fine t, inr ((finished s t h).0 f, refl), stop_alike fine h))
      (λ s at n t h. (stops (refused_at 19 at) t, inl (λ f. n ((finished s t h).1 f), refl), stop_alike (refused_at 19 at) h))
      (λ s at t h. (stops (refused_at 19 at) t, refl, stop_alike (refused_at 19 at) h))
      (λ s at x es n after m t h.
      let (later, b, i) = answers s t x (refused n) after h m in
      (stops (refused_at n at) t, (refused n, later, b, refl), stop_alike (refused_at n at) h))
      (λ s at x es a after q i m walks t h.
      let (later, b, j) = answers s t x a after h m in
      let (r, f, same) = walks later j in (
        before (taken_call at x a) r,
        (a, later, b, follows_taken t at x a (λ u. Passes l later (at + size_of x) es u) r i f),
        record { verdict = same.verdict; calls = ap (λ (cs : List TakenCall). taken_call at x a ∷ cs) same.calls; last = same.last },
      ))
