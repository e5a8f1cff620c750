-- A passage that all is fine with: every event of the file is called and taken, and the file ends with its only finish.
use mathlib.Core.Path.{◌≡◌, refl, sym, ap, ap₂, subst}
use mathlib.Core.Logic.{◌⊎◌, inl, inr, ◌≢◌, ⊎_elim}
use mathlib.Core.List.Memᴰ
use mathlib.Core.List.{List, [], ◌∷◌, ◌++◌, Memᴰ}
use Prim.Native.Nat.{ℕ, ◌<◌}
use native.Mathlib.Omega.{arith}
use Rattle.sdtd.specs.Schema.{Schema}
use Rattle.sdtd.specs.Document.{Event, opening, closing, finish}
use Rattle.sdtd.specs.Answer.{Answer, refused, typed, taken, fine, refused_at}
use Rattle.sdtd.specs.Reading.{questions, NotFinished, TakenAnswer, Right}
use Rattle.sdtd.specs.Calls.{Exchange, IsTaken, if_taken, events_taken, calls, answers_of}
use Rattle.sdtd.proofs.Answers.{ordered_taken}
use Rattle.sdtd.proofs.Calls.{Each, RightAt, refuses_none, answer_taken, right_taken, if_taken_lem}
use Rattle.events.specs.Events.{Events, event}
use Rattle.events.proofs.EventBytes.{event_list, Ended}
use Rattle.reading.specs.Passage.{TakenCall, taken_call, Passage, Passes}
use Rattle.reading.specs.EventFile.{number_of}
use Rattle.reading.specs.EventMeaning.{by_documents}
use Rattle.reading.proofs.Passages.{passes_each}
use Rattle.reading.proofs.RoomLaws.{types_in}

-- no question is refused with 0
never_0 : (S : Schema) (e : List Event) (x : Event) → ¬ Right S e x (refused 0)
never_0 S e x r = answer_taken S e x (refused 0) (ordered_taken (TakenAnswer S e x) (questions S e x) (refuses_none S e x other) r).1
  where
    other : (n : ℕ) → 10 < n → refused 0 ≢ refused n
    other n l p = let same : 0 ≡ n = cc in omega arith

-- only a passage that all is fine with has the number 0
pub judged_zero : (S : Schema) (e : List Event) (at : ℕ) (es : Events) (p : Passage (List Event)) → Passes (by_documents S) e at es p
    → number_of p.verdict ≡ 0 → p.verdict ≡ fine
judged_zero S =
    passes_each (by_documents S) (λ e at es p. number_of p.verdict ≡ 0 → p.verdict ≡ fine)
    (λ e at h z. refl)
    (λ e at h z. absurd (omega arith))
    (λ e at z. absurd (omega arith))
    (λ e at x es n after m z. absurd (never_0 S e x (subst (λ (k : ℕ). Right S e x (refused k)) z m.0)))
    (λ e at x es a after q t m later. later)

taken_unfinished : (S : Schema) (e : List Event) (x : Event) (a : Answer) → Right S e x a → IsTaken a → NotFinished e
taken_unfinished S e (opening κ g) a r t = (right_taken S e (opening κ g) a r t).0.0
taken_unfinished S e (closing g) a r t = (right_taken S e (closing g) a r t).0.0
taken_unfinished S e finish a r t = (right_taken S e finish a r t).0.0

-- the types among the answers
abbrev pub types_among : List Answer → List ℕ
types_among [] = []
types_among (refused n ∷ answers) = types_among answers
types_among (typed j ∷ answers) = j ∷ types_among answers
types_among (taken ∷ answers) = types_among answers

-- What such a passage says of its events, after the events e: they are all called and taken, the file ends with them, and the last of them is
-- the only finish.
pub record Whole (S : Schema) (e : List Event) (es : Events) (cs : List TakenCall) : Type 0 where
  pub exchanges : List Exchange
  pub right : Each (RightAt S) e exchanges
  pub all_taken : events_taken exchanges ≡ calls exchanges
  pub all_called : calls exchanges ≡ event_list es
  pub ended : Ended es
  pub types : types_in cs ≡ types_among (answers_of exchanges)
  pub last : (Memᴰ finish e × (calls exchanges ≡ [])) ⊎ ((front : List Event) × (calls exchanges ≡ front ++ (finish ∷ [])))

types_with : (a : Answer) (at : ℕ) (x : Event) (cs : List TakenCall) (answers : List Answer) → IsTaken a
    → types_in cs ≡ types_among answers → types_in (taken_call at x a ∷ cs) ≡ types_among (a ∷ answers)
types_with (refused n) at x cs answers t q = absurd t
types_with (typed j) at x cs answers t q = ap (λ (l : List ℕ). j ∷ l) q
types_with taken at x cs answers t q = q

-- an event that is taken, before the events that follow it
module _ (S : Schema) (e : List Event) (at : ℕ) (x : Event) {es : Events} {cs : List TakenCall} (a : Answer) (r : Right S e x a)
    (t : IsTaken a) (w : Whole S (e ++ if_taken a x) es cs) where
  whole_last : (front : List Event) × (x ∷ calls w.exchanges ≡ front ++ (finish ∷ []))
  whole_last = ⊎_elim (λ k. ([], only k)) (λ k. (x ∷ k.0, ap (λ (l : List Event). x ∷ l) k.1)) w.last
    where
      only : Memᴰ finish (e ++ if_taken a x) × (calls w.exchanges ≡ []) → x ∷ calls w.exchanges ≡ finish ∷ []
      only (m, z) =
          ⊎_elim (λ k. absurd (taken_unfinished S e x a r t k))
          (λ k. ap₂ (λ (y : Event) (l : List Event). y ∷ l) (sym (Memᴰ.eq_of_singleton k)) z)
          (Memᴰ.append_cases e (subst (λ (l : List Event). Memᴰ finish (e ++ l)) (if_taken_lem a x t) m))

  whole_with : Whole S e (event x es) (taken_call at x a ∷ cs)
  whole_with =
      record {
        exchanges = record { call = x; answer = a } ∷ w.exchanges;
        right = (r, w.right);
        all_taken = ap₂ ◌++◌ (if_taken_lem a x t) w.all_taken;
        all_called = ap (λ (l : List Event). x ∷ l) w.all_called;
        ended = w.ended;
        types = types_with a at x cs (answers_of w.exchanges) t w.types;
        last = inr whole_last;
      }

-- nothing less is fine
pub judged_whole : (S : Schema) (e : List Event) (at : ℕ) (es : Events) (p : Passage (List Event)) → Passes (by_documents S) e at es p
    → p.verdict ≡ fine → Whole S e es p.calls
judged_whole S =
    passes_each (by_documents S) (λ e at es p. p.verdict ≡ fine → Whole S e es p.calls)
    (λ e at m z.
    record { exchanges = []; right = tt; all_taken = refl; all_called = refl; ended = tt; types = refl; last = inl (m, refl) })
    (λ e at n z. not_fine z)
    (λ e at z. not_fine z)
    (λ e at x es n after m z. not_fine z)
    (λ e at x es a after q t m later z. whole_with S e at x a m.0 t (subst (λ (l : List Event). Whole S l es q.calls) m.1 (later z)))
  where
    not_fine : {A : Type 0} {n at : ℕ} → refused_at n at ≡ fine → A
    not_fine q = let z : ◌≡◌ {A = ℕ} 0 1 = cc in absurd (omega arith)
