-- The turns of a walk over an event file: from the first on each leaves the walk sound, and where none is left the walk ends.
use mathlib.Core.Path.{◌≡◌, refl, sym, ap, subst, ◌∙◌}
use mathlib.Core.Bool.{Bool, true, false, cond, and-true, and-false, true≢false}
use mathlib.Core.Logic.{inl, inr}
use mathlib.Core.List.{List, []}
use Prim.Native.Nat.{ℕ, zero, suc, ◌+◌, ◌≤◌}
use native.Mathlib.Decide.{dec_le}
use native.Mathlib.Omega.{arith}
use borrow.Author.Tests.{le-leb, lt-leb}
use lib.ListN.{length, drop, replicate, length-replicate}
use Rattle.std.specs.Prelude.{Option, Some, None}
use Rattle.sdtd.specs.Limits.{most_levels}
use Rattle.sdtd.specs.Schema.{Schema as Meaning}
use Rattle.sdtd.specs.Schema.{WithinLimits}
use Rattle.sdtd.specs.Answer.{Answer, refused, Verdict, fine, refused_at}
use Rattle.sdtd.specs.Calls.{IsTaken}
use Rattle.schema.specs.Value.{meaning}
use Rattle.schema.specs.declared.value.Schema.{Schema}
use Rattle.schema.proofs.FirstTables.{Fits}
use Rattle.reading.specs.declared.value.Reading.{Reading}
use Rattle.reading.specs.declared.tables.Tables.{Tables}
use Rattle.events.specs.declared.decoder.Event.{Event as FileEvent}
use Rattle.events.specs.declared.decoder.Event.TheVariants.{Open, Close, Finish}
use Rattle.reading.specs.Levels.{fresh, Within}
use Rattle.reading.specs.Questions.{Next, CallMeans}
use Rattle.events.specs.Events.{ends, stray, kind_of, event_of, size, size_here, event_at, place_after, events_of}
use Rattle.reading.specs.Passage.{TakenCall}
use Rattle.reading.specs.EventFile.{type_given, number_of, place_of}
use Rattle.reading.specs.Turns.{answer_by, end_number}
use Rattle.reading.proofs.StepLaws.{TablesMean, open_rows_means, close_in_means, finish_step_means}
use Rattle.events.proofs.EventPlaces.{Stands, event_stands, ends_some}
use Rattle.reading.proofs.SetsKept.{Below}
use Rattle.reading.proofs.StepSound.{Held, WholePasses, stopped_at, Going, going_at, WalkSound, TurnSound, stop_here, held, turned, refuses_here}

zeros_below : (n : ℕ) → Below (replicate n 0)
zeros_below zero i = omega arith
zeros_below (suc n) zero = omega arith
zeros_below (suc n) (suc i) = zeros_below n i

-- the walk before the first turn
pub first_sound : {S : Meaning} → WithinLimits S → (file : List ℕ) → WalkSound S file [] (going_at 0 fresh)
first_sound {S} within file =
    record {
      reading =
          record {
            within = record { schema = within; reading = record { depth = omega arith; levels = λ i l. absurd (omega arith) } };
            types_long = length-replicate {A = ℕ} most_levels 0;
            sets_long = length-replicate {A = ℕ} most_levels 0;
            below = zeros_below most_levels;
          };
      goes = λ p f. f;
      place = omega arith;
    }

-- each event is answered as its call
pub answer_means : {v : Schema} → Fits v → {t : Tables} → TablesMean v t → {r : Reading} → Within (meaning v) r → Below r.sets → (e : FileEvent)
    → CallMeans (meaning v) r (event_of e) (answer_by t r e)
unfolding answer_by
answer_means fits tables within below (Open κ g) = open_rows_means fits within tables below (kind_of κ) g.0
answer_means fits tables within below (Close g) = rw tables.tags (close_in_means fits within below tables.heads g.0)
answer_means fits tables within below Finish = finish_step_means within

-- The event e stands at the walk's place in the file that its walker is over, and its turn comes to m.
module _ {t : Tables} {w : Going} {e : FileEvent} {m : Next} (turn : m ≡ answer_by t w.reading e) {v : Schema} (fits : Fits v)
    (tables : TablesMean v t) {file : List ℕ} {cs : List TakenCall} (k : WalkSound (meaning v) file cs w) {f : List ℕ} (same : f ≡ file)
    (here : Some e ≡ event_at f w.at) where
  found : Some e ≡ event_at file w.at
  found = here ∙ ap (λ (l : List ℕ). event_at l w.at) same

  means : CallMeans (meaning v) w.reading (event_of e) m
  means = rw turn (answer_means fits tables k.reading.within k.reading.below e)

  stands : Stands file w.at (Some e)
  stands = subst (Stands file w.at) (sym found) (event_stands file w.at)

  inside : w.at + size e ≤ length file
  inside = ends_some file w.at found

  -- the reading after it is one that a walk keeps
  pub turn_held : Held (meaning v) m.reading
  turn_held = held k (event_of e) m means stands inside

  pub turn_taken : (a : Answer) → m.answer ≡ a → IsTaken a → {past : ℕ} → past ≡ place_after f w.at
      → TurnSound (meaning v) file cs (type_given w.at a) (going_at past m.reading)
  turn_taken a answer taken {past} past_it =
      let place : w.at + size e ≡ past = sym (past_it ∙ ap (λ (x : Option FileEvent). w.at + size_here x) (sym here)) in
      subst (λ (n : ℕ). TurnSound (meaning v) file cs (type_given w.at a) (going_at n m.reading)) place
      (turned k (event_of e) m means stands inside a answer taken)

  pub turn_refused : (n : ℕ) → m.answer ≡ refused n
      → WholePasses (meaning v) file (stopped_at cs (refused_at n w.at) m.reading)
  turn_refused = refuses_here k (event_of e) m means stands inside

-- Where no event stands, the file ends or stray bytes follow.
module _ {S : Meaning} {file : List ℕ} {cs : List TakenCall} {w : Going} (k : WalkSound S file cs w) where
  -- the walk comes to a verdict there with this number and place
  abbrev Ends : ℕ → Type 0
  Ends n = (v : Verdict) × (n ≡ number_of v) × (w.at ≡ place_of (length file) v) × WholePasses S file (stopped_at cs v w.reading)

  -- at the file's end, by the reading's mark
  at_end : (b : Bool) → w.reading.finished ≡ b → w.at ≡ length file → events_of (drop w.at file) ≡ ends → Ends (cond b 0 19)
  at_end true q e stands = (fine, refl, e, stop_here k fine ends stands (inr (q, refl)))
  at_end false q e stands = (refused_at 19 w.at, refl, refl, stop_here k (refused_at 19 w.at) ends stands (inl (λ f. true≢false (sym f ∙ q), refl)))

  pub turns_end : None ≡ event_at file w.at → Ends (end_number w.reading.finished (length file) w.at)
  turns_end none =
      let stands = subst (Stands file w.at) (sym none) (event_stands file w.at) in
      elim (dec_le (length file) w.at) [
        | yes h ↦ rw (le-leb (length file) w.at h, and-true) (at_end w.reading.finished refl (omega (arith, k.place)) (stands.0 h))
        | no h ↦
            rw (lt-leb (length file) w.at (omega arith), and-false)
            (refused_at 19 w.at, refl, refl, stop_here k (refused_at 19 w.at) stray (stands.1 (omega arith)) refl)
      ]
