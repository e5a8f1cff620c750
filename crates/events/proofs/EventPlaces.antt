-- The event at a place of a file: what the events from there on begin with, and that it ends inside the file.
use mathlib.Core.Path.{◌≡◌, refl, sym, ap, subst, ◌∙◌}
use mathlib.Core.List.{List, [], ◌∷◌}
use Prim.Native.Nat.{ℕ, ◌+◌, ◌-◌, ◌≤◌, ◌<◌}
use native.Mathlib.Omega.{arith}
use lib.Dec.{eqb}
use lib.ListN.{length, drop}
use Rattle.std.specs.Prelude.{Option, Some, None}
use Rattle.std.proofs.lemmas.List.{drop-drop, length-drop}
use Rattle.std.specs.Iterator.Runs.{YieldsInOrder}
use Rattle.std.proofs.iter.runs.Sources.{from_front, as_is}
use Rattle.sdtd.proofs.Basics.{cond_both}
use Rattle.events.specs.Events.{Events, ends, stray, event, events_of, event_of, file_event, size, file_events, first_event, event_at, events_left, Steps}
use Rattle.events.specs.declared.decoder.Event.{Event as FileEvent}
use Rattle.events.specs.declared.decoder.Event.TheVariants.{Open, Close, Finish}
use Rattle.events.specs.declared.decoder.Kind.TheVariants.{Plain, Nil}

-- The events es of the bytes l begin with e, which ends inside the bytes; or there is none, at the end or where stray bytes follow.
abbrev Begin : List ℕ → Events → Option FileEvent → Type 0
Begin l es (Some e) = (es ≡ event (event_of e) (events_of (drop (size e) l))) × (size e ≤ length l)
Begin l es None = (length l ≡ 0 → es ≡ ends) × (0 < length l → es ≡ stray)

begin_at : (l : List ℕ) → Begin l (events_of l) (first_event (events_of l))
begin_at [] = (λ e. refl, λ h. absurd (omega arith))
begin_at (b ∷ []) =
    let P : Events → Type 0 = λ es. Begin (b ∷ []) es (first_event es) in
    cond_both P (eqb b 0x2f) _ _ (refl, omega arith) (λ e. absurd (omega arith), λ h. refl)
begin_at (b ∷ (g ∷ rest)) =
    let P : Events → Type 0 = λ es. Begin (b ∷ g ∷ rest) es (first_event es) in
    cond_both P (eqb b 0x21) _ _ (refl, omega arith)
    (cond_both P (eqb b 0x22) _ _ (refl, omega arith)
    (cond_both P (eqb b 0x23) _ _ (refl, omega arith)
    (cond_both P (eqb b 0x2f) _ _ (refl, omega arith) (λ e. absurd (omega arith), λ h. refl))))

-- What stands at a place: e and the events past it; the end, or stray bytes.
abbrev pub Stands : List ℕ → ℕ → Option FileEvent → Type 0
Stands file at (Some e) = events_of (drop at file) ≡ event (event_of e) (events_of (drop (at + size e) file))
Stands file at None = (length file ≤ at → events_of (drop at file) ≡ ends) × (at < length file → events_of (drop at file) ≡ stray)

-- the event at the place, if there is one, ends inside the file
abbrev pub Ends : List ℕ → ℕ → Option FileEvent → Type 0
Ends file at (Some e) = at + size e ≤ length file
Ends file at None = Unit

-- an event has a byte
size_least : (e : FileEvent) → 1 ≤ size e
size_least (Open κ g) = omega arith
size_least (Close g) = omega arith
size_least Finish = omega arith

module _ (file : List ℕ) (at : ℕ) where
  l : length (drop at file) ≡ length file - at
  l = length-drop at file

  stands : (e : Option FileEvent) → Begin (drop at file) (events_of (drop at file)) e → Stands file at e
  stands (Some e) b = b.0 ∙ ap (λ (d : List ℕ). event (event_of e) (events_of d)) (drop-drop (size e) at file)
  stands None b = (λ h. b.0 (omega (arith, l)), λ h. b.1 (omega (arith, l)))

  pub event_stands : Stands file at (event_at file at)
  event_stands = stands (event_at file at) (begin_at (drop at file))

  ends_in : (e : Option FileEvent) → Begin (drop at file) (events_of (drop at file)) e → Ends file at e
  ends_in (Some e) b = omega (arith, l, b.1, size_least e)
  ends_in None b = tt

  pub event_ends : Ends file at (event_at file at)
  event_ends = ends_in (event_at file at) (begin_at (drop at file))

-- each event of the code's is that of the documents' which it stands for
pub back_and_there : (e : FileEvent) → file_event (event_of e) ≡ e
back_and_there (Open Plain g) = refl
back_and_there (Open Nil g) = refl
back_and_there (Close g) = refl
back_and_there Finish = refl

-- The events left are the one here and those past it.
pub left_first : (file : List ℕ) (at : ℕ) {e : FileEvent} → Some e ≡ event_at file at
    → file_events (events_of (drop at file)) ≡ e ∷ file_events (events_of (drop (at + size e) file))
left_first file at {e} found =
    let later = file_events (events_of (drop (at + size e) file)) in
    ap file_events (subst (Stands file at) (sym found) (event_stands file at)) ∙ ap (λ (x : FileEvent). x ∷ later) (back_and_there e)

pub ends_some : (file : List ℕ) (at : ℕ) {e : FileEvent} → Some e ≡ event_at file at → at + size e ≤ length file
ends_some file at {e} found = subst (Ends file at) (sym found) (event_ends file at)

-- calls of `next` give the events that are left, one after another
pub steps_in_order : YieldsInOrder Steps events_left
steps_in_order p s =
    as_is p (events_left p.from) (from_front Steps (λ x. x) events_left (λ w v h. ap length h.yields.0) (λ w x v h. h.yields) p s)
