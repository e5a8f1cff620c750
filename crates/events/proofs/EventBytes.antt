-- The bytes of a list of events, and the events of bytes: the one undoes the other.
use mathlib.Core.Path.{◌≡◌, refl, ap, ap₂, ◌∙◌}
use mathlib.Core.List.{List, [], ◌∷◌}
use Prim.Native.Nat.{ℕ}
use lib.Dec.{T, eqb, eqb→eq}
use Rattle.sdtd.specs.Tree.{plain, nil}
use Rattle.sdtd.specs.Document.{Event, opening, closing, finish}
use Rattle.sdtd.proofs.Basics.{cond_either}
use Rattle.events.specs.Events.{Events, ends, stray, event, events_of, bytes_of}

-- the events up to the end, or to the first bytes that are none of the four
abbrev pub event_list : Events → List Event
event_list ends = []
event_list stray = []
event_list (event x es) = x ∷ event_list es

-- the events of the list and then the end
abbrev pub listed : List Event → Events
listed [] = ends
listed (x ∷ d) = event x (listed d)

-- the end follows the events
abbrev pub Ended : Events → Type 0
Ended ends = Unit
Ended stray = ⊥
Ended (event x es) = Ended es

pub listed_events : (d : List Event) → event_list (listed d) ≡ d
listed_events [] = refl
listed_events (x ∷ d) = ap (λ (e : List Event). x ∷ e) (listed_events d)

pub finish_first : (l : List ℕ) → events_of (0x2f ∷ l) ≡ event finish (events_of l)
finish_first [] = refl
finish_first (b ∷ l) = refl

-- the bytes of a list of events are read as that list, and nothing follows
pub bytes_events : (d : List Event) → events_of (bytes_of d) ≡ listed d
bytes_events [] = refl
bytes_events (opening plain g ∷ d) = ap (event (opening plain g)) (bytes_events d)
bytes_events (opening nil g ∷ d) = ap (event (opening nil g)) (bytes_events d)
bytes_events (closing g ∷ d) = ap (event (closing g)) (bytes_events d)
bytes_events (finish ∷ d) = finish_first (bytes_of d) ∙ ap (event finish) (bytes_events d)

-- the bytes are those of their events, where nothing follows these
abbrev Encoded : List ℕ → Events → Type 0
Encoded file es = Ended es → file ≡ bytes_of (event_list es)

module _ {b : ℕ} {rest : List ℕ} (later : Encoded rest (events_of rest)) where
  -- a finish
  alone : T (eqb b 0x2f) → Encoded (b ∷ rest) (event finish (events_of rest))
  alone t e = ap₂ (λ (n : ℕ) (l : List ℕ). n ∷ l) (eqb→eq b 0x2f t) (later e)

  -- the event x with the tag g, whose first byte is c
  tagged : (g c : ℕ) (x : Event) → ((d : List Event) → c ∷ g ∷ bytes_of d ≡ bytes_of (x ∷ d)) → T (eqb b c)
      → Encoded (b ∷ g ∷ rest) (event x (events_of rest))
  tagged g c x p t e = ap₂ (λ (n : ℕ) (l : List ℕ). n ∷ g ∷ l) (eqb→eq b c t) (later e) ∙ p (event_list (events_of rest))

-- a file that is read to its end is the bytes of its events
pub events_bytes : (file : List ℕ) → Ended (events_of file) → file ≡ bytes_of (event_list (events_of file))
events_bytes [] c = refl
events_bytes (b ∷ []) c = cond_either (Encoded (b ∷ [])) (eqb b 0x2f) (alone (λ e. refl)) (λ n e. absurd e) c
events_bytes (b ∷ (g ∷ rest)) c =
    let P = Encoded (b ∷ g ∷ rest) in
    let later = events_bytes rest in
    cond_either P (eqb b 0x21) (tagged later g 0x21 (opening plain g) (λ d. refl)) (λ n.
    cond_either P (eqb b 0x22) (tagged later g 0x22 (closing g) (λ d. refl)) (λ n.
    cond_either P (eqb b 0x23) (tagged later g 0x23 (opening nil g) (λ d. refl)) (λ n.
    cond_either P (eqb b 0x2f) (alone (events_bytes (g ∷ rest))) (λ n e. absurd e)))) c
