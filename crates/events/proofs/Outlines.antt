-- The openings found one after another from a file's start are those of its outline.
use mathlib.Core.Path.{◌≡◌, refl, sym, ap, subst, ◌∙◌}
use mathlib.Core.List.{List, [], ◌∷◌, ◌++◌}
use Prim.Native.Nat.{ℕ, suc, ◌+◌, ◌^◌, ◌≤◌, ◌<◌}
use native.Mathlib.Decide.{dec_le}
use native.Mathlib.Numerals.{sub-one}
use native.Mathlib.Omega.{arith}
use lib.ListN.{length, drop}
use Rattle.std.specs.Prelude.{Option, Some, None}
use Rattle.sdtd.specs.Document.{Event, opening, closing, finish}
use Rattle.sdtd.specs.Reading.{depth}
use Rattle.sdtd.specs.declared.Tag.{Tag}
use Rattle.sdtd.proofs.Depth.{depth-opening, depth-closing, depth-finish}
use Rattle.events.specs.Events.{Events, ends, stray, event, events_of, event_of, size_of, size, size_here, event_at, place_after}
use Rattle.sdtd.specs.Numbered.{tag_no}
use Rattle.events.specs.declared.decoder.Event.{Event as FileEvent}
use Rattle.events.specs.declared.decoder.Event.TheVariants.{Open, Close, Finish}
use Rattle.events.proofs.EventPlaces.{Stands, event_stands, Ends, event_ends}
use Rattle.events.specs.declared.outline.Cursor.{Cursor}
use Rattle.events.specs.Outline.{deeper, shallower, first_opening, next_opening, Line, outline, by_depth, OpeningsInTurn, start}

abbrev pub cursor : ℕ → ℕ → Cursor
cursor at level = record { at = at; level = level }

module _ (file : List ℕ) (level : ℕ) where
  -- what is found from a place on, by the event there and the place past it
  abbrev pub by : Option FileEvent → ℕ → Option (Tag × Cursor)
  by (Some (Open κ g)) past = Some (g, cursor past (deeper level))
  by (Some (Close g)) past = next_opening file (cursor past (shallower level))
  by (Some Finish) past = next_opening file (cursor past level)
  by None past = None

  module _ (at : ℕ) where
    first : Events → Option (Tag × Cursor)
    first es = first_opening level at es

    by_stands : (e : Option FileEvent) → Stands file at e → next_opening file (cursor at level) ≡ by e (at + size_here e)
    unfolding first
    by_stands (Some (Open κ g)) s = ap first s
    by_stands (Some (Close g)) s = ap first s
    by_stands (Some Finish) s = ap first s
    by_stands None s =
        elim (dec_le (length file) at) [
          | yes l ↦ ap first (s.0 l)
          | no n ↦ ap first (s.1 (omega arith))
        ]

  -- an event that a walker over the file passes, matched as d: what is found past it is what was sought before it
  pub passed : (at : ℕ) {w : List ℕ} {past : ℕ} {e d : FileEvent} {sought : Option (Tag × Cursor)}
      → (w ≡ file) × (next_opening file (cursor at level) ≡ sought) → Some e ≡ event_at w at → past ≡ place_after w at → e ≡ d
      → by (Some d) past ≡ sought
  passed at {w} {past} {e} {d} i here past_it case =
      let found : event_at file at ≡ Some d = ap (λ (f : List ℕ). event_at f at) (sym i.0) ∙ sym here ∙ ap Some case in
      let place : past ≡ at + size d = past_it ∙ ap (λ (f : List ℕ). place_after f at) i.0 ∙ ap (λ (x : Option FileEvent). at + size_here x) found in
      ap (by (Some d)) place ∙ sym (by_stands at (Some d) (subst (Stands file at) found (event_stands file at))) ∙ i.1

module _ (file : List ℕ) (at : ℕ) where
  -- the events from a place on go on past the first, which ends inside the file
  after : (e : Option FileEvent) (x : Event) {es : Events} → Stands file at e → Ends file at e
      → events_of (drop at file) ≡ event x es → (events_of (drop (at + size_of x) file) ≡ es) × (at + size_of x ≤ length file)
  after (Some e) x {es} s l q =
      let later = events_of (drop (at + size e) file) in
      let p : event (event_of e) later ≡ event x es = sym s ∙ q in
      let y : event_of e ≡ x = cc in
      let z : later ≡ es = cc in
      subst (λ (w : Event). (events_of (drop (at + size_of w) file) ≡ es) × (at + size_of w ≤ length file)) y (z, l)
  after None x {es} s l q =
      elim (dec_le (length file) at) [
        | yes k ↦
            let p : ends ≡ event x es = sym (s.0 k) ∙ q in
            let z : ◌≡◌ {A = ℕ} 0 1 = cc in absurd (omega arith)
        | no n ↦
            let p : stray ≡ event x es = sym (s.1 (omega arith)) ∙ q in
            let z : ◌≡◌ {A = ℕ} 0 1 = cc in absurd (omega arith)
      ]

  goes_on : (x : Event) {es : Events} → events_of (drop at file) ≡ event x es
      → (events_of (drop (at + size_of x) file) ≡ es) × (at + size_of x ≤ length file)
  goes_on x q = after (event_at file at) x (event_stands file at) (event_ends file at) q

-- a level below the place is one that a cursor can hold
deeper_inside : (level : ℕ) → level + 1 < 2 ^ 64 → deeper level ≡ suc level
deeper_inside level h = omega arith

-- the lines are those of what is found, and of what is found after it
abbrev Lines : List ℕ → Option (Tag × Cursor) → List Line → Type 0
Lines file f [] = f ≡ None
Lines file f (l ∷ ls) = (next : Cursor) × (f ≡ Some (tag_no l.tag, next)) × (next.level ≡ l.level) × OpeningsInTurn file next ls

lines_turn : (file : List ℕ) (c : Cursor) (ls : List Line) → Lines file (next_opening file c) ls → OpeningsInTurn file c ls
lines_turn file c [] k = k
lines_turn file c (l ∷ ls) k = k

lines_from : (file : List ℕ) → length file < 2 ^ 64 → (es : Events) (level at : ℕ) → level ≤ at → events_of (drop at file) ≡ es
    → Lines file (first_opening level at es) (outline level es)
lines_from file h ends level at l q = refl
lines_from file h stray level at l q = refl
lines_from file h (event (opening κ g) es) level at l q =
    let k = goes_on file at (opening κ g) q in
    let past = at + size_of (opening κ g) in
    let next = cursor past (suc level) in
    let rest : Lines file (first_opening (suc level) past es) (outline (suc level) es) =
    lines_from file h es (suc level) past (omega arith) k.0 in
    let d : deeper level ≡ suc level = deeper_inside level (omega (arith, k.1)) in (
      next,
      ap (λ (n : ℕ). Some (tag_no g, cursor past n)) d,
      refl,
      lines_turn file next (outline (suc level) es)
          (subst (λ (u : Events). Lines file (first_opening (suc level) past u) (outline (suc level) es)) (sym k.0) rest),
    )
lines_from file h (event (closing g) es) level at l q =
    lines_from file h es (shallower level) (at + size_of (closing g)) (omega arith) (goes_on file at (closing g) q).0
lines_from file h (event finish es) level at l q = lines_from file h es level (at + size_of finish) (omega arith) (goes_on file at finish q).0

-- From a cursor whose level is at most its place, as from a file's start on, what is found in turn is the outline of the rest of the file.
pub found_in_turn : (file : List ℕ) → length file < 2 ^ 64 → (c : Cursor) → c.level ≤ c.at
    → OpeningsInTurn file c (outline c.level (events_of (drop c.at file)))
found_in_turn file h c l =
    let es = events_of (drop c.at file) in
    lines_turn file c (outline c.level es) (lines_from file h es c.level c.at l refl)

-- The openings found one after another from the start are those of the file in order with their levels.
pub outline_found : (file : List ℕ) → length file < 2 ^ 64 → OpeningsInTurn file start (outline 0 (events_of file))
outline_found file h = found_in_turn file h start (omega arith)

-- each line's level is the number of elements that are open once its own is
pub outline_depths : (e : List Event) (es : Events) → outline (depth e) es ≡ by_depth e es
outline_depths e ends = refl
outline_depths e stray = refl
outline_depths e (event (opening κ g) es) =
    ap (λ (n : ℕ). record { level = n; tag = g } ∷ outline n es) (sym (depth-opening e κ g))
    ∙ ap (λ (ls : List Line). record { level = depth (e ++ (opening κ g ∷ [])); tag = g } ∷ ls) (outline_depths (e ++ (opening κ g ∷ [])) es)
outline_depths e (event (closing g) es) =
    ap (λ (n : ℕ). outline n es) (sub-one (depth e) ∙ sym (depth-closing e g)) ∙ outline_depths (e ++ (closing g ∷ [])) es
outline_depths e (event finish es) =
    ap (λ (n : ℕ). outline n es) (sym (depth-finish e)) ∙ outline_depths (e ++ (finish ∷ [])) es

-- The outline of the sample R's events is the level and tag of each middle line.
r_outlined : outline 0 (events_of
    (0x21 ∷ 0 ∷ 0x21 ∷ 1 ∷ 0x22 ∷ 1 ∷ 0x21 ∷ 2 ∷ 0x22 ∷ 2 ∷ 0x21 ∷ 1 ∷ 0x22 ∷ 1 ∷ 0x22 ∷ 0 ∷ 0x2f ∷ []))
    ≡ record { level = 1; tag = 0 } ∷ record { level = 2; tag = 1 } ∷ record { level = 2; tag = 2 } ∷ record { level = 2; tag = 1 } ∷ []
r_outlined = refl
