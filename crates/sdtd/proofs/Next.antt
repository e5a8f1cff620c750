-- What comes next: which opening, closing or finish may follow the events e taken, by the frames of a typed reading of e.
use mathlib.Core.Path.{◌≡◌, refl, sym, ap, subst, ◌∙◌}
use mathlib.Core.Logic.{◌↔◌, ⊎_elim}
use mathlib.Core.List.{List, [], ◌∷◌, ◌++◌, append_assoc, cons≢nil, head-eq_of_cons-eq}
use Prim.Native.Nat.{ℕ}
use native.Mathlib.Omega.{arith}
use lib.Seq.{get_or_at}
use Rattle.sdtd.specs.Schema.{Schema, tag_of}
use Rattle.sdtd.specs.Tree.{Kind, plain, IsRoot, ValidContent}
use Rattle.sdtd.specs.Document.{Event, opening, closing, finish, openings, Valid, types_of, BeginningOf, Begins, EveryTypingGives}
use Rattle.sdtd.specs.Trim.{BearsBy, none, AllBear}
use Rattle.sdtd.specs.Competition.{Competition}
use Rattle.sdtd.proofs.Fixpoint.{Passes, goes_on}
use Rattle.sdtd.proofs.Trees.{relabel_event, opened}
use Rattle.sdtd.proofs.Machine.{Owner, top, own, OneRoot, one_root, Frame, frame, Moves, opens, closes, ends, Run, move}
use Rattle.sdtd.proofs.Machine.{Suspended, outer, run_suspended}
use Rattle.sdtd.proofs.Typed.{tagged}
use Rattle.sdtd.proofs.Follow.{Candidate, suspended_candidate, root_candidate, Grown, grown, one_candidate, candidate_goes_on}
use Rattle.sdtd.proofs.Follow.{goes_on_candidate}
use Rattle.sdtd.proofs.Position.{Position, position_begins, position_grown, open_position, close_position, end_position}
use Rattle.sdtd.proofs.Position.{onward_only, onward_types, place_of}

-- the typed event that a document has after the position
pub record NextMove (S : Schema) {e d : List Event} {fs : List Frame} (p : Position S e fs) (v : Valid S d) (x : Event) : Type 0 where
  pub event : Event
  pub tag : relabel_event (tag_of S) event ≡ x
  pub frames : List Frame
  pub moves : Moves S fs event frames
  pub rest : List Event
  pub run : Run S frames rest []
  pub types : types_of v ≡ opened p.events ++ opened (event ∷ rest)

first_move : {S : Schema} {e d : List Event} {fs : List Frame} (p : Position S e fs) (v : Valid S d) {x : Event} {r : List Event} (τ : List Event) → Run S fs τ []
    → tagged S τ ≡ x ∷ r → types_of v ≡ opened p.events ++ opened τ → NextMove S p v x
first_move p v [] k e t = absurd (cons≢nil (sym e))
first_move p v (y ∷ τ) (move {fs' = gs} m k) e t =
    record { event = y; tag = head-eq_of_cons-eq e; frames = gs; moves = m; rest = τ; run = k; types = t }

-- Every valid document that begins with e and then x makes one typed move from the position.
pub next_move : {S : Schema} → ¬ Competition S → {e d : List Event} {fs : List Frame} (p : Position S e fs) (v : Valid S d) (x : Event)
    → BeginningOf (e ++ (x ∷ [])) d → NextMove S p v x
next_move free {e} p v x b =
    let o = onward_only free p v (x ∷ b.rest) (b.splits ∙ append_assoc e (x ∷ []) b.rest) in
    first_move p v o.rest o.run o.tags (onward_types o)

-- a candidate of the tag g, opened so
pub record CandidateOf (S : Schema) (o : Owner) (w : List ℕ) (κ : Kind) (g : ℕ) : Type 0 where
  pub type : ℕ
  pub tag : tag_of S type ≡ g
  pub candidate : Candidate S o w κ type

pub opening_move : {S : Schema} {o : Owner} {w : List ℕ} {fs gs : List Frame} {y : Event} {κ : Kind} {g : ℕ} → Moves S (frame o w ∷ fs) y gs
    → Suspended S gs
    → relabel_event (tag_of S) y ≡ opening κ g → (c : CandidateOf S o w κ g) × (y ≡ opening κ c.type)
opening_move {S} {o} {w} {κ = κ} (opens {κ = ν} {a = j}) s e =
    let kind : ν ≡ κ = cc in (
      record { type = j; tag = cc; candidate = subst (λ (μ : Kind). Candidate S o w μ j) kind (suspended_candidate s) },
      λ i. opening (kind i) j,
    )
opening_move (closes w) s e = let z : ◌≡◌ {A = ℕ} 0 1 = cc in absurd (omega arith)
opening_move (ends w) s e = let z : ◌≡◌ {A = ℕ} 0 1 = cc in absurd (omega arith)

-- Item 5, openings: e and an opening of g begin a valid document exactly when some type of the tag g, opened so, can come next.
pub opening_exactly : {S : Schema} → ¬ Competition S → {e : List Event} {o : Owner} {w : List ℕ} {fs : List Frame}
    → Position S e (frame o w ∷ fs)
    → (κ : Kind) (g : ℕ) → Begins S (e ++ (opening κ g ∷ [])) ↔ CandidateOf S o w κ g
opening_exactly {S} free {e} p κ g = (
  λ b.
      let n = next_move free p b.valid (opening κ g) b.beginning in
      (opening_move n.moves (run_suspended n.run).suspended n.tag).0,
  λ c. subst (λ (h : ℕ). Begins S (e ++ (opening κ h ∷ []))) c.tag (position_begins (open_position p c.candidate)),
)

one_owner : {S : Schema} {o : Owner} {w : List ℕ} {fs : List Frame} {κ : Kind} {j k : ℕ} → ¬ Competition S → Grown S (frame o w ∷ fs)
    → Candidate S o w κ j → Candidate S o w κ k
    → tag_of S j ≡ tag_of S k → j ≡ k
one_owner free (grown {o = o} r b g) c d e = ⊎_elim (λ x. absurd (free x)) (λ q. q) (one_candidate o r b c d e)

-- .. and that type is the same for every such document and typing.
pub opening_given : {S : Schema} → ¬ Competition S → {e : List Event} {o : Owner} {w : List ℕ} {fs : List Frame}
    → Position S e (frame o w ∷ fs)
    → {κ : Kind} {j : ℕ} → Candidate S o w κ j → EveryTypingGives S e κ (tag_of S j) j
opening_given {S} free {e} p {κ} {j} c d v b =
    let n = next_move free p v (opening κ (tag_of S j)) b in
    let m = opening_move n.moves (run_suspended n.run).suspended n.tag in
    let k = m.0.type in
    let same : k ≡ j = one_owner free (position_grown p) m.0.candidate c m.0.tag in
    let ts : types_of v ≡ opened p.events ++ (k ∷ opened n.rest) =
    n.types ∙ ap (λ (x : Event). opened p.events ++ opened (x ∷ n.rest)) m.1 in
    rw ts (get_or_at (opened p.events) k (opened n.rest) 0 (openings e) (place_of p) ∙ same)

-- Inside an element opened plainly, a type can come next exactly when it bears a tree opened so and leads from a state that the children so far
-- reach to a live one.
pub candidate_inside : {S : Schema} {a : ℕ} {w : List ℕ} {κ : Kind} {j : ℕ} → AllBear S w
    → Candidate S (own plain a) w κ j ↔ (BearsBy S κ j × Passes S a w j)
candidate_inside b = (λ c. (c.bears, goes_on.0 (candidate_goes_on b c)), λ x. goes_on_candidate x.0 (goes_on.1 x.1))

-- With nothing open, only a type that the root may have can come, before any child.
pub candidate_outside : {S : Schema} {w : List ℕ} {κ : Kind} {j : ℕ} → Candidate S top w κ j ↔ ((w ≡ []) × IsRoot S j × BearsBy S κ j)
candidate_outside = (
  λ c. ((root_candidate c).0, (root_candidate c).1, c.bears),
  λ x. record { rest = []; fills = rw x.0 (one_root x.1); bears = x.2; bear = none },
)

closing_move : {S : Schema} {κ : Kind} {a : ℕ} {w : List ℕ} {fs gs : List Frame} {y : Event} {g : ℕ} → Moves S (frame (own κ a) w ∷ fs) y gs
    → relabel_event (tag_of S) y ≡ closing g → (tag_of S a ≡ g) × ValidContent S κ a w
closing_move opens e = let z : ◌≡◌ {A = ℕ} 0 1 = cc in absurd (omega arith)
closing_move (closes x) e = (cc, x)

-- Item 5, closings: e and a closing of g begin a valid document exactly when the innermost element has the tag g and its children so far
-- are all of its content.
pub closing_exactly : {S : Schema} → ¬ Competition S → {e : List Event} {κ : Kind} {a : ℕ} {w : List ℕ} {fs : List Frame}
    → Position S e (frame (own κ a) w ∷ fs)
    → (g : ℕ) → Begins S (e ++ (closing g ∷ [])) ↔ ((tag_of S a ≡ g) × ValidContent S κ a w)
closing_exactly {S} free {e} p g = (
  λ b. let n = next_move free p b.valid (closing g) b.beginning in closing_move n.moves n.tag,
  λ x. subst (λ (h : ℕ). Begins S (e ++ (closing h ∷ []))) x.0 (position_begins (close_position p x.1)),
)

outside_move : {S : Schema} {w : List ℕ} {fs gs : List Frame} {y : Event} {g : ℕ} → Moves S (frame top w ∷ fs) y gs
    → relabel_event (tag_of S) y ≡ closing g → ⊥
outside_move opens e = let z : ◌≡◌ {A = ℕ} 0 1 = cc in omega arith
outside_move (ends x) e = let z : ◌≡◌ {A = ℕ} 0 1 = cc in omega arith

-- with nothing open no closing can come
pub no_closing_outside : {S : Schema} → ¬ Competition S → {e : List Event} {w : List ℕ} {fs : List Frame} → Position S e (frame top w ∷ fs)
    → (g : ℕ) → Begins S (e ++ (closing g ∷ [])) → ⊥
no_closing_outside free p g b = let n = next_move free p b.valid (closing g) b.beginning in outside_move n.moves n.tag

pub finish_move : {S : Schema} {o : Owner} {w : List ℕ} {fs gs : List Frame} {y : Event} → Moves S (frame o w ∷ fs) y gs
    → relabel_event (tag_of S) y ≡ finish → (o ≡ top) × OneRoot S w
finish_move opens e = let z : ◌≡◌ {A = ℕ} 0 1 = cc in absurd (omega arith)
finish_move (closes x) e = let z : ◌≡◌ {A = ℕ} 0 1 = cc in absurd (omega arith)
finish_move (ends x) e = (refl, x)

finish_begins_outside : {S : Schema} {e : List Event} {w : List ℕ} {fs : List Frame} → Position S e (frame top w ∷ fs)
    → Suspended S (frame top w ∷ fs) → OneRoot S w → Begins S (e ++ (finish ∷ []))
finish_begins_outside p (outer f) r = position_begins (end_position p r)

-- Item 5, finish: e and a finish begin a valid document exactly when nothing is open and the root has been read.
pub finish_exactly : {S : Schema} → ¬ Competition S → {e : List Event} {o : Owner} {w : List ℕ} {fs : List Frame}
    → Position S e (frame o w ∷ fs)
    → Begins S (e ++ (finish ∷ [])) ↔ ((o ≡ top) × OneRoot S w)
finish_exactly {S} free {e} {w = w} {fs = fs} p = (
  λ b. let n = next_move free p b.valid finish b.beginning in finish_move n.moves n.tag,
  λ x.
      let q : Position S e (frame top w ∷ fs) = subst (λ (o : Owner). Position S e (frame o w ∷ fs)) x.0 p in
      finish_begins_outside q q.suspended x.1,
)
