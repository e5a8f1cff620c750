-- Positions: typed readings of the events so far that can be brought to an end. With no competition the events have one position.
use mathlib.Core.Path.{◌≡◌, refl, sym, ap, subst, ◌∙◌}
use mathlib.Core.Logic.{◌⊎◌, inl, inr, ⊎_elim}
use mathlib.Core.List.{List, [], ◌∷◌, ◌++◌, map-append, append_cancel_left}
use Prim.Native.Nat.{ℕ}
use lib.ListN.{length}
use Rattle.sdtd.specs.Schema.{Schema, tag_of}
use Rattle.sdtd.specs.Tree.{Kind, ValidContent}
use Rattle.sdtd.specs.Document.{Event, opening, closing, finish, openings, Valid, types_of, Begins}
use Rattle.sdtd.specs.Trim.{none}
use Rattle.sdtd.specs.Competition.{Competition}
use Rattle.sdtd.proofs.Trees.{relabel_event, opened, opened-append, opened-document, length-opened, openings_relabel}
use Rattle.sdtd.proofs.Machine.{Owner, top, own, OneRoot, Frame, frame, Moves, opens, closes, ends, Run, halt, move, start}
use Rattle.sdtd.proofs.Machine.{run_append, run_split}
use Rattle.sdtd.proofs.Machine.{Suspended, ended, inner, todo, suspended_run, run_suspended}
use Rattle.sdtd.proofs.Typed.{tagged, typed_events, valid_run, run_valid, tagged_cut}
use Rattle.sdtd.proofs.Follow.{Candidate, candidate_suspended, Grown, grown, grown_none, grown_run, Follows, follow}

-- a typed reading of the events e to the frames fs, which can be brought to an end
pub record Position (S : Schema) (e : List Event) (fs : List Frame) : Type 0 where
  pub events : List Event
  pub run : Run S start events fs
  pub tags : tagged S events ≡ e
  pub suspended : Suspended S fs

pub record SomePosition (S : Schema) (e : List Event) : Type 0 where
  pub frames : List Frame
  pub at : Position S e frames

pub position : {S : Schema} {e : List Event} → Begins S e → SomePosition S e
position {S} {e} b =
    let r = valid_run b.valid in
    let c = tagged_cut S (typed_events b.valid) e (r.tags ∙ b.beginning.splits) in
    let t = run_split c.front (subst (λ (τ : List Event). Run S start τ []) c.splits r.run) in
    record {
      frames = t.middle;
      at = record { events = c.front; run = t.front; tags = c.front_tags; suspended = (run_suspended t.back).suspended };
    }

pub position_begins : {S : Schema} {e : List Event} {fs : List Frame} → Position S e fs → Begins S e
position_begins {S} {e} p =
    let ρ = todo p.suspended in
    record {
      whole = tagged S (p.events ++ ρ);
      valid = (run_valid (run_append p.run (suspended_run p.suspended))).valid;
      beginning = record { rest = tagged S ρ; splits = rw (map-append, p.tags) };
    }

-- nothing is read, and some document is valid
pub first_position : {S : Schema} → Suspended S start → Position S [] start
first_position s = record { events = []; run = halt; tags = refl; suspended = s }

-- one typed event more
pub moved : {S : Schema} {e : List Event} {fs fs' : List Frame} {y : Event} → Position S e fs → Moves S fs y fs' → Suspended S fs'
    → Position S (e ++ (relabel_event (tag_of S) y ∷ [])) fs'
moved {S} {y = y} p m s =
    record {
      events = p.events ++ (y ∷ []);
      run = run_append p.run (move m halt);
      tags = rw (map-append, p.tags);
      suspended = s;
    }

pub open_position : {S : Schema} {e : List Event} {o : Owner} {w : List ℕ} {fs : List Frame} {κ : Kind} {j : ℕ}
    → Position S e (frame o w ∷ fs) → Candidate S o w κ j
    → Position S (e ++ (opening κ (tag_of S j) ∷ [])) (frame (own κ j) [] ∷ frame o (w ++ (j ∷ [])) ∷ fs)
open_position p c = moved p opens (candidate_suspended p.suspended c)

inner_rest : {S : Schema} {κ : Kind} {a : ℕ} {w : List ℕ} {fs : List Frame} → Suspended S (frame (own κ a) w ∷ fs) → Suspended S fs
inner_rest (inner f s) = s

pub close_position : {S : Schema} {e : List Event} {κ : Kind} {a : ℕ} {w : List ℕ} {fs : List Frame}
    → Position S e (frame (own κ a) w ∷ fs) → ValidContent S κ a w
    → Position S (e ++ (closing (tag_of S a) ∷ [])) fs
close_position p x = moved p (closes x) (inner_rest p.suspended)

pub end_position : {S : Schema} {e : List Event} {w : List ℕ} → Position S e (frame top w ∷ []) → OneRoot S w
    → Position S (e ++ (finish ∷ [])) []
end_position p x = moved p (ends x) ended

grown_start : {S : Schema} → Grown S start
grown_start = grown tt none grown_none

-- at a position the owners are reached and their children so far bear trees
pub position_grown : {S : Schema} {e : List Event} {fs : List Frame} → Position S e fs → Grown S fs
position_grown p = grown_run p.run (suspended_run p.suspended) grown_start

-- the document's typed events begin with the position's and go on from its frames
pub record Onward (S : Schema) {e d : List Event} {fs : List Frame} (p : Position S e fs) (v : Valid S d) (r : List Event) : Type 0 where
  pub rest : List Event
  pub run : Run S fs rest []
  pub tags : tagged S rest ≡ r
  pub events : typed_events v ≡ p.events ++ rest

from_follows : {S : Schema} {e d r : List Event} {fs : List Frame} (p : Position S e fs) (v : Valid S d) → d ≡ e ++ r
    → Follows S p.events (typed_events v) fs → Onward S p v r
from_follows {S} {e} {r = r} p v q f =
    let τ = tagged S f.rest in
    let cut : tagged S p.events ++ τ ≡ e ++ r =
    sym (map-append (relabel_event (tag_of S)) p.events f.rest) ∙ ap (tagged S) (sym f.splits) ∙ (valid_run v).tags ∙ q in
    record { rest = f.rest; run = f.run; tags = append_cancel_left e τ r (rw p.tags at cut); events = f.splits }

-- Each valid document that begins with e goes on from the position, or types compete.
pub onward : {S : Schema} {e d : List Event} {fs : List Frame} (p : Position S e fs) (v : Valid S d) (r : List Event) → d ≡ e ++ r
    → Competition S ⊎ Onward S p v r
onward {S} {e} {d} {fs} p v r q =
    let x = valid_run v in
    ⊎_elim
    (λ c. inl c)
    (λ f. inr (from_follows p v q f))
    (follow p.run (suspended_run p.suspended) grown_start x.run r (rw (p.tags, ← q) (sym x.tags)))

pub onward_only : {S : Schema} → ¬ Competition S
    → {e d : List Event} {fs : List Frame} (p : Position S e fs) (v : Valid S d) (r : List Event) → d ≡ e ++ r
    → Onward S p v r
onward_only free p v r q = ⊎_elim (λ c. absurd (free c)) (λ o. o) (onward p v r q)

-- the types that the document's typing gives: those of the position and then those of the rest
pub onward_types : {S : Schema} {e d r : List Event} {fs : List Frame} {p : Position S e fs} {v : Valid S d} (o : Onward S p v r)
    → types_of v ≡ opened p.events ++ opened o.rest
onward_types {p = p} {v} o = sym (opened-document v.typing.typed) ∙ ap opened o.events ∙ opened-append p.events o.rest

-- as many openings are read as the events have
pub place_of : {S : Schema} {e : List Event} {fs : List Frame} (p : Position S e fs) → length (opened p.events) ≡ openings e
place_of {S} p = length-opened p.events ∙ sym (openings_relabel (tag_of S) p.events) ∙ ap openings p.tags
