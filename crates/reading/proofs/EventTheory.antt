-- What the verdict on an event file says of valid documents: from demand 3's questions for each event, demand 2 for the whole file.
use mathlib.Core.Path.{◌≡◌, refl, sym, ap, subst, ◌∙◌}
use mathlib.Core.Logic.{◌↔◌, inl, inr, ⊎_elim}
use mathlib.Core.List.{List, [], ◌∷◌, ◌++◌, append-nil, append_assoc, Memᴰ}
use Prim.Native.Nat.{ℕ, ◌+◌, ◌≤◌}
use native.Mathlib.Omega.{arith}
use lib.ListN.{length}
use Rattle.sdtd.specs.Schema.{Schema}
use Rattle.sdtd.specs.Document.{Event, opening, closing, finish, stream, openings, Valid, types_of}
use Rattle.sdtd.specs.Competition.{Accepted}
use Rattle.sdtd.specs.Answer.{Answer, refused, typed, taken, fine}
use Rattle.sdtd.specs.Calls.{IsTaken, calls, answers_by, TakenWhole, ValidWithin, WholeMeets}
use Rattle.sdtd.proofs.Typed.{openings_types}
use Rattle.sdtd.proofs.Within.{within_tags}
use Rattle.sdtd.proofs.Calls.{RightAt, places_of_each, Fits, fits_beginning, within_fits, Sound, call_meets, sound_next, if_taken_lem}
use Rattle.sdtd.proofs.Calls.{calls_meet_whole, nothing_taken}
use Rattle.reading.specs.declared.value.Reading.{Reading}
use Rattle.reading.specs.Levels.{fresh}
use Rattle.events.specs.Events.{Events, events_of, size_of, bytes_of}
use Rattle.reading.specs.Passage.{TakenCall, Passage, Follows, Passes}
use Rattle.reading.specs.EventFile.{by_calls, types_given, with_room, verdict_with, types_with, number_of}
use Rattle.reading.specs.EventMeaning.{by_documents, EventFileMeets}
use Rattle.events.proofs.EventBytes.{event_list, listed, listed_events, bytes_events, events_bytes}
use Rattle.reading.proofs.EventWalk.{passage_judged}
use Rattle.reading.proofs.EventWhole.{judged_zero, types_among, Whole, judged_whole}
use Rattle.reading.proofs.RoomLaws.{types_in, room_or_20, room_enough, laid_fine, laid_enough}

-- the types that the answers to the events give out
types_among_lem : (e : List Event) (ts : List ℕ) → openings e ≡ length ts → types_among (answers_by e ts) ≡ ts
types_among_lem [] [] p = refl
types_among_lem [] (t ∷ ts) p = absurd (omega arith)
types_among_lem (opening κ g ∷ e) [] p = absurd (omega arith)
types_among_lem (opening κ g ∷ e) (t ∷ ts) p = ap (λ (l : List ℕ). t ∷ l) (types_among_lem e ts (omega arith))
types_among_lem (closing g ∷ e) ts p = types_among_lem e ts p
types_among_lem (finish ∷ e) ts p = types_among_lem e ts p

-- The events of a file that all is fine with, from no event on.
module _ {S : Schema} (accepted : Accepted S) {es : Events} {cs : List TakenCall} (w : Whole S [] es cs) where
  taken_whole : TakenWhole w.exchanges
  taken_whole =
      let l : (front : List Event) × (calls w.exchanges ≡ front ++ (finish ∷ [])) =
      ⊎_elim (λ k. absurd (mathlib.Core.List.Memᴰ.not-nil k.0)) (λ k. k) w.last in
      record { all_taken = w.all_taken; front = l.0; through_finish = l.1 }

  meets : WholeMeets S w.exchanges
  meets =
      calls_meet_whole accepted.no_competition (within_tags accepted.within) w.exchanges
      (places_of_each (RightAt S) [] w.exchanges w.right)

  whole_valid : ValidWithin S (event_list es)
  whole_valid = subst (ValidWithin S) w.all_called (meets.exactly.0 taken_whole)

  whole_types : {d : List Event} → calls w.exchanges ≡ d → (u : Valid S d) → types_in cs ≡ types_of u
  whole_types q =
      subst (λ (d : List Event). (u : Valid S d) → types_in cs ≡ types_of u) q
      (λ u. w.types ∙ ap types_among (meets.types taken_whole u) ∙ types_among_lem (calls w.exchanges) (types_of u) (openings_types u))

-- after an event that is taken the verdict is that of the rest
goes_on : (e : List Event) (x : Event) (a : Answer) (at : ℕ) (p : Passage (List Event)) {Rest : Passage (List Event) → Type 0}
    → IsTaken a → ((q : Passage (List Event)) → Rest q → q.verdict ≡ fine) → Follows e at x a p Rest → p.verdict ≡ fine
goes_on e x (refused n) at p t later f = absurd t
goes_on e x (typed j) at p t later (q, r, s) = ap (λ (k : Passage (List Event)). k.verdict) s ∙ later q r
goes_on e x taken at p t later (q, r, s) = ap (λ (k : Passage (List Event)). k.verdict) s ∙ later q r

-- the events f after e, all of them a document within `most_levels` levels, are fine
valid_fine : {S : Schema} → Accepted S → (e f : List Event) → Sound S e → Fits S (e ++ f) → Memᴰ finish (e ++ f)
    → (at : ℕ) (p : Passage (List Event)) → Passes (by_documents S) e at (listed f) p → p.verdict ≡ fine
valid_fine accepted e [] s b m at p (inl (n, q)) = absurd (n (rw append-nil at m))
valid_fine accepted e [] s b m at p (inr (n, q)) = ap (λ (k : Passage (List Event)). k.verdict) q
valid_fine {S} accepted e (x ∷ f) s b m at p (a, after, (r, k), d) =
    let c = call_meets accepted.no_competition (within_tags accepted.within) e s x a r in
    let fits : Fits S ((e ++ (x ∷ [])) ++ f) = rw append_assoc b in
    let among : Memᴰ finish ((e ++ (x ∷ [])) ++ f) = rw append_assoc m in
    let t : IsTaken a = c.taken_exactly.1 (fits_beginning (e ++ (x ∷ [])) f fits) in
    let next : after ≡ e ++ (x ∷ []) = k ∙ ap (λ (l : List Event). e ++ l) (if_taken_lem a x t) in
    let sound : Sound S (e ++ (x ∷ [])) = subst (λ (l : List Event). Sound S (e ++ l)) (if_taken_lem a x t) (sound_next e s x a c) in
    goes_on e x a at p t
    (λ q g.
    valid_fine accepted (e ++ (x ∷ [])) f sound fits among (at + size_of x) q
    (subst (λ (l : List Event). Passes (by_documents S) l (at + size_of x) (listed f) q) next g))
    d

-- a document has a finish
finish_of : {S : Schema} {d : List Event} → ValidWithin S d → Memᴰ finish d
finish_of w = subst (Memᴰ finish) w.is_document (mathlib.Core.List.Memᴰ.append_right (stream w.tree) (mathlib.Core.List.Memᴰ.head refl))

-- the events of a file that is the bytes of the list d
read_listed : (file : List ℕ) (d : List Event) → file ≡ bytes_of d → events_of file ≡ listed d
read_listed file d p = ap events_of p ∙ bytes_events d

read_events : (file : List ℕ) (d : List Event) → file ≡ bytes_of d → event_list (events_of file) ≡ d
read_events file d p = ap event_list (read_listed file d p) ∙ listed_events d

-- The walk over a file by the questions about documents, under an accepted schema.
module _ {S : Schema} (accepted : Accepted S) (file : List ℕ) (p : Passage (List Event)) (judged : Passes (by_documents S) [] 0 (events_of file) p) where
  whole : p.verdict ≡ fine → Whole S [] (events_of file) p.calls
  whole z = judged_whole S [] 0 (events_of file) p judged z

  types_given_lem : p.verdict ≡ fine → (d : List Event) → file ≡ bytes_of d → (u : Valid S d) → types_in p.calls ≡ types_of u
  types_given_lem z d q u = whole_types accepted (whole z) ((whole z).all_called ∙ read_events file d q) u

  -- a byte for each opening of the document is a byte for each type
  few : p.verdict ≡ fine → (d : List Event) → file ≡ bytes_of d → ValidWithin S d → openings d ≡ length (types_in p.calls)
  few z d q u =
      let n : Valid S d = record { tree = u.tree; is_document = u.is_document; typing = u.typing } in
      openings_types n ∙ ap length (sym (types_given_lem z d q n))

  -- the file is taken whole exactly when it is the bytes of the document of a valid tree nested at most `most_levels` deep
  fine_exactly : (p.verdict ≡ fine) ↔ ((d : List Event) × (file ≡ bytes_of d) × ValidWithin S d)
  fine_exactly = (
    λ z. (event_list (events_of file), events_bytes file (whole z).ended, whole_valid accepted (whole z)),
    λ (d, q, u).
        valid_fine accepted [] d (nothing_taken S) (within_fits u) (finish_of u) 0 p
        (subst (λ (es : Events). Passes (by_documents S) [] 0 es p) (read_listed file d q) judged),
  )

  -- and, for any buffer, this has a byte for each opening
  taken_with_room : (room : ℕ)
      → (verdict_with room p ≡ fine) ↔ ((d : List Event) × (file ≡ bytes_of d) × ValidWithin S d × (openings d ≤ room))
  taken_with_room room = (
    λ v.
        let (z, h) = (laid_fine room p).0 v in
        let (d, q, u) = fine_exactly.0 z in
        (d, q, u, omega (arith, few z d q u)),
    λ (d, q, u, h).
        let z = fine_exactly.1 (d, q, u) in
        (laid_fine room p).1 (z, omega (arith, few z d q u)),
  )

  -- no refusal has the number 0
  zero_fine : (room : ℕ) → number_of (verdict_with room p) ≡ 0 → verdict_with room p ≡ fine
  zero_fine room z =
      ⊎_elim
      (λ h.
      let same = room_enough room (types_given p.calls) p.verdict h in
      same ∙ judged_zero S [] 0 (events_of file) p judged (ap number_of (sym same) ∙ z))
      (λ (h, at, q). absurd (omega (arith, ap number_of q)))
      (room_or_20 room (types_given p.calls) p.verdict)

-- Under an accepted schema the walk from a fresh reading meets demands 2 and 3, for any buffer.
pub event_file_meets : {S : Schema} → Accepted S → (file : List ℕ) (room : ℕ) (p : Passage Reading)
    → Passes (by_calls S) fresh 0 (events_of file) p → EventFileMeets S room file (verdict_with room p) (types_with room p)
event_file_meets {S} accepted file room p f =
    let (q, judged, same) = passage_judged accepted file p f in
    let v : verdict_with room q ≡ verdict_with room p =
    λ i. with_room room (types_given (same.calls i)) (same.verdict i) in
    let ts : types_with room q ≡ types_with room p = λ i. types_with room (record { verdict = q.verdict; calls = same.calls i; last = q.last }) in
    let exactly = taken_with_room accepted file q judged room in
    record {
      passage = q;
      judged = judged;
      verdict = sym v;
      given = sym ts;
      zero_taken = λ z. sym v ∙ zero_fine accepted file q judged room (ap number_of v ∙ z);
      taken_exactly = (λ z. exactly.0 (v ∙ z), λ d. sym v ∙ exactly.1 d);
      types =
          λ z d b u.
          let (e, h) = (laid_fine room q).0 (v ∙ z) in
          sym ts ∙ (laid_enough room q h).1 ∙ types_given_lem accepted file q judged e d b u;
    }
