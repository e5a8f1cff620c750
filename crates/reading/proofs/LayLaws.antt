-- The types' buffer laid on a walk over an event file: each turn leaves in it the types of the openings taken, and the walk that has stopped
-- answers.
use mathlib.Core.Path.{◌≡◌, refl, sym, ap, subst, ◌∙◌}
use mathlib.Core.Bool.{Bool, true, false, true≢false, false≢true}
use mathlib.Core.Logic.{inl}
use mathlib.Core.List.{List, [], ◌∷◌, ◌++◌, map, append_assoc, append-nil, map-append}
use Prim.Native.Nat.{ℕ, suc, ◌+◌, ◌≤◌, ◌<◌}
use native.Mathlib.Decide.{dec_le}
use native.Mathlib.Omega.{arith}
use lib.ListN.{length, take, drop, set, length-append, length-map, length-set}
use lib.Seq.{drop-cons, set-append_seam, take_at}
use Rattle.sdtd.specs.Schema.{Schema as Meaning}
use Rattle.sdtd.specs.Schema.{WithinLimits}
use Rattle.sdtd.specs.Answer.{refused, Verdict, refused_at}
use Rattle.reading.specs.declared.value.Reading.{Reading}
use Rattle.reading.specs.declared.event_file.EventFile.{EventFile}
use Rattle.std.specs.Prelude.{Option, Some, None}
use Rattle.events.specs.declared.decoder.Event.{Event as FileEvent}
use Rattle.events.specs.declared.decoder.Event.TheVariants.{Open, Close, Finish}
use Rattle.events.specs.Events.{events_of, event_at}
use Rattle.events.proofs.EventPlaces.{Stands, event_stands}
use Rattle.reading.specs.Levels.{fresh}
use Rattle.reading.specs.Passage.{TakenCall, Passage, stops}
use Rattle.reading.specs.EventFile.{GivenType, types_given, with_room, verdict_with, types_with, number_of, place_of, EventsMean}
use Rattle.reading.specs.Turns.{outside_number}
use Rattle.reading.proofs.EventWalk.{passage_exists}
use Rattle.reading.proofs.RoomLaws.{types_in, given_append, room_full, laid_enough}
use Rattle.reading.proofs.StepSound.{WholePasses, stopped_at, Going, going_at, WalkSound, TurnSound}
use Rattle.reading.proofs.TurnLaws.{first_sound}

-- the buffer has the types, a byte each, and is otherwise as it was
pub record Written (was ts : List ℕ) (n : ℕ) (is : List ℕ) : Type 0 where
  pub buffer : is ≡ ts ++ drop (length ts) was
  pub count : n ≡ length ts
  pub room : length ts ≤ length was

-- What is known of a walk with the buffer laid on it: it has taken the calls, and where the buffer bounds it, the types that these give stand there.
-- The buffer keeps its length.
pub record LaidSound (bounded : Bool) (S : Meaning) (file was : List ℕ) (w : Going) (n : ℕ) (is : List ℕ) : Type 0 where
  pub calls : List TakenCall
  pub long : length is ≡ length was
  pub written : bounded ≡ true → Written was (types_in calls) n is
  pub sound : WalkSound S file calls w

pub first_laid : {bounded : Bool} {S : Meaning} → WithinLimits S → (file was : List ℕ) → LaidSound bounded S file was (going_at 0 fresh) 0 was
first_laid within file was =
    record {
      calls = [];
      long = refl;
      written = λ b. record { buffer = refl; count = refl; room = omega arith };
      sound = first_sound within file;
    }

-- what a passage with the buffer laid on it answers
passage_means : {S : Meaning} {file was is ts : List ℕ} {n : ℕ} (p : Passage Reading) → WholePasses S file p → types_with (length was) p ≡ ts
    → Written was ts n is → (r : EventFile) → r.number ≡ number_of (verdict_with (length was) p)
    → r.place ≡ place_of (length file) (verdict_with (length was) p) → r.count ≡ n → EventsMean S file was is r
passage_means {was = was} p f types w r number place count =
    record {
      passage = p;
      passes = f;
      told =
          record {
            number = number;
            place = place;
            count = count ∙ w.count ∙ ap length (sym types);
            buffer = w.buffer ∙ ap (λ (ts : List ℕ). ts ++ drop (length ts) was) (sym types);
          };
    }

-- A walk that has stopped answers: each type has its byte, so the buffer changes nothing.
pub stopped_means : {bounded : Bool} {S : Meaning} {file was is : List ℕ} {w : Going} {n : ℕ} (k : LaidSound bounded S file was w n is)
    → bounded ≡ true → (v : Verdict) (last : Reading) → WholePasses S file (stopped_at k.calls v last)
    → (r : EventFile) → r.number ≡ number_of v → r.place ≡ place_of (length file) v → r.count ≡ n → EventsMean S file was is r
stopped_means {file = file} {was} k bounds v last passes r number place count =
    let p = stopped_at k.calls v last in
    let written = k.written bounds in
    let (same, types) = laid_enough (length was) p written.room in
    passage_means p passes types written r (number ∙ ap number_of (sym same)) (place ∙ ap (place_of (length file)) (sym same)) count

-- one type more in the buffer
put_type : (ts was : List ℕ) (j : ℕ) → length ts < length was
    → set (ts ++ drop (length ts) was) (length ts) j ≡ (ts ++ (j ∷ [])) ++ drop (length (ts ++ (j ∷ []))) was
put_type ts was j h =
    let long : length (ts ++ (j ∷ [])) ≡ suc (length ts) = rw length-append (omega arith) in
    rw (long, append_assoc, drop-cons was (length ts) 0 h, set-append_seam)

one_more : {was ts is : List ℕ} {n : ℕ} (j : ℕ) → Written was ts n is → length ts < length was
    → Written was (ts ++ (j ∷ [])) (n + 1) (set is n j)
one_more {was} {ts} j f h =
    let c = f.count in
    let long : length (ts ++ (j ∷ [])) ≡ suc (length ts) = rw length-append (omega arith) in
    record { buffer = rw (c, f.buffer) (put_type ts was j h); count = omega arith; room = omega arith }

-- the walk goes on to some passage, which has its calls first
some_passage : {S : Meaning} {file : List ℕ} {cs : List TakenCall} {w : Going} → WalkSound S file cs w
    → (p : Passage Reading) × WholePasses S file p × (rest : List TakenCall) × (p.calls ≡ cs ++ rest)
some_passage {S} {file} {cs} {w} k =
    let (p, f) = passage_exists S w.reading w.at (events_of (drop w.at file)) in (_, k.goes p f, p.calls, refl)

-- A turn at the walk w comes to the walk v, with more calls.
module _ {bounded : Bool} {S : Meaning} {file was is : List ℕ} {w : Going} {n : ℕ} (k : LaidSound bounded S file was w n is) {v : Going}
    (more : List TakenCall) (sound : WalkSound S file (k.calls ++ more) v) where
  types_append : types_in (k.calls ++ more) ≡ types_in k.calls ++ types_in more
  types_append =
      ap (map (λ (t : GivenType). t.type)) (given_append k.calls more)
      ∙ map-append (λ (t : GivenType). t.type) (types_given k.calls) (types_given more)

  -- the buffer has a byte for each type
  fits : (ts : List ℕ) → types_in more ≡ ts → (m : ℕ) (out : List ℕ) → length out ≡ length was
      → (bounded ≡ true → Written was (types_in k.calls ++ ts) m out) → LaidSound bounded S file was v m out
  fits ts e m out long f =
      let same : types_in k.calls ++ ts ≡ types_in (k.calls ++ more) = sym (types_append ∙ ap (λ (us : List ℕ). types_in k.calls ++ us) e) in
      record { calls = k.calls ++ more; long = long; written = λ b. subst (λ (us : List ℕ). Written was us m out) same (f b); sound = sound }

  -- no byte is left for the type t: whatever the walk goes on to, it is answered 20 at the place of t
  full : (t : GivenType) → types_given more ≡ t ∷ [] → Written was (types_in k.calls) n is → length (types_in k.calls) ≡ length was
      → (r : EventFile) → r.number ≡ 20 → r.place ≡ t.place → r.count ≡ n → EventsMean S file was is r
  full t e written h r number place count =
      let (p, f, rest, q) = some_passage sound in
      let first = types_given k.calls in
      let given : types_given p.calls ≡ first ++ (t ∷ types_given rest) =
      ap types_given q ∙ given_append (k.calls ++ more) rest ∙ ap (λ (ts : List GivenType). ts ++ types_given rest) (given_append k.calls more)
      ∙ ap (λ (ts : List GivenType). (first ++ ts) ++ types_given rest) e ∙ append_assoc first (t ∷ []) (types_given rest) in
      let long : length first ≡ length was = omega (arith, length-map first (λ (s : GivenType). s.type)) in
      let twenty : verdict_with (length was) p ≡ refused_at 20 t.place =
      ap (λ (ts : List GivenType). with_room (length was) ts p.verdict) given
      ∙ ap (λ (room : ℕ). with_room room (first ++ (t ∷ types_given rest)) p.verdict) (sym long)
      ∙ room_full first t (types_given rest) p.verdict in
      let types : types_with (length was) p ≡ types_in k.calls =
      ap (λ (ts : List GivenType). take (length was) (map (λ (s : GivenType). s.type) ts)) given
      ∙ ap (take (length was)) (map-append (λ (s : GivenType). s.type) first (t ∷ types_given rest))
      ∙ take_at (types_in k.calls) (map (λ (s : GivenType). s.type) (t ∷ types_given rest)) (length was) h in
      passage_means p f types written r (number ∙ ap number_of (sym twenty)) (place ∙ ap (place_of (length file)) (sym twenty)) count

-- After a turn that gives no type, or one, which is laid into the buffer.
module _ {bounded : Bool} {S : Meaning} {file was is : List ℕ} {w v : Going} {n : ℕ} (k : LaidSound bounded S file was w n is) where
  pub lay_none : TurnSound S file k.calls [] v → LaidSound bounded S file was v n is
  lay_none turn =
      fits k turn.more turn.sound [] (ap (map (λ (t : GivenType). t.type)) turn.gave) n is k.long
      (λ b. subst (λ (ts : List ℕ). Written was ts n is) (sym (append-nil (types_in k.calls))) (k.written b))

  -- the buffer does not bound the walk
  pub lay_past : {ts : List GivenType} → TurnSound S file k.calls ts v → bounded ≡ false → LaidSound bounded S file was v n is
  lay_past turn e =
      record { calls = k.calls ++ turn.more; long = k.long; written = λ b. absurd (true≢false (sym b ∙ e)); sound = turn.sound }

  module _ {t : GivenType} (turn : TurnSound S file k.calls (t ∷ []) v) where
    pub lay_type : n < length is → LaidSound bounded S file was v (n + 1) (set is n t.type)
    lay_type h =
        let room : bounded ≡ true → length (types_in k.calls) < length was = λ b. omega (arith, k.long, (k.written b).count) in
        fits k turn.more turn.sound (t.type ∷ []) (ap (map (λ (t : GivenType). t.type)) turn.gave) (n + 1) (set is n t.type)
        (length-set is n t.type ∙ k.long) (λ b. one_more t.type (k.written b) (room b))

    pub full_means : bounded ≡ true → length is ≤ n → (r : EventFile) → r.number ≡ 20 → r.place ≡ t.place → r.count ≡ n
        → EventsMean S file was is r
    full_means b h =
        let written = k.written b in
        let room : length (types_in k.calls) ≡ length was = omega (arith, k.long, written.count, written.room) in
        full k turn.more turn.sound t turn.gave written room

-- under a schema outside the limits the first event gets 10, and stray bytes or an empty file 19
pub outside_passes : {S : Meaning} → ¬ WithinLimits S → (file : List ℕ) (e : Option FileEvent) → Stands file 0 e
    → WholePasses S file (stops (refused_at (outside_number e) 0) fresh)
outside_passes out file (Some (Open κ g)) stands = rw stands (refused 10, fresh, inl (λ w. out w.schema, refl), refl)
outside_passes out file (Some (Close g)) stands = rw stands (refused 10, fresh, inl (λ w. out w.schema, refl), refl)
outside_passes out file (Some Finish) stands = rw stands (refused 10, fresh, inl (λ w. out w.schema, refl), refl)
outside_passes out file None stands =
    elim (dec_le (length file) 0) [
      | yes h ↦ rw (stands.0 h) (inl (false≢true, refl))
      | no h ↦ rw (stands.1 (omega arith)) refl
    ]

pub outside_means : {S : Meaning} → ¬ WithinLimits S → (file was : List ℕ) (r : EventFile) → r.number ≡ outside_number (event_at file 0)
    → r.place ≡ 0 → r.count ≡ 0 → EventsMean S file was was r
outside_means out file was r number place count =
    let p : Passage Reading = stops (refused_at (outside_number (event_at file 0)) 0) fresh in
    let (v, types) = laid_enough (length was) p (omega arith) in
    passage_means p (outside_passes out file (event_at file 0) (event_stands file 0)) types
    (record { buffer = refl; count = refl; room = omega arith }) r (number ∙ ap number_of (sym v)) (place ∙ ap (place_of (length file)) (sym v)) count
