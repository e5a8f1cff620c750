-- Under an accepted schema the answer says what valid documents say: the calls that would have been taken go on with the events taken, and the
-- types are those that every typing of every valid document with that beginning gives the open elements.
use mathlib.Core.Path.{◌≡◌, refl, sym, ap, ap₂, subst, ◌∙◌}
use mathlib.Core.Logic.Iff
use mathlib.Core.Logic.{◌↔◌, ⊎_elim}
use mathlib.Core.Bool.{Bool}
use mathlib.Core.List.{List, [], ◌∷◌, ◌++◌, map, map-append, reverse, reverse-cons}
use Prim.Native.Nat.{ℕ, ◌≤◌}
use native.Mathlib.Omega.{arith}
use lib.ListN.{length, get_or, take}
use lib.Seq.{take_all, take-suc}
use Rattle.sdtd.specs.Schema.{Schema}
use Rattle.sdtd.specs.Document.{Event, opening, closing, finish, stream, document, Valid, types_of, BeginningOf, Begins}
use Rattle.sdtd.specs.Competition.{Competition, Accepted}
use Rattle.sdtd.specs.Answer.{Answer}
use Rattle.sdtd.specs.Reading.{OpenElement, open_elements, depth, Right}
use Rattle.sdtd.specs.Calls.{IsTaken, CallMeets}
use Rattle.sdtd.proofs.Machine.{Frame}
use Rattle.sdtd.proofs.Trees.{opened}
use Rattle.sdtd.proofs.Typed.{run_valid}
use Rattle.sdtd.proofs.Position.{Position, position_begins, onward_only, onward_types}
use Rattle.sdtd.proofs.Elements.{Elements, outside, element, elements_run}
use Rattle.sdtd.proofs.Questions.{finish_begins}
use Rattle.sdtd.proofs.Depth.{depth-finish}
use Rattle.sdtd.proofs.Within.{within_tags}
use Rattle.sdtd.proofs.Calls.{Sound, call_meets, nothing_taken, sound_next}
use Rattle.events.specs.Events.{events_of}
use Rattle.reading.specs.declared.value.Reading.{Reading}
use Rattle.reading.specs.Questions.{Next}
use Rattle.reading.specs.Questions.{CallMeans}
use Rattle.reading.specs.Passage.{Passage, Passes}
use Rattle.reading.specs.EventMeaning.{by_documents}
use Rattle.reading.specs.Stop.{WouldTake}
use Rattle.reading.proofs.Keeping.{Levels, outermost, level, Reads, over, going, some_frame, After}
use Rattle.reading.proofs.CallAnswers.{call_answered}
use Rattle.reading.proofs.AnswerExists.{call_exists}
use Rattle.reading.proofs.Passages.{passes_each}
use Rattle.reading.proofs.EventWalk.{passage_judged}
use Rattle.expected.specs.declared.Expected.{Expected}
use Rattle.expected.specs.Expected.{open_types, ExpectedMeans}
use Rattle.expected.specs.Meaning.{BeginsWithin, open_types_in, ExpectedMeets}

-- with no frame left nothing is open
ended_open : {S : Schema} {e : List Event} → Position S e [] → open_elements e ≡ []
ended_open {S} {e} p =
    let v = subst (λ (d : List Event). Valid S d) p.tags (run_valid p.run).valid in
    let s = stream v.tree in
    let front : Begins S s = record { whole = e; valid = v; beginning = record { rest = finish ∷ []; splits = sym v.is_document } } in
    let whole : Begins S (document v.tree) = subst (Begins S) (sym v.is_document) (position_begins p) in
    let none : depth (document v.tree) ≡ 0 = depth-finish s ∙ ((finish_begins s front).1 whole).1.closed in
    let closed : depth e ≡ 0 = subst (λ (d : List Event). depth d ≡ 0) v.is_document none in
    sym (take_all 0 (open_elements e) (omega arith))

-- the types of the first levels are those of the open elements, outermost first
levels_types : {S : Schema} {ts types sets : List ℕ} {rooted : Bool} {n : ℕ} {xs : List OpenElement} {fs : List Frame} → Elements S ts xs fs
    → Levels S types sets rooted n fs → n ≤ length types → take n types ≡ map (λ (x : OpenElement). get_or ts x.place 0) (reverse xs)
levels_types outside (outermost k) h = refl
levels_types {ts = ts} {types = types} (element {x = x} {xs = xs} o t p c m) (level {n = n} b k l) h =
    let typed : OpenElement → ℕ = λ y. get_or ts y.place 0 in
    take-suc types n 0 h
    ∙ ap₂ (λ (ys : List ℕ) (y : ℕ). ys ++ (y ∷ [])) (levels_types m l (omega arith)) (k.same_type ∙ sym p)
    ∙ sym (map-append typed (reverse xs) (x ∷ []))
    ∙ ap (map typed) (sym (reverse-cons x xs))

-- The types of the open levels, by any typing of any valid document that begins with the events taken.
module _ {S : Schema} (free : ¬ Competition S) {e d : List Event} {r : Reading} (k : After S e r) (v : Valid S d) (b : BeginningOf e d) where
  going_types : {fs : List Frame} → Position S e fs → Levels S r.types r.sets r.rooted r.depth fs → open_types r ≡ open_types_in e v
  going_types {fs} p l =
      let o = onward_only free p v b.rest b.splits in
      ⊎_elim
      (λ m.
      levels_types (subst (λ (x : List Event). Elements S (types_of v) (open_elements x) fs) p.tags m) l
      (omega (arith, k.sized.depth, k.sized.types)))
      (λ f. absurd (some_frame l f.1))
      (elements_run [] (opened o.rest) p.run (onward_types o) outside)

  reads_types : {fs : List Frame} → Position S e fs → Reads S r fs → open_types r ≡ open_types_in e v
  reads_types p (over f z) = rw (z, ended_open p) refl
  reads_types p (going u l) = going_types p l

  open_types_lem : open_types r ≡ open_types_in e v
  open_types_lem = reads_types k.at k.reads

module _ {S : Schema} (accepted : Accepted S) where
  meets : (e : List Event) → Sound S e → (x : Event) (a : Answer) → Right S e x a → CallMeets S e x a
  meets = call_meets accepted.no_competition (within_tags accepted.within)

  -- where the walk stops the events taken are none or begin a valid document, and open at most `most_levels` levels
  last_sound : (file : List ℕ) (q : Passage (List Event)) → Passes (by_documents S) [] 0 (events_of file) q → Sound S q.last
  last_sound file q f =
      passes_each (by_documents S) (λ e at es p. Sound S e → Sound S p.last)
      (λ e at h s. s) (λ e at h s. s) (λ e at s. s) (λ e at x es n after m s. s)
      (λ e at x es a after p t m next s. next (subst (Sound S) (sym m.1) (sound_next e s x a (meets e s x a m.0))))
      [] 0 (events_of file) q f (nothing_taken S)

  module _ {e : List Event} {r : Reading} (k : After S e r) (s : Sound S e) where
    call_judged : (x : Event) (n : Next) → CallMeans S r x n → CallMeets S e x n.answer
    call_judged x n m = meets e s x n.answer (call_answered accepted k x m).right

    -- A call would be taken exactly when P holds, if an answer that meets demand 3 is taken exactly then.
    would_take : (x : Event) {P : Type 0} → ((a : Answer) → CallMeets S e x a → IsTaken a ↔ P) → WouldTake S r x ↔ P
    would_take x exactly = (
      λ w. (exactly w.0.answer (call_judged x w.0 w.1)).0 w.2,
      λ h. let (n, m) = call_exists S r x in (n, m, (exactly n.answer (call_judged x n m)).1 h),
    )

    -- "the events taken before it, with this one, begin a valid document of any depth and do not open a 65th level"
    would_go_on : (x : Event) → WouldTake S r x ↔ BeginsWithin S e x
    would_go_on x =
        would_take x
        (λ a m. Iff.trans m.taken_exactly (λ f. record { begins = f.0; nested = f.1 }, λ g. (g.begins, g.nested)))

    -- "A finish is taken exactly when they are a whole one."
    would_finish : WouldTake S r finish ↔ Valid S (e ++ (finish ∷ []))
    would_finish = would_take finish (λ a m. m.finish_exactly refl)

  -- What the call answers, for any schema value, says under an accepted schema what valid documents say.
  pub expected_judged : (file : List ℕ) (r : Expected) → ExpectedMeans S file r → ExpectedMeets S file r
  expected_judged file r m =
      let (q, judged, same) = passage_judged accepted file m.passage m.passes in
      let k = same.last in
      let s = last_sound file q judged in
      let a = m.fits in
      record {
        passage = q;
        judged = judged;
        begins = position_begins k.at;
        answered = m.answered;
        laid_out = m.laid_out;
        verdict = a.verdict ∙ sym same.verdict;
        listed = λ κ g. Iff.trans (a.listed κ g) (would_go_on k s (opening κ g));
        rising = a.rising;
        closes = Iff.trans a.closes (
          λ c. (c.0, (would_go_on k s (closing c.0)).0 c.1),
          λ c. (c.0, (would_go_on k s (closing c.0)).1 c.1),
        );
        finishes = Iff.trans a.finishes (would_finish k s);
        types = λ d v b. a.types ∙ open_types_lem accepted.no_competition k v b;
      }
