-- Lists of calls with right answers meet demand 3's statement of the whole list, and demand 2's.
use mathlib.Core.Path.{◌≡◌, refl, sym, ◌∙◌, ap, ap₂, subst}
use mathlib.Core.Logic.Iff
use mathlib.Core.Logic.{◌⊎◌, inl, inr, ◌↔◌, ◌≢◌}
use mathlib.Core.List.{List, [], ◌∷◌, ◌++◌, append-nil, append_assoc, head-eq_of_cons-eq, concat-ne-nil}
use Prim.Native.Nat.{ℕ, suc, ◌≤◌, ◌<◌}
use native.Mathlib.Nat.{add-zero}
use native.Mathlib.Omega.{arith}
use lib.ListN.{length, drop}
use lib.Seq.{drop-cons}
use Rattle.sdtd.specs.Limits.{most_levels}
use Rattle.sdtd.specs.Schema.{Schema}
use Rattle.sdtd.specs.Tree.{Kind, Tree, node}
use Rattle.sdtd.specs.Document.{Event, opening, closing, finish, stream, document, openings, Valid, types_of, type_at, Begins}
use Rattle.sdtd.specs.Competition.{Competition}
use Rattle.sdtd.specs.Answer.{Answer, refused, typed, taken}
use Rattle.sdtd.specs.Reading.{questions, TypeAnswered, TakenAnswer, Right}
use Rattle.sdtd.specs.Calls.{Exchange, IsTaken, if_taken, events_taken, calls, answers_of, answers_by, deepest}
use Rattle.sdtd.specs.Calls.{RightCalls, CallMeets, ListMeets, TakenWhole, ValidWithin, WholeMeets}
use Rattle.sdtd.proofs.Answers.{AllHold, RefusesNone, ordered_taken, ordered_accepted}
use Rattle.sdtd.proofs.Depth.{deepest-opening, deepest-closing, deepest-finish, deepest_beginning, deepest-document}
use Rattle.sdtd.proofs.Trees.{openings-append}
use Rattle.sdtd.proofs.Typed.{openings_types}
use Rattle.sdtd.proofs.Unique.{one_typing}
use Rattle.sdtd.proofs.Questions.{TagsBelow, begins_unfinished, opening_tag, closing_begins, finish_begins, finish_whole}

-- The property holds of each call and the events taken before it, where e are taken before the list.
abbrev pub Each : (List Event → Exchange → Type 0) → List Event → List Exchange → Type 0
Each P e [] = Unit
Each P e (x ∷ xs) = P e x × Each P (e ++ if_taken x.answer x.call) xs

-- the property at each place of the list
abbrev AtEachPlace : (List Event → Exchange → Type 0) → List Event → List Exchange → Type 0
AtEachPlace P e xs = (before after : List Exchange) (x : Exchange) → xs ≡ before ++ (x ∷ after) → P (e ++ events_taken before) x

pub each_of_places : (P : List Event → Exchange → Type 0) (e : List Event) (xs : List Exchange) → AtEachPlace P e xs → Each P e xs
each_of_places P e [] h = tt
each_of_places P e (x ∷ xs) h =
    let here : P e x = rw append-nil at (h [] xs x refl) in
    (here, each_of_places P _ xs (λ before after y p. rw append_assoc (h (x ∷ before) after y (λ i. x ∷ p i))))

place_of_each : (P : List Event → Exchange → Type 0) (e : List Event) (before after : List Exchange) (x : Exchange)
    → Each P e (before ++ (x ∷ after)) → P (e ++ events_taken before) x
place_of_each P e [] after x c = rw append-nil c.0
place_of_each P e (y ∷ before) after x c = rw append_assoc at (place_of_each P _ before after x c.1)

pub places_of_each : (P : List Event → Exchange → Type 0) (e : List Event) (xs : List Exchange) → Each P e xs → AtEachPlace P e xs
places_of_each P e xs c before after x p = place_of_each P e before after x (subst (Each P e) p c)

-- An answer that is no refusal from 11 on refuses no question.
pub refuses_none : (S : Schema) (e : List Event) (x : Event) {a : Answer} → ((n : ℕ) → 10 < n → a ≢ refused n) → RefusesNone (questions S e x) a
refuses_none S e (opening κ g) other =
    (other 11 (omega arith), (other 12 (omega arith), (other 13 (omega arith), (other 14 (omega arith), tt))))
refuses_none S e (closing g) other =
    (other 11 (omega arith), (other 12 (omega arith), (other 15 (omega arith), (other 16 (omega arith), (other 17 (omega arith), tt)))))
refuses_none S e finish other = (other 11 (omega arith), (other 18 (omega arith), tt))

module _ (S : Schema) (e : List Event) where
  pub answer_taken : (x : Event) (a : Answer) → TakenAnswer S e x a → IsTaken a
  answer_taken (opening κ g) a t = subst IsTaken (sym t.answer) tt
  answer_taken (closing g) a t = subst IsTaken (sym t) tt
  answer_taken finish a t = subst IsTaken (sym t) tt

  pub right_taken : (x : Event) (a : Answer) → Right S e x a → IsTaken a → AllHold (questions S e x) × TakenAnswer S e x a
  right_taken x a r t = ordered_taken (TakenAnswer S e x) (questions S e x) (refuses_none S e x (λ n l p. subst IsTaken p t)) r

  -- A call is taken exactly when all its questions hold.
  taken_asked : (x : Event) (a : Answer) → Right S e x a → IsTaken a ↔ AllHold (questions S e x)
  taken_asked x a r =
      (λ t. (right_taken x a r t).0, λ all. answer_taken x a (ordered_accepted (TakenAnswer S e x) (questions S e x) all r))

  right_type : (x : Event) (a : Answer) → Right S e x a → (κ : Kind) (g : ℕ) → x ≡ opening κ g → IsTaken a → TypeAnswered S e κ g a
  right_type x a r κ g p t = subst (λ (y : Event). TakenAnswer S e y a) p (right_taken x a r t).1

  not_10 : (x : Event) → ¬ Right S e x (refused 10)
  not_10 x r = answer_taken x (refused 10) (ordered_taken (TakenAnswer S e x) (questions S e x) (refuses_none S e x other) r).1
    where
      other : (n : ℕ) → 10 < n → refused 10 ≢ refused n
      other n l p = let same : 10 ≡ n = cc in omega arith

-- the events begin a valid document and open at most `most_levels` levels
abbrev pub Fits : Schema → List Event → Type 0
Fits S e = Begins S e × (deepest e ≤ most_levels)

whole_begins : {S : Schema} {d : List Event} → Valid S d → Begins S d
whole_begins {d = d} v = record { whole = d; valid = v; beginning = record { rest = []; splits = sym (append-nil d) } }

-- What holds of the events taken: with none taken, no document need be valid.
pub record Sound (S : Schema) (e : List Event) : Type 0 where
  pub begins : (e ≡ []) ⊎ Begins S e
  pub within : deepest e ≤ most_levels

-- an opening of some tag, plainly or as nil
record IsOpening (x : Event) : Type 0 where
  kind : Kind
  tag : ℕ
  is : opening kind tag ≡ x

first_opening : {x : Event} (t : Tree) {rest : List Event} → document t ≡ x ∷ rest → IsOpening x
first_opening (node κ a f) p = record { kind = κ; tag = a; is = head-eq_of_cons-eq p }

-- Every document begins with an opening.
begins_opening : {S : Schema} {x : Event} → Begins S (x ∷ []) → IsOpening x
begins_opening b = first_opening b.valid.tree (b.valid.is_document ∙ b.beginning.splits)

no_closing_first : {S : Schema} (g : ℕ) → ¬ Begins S (closing g ∷ [])
no_closing_first g b = let p = (begins_opening b).is in let z : ◌≡◌ {A = ℕ} 0 1 = cc in omega arith

no_finish_first : {S : Schema} → ¬ Begins S (finish ∷ [])
no_finish_first b = let p = (begins_opening b).is in let z : ◌≡◌ {A = ℕ} 0 1 = cc in omega arith

-- The questions of the call x after e all hold exactly when the events with it fit.
abbrev AskedFits : Schema → List Event → Event → Type 0
AskedFits S e x = AllHold (questions S e x) ↔ Fits S (e ++ (x ∷ []))

module _ {S : Schema} (no_competition : ¬ Competition S) (below : TagsBelow S) where
  opening_fits : (e : List Event) (κ : Kind) (g : ℕ) → deepest e ≤ most_levels → AskedFits S e (opening κ g)
  opening_fits e κ g w = (
    λ all. (all.1.1.0, omega (arith, deepest-opening e κ g, all.1.1.1.0)),
    λ f. (
      begins_unfinished e (opening κ g) f.0,
      (opening_tag below e κ g f.0, (f.0, (omega (arith, deepest-opening e κ g, f.1), tt))),
    ),
  )

  closing_fits : (e : List Event) (g : ℕ) → deepest e ≤ most_levels → (e ≡ []) ⊎ Begins S e → AskedFits S e (closing g)
  closing_fits e g w (inl p) =
      subst (λ (l : List Event). AskedFits S l (closing g)) (sym p)
      (λ all. absurd (omega (arith, all.1.1.0)), λ f. absurd (no_closing_first g f.0))
  closing_fits e g w (inr b) =
      let c = closing_begins no_competition below e g b in (
        λ all. (
          c.0
              (record {
                not_finished = all.0;
                tag_below = all.1.0;
                element_open = all.1.1.0;
                innermost_tag = all.1.1.1.0;
                word = all.1.1.1.1.0;
              }),
          omega (arith, deepest-closing e g),
        ),
        λ f. let k = c.1 f.0 in (k.not_finished, (k.tag_below, (k.element_open, (k.innermost_tag, (k.word, tt))))),
      )

  finish_fits : (e : List Event) → deepest e ≤ most_levels → (e ≡ []) ⊎ Begins S e → AskedFits S e finish
  finish_fits e w (inl p) =
      subst (λ (l : List Event). AskedFits S l finish) (sym p)
      (λ all. absurd (omega (arith, all.1.0.opened)), λ f. absurd (no_finish_first f.0))
  finish_fits e w (inr b) =
      let c = finish_begins e b in
      (λ all. (c.0 (all.0, all.1.0), omega (arith, deepest-finish e)), λ f. let k = c.1 f.0 in (k.0, (k.1, tt)))

  asked_fits : (e : List Event) → Sound S e → (x : Event) → AskedFits S e x
  asked_fits e s (opening κ g) = opening_fits e κ g s.within
  asked_fits e s (closing g) = closing_fits e g s.within s.begins
  asked_fits e s finish = finish_fits e s.within s.begins

  -- After a finish the events fit exactly when they are a whole document.
  fits_whole : (e : List Event) → deepest e ≤ most_levels → (x : Event) → x ≡ finish → Fits S (e ++ (x ∷ [])) ↔ Valid S (e ++ (x ∷ []))
  fits_whole e w x p =
      subst (λ (y : Event). Fits S (e ++ (y ∷ [])) ↔ Valid S (e ++ (y ∷ []))) (sym p)
      (λ f. finish_whole e f.0, λ v. (whole_begins v, omega (arith, deepest-finish e)))

  pub call_meets : (e : List Event) → Sound S e → (x : Event) (a : Answer) → Right S e x a → CallMeets S e x a
  call_meets e s x a r =
      let exactly : IsTaken a ↔ Fits S (e ++ (x ∷ [])) = Iff.trans (taken_asked S e x a r) (asked_fits e s x) in
      record {
        taken_exactly = exactly;
        finish_exactly = λ p. Iff.trans exactly (fits_whole e s.within x p);
        type_given = right_type S e x a r;
        right = r;
        never_10 = λ p. not_10 S e x (subst (Right S e x) p r);
      }

-- the answer of the call is right after the events taken before it
abbrev pub RightAt : Schema → List Event → Exchange → Type 0
RightAt S e x = Right S e x.call x.answer

abbrev MeetsAt : Schema → List Event → Exchange → Type 0
MeetsAt S e x = CallMeets S e x.call x.answer

pub nothing_taken : (S : Schema) → Sound S []
nothing_taken S = record { begins = inl refl; within = omega arith }

pub sound_next : {S : Schema} (e : List Event) → Sound S e → (x : Event) (a : Answer) → CallMeets S e x a → Sound S (e ++ if_taken a x)
sound_next {S} e s x (refused n) m = subst (Sound S) (sym (append-nil e)) s
sound_next e s x (typed j) m = let f = m.taken_exactly.0 tt in record { begins = inr f.0; within = f.1 }
sound_next e s x taken m = let f = m.taken_exactly.0 tt in record { begins = inr f.0; within = f.1 }

sound_after : {S : Schema} (e : List Event) → Sound S e → (xs : List Exchange) → Each (MeetsAt S) e xs → Sound S (e ++ events_taken xs)
sound_after e s [] m = rw append-nil s
sound_after e s (x ∷ xs) m = rw append_assoc at (sound_after _ (sound_next e s x.call x.answer m.0) xs m.1)

module _ {S : Schema} (no_competition : ¬ Competition S) (below : TagsBelow S) where
  each_meets : (e : List Event) → Sound S e → (xs : List Exchange) → Each (RightAt S) e xs → Each (MeetsAt S) e xs
  each_meets e s [] r = tt
  each_meets e s (x ∷ xs) r =
      let m = call_meets no_competition below e s x.call x.answer r.0 in
      (m, each_meets _ (sound_next e s x.call x.answer m) xs r.1)

  all_meet : (xs : List Exchange) → RightCalls S xs → Each (MeetsAt S) [] xs
  all_meet xs r = each_meets [] (nothing_taken S) xs (each_of_places (RightAt S) [] xs r)

  pub calls_meet : (xs : List Exchange) → RightCalls S xs → ListMeets S xs
  calls_meet xs r = places_of_each (MeetsAt S) [] xs (all_meet xs r)

-- Every call is taken, and answers what a call that is taken answers.
abbrev TakenAll : Schema → List Event → List Exchange → Type 0
TakenAll S e [] = Unit
TakenAll S e (x ∷ xs) = TakenAnswer S e x.call x.answer × TakenAll S (e ++ (x.call ∷ [])) xs

-- a call that is taken adds its event
pub if_taken_lem : (a : Answer) (x : Event) → IsTaken a → if_taken a x ≡ x ∷ []
if_taken_lem (typed j) x t = refl
if_taken_lem taken x t = refl
if_taken_lem (refused _) x t = elim t [ ]

events_all : (S : Schema) (e : List Event) (xs : List Exchange) → TakenAll S e xs → events_taken xs ≡ calls xs
events_all S e [] t = refl
events_all S e (x ∷ xs) t =
    ap₂ ◌++◌ (if_taken_lem x.answer x.call (answer_taken S e x.call x.answer t.0)) (events_all S _ xs t.1)

pub fits_beginning : {S : Schema} (e f : List Event) → Fits S (e ++ f) → Fits S e
fits_beginning e f (b, w) =
    let splits : b.whole ≡ e ++ (f ++ b.beginning.rest) = rw append_assoc at b.beginning.splits in (
      record { whole = b.whole; valid = b.valid; beginning = record { rest = f ++ b.beginning.rest; splits = splits } },
      omega (arith, deepest_beginning e f),
    )

-- Where the events of all the calls fit, every call is taken.
taken_all : (S : Schema) (e : List Event) (xs : List Exchange) → Each (MeetsAt S) e xs → Fits S (e ++ calls xs) → TakenAll S e xs
taken_all S e [] m f = tt
taken_all S e (x ∷ xs) m f =
    let g : Fits S ((e ++ (x.call ∷ [])) ++ calls xs) = rw append_assoc f in
    let t = m.0.taken_exactly.1 (fits_beginning _ (calls xs) g) in
    let later : Each (MeetsAt S) (e ++ (x.call ∷ [])) xs = rw (if_taken_lem x.answer x.call t) at m.1 in
    ((right_taken S e x.call x.answer m.0.right t).1, taken_all S _ xs later g)

module _ {S : Schema} {d : List Event} (v : Valid S d) where
  -- The answers from the call x after e on give the typing's types from its place on, if those after it do.
  types_step : (e : List Event) (x : Event) (f : List Event) (a : Answer) (later : List Answer) → TakenAnswer S e x a → d ≡ e ++ (x ∷ f)
      → later ≡ answers_by f (drop (openings (e ++ (x ∷ []))) (types_of v)) → a ∷ later ≡ answers_by (x ∷ f) (drop (openings e) (types_of v))
  types_step e (opening κ g) f a later t p q =
      let one_more : openings (e ++ (opening κ g ∷ [])) ≡ suc (openings e) = omega (arith, openings-append e (opening κ g ∷ [])) in
      let inside : openings e < length (types_of v) = omega (arith, openings-append e (opening κ g ∷ f), ap openings p, openings_types v) in
      let gives : type_at v (openings e) ≡ t.type = t.given d v (record { rest = f; splits = rw append_assoc p }) in
      rw (t.answer, q, one_more, ← gives, drop-cons (types_of v) (openings e) 0)
  types_step e (closing g) f a later t p q = rw (t, q, openings-append e (closing g ∷ []), add-zero)
  types_step e finish f a later t p q = rw (t, q, openings-append e (finish ∷ []), add-zero)

  types_from : (e : List Event) (xs : List Exchange) → TakenAll S e xs → d ≡ e ++ calls xs
      → answers_of xs ≡ answers_by (calls xs) (drop (openings e) (types_of v))
  types_from e [] t p = refl
  types_from e (x ∷ xs) t p =
      types_step e x.call (calls xs) x.answer (answers_of xs) t.0 p (types_from _ xs t.1 (rw append_assoc p))

valid_within : {S : Schema} {d : List Event} → Valid S d → deepest d ≤ most_levels → ValidWithin S d
valid_within v w =
    record {
      tree = v.tree;
      is_document = v.is_document;
      typing = v.typing;
      nested = omega (arith, deepest-document v.tree, ap deepest v.is_document);
    }

within_valid : {S : Schema} {d : List Event} → ValidWithin S d → Valid S d
within_valid v = record { tree = v.tree; is_document = v.is_document; typing = v.typing }

pub within_fits : {S : Schema} {d : List Event} → ValidWithin S d → Fits S d
within_fits v = (whole_begins (within_valid v), omega (arith, deepest-document v.tree, ap deepest v.is_document, v.nested))

-- Events taken that end with a finish are a valid document.
sound_whole : {S : Schema} (e : List Event) → Sound S (e ++ (finish ∷ [])) → ValidWithin S (e ++ (finish ∷ []))
sound_whole {S} e s = valid_within (finish_whole e (begun s.begins)) s.within
  where
    begun : (e ++ (finish ∷ []) ≡ []) ⊎ Begins S (e ++ (finish ∷ [])) → Begins S (e ++ (finish ∷ []))
    begun (inl p) = absurd (concat-ne-nil finish e p)
    begun (inr b) = b

module _ {S : Schema} (xs : List Exchange) (m : Each (MeetsAt S) [] xs) where
  calls_sound : TakenWhole xs → Sound S (calls xs)
  calls_sound w = subst (Sound S) w.all_taken (sound_after [] (nothing_taken S) xs m)

  taken_valid : TakenWhole xs → ValidWithin S (calls xs)
  taken_valid w =
      subst (ValidWithin S) (sym w.through_finish) (sound_whole w.front (subst (Sound S) w.through_finish (calls_sound w)))

  valid_taken : ValidWithin S (calls xs) → TakenWhole xs
  valid_taken v =
      record {
        all_taken = events_all S [] xs (taken_all S [] xs m (within_fits v));
        front = stream v.tree;
        through_finish = sym v.is_document;
      }

  types_given : TakenWhole xs → (v : Valid S (calls xs)) → answers_of xs ≡ answers_by (calls xs) (types_of v)
  types_given w v = types_from v [] xs (taken_all S [] xs m (whole_begins v, (calls_sound w).within)) refl

pub calls_meet_whole : {S : Schema} → ¬ Competition S → TagsBelow S → (xs : List Exchange) → RightCalls S xs → WholeMeets S xs
calls_meet_whole no_competition below xs r =
    let m = all_meet no_competition below xs r in
    record {
      exactly = (taken_valid xs m, valid_taken xs m);
      types = types_given xs m;
      only_typing = λ tree t₁ t₂. one_typing no_competition t₁ t₂;
    }
