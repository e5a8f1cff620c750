-- A reading as a function of the events taken and the frames: under an accepted schema it answers every call right, and what follows is
-- again a position. So each call after right answers has a right answer, and answers that agree with the function's are right.
use mathlib.Core.Path.{◌≡◌, refl, sym, ap, ap₂, subst, ◌∙◌}
use mathlib.Core.Logic.{◌↔◌, inl, inr}
use mathlib.Core.Bool.{Bool, true, false, ◌&&◌}
use mathlib.Core.List.Memᴰ
use mathlib.Core.List.{List, [], ◌∷◌, ◌++◌, tail, append_assoc, append-nil, nil≢cons, Memᴰ}
use Prim.Native.Nat.{ℕ, zero, suc, ◌<◌}
use native.Mathlib.Omega.{arith}
use lib.ListN.{length}
use lib.Dec.{T, eqb, ltb}
use Rattle.sdtd.specs.Limits.{most_levels}
use Rattle.sdtd.specs.Schema.{Schema, block_of, tag_of}
use Rattle.sdtd.specs.Tree.{Kind, plain, nil, empty, more, ValidContent}
use Rattle.sdtd.specs.Document.{Event, opening, closing, finish, Begins}
use Rattle.sdtd.specs.Trim.{SomeRootBears}
use Rattle.sdtd.specs.Competition.{Competition, Accepted}
use Rattle.sdtd.specs.Answer.{Question, Answer, refused, typed, taken, ask, Ordered}
use Rattle.sdtd.specs.Reading.{depth, innermost, ChildrenFormWord, RootClosed, questions, TakenAnswer, Right}
use Rattle.sdtd.specs.Calls.{Exchange, if_taken, events_taken, RightCalls}
use Rattle.sdtd.proofs.Bearing.{root_label}
use Rattle.sdtd.proofs.Machine.{Owner, top, own, one_root, Frame, frame, start, Suspended, outer, inner}
use Rattle.sdtd.proofs.Follow.{Candidate}
use Rattle.sdtd.proofs.Position.{Position, SomePosition, first_position, open_position, close_position, end_position}
use Rattle.sdtd.proofs.Next.{opening_exactly, opening_given}
use Rattle.sdtd.proofs.Questions.{position_unfinished, position_finished, own_elements, innermost_of, nothing_open, children_word}
use Rattle.sdtd.proofs.Questions.{nil_content, root_closed, root_child}
use Rattle.sdtd.proofs.Answers.{right_unique}
use Rattle.sdtd.proofs.Calls.{Each, RightAt, each_of_places, places_of_each}
use Rattle.sdtd.proofs.Tests.{Means, means_iff, itself, eq_means, lt_means, and_means}
use Rattle.sdtd.proofs.Decide.{LiveTable, LiveExact, acceptsb, accepts_means}
use Rattle.sdtd.proofs.LiveStates.{live_table}
use Rattle.sdtd.proofs.Candidates.{opening_types, opening_types_lem}

-- the refusal n, unless the test passes
abbrev check : ℕ → Bool → Answer → Answer
check n true a = a
check n false a = refused n

-- an opening at the depth d, where the types of the list can come next
abbrev opening_answer : ℕ → List ℕ → Answer
opening_answer d [] = refused 13
opening_answer d (j ∷ js) = check 14 (ltb d most_levels) (typed j)

-- a closing of g, where the innermost frame is the owner's and has the children w
abbrev closing_answer : Schema → Owner → List ℕ → ℕ → Answer
closing_answer S top w g = refused 15
closing_answer S (own plain a) w g = check 16 (eqb (tag_of S a) g) (check 17 (acceptsb (block_of S a) w) taken)
closing_answer S (own nil a) w g = check 16 (eqb (tag_of S a) g) taken

-- a finish, where the innermost frame is the owner's and has the children w
abbrev finish_answer : Owner → List ℕ → Answer
finish_answer top [] = refused 18
finish_answer top (a ∷ w) = taken
finish_answer (own κ a) w = refused 18

-- The answer to a call after the events e, which led to the frames.
abbrev pub model : Schema → LiveTable → List Event → List Frame → Event → Answer
model S L e [] x = refused 11
model S L e (frame o w ∷ fs) (opening κ g) = check 12 (ltb g S.tags) (opening_answer (depth e) (opening_types S L o w κ g))
model S L e (frame o w ∷ fs) (closing g) = check 12 (ltb g S.tags) (closing_answer S o w g)
model S L e (frame o w ∷ fs) finish = finish_answer o w

-- how an opening opens; of another event it is not asked
abbrev kind_of : Event → Kind
kind_of (opening κ g) = κ
kind_of (closing g) = plain
kind_of finish = plain

-- The frames after an answer to the call x: a type opens a frame, taken closes one.
abbrev pub frames_after : Answer → Event → List Frame → List Frame
frames_after (refused n) x fs = fs
frames_after (typed j) x [] = []
frames_after (typed j) x (frame o w ∷ fs) = frame (own (kind_of x) j) [] ∷ frame o (w ++ (j ∷ [])) ∷ fs
frames_after taken x fs = tail fs

-- The answer is right by the questions of the list, and the reading goes on at a position.
record Answered (S : Schema) (e : List Event) (fs : List Frame) (x : Event) (qs : List (Question Answer)) (a : Answer) : Type 0 where
  right : Ordered qs (TakenAnswer S e x) a
  next : Position S (e ++ if_taken a x) (frames_after a x fs)

-- The first question is answered no; yes; or as its test says.
module _ {S : Schema} {e : List Event} {fs : List Frame} (p : Position S e fs)
    {x : Event} {n : ℕ} {A : Type 0} {qs : List (Question Answer)} where
  answered_no : ¬ A → Answered S e fs x (ask (refused n) A ∷ qs) (refused n)
  answered_no f = record { right = inl (f, refl); next = rw append-nil p }

  answered_yes : {a : Answer} → A → Answered S e fs x qs a → Answered S e fs x (ask (refused n) A ∷ qs) a
  answered_yes h r = record { right = inr (h, r.right); next = r.next }

  answered : {a : Answer} {b : Bool} → Means b A → (A → Answered S e fs x qs a) → Answered S e fs x (ask (refused n) A ∷ qs) (check n b a)
  answered {b = true} m k = let h = m.says tt in answered_yes h (k h)
  answered {b = false} m k = answered_no m.passes

-- with no frame left the events are finished
finished_answered : {S : Schema} {e : List Event} → Position S e [] → (x : Event) → Answered S e [] x (questions S e x) (refused 11)
finished_answered p (opening κ g) = answered_no p (position_finished p)
finished_answered p (closing g) = answered_no p (position_finished p)
finished_answered p finish = answered_no p (position_finished p)

module _ {S : Schema} (free : ¬ Competition S) {e : List Event} {w : List ℕ} {fs : List Frame} where
  -- from question 13 on
  opening_answered : {o : Owner} (p : Position S e (frame o w ∷ fs)) (κ : Kind) (g : ℕ) (js : List ℕ)
      → ((j : ℕ) → Memᴰ j js ↔ ((tag_of S j ≡ g) × Candidate S o w κ j))
      → Answered S e (frame o w ∷ fs) (opening κ g)
      (ask (refused 13) (Begins S (e ++ (opening κ g ∷ []))) ∷ ask (refused 14) (depth e < most_levels) ∷ []) (opening_answer (depth e) js)
  opening_answered p κ g [] m =
      answered_no p (λ b. let c = (opening_exactly free p κ g).0 b in Memᴰ.not-nil ((m c.type).1 (c.tag, c.candidate)))
  opening_answered {o} p κ g (j ∷ js) m =
      let c = (m j).0 (Memᴰ.head refl) in
      answered_yes p ((opening_exactly free p κ g).1 (record { type = j; tag = c.0; candidate = c.1 }))
      (answered p (lt_means (depth e) most_levels) (λ l.
      subst (λ (h : ℕ). Answered S e (frame o w ∷ fs) (opening κ h) [] (typed j)) c.0
      (record { right = record { type = j; answer = refl; given = opening_given free p c.1 }; next = open_position p c.1 })))

  -- question 16
  same_tag : {κ : Kind} {a : ℕ} (p : Position S e (frame (own κ a) w ∷ fs)) (g : ℕ) → Means (eqb (tag_of S a) g) ((innermost e).tag ≡ g)
  same_tag {a = a} p g =
      let i = innermost_of (own_elements p (position_unfinished p)) in
      means_iff (eq_means (tag_of S a) g) (λ q. sym i.tag ∙ q, λ q. i.tag ∙ q)

  closed_answered : {κ : Kind} {a : ℕ} (p : Position S e (frame (own κ a) w ∷ fs)) (g : ℕ) → (innermost e).tag ≡ g → ValidContent S κ a w
      → Answered S e (frame (own κ a) w ∷ fs) (closing g) [] taken
  closed_answered p g t c =
      let i = innermost_of (own_elements p (position_unfinished p)) in
      record { right = refl; next = subst (λ (h : ℕ). Position S (e ++ (closing h ∷ [])) fs) (sym i.tag ∙ t) (close_position p c) }

  -- from question 15 on
  closing_answered : (o : Owner) (p : Position S e (frame o w ∷ fs)) (g : ℕ)
      → Answered S e (frame o w ∷ fs) (closing g)
      (ask (refused 15) (0 < depth e) ∷ ask (refused 16) ((innermost e).tag ≡ g) ∷ ask (refused 17) (ChildrenFormWord S e) ∷ []) (closing_answer S o w g)
  closing_answered top p g =
      let closed : depth e ≡ 0 = ap length (nothing_open (own_elements p (position_unfinished p))) in
      answered_no p (λ d. omega arith)
  closing_answered (own plain a) p g =
      let i = innermost_of (own_elements p (position_unfinished p)) in
      let word = means_iff (accepts_means (block_of S a) w) (children_word free plain p) in
      answered_yes p i.is_open (answered p (same_tag p g) (λ t. answered p word (λ c. closed_answered p g t ((children_word free plain p).0 c))))
  closing_answered (own nil a) p g =
      let i = innermost_of (own_elements p (position_unfinished p)) in
      answered_yes p i.is_open
      (answered p (same_tag p g) (λ t.
      let c = nil_content p.suspended in
      answered_yes p ((children_word free nil p).1 c) (closed_answered p g t c)))

-- question 18, by the innermost frame
finish_answered : {S : Schema} {e : List Event} {o : Owner} {w : List ℕ} {fs : List Frame}
    → Position S e (frame o w ∷ fs) → Suspended S (frame o w ∷ fs)
    → Answered S e (frame o w ∷ fs) finish (ask (refused 18) (RootClosed e) ∷ []) (finish_answer o w)
finish_answered {w = []} p (outer f) = answered_no p (λ c. nil≢cons ((root_closed p).0 c).only)
finish_answered {w = a ∷ w} p (outer f) =
    let o = root_child p in answered_yes p ((root_closed p).1 o) (record { right = refl; next = end_position p o })
finish_answered {e = e} p (inner f s) =
    let i : 0 < depth e = (innermost_of (own_elements p (position_unfinished p))).is_open in
    answered_no p (λ c. omega (arith, c.closed))

module _ {S : Schema} {L : LiveTable} (free : ¬ Competition S) (exact : LiveExact S L) where
  model_answered : {e : List Event} {fs : List Frame} → Position S e fs → (x : Event)
      → Answered S e fs x (questions S e x) (model S L e fs x)
  model_answered {fs = []} p x = finished_answered p x
  model_answered {fs = frame o w ∷ fs} p (opening κ g) =
      answered_yes p (position_unfinished p)
      (answered p (lt_means g S.tags) (λ l. opening_answered free p κ g (opening_types S L o w κ g) (opening_types_lem exact o w κ g)))
  model_answered {fs = frame o w ∷ fs} p (closing g) =
      answered_yes p (position_unfinished p) (answered p (lt_means g S.tags) (λ l. closing_answered free o p g))
  model_answered {fs = frame o w ∷ fs} p finish = answered_yes p (position_unfinished p) (finish_answered p p.suspended)

  pub model_right : {e : List Event} {fs : List Frame} → Position S e fs → (x : Event) → Right S e x (model S L e fs x)
  model_right p x = (model_answered p x).right

  pub model_next : {e : List Event} {fs : List Frame} → Position S e fs → (x : Event)
      → Position S (e ++ if_taken (model S L e fs x) x) (frames_after (model S L e fs x) x fs)
  model_next p x = (model_answered p x).next

-- nothing is read, and a root type bears a tree
pub fresh_position : {S : Schema} → SomeRootBears S → Position S [] start
fresh_position r =
    let b = r.bears in
    first_position (outer (record { forest = more b.tree empty; derived = (b.derived, tt); fills = one_root (root_label r) }))

-- an answer as two numbers: its kind and what it carries
abbrev kind : Answer → ℕ
kind (refused n) = 0
kind (typed j) = 1
kind taken = 2

abbrev carried : Answer → ℕ
carried (refused n) = n
carried (typed j) = j
carried taken = 0

abbrev answer_of : ℕ → ℕ → Answer
answer_of zero n = refused n
answer_of (suc zero) n = typed n
answer_of (suc (suc k)) n = taken

answer_of_lem : (a : Answer) → answer_of (kind a) (carried a) ≡ a
answer_of_lem (refused n) = refl
answer_of_lem (typed j) = refl
answer_of_lem taken = refl

abbrev same_answer : Answer → Answer → Bool
same_answer a b = eqb (kind a) (kind b) && eqb (carried a) (carried b)

same_means : (a b : Answer) → Means (same_answer a b) (a ≡ b)
same_means a b =
    means_iff (and_means (eq_means (kind a) (kind b)) (eq_means (carried a) (carried b))) (
      λ q. (ap kind q, ap carried q),
      λ p. sym (answer_of_lem a) ∙ ap₂ answer_of p.0 p.1 ∙ answer_of_lem b,
    )

-- The calls, after the events e and at the frames, get the model's answers.
abbrev pub agrees : Schema → LiveTable → List Event → List Frame → List Exchange → Bool
agrees S L e fs [] = true
agrees S L e fs (x ∷ xs) =
    same_answer (model S L e fs x.call) x.answer
    && agrees S L (e ++ if_taken x.answer x.call) (frames_after x.answer x.call fs) xs

module _ {S : Schema} {L : LiveTable} (free : ¬ Competition S) (exact : LiveExact S L) where
  -- the next position, where the model's answer is given
  next_position : {e : List Event} {fs : List Frame} → Position S e fs → (x : Event) {a : Answer} → model S L e fs x ≡ a
      → Position S (e ++ if_taken a x) (frames_after a x fs)
  next_position {e} {fs} p x q = subst (λ (a : Answer). Position S (e ++ if_taken a x) (frames_after a x fs)) q (model_next free exact p x)

  position_after : {e : List Event} {fs : List Frame} → Position S e fs → (xs : List Exchange) → Each (RightAt S) e xs
      → SomePosition S (e ++ events_taken xs)
  position_after {fs = fs} p [] r = record { frames = fs; at = rw append-nil p }
  position_after {e} p (x ∷ xs) r =
      let same = right_unique S e x.call (model_right free exact p x.call) r.0 in
      rw append_assoc at (position_after (next_position p x.call same) xs r.1)

  each_right : {e : List Event} {fs : List Frame} → Position S e fs → (xs : List Exchange) → T (agrees S L e fs xs)
      → Each (RightAt S) e xs
  each_right p [] t = tt
  each_right {e} p (x ∷ xs) t =
      let r = (and_means (same_means _ x.answer) (itself _)).says t in
      (subst (Right S e x.call) r.0 (model_right free exact p x.call), each_right (next_position p x.call r.0) xs r.1)

-- After right answers each call has a right answer.
pub right_exists : {S : Schema} → Accepted S → (xs : List Exchange) → RightCalls S xs → (x : Event)
    → (a : Answer) × Right S (events_taken xs) x a
right_exists {S} accepted xs r x =
    let l = live_table S in
    let free = accepted.no_competition in
    let s = position_after free l.1 (fresh_position accepted.bears) xs (each_of_places (RightAt S) [] xs r) in
    (model S l.0 (events_taken xs) s.frames x, model_right free l.1 s.at x)

-- Answers that agree with the model's are right.
pub calls_agree : {S : Schema} {L : LiveTable} → Accepted S → LiveExact S L → (xs : List Exchange) → T (agrees S L [] start xs)
    → RightCalls S xs
calls_agree {S} accepted exact xs t =
    places_of_each (RightAt S) [] xs (each_right accepted.no_competition exact (fresh_position accepted.bears) xs t)
