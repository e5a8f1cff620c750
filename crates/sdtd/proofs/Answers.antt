-- Ordered answers: there is at most one, there is one where the questions are decided in order, and an answer that refuses no question is
-- given only where all of them hold.
use mathlib.Core.Path.{◌≡◌, sym, ◌∙◌, ap}
use mathlib.Core.Logic.{inl, inr, ◌≢◌}
use mathlib.Core.List.{List, [], ◌∷◌, ◌++◌}
use Prim.Native.Nat.{ℕ}
use Rattle.sdtd.specs.Schema.{Schema}
use Rattle.sdtd.specs.Tree.{Kind}
use Rattle.sdtd.specs.Document.{Event, opening, closing, finish, Begins}
use Rattle.sdtd.specs.Answer.{Question, Ordered, Answer, typed}
use Rattle.sdtd.specs.Reading.{TypeAnswered, TakenAnswer, questions, Right}

-- all the questions are answered yes
abbrev pub AllHold : {A : Type 0} → List (Question A) → Type 0
AllHold [] = Unit
AllHold (q ∷ qs) = q.holds × AllHold qs

-- Each question is decided where those before it hold, and where all hold an answer is accepted.
abbrev pub Decided : {A : Type 0} → List (Question A) → (A → Type 0) → Type 0
Decided {A} [] accepted = (a : A) × accepted a
Decided (q ∷ qs) accepted = Dec q.holds × (q.holds → Decided qs accepted)

-- the answer is no question's refusal
abbrev pub RefusesNone : {A : Type 0} → List (Question A) → A → Type 0
RefusesNone [] a = Unit
RefusesNone (q ∷ qs) a = (a ≢ q.refusal) × RefusesNone qs a

module _ {A : Type 0} (accepted : A → Type 0) where
  pub ordered_unique : (qs : List (Question A)) {a b : A} → (AllHold qs → accepted a → accepted b → a ≡ b)
      → Ordered qs accepted a → Ordered qs accepted b → a ≡ b
  ordered_unique [] same o p = same tt o p
  ordered_unique (q ∷ qs) same (inl o) (inl p) = o.1 ∙ sym p.1
  ordered_unique (q ∷ qs) same (inl o) (inr p) = absurd (o.0 p.0)
  ordered_unique (q ∷ qs) same (inr o) (inl p) = absurd (p.0 o.0)
  ordered_unique (q ∷ qs) same (inr o) (inr p) = ordered_unique qs (λ all. same (o.0, all)) o.1 p.1

  pub ordered_exists : (qs : List (Question A)) → Decided qs accepted → (a : A) × Ordered qs accepted a
  ordered_exists [] d = d
  ordered_exists (q ∷ qs) (yes h, d) = let r = ordered_exists qs (d h) in (r.0, inr (h, r.1))
  ordered_exists (q ∷ qs) (no n, d) = (q.refusal, inl (n, λ i. q.refusal))

  -- an answer that refuses no question
  pub ordered_taken : (qs : List (Question A)) {a : A} → RefusesNone qs a → Ordered qs accepted a → AllHold qs × accepted a
  ordered_taken [] n o = (tt, o)
  ordered_taken (q ∷ qs) n (inl o) = absurd (n.0 o.1)
  ordered_taken (q ∷ qs) n (inr o) = let r = ordered_taken qs n.1 o.1 in ((o.0, r.0), r.1)

  -- the answer where all the questions hold
  pub ordered_accepted : (qs : List (Question A)) {a : A} → AllHold qs → Ordered qs accepted a → accepted a
  ordered_accepted [] all o = o
  ordered_accepted (q ∷ qs) all (inl o) = absurd (o.0 all.0)
  ordered_accepted (q ∷ qs) all (inr o) = ordered_accepted qs all.1 o.1

-- The types that two answers to an opening give are both those of a document that begins with it.
types_unique : {S : Schema} {e : List Event} {κ : Kind} {g : ℕ} {a b : Answer} → Begins S (e ++ (opening κ g ∷ []))
    → TypeAnswered S e κ g a → TypeAnswered S e κ g b → a ≡ b
types_unique d s t =
    let same = sym (s.given d.whole d.valid d.beginning) ∙ t.given d.whole d.valid d.beginning in
    s.answer ∙ ap typed same ∙ sym t.answer

taken_unique : (S : Schema) (e : List Event) (x : Event) {a b : Answer} → AllHold (questions S e x)
    → TakenAnswer S e x a → TakenAnswer S e x b → a ≡ b
taken_unique S e (opening κ g) all s t = types_unique all.1.1.0 s t
taken_unique S e (closing g) all s t = s ∙ sym t
taken_unique S e finish all s t = s ∙ sym t

pub right_unique : (S : Schema) (e : List Event) (x : Event) {a b : Answer} → Right S e x a → Right S e x b → a ≡ b
right_unique S e x r s = ordered_unique (TakenAnswer S e x) (questions S e x) (taken_unique S e x) r s
