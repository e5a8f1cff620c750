-- Document 01, "A reading", and document 02, Req 05: questions 11 to 18 for the events taken and one more, and what a right answer is. Under a
-- schema in which types compete an opening may have no right answer; under an accepted one each call after right answers has exactly one.
use Rattle.std.specs.Prelude.{◌≡◌, ℕ, suc, ◌<◌, length, get_or}
use mathlib.Core.List.{List, [], ◌∷◌, ◌++◌, Memᴰ, map, tail}
use Rattle.sdtd.specs.Limits.{most_levels}
use Rattle.sdtd.specs.Schema.{Schema, block_of, Word}
use Rattle.sdtd.specs.Tree.{Kind, plain}
use Rattle.sdtd.specs.Document.{Event, opening, closing, finish, openings, Valid, type_at, BeginningOf, Begins, EveryTypingGives}
use Rattle.sdtd.specs.Answer.{Question, Answer, refused, typed, taken, ask, Ordered}

-- An element that is open after some events: how it was opened, its tag, its place, which is the number of openings before its own, and the
-- places of its children so far, in order.
pub record OpenElement : Type 0 where
  pub kind : Kind
  pub tag : ℕ
  pub place : ℕ
  pub children : List ℕ

-- an element of the tag g, just opened at the place n
abbrev pub new_element : Kind → ℕ → ℕ → OpenElement
new_element κ g n = record { kind = κ; tag = g; place = n; children = [] }

-- the innermost of the open elements has one child more, at the place n
abbrev pub with_child : ℕ → List OpenElement → List OpenElement
with_child n [] = []
with_child n (x ∷ xs) = record { kind = x.kind; tag = x.tag; place = x.place; children = x.children ++ (n ∷ []) } ∷ xs

-- the elements that are open, innermost first, after n openings, the open elements xs and then the events
abbrev pub open_after : ℕ → List OpenElement → List Event → List OpenElement
open_after n xs [] = xs
open_after n xs (opening κ g ∷ e) = open_after (suc n) (new_element κ g n ∷ with_child n xs) e
open_after n xs (closing g ∷ e) = open_after n (tail xs) e
open_after n xs (finish ∷ e) = open_after n xs e

-- the elements that are open after the events, innermost first
abbrev pub open_elements : List Event → List OpenElement
open_elements e = open_after 0 [] e

-- how many elements are open
abbrev pub depth : List Event → ℕ
depth e = length (open_elements e)

-- what stands for the innermost open element where none is open
abbrev pub no_element : OpenElement
no_element = record { kind = plain; tag = 0; place = 0; children = [] }

-- the innermost open element; it is asked for only where one is open
abbrev pub innermost : List Event → OpenElement
innermost e = get_or (open_elements e) 0 no_element

-- 11: "is the document not yet finished?"
abbrev pub NotFinished : List Event → Type 0
NotFinished e = ¬ Memᴰ finish e

-- 17: "Do its children form a word of its automaton?", by the types that every typing of every valid document with that beginning gives
-- the innermost element and its children. With no competition all of them give the same. It is asked only after 15 and 16, and not of a
-- nil element: "A typing asks no word of a nil element".
abbrev pub ChildrenFormWord : Schema → List Event → Type 0
ChildrenFormWord S e =
    (innermost e).kind ≡ plain
    → (d : List Event) (v : Valid S d) → BeginningOf e d
    → Word (block_of S (type_at v (innermost e).place)) (map (λ n. type_at v n) (innermost e).children)

-- 18: "has the root been opened and closed?"
pub record RootClosed (e : List Event) : Type 0 where
  pub opened : 0 < openings e
  pub closed : depth e ≡ 0

-- The questions for the call x after the events e, in order. "A nil opening is asked the opening's questions".
abbrev pub questions : Schema → List Event → Event → List (Question Answer)
questions S e (opening κ g) =
    ask (refused 11) (NotFinished e)
    ∷ ask (refused 12) (g < S.tags)
    ∷ ask (refused 13) (Begins S (e ++ (opening κ g ∷ [])))
    ∷ ask (refused 14) (depth e < most_levels) ∷ []
questions S e (closing g) =
    ask (refused 11) (NotFinished e)
    ∷ ask (refused 12) (g < S.tags)
    ∷ ask (refused 15) (0 < depth e)
    ∷ ask (refused 16) ((innermost e).tag ≡ g)
    ∷ ask (refused 17) (ChildrenFormWord S e) ∷ []
questions S e finish = ask (refused 11) (NotFinished e) ∷ ask (refused 18) (RootClosed e) ∷ []

-- An opening of g, of this kind, after e is answered the type that every typing of every valid document with that beginning gives there.
pub record TypeAnswered (S : Schema) (e : List Event) (κ : Kind) (g : ℕ) (a : Answer) : Type 0 where
  pub type : ℕ
  pub answer : a ≡ typed type
  pub given : EveryTypingGives S e κ g type

-- what a call that is taken answers
abbrev pub TakenAnswer : Schema → List Event → Event → Answer → Type 0
TakenAnswer S e (opening κ g) a = TypeAnswered S e κ g a
TakenAnswer S e (closing g) a = a ≡ taken
TakenAnswer S e finish a = a ≡ taken

-- The answer a to the call x after the events e is right.
abbrev pub Right : Schema → List Event → Event → Answer → Type 0
Right S e x a = Ordered (questions S e x) (TakenAnswer S e x) a
