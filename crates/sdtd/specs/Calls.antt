-- Lists of calls, refused ones included: document 01, "A reading", second paragraph, and what demands 2 and 3 say of them.
use Rattle.std.specs.Prelude.{◌≡◌, ◌↔◌, ◌≢◌, List, [], ◌∷◌, ◌++◌, map, ℕ, suc, pred, max, ◌≤◌}
use Rattle.sdtd.specs.Limits.{most_levels}
use Rattle.sdtd.specs.Schema.{Schema}
use Rattle.sdtd.specs.Tree.{Kind, Tree, height, Typing}
use Rattle.sdtd.specs.Document.{Event, opening, closing, finish, document, Valid, types_of, Begins}
use Rattle.sdtd.specs.Answer.{Answer, refused, typed, taken}
use Rattle.sdtd.specs.Reading.{TypeAnswered, Right}

-- a call and the answer that it got
pub record Exchange : Type 0 where
  pub call : Event
  pub answer : Answer

-- "An event is taken if its call's answer is no refusal."
abbrev pub IsTaken : Answer → Type 0
IsTaken (refused n) = ⊥
IsTaken (typed j) = Unit
IsTaken taken = Unit

-- the event, if the answer took it
abbrev pub if_taken : Answer → Event → List Event
if_taken (refused n) x = []
if_taken (typed j) x = x ∷ []
if_taken taken x = x ∷ []

-- the events taken, read off the answers given
abbrev pub events_taken : List Exchange → List Event
events_taken [] = []
events_taken (x ∷ xs) = if_taken x.answer x.call ++ events_taken xs

-- the events that were called
abbrev pub calls : List Exchange → List Event
calls xs = map (λ (x : Exchange). x.call) xs

-- the answers that were given
abbrev pub answers_of : List Exchange → List Answer
answers_of xs = map (λ (x : Exchange). x.answer) xs

-- the answers that give the openings the types, in order, and answer every other event taken
abbrev pub answers_by : List Event → List ℕ → List Answer
answers_by [] ts = []
answers_by (opening κ g ∷ e) [] = []
answers_by (opening κ g ∷ e) (t ∷ ts) = typed t ∷ answers_by e ts
answers_by (closing g ∷ e) ts = taken ∷ answers_by e ts
answers_by (finish ∷ e) ts = taken ∷ answers_by e ts

-- the deepest level that the events open, where n elements are open before them
abbrev pub deepest_from : ℕ → List Event → ℕ
deepest_from n [] = n
deepest_from n (opening κ g ∷ e) = deepest_from (suc n) e
deepest_from n (closing g ∷ e) = max n (deepest_from (pred n) e)
deepest_from n (finish ∷ e) = deepest_from n e

-- the deepest level that the events open
abbrev pub deepest : List Event → ℕ
deepest e = deepest_from 0 e

-- Every answer of the list is right for the events taken before its call.
abbrev pub RightCalls : Schema → List Exchange → Type 0
RightCalls S xs =
    (before after : List Exchange) (x : Exchange) → xs ≡ before ++ (x ∷ after) → Right S (events_taken before) x.call x.answer

-- What demand 3 says of one call x, answered a, after the events taken e.
pub record CallMeets (S : Schema) (e : List Event) (x : Event) (a : Answer) : Type 0 where
  -- "A call is taken exactly when the events taken before it, with this one, begin a valid document of any depth and do not open a 65th
  -- level."
  pub taken_exactly : IsTaken a ↔ (Begins S (e ++ (x ∷ [])) × (deepest (e ++ (x ∷ [])) ≤ most_levels))
  -- "A finish is taken exactly when they are a whole one."
  pub finish_exactly : x ≡ finish → IsTaken a ↔ Valid S (e ++ (x ∷ []))
  -- "Each opening taken gets the type that every typing of every valid document with that beginning gives there."
  pub type_given : (κ : Kind) (g : ℕ) → x ≡ opening κ g → IsTaken a → TypeAnswered S e κ g a
  -- "A refused call answers the number of the first question below that is answered no for the events taken before it and its own"
  pub right : Right S e x a
  -- "10 never comes in such a list."
  pub never_10 : a ≢ refused 10

-- "What demand 3 says of a list of calls is one statement about the whole list, not one for each call."
abbrev pub ListMeets : Schema → List Exchange → Type 0
ListMeets S xs =
    (before after : List Exchange) (x : Exchange) → xs ≡ before ++ (x ∷ after) → CallMeets S (events_taken before) x.call x.answer

-- Demand 2: the event list "is taken whole, through its finish".
pub record TakenWhole (xs : List Exchange) : Type 0 where
  pub all_taken : events_taken xs ≡ calls xs
  pub front : List Event
  pub through_finish : calls xs ≡ front ++ (finish ∷ [])

-- Demand 2: the event list "is the tag stream of a valid tree [..] nested at most 64 deep".
pub record ValidWithin (S : Schema) (d : List Event) : Type 0 where
  pub tree : Tree
  pub is_document : document tree ≡ d
  pub typing : Typing S tree
  pub nested : height tree ≤ most_levels

-- Demand 2 for the list of calls: it "is taken whole, through its finish, exactly when it is the tag stream of a valid tree [..] nested at
-- most 64 deep; the types given out are then that tree's typing", and the tree has no other.
pub record WholeMeets (S : Schema) (xs : List Exchange) : Type 0 where
  pub exactly : TakenWhole xs ↔ ValidWithin S (calls xs)
  pub types : TakenWhole xs → (v : Valid S (calls xs)) → answers_of xs ≡ answers_by (calls xs) (types_of v)
  pub only_typing : (tree : Tree) (t₁ t₂ : Typing S tree) → t₁.typed ≡ t₂.typed
