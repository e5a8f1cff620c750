-- Documents: document 01, "Schemas and valid trees", from "The tag stream of a tree" on.
use Rattle.std.specs.Prelude.{◌≡◌, ◌≢◌, List, [], ◌∷◌, ◌++◌, ℕ, suc, get_or}
use Rattle.sdtd.specs.Schema.{Schema}
use Rattle.sdtd.specs.Tree.{Kind, Tree, Forest, node, empty, more, preorder, Typing}

-- One event: an opening of a tag, plainly or as nil, a closing of a tag, or the finish.
pub data Event : Type 0 where
  opening : Kind → ℕ → Event
  closing : ℕ → Event
  finish : Event

-- "the opening of its root, the streams of its children in order, the root's closing"
abbrev mutual
  pub stream : Tree → List Event
  stream (node κ a f) = opening κ a ∷ (streams f ++ (closing a ∷ []))

  pub streams : Forest → List Event
  streams empty = []
  streams (more t f) = stream t ++ streams f

-- "The tag stream of a tree is the opening of its root, the streams of its children in order, the root's closing, and after the whole a
-- finish." "A document is the tag stream of a tree".
abbrev pub document : Tree → List Event
document t = stream t ++ (finish ∷ [])

-- "it is valid if the tree is, and its typings are the tree's"
pub record Valid (S : Schema) (d : List Event) : Type 0 where
  pub tree : Tree
  pub is_document : document tree ≡ d
  pub typing : Typing S tree

-- Demand 3: "at least one document is valid under it".
pub record SomeValid (S : Schema) : Type 0 where
  pub whole : List Event
  pub valid : Valid S whole

-- how many elements the events open
abbrev pub openings : List Event → ℕ
openings [] = 0
openings (opening κ g ∷ e) = suc (openings e)
openings (closing g ∷ e) = openings e
openings (finish ∷ e) = openings e

-- the types that a document's typing gives its elements, in the order of their openings
abbrev pub types_of : {S : Schema} {d : List Event} → Valid S d → List ℕ
types_of v = preorder v.typing.typed

-- the type that a document's typing gives the element with n openings before its own
abbrev pub type_at : {S : Schema} {d : List Event} → Valid S d → ℕ → ℕ
type_at v n = get_or (types_of v) n 0

-- "A list of events begins a document if it is the document's first events or the whole of it": e is a prefix of d.
pub record BeginningOf (e d : List Event) : Type 0 where
  pub rest : List Event
  pub splits : d ≡ e ++ rest

-- some valid document, of any depth, begins with the events
pub record Begins (S : Schema) (e : List Event) : Type 0 where
  pub whole : List Event
  pub valid : Valid S whole
  pub beginning : BeginningOf e whole

-- "Two documents agree in every event through an opening if both are the same list up to and with that opening": an opening of g after e.
-- "Two documents agree in an event only if they agree in its kind": in each opening before, and in this one.
pub record AgreeThrough (e : List Event) (κ : Kind) (g : ℕ) (d₁ d₂ : List Event) : Type 0 where
  pub first : BeginningOf (e ++ (opening κ g ∷ [])) d₁
  pub second : BeginningOf (e ++ (opening κ g ∷ [])) d₂

-- "They differ in that element's type if their two typings give the element that it opens different types."
abbrev pub DifferAt : {S : Schema} {d₁ d₂ : List Event} → List Event → Valid S d₁ → Valid S d₂ → Type 0
DifferAt e v₁ v₂ = type_at v₁ (openings e) ≢ type_at v₂ (openings e)

-- Demand 3: "two valid documents, perhaps the same one, each with a typing, agree in every event through some opening tag and differ in
-- that element's type". "[T]he two-document statement covers the first opening tag too": the events before it may be none.
pub record Ambiguous (S : Schema) : Type 0 where
  pub document₁ : List Event
  pub document₂ : List Event
  pub valid₁ : Valid S document₁
  pub valid₂ : Valid S document₂
  pub before : List Event
  pub kind : Kind
  pub tag : ℕ
  pub agree : AgreeThrough before kind tag document₁ document₂
  pub differ : DifferAt before valid₁ valid₂

-- Demand 3: "the type that every typing of every valid document with that beginning gives there" is j, for an opening of g, of this kind, after e.
abbrev pub EveryTypingGives : Schema → List Event → Kind → ℕ → ℕ → Type 0
EveryTypingGives S e κ g j = (d : List Event) (v : Valid S d) → BeginningOf (e ++ (opening κ g ∷ [])) d → type_at v (openings e) ≡ j
