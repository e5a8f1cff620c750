-- Trees and typings: document 01, "Schemas and valid trees"; source document 000, definition 2: a tree is valid if it is the
-- image, tag by tag, of a tree over types that the grammar derives. Nil elements are document 02's: 000 has none.
use Rattle.std.specs.Prelude.{◌≡◌, ℕ, suc, max}
use mathlib.Core.List.{List, [], ◌∷◌, ◌++◌, Memᴰ}
use Rattle.sdtd.specs.Schema.{Schema, block_of, tag_of, Nillable, Word}

-- How an element is opened: plainly, by event 21, or as nil, by event 23.
pub data Kind : Type 0 where
  plain : Kind
  nil : Kind

-- A tree of elements, each with how it is opened and a number: its tag, or its type. A forest is the children of an element in order.
mutual
  pub data Tree : Type 0 where
    node : Kind → ℕ → Forest → Tree

  pub data Forest : Type 0 where
    empty : Forest
    more : Tree → Forest → Forest

-- the number of the root
abbrev pub label : Tree → ℕ
label (node κ a f) = a

-- the numbers of the roots, in order
abbrev pub labels : Forest → List ℕ
labels empty = []
labels (more t f) = label t ∷ labels f

-- the tree with each number n replaced by its image, and each element opened as it was
abbrev mutual
  pub relabel : (ℕ → ℕ) → Tree → Tree
  relabel image (node κ a f) = node κ (image a) (relabel_all image f)

  pub relabel_all : (ℕ → ℕ) → Forest → Forest
  relabel_all image empty = empty
  relabel_all image (more t f) = more (relabel image t) (relabel_all image f)

-- the numbers of the elements in the order of their openings
abbrev mutual
  pub preorder : Tree → List ℕ
  preorder (node κ a f) = a ∷ preorders f

  pub preorders : Forest → List ℕ
  preorders empty = []
  preorders (more t f) = preorder t ++ preorders f

-- how deep the elements are nested: "The root is level 1."
abbrev mutual
  pub height : Tree → ℕ
  height (node κ a f) = suc (heights f)

  pub heights : Forest → ℕ
  heights empty = 0
  heights (more t f) = max (height t) (heights f)

-- What a typing asks of an element of the type a with children of the types w. Opened plainly: "the children's types form a word of the
-- element's automaton"; "An element without children needs an accepting start state": its word is the empty one. Opened as nil: "such an
-- element has a nillable type and no children", and "A typing asks no word of a nil element".
abbrev pub ValidContent : Schema → Kind → ℕ → List ℕ → Type 0
ValidContent S plain a w = Word (block_of S a) w
ValidContent S nil a w = Nillable S a × (w ≡ [])

-- that, at each element of a tree over types
abbrev mutual
  pub Derived : Schema → Tree → Type 0
  Derived S (node κ a f) = ValidContent S κ a (labels f) × DerivedAll S f

  pub DerivedAll : Schema → Forest → Type 0
  DerivedAll S empty = Unit
  DerivedAll S (more t f) = Derived S t × DerivedAll S f

-- the type is a root type
abbrev pub IsRoot : Schema → ℕ → Type 0
IsRoot S a = Memᴰ a S.roots

-- "A typing gives each element of a tree a type of its own tag, the root [a] root type, such that the children's types form a word of the
-- element's automaton", which is asked of no nil element: the tree of those types is a typing of the tree of tags. "A valid tree's root may have
-- any root type".
pub record IsTyping (S : Schema) (tree typed : Tree) : Type 0 where
  pub own_tags : relabel (tag_of S) typed ≡ tree
  pub root : IsRoot S (label typed)
  pub derived : Derived S typed

-- "A tree is valid if it has a typing."
pub record Typing (S : Schema) (tree : Tree) : Type 0 where
  pub typed : Tree
  pub is_typing : IsTyping S tree typed
