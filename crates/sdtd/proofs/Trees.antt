-- Facts about trees and their streams alone: a document has one tree, and what relabelling and the order of openings do to a stream.
use mathlib.Core.Path.{◌≡◌, refl, sym, ap}
use mathlib.Core.List.{List, [], ◌∷◌, ◌++◌, map, map-append, append-nil, append_assoc, tail-eq_of_cons-eq}
use Prim.Native.Nat.{ℕ, suc, ◌+◌}
use native.Mathlib.Omega.{arith}
use lib.ListN.{length}
use Rattle.sdtd.specs.Tree.{Tree, Forest, node, empty, more, label, labels, relabel, relabel_all, preorder, preorders}
use Rattle.sdtd.specs.Document.{Event, opening, closing, finish, stream, streams, document, openings}

-- the event with its number replaced by its image
abbrev pub relabel_event : (ℕ → ℕ) → Event → Event
relabel_event image (opening κ a) = opening κ (image a)
relabel_event image (closing a) = closing (image a)
relabel_event image finish = finish

-- the numbers of the openings, in order
abbrev pub opened : List Event → List ℕ
opened [] = []
opened (opening κ a ∷ e) = a ∷ opened e
opened (closing a ∷ e) = opened e
opened (finish ∷ e) = opened e

-- two equal trees with the same events after their streams
record SameTree (t₁ t₂ : Tree) (r₁ r₂ : List Event) : Type 0 where
  tree : t₁ ≡ t₂
  rest : r₁ ≡ r₂

-- two equal forests with the same closing and the same events after it
record SameForest (f₁ f₂ : Forest) (a b : ℕ) (r₁ r₂ : List Event) : Type 0 where
  forest : f₁ ≡ f₂
  closed : a ≡ b
  rest : r₁ ≡ r₂

-- a stream begins with no closing
stream_opens : (t : Tree) (r : List Event) {b : ℕ} {s : List Event} → stream t ++ r ≡ closing b ∷ s → ⊥
stream_opens (node κ a f) r e = let z : ◌≡◌ {A = ℕ} 0 1 = cc in omega arith

mutual
  same_tree : (t₁ t₂ : Tree) {r₁ r₂ : List Event} → stream t₁ ++ r₁ ≡ stream t₂ ++ r₂ → SameTree t₁ t₂ r₁ r₂
  same_tree (node κ a f) (node ν b g) e =
      let kind : κ ≡ ν = cc in
      let s = same_forest f g (simp append_assoc at (tail-eq_of_cons-eq e)) in
      record { tree = λ i. node (kind i) (s.closed i) (s.forest i); rest = s.rest }

  same_forest : (f₁ f₂ : Forest) {a b : ℕ} {r₁ r₂ : List Event}
      → streams f₁ ++ (closing a ∷ r₁) ≡ streams f₂ ++ (closing b ∷ r₂) → SameForest f₁ f₂ a b r₁ r₂
  same_forest empty empty e = record { forest = refl; closed = cc; rest = cc }
  same_forest empty (more t f) e = absurd (stream_opens t _ (sym (simp append_assoc at e)))
  same_forest (more t f) empty e = absurd (stream_opens t _ (simp append_assoc at e))
  same_forest (more t f) (more u g) e =
      let s = same_tree t u (simp append_assoc at e) in
      let r = same_forest f g s.rest in
      record { forest = λ i. more (s.tree i) (r.forest i); closed = r.closed; rest = r.rest }

-- a document has one tree
pub stream_injective : (t₁ t₂ : Tree) → document t₁ ≡ document t₂ → t₁ ≡ t₂
stream_injective t₁ t₂ e = (same_tree t₁ t₂ e).tree

pub openings-append : (e f : List Event) → openings (e ++ f) ≡ openings e + openings f
openings-append [] f = omega arith
openings-append (opening κ g ∷ e) f = omega (arith, openings-append e f)
openings-append (closing g ∷ e) f = openings-append e f
openings-append (finish ∷ e) f = openings-append e f

module _ (h : ℕ → ℕ) where
  mutual
    -- the stream of a relabelled tree is the relabelled stream
    pub relabel-stream : (t : Tree) → stream (relabel h t) ≡ map (relabel_event h) (stream t)
    relabel-stream (node κ a f) = rw (map-append (relabel_event h), relabel_streams f)

    relabel_streams : (f : Forest) → streams (relabel_all h f) ≡ map (relabel_event h) (streams f)
    relabel_streams empty = refl
    relabel_streams (more t f) = rw (map-append (relabel_event h), relabel-stream t, relabel_streams f)

  pub relabel-document : (t : Tree) → document (relabel h t) ≡ map (relabel_event h) (document t)
  relabel-document t = rw (map-append (relabel_event h), relabel-stream t)

  pub label-relabel : (t : Tree) → label (relabel h t) ≡ h (label t)
  label-relabel (node κ a f) = refl

  pub labels_relabel : (f : Forest) → labels (relabel_all h f) ≡ map h (labels f)
  labels_relabel empty = refl
  labels_relabel (more t f) = λ i. label-relabel t i ∷ labels_relabel f i

  mutual
    -- the numbers of a relabelled tree's elements are the images
    pub preorder-relabel : (t : Tree) → preorder (relabel h t) ≡ map h (preorder t)
    preorder-relabel (node κ a f) = λ i. h a ∷ preorders_relabel f i

    preorders_relabel : (f : Forest) → preorders (relabel_all h f) ≡ map h (preorders f)
    preorders_relabel empty = refl
    preorders_relabel (more t f) = rw (map-append, preorder-relabel t, preorders_relabel f)

  pub openings_relabel : (e : List Event) → openings (map (relabel_event h) e) ≡ openings e
  openings_relabel [] = refl
  openings_relabel (opening κ a ∷ e) = ap suc (openings_relabel e)
  openings_relabel (closing a ∷ e) = openings_relabel e
  openings_relabel (finish ∷ e) = openings_relabel e

pub opened-append : (a b : List Event) → opened (a ++ b) ≡ opened a ++ opened b
opened-append [] b = refl
opened-append (opening κ x ∷ a) b = ap (λ (l : List ℕ). x ∷ l) (opened-append a b)
opened-append (closing x ∷ a) b = opened-append a b
opened-append (finish ∷ a) b = opened-append a b

pub length-opened : (e : List Event) → length (opened e) ≡ openings e
length-opened [] = refl
length-opened (opening κ a ∷ e) = ap suc (length-opened e)
length-opened (closing a ∷ e) = length-opened e
length-opened (finish ∷ e) = length-opened e

mutual
  opened-stream : (t : Tree) → opened (stream t) ≡ preorder t
  opened-stream (node κ a f) = simp (opened-append, opened-streams f, append-nil)

  opened-streams : (f : Forest) → opened (streams f) ≡ preorders f
  opened-streams empty = refl
  opened-streams (more t f) = rw (opened-append, opened-stream t, opened-streams f)

-- a document's openings are the tree's elements in order
pub opened-document : (t : Tree) → opened (document t) ≡ preorder t
opened-document t = simp (opened-append, opened-stream t, append-nil)
