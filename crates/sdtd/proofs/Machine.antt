-- A stack machine over typed events: openings and closings by types. It takes a list of typed events from the start to the end exactly when
-- the list is the stream of a derived tree with a type at its root that the root may have.
use mathlib.Core.Path.{◌≡◌, refl, sym, ap, subst}
use mathlib.Core.List.{List, [], ◌∷◌, ◌++◌, append_assoc, append-nil, nil≢cons, cons≢nil, head-eq_of_cons-eq, tail-eq_of_cons-eq}
use Prim.Native.Nat.{ℕ}
use Rattle.sdtd.specs.Schema.{Schema}
use Rattle.sdtd.specs.Tree.{Kind, Tree, Forest, node, empty, more, label, labels, IsRoot, ValidContent, Derived, DerivedAll}
use Rattle.sdtd.specs.Document.{Event, opening, closing, finish, stream, streams, document}

-- Who has children: the outside of the document, or an element of a type, opened so.
pub data Owner : Type 0 where
  top : Owner
  own : Kind → ℕ → Owner

-- the list is that of one type, which the root may have
pub record OneRoot (S : Schema) (w : List ℕ) : Type 0 where
  pub type : ℕ
  pub is_root : IsRoot S type
  pub only : w ≡ type ∷ []

-- the types of all the owner's children may be these
abbrev pub Fills : Schema → Owner → List ℕ → Type 0
Fills S top w = OneRoot S w
Fills S (own κ a) w = ValidContent S κ a w

-- an open owner and the types of its children so far
pub data Frame : Type 0 where
  frame : Owner → List ℕ → Frame

-- one typed event; a closing and the finish ask that the children fill their owner
pub data Moves (S : Schema) : List Frame → Event → List Frame → Type 0 where
  opens : {o : Owner} {w : List ℕ} {fs : List Frame} {κ : Kind} {a : ℕ}
      → Moves S (frame o w ∷ fs) (opening κ a) (frame (own κ a) [] ∷ frame o (w ++ (a ∷ [])) ∷ fs)
  closes : {κ : Kind} {a : ℕ} {w : List ℕ} {fs : List Frame} → ValidContent S κ a w → Moves S (frame (own κ a) w ∷ fs) (closing a) fs
  ends : {w : List ℕ} → OneRoot S w → Moves S (frame top w ∷ []) finish []

pub data Run (S : Schema) : List Frame → List Event → List Frame → Type 0 where
  halt : {fs : List Frame} → Run S fs [] fs
  move : {fs fs' fs'' : List Frame} {x : Event} {τ : List Event} → Moves S fs x fs' → Run S fs' τ fs'' → Run S fs (x ∷ τ) fs''

-- after the end nothing is read
pub no_move : {S : Schema} {x : Event} {fs : List Frame} → Moves S [] x fs → ⊥
no_move m = elim m [ ]

-- nothing is read yet
abbrev pub start : List Frame
start = frame top [] ∷ []

pub run_append : {S : Schema} {fs fs' fs'' : List Frame} {τ ρ : List Event} → Run S fs τ fs' → Run S fs' ρ fs'' → Run S fs (τ ++ ρ) fs''
run_append halt r = r
run_append (move m k) r = move m (run_append k r)

-- a run that reads τ and then ρ, cut between them
pub record Through (S : Schema) (fs : List Frame) (τ ρ : List Event) (fs'' : List Frame) : Type 0 where
  pub middle : List Frame
  pub front : Run S fs τ middle
  pub back : Run S middle ρ fs''

pub run_split : {S : Schema} {fs fs'' : List Frame} (τ : List Event) {ρ : List Event} → Run S fs (τ ++ ρ) fs'' → Through S fs τ ρ fs''
run_split {fs = fs} [] r = record { middle = fs; front = halt; back = r }
run_split (x ∷ τ) (move m r) =
    let t = run_split τ r in
    record { middle = t.middle; front = move m t.front; back = t.back }

pub one_root : {S : Schema} {a : ℕ} → IsRoot S a → OneRoot S (a ∷ [])
one_root {a = a} r = record { type = a; is_root = r; only = refl }

-- A derived forest is read as children of any owner.
mutual
  pub tree_run : {S : Schema} (t : Tree) → Derived S t → (o : Owner) (w : List ℕ) (fs : List Frame)
      → Run S (frame o w ∷ fs) (stream t) (frame o (w ++ (label t ∷ [])) ∷ fs)
  tree_run (node κ a f) d o w fs = move opens (run_append (forest_run f d.1 (own κ a) [] (frame o (w ++ (a ∷ [])) ∷ fs)) (move (closes d.0) halt))

  pub forest_run : {S : Schema} (f : Forest) → DerivedAll S f → (o : Owner) (w : List ℕ) (fs : List Frame)
      → Run S (frame o w ∷ fs) (streams f) (frame o (w ++ labels f) ∷ fs)
  forest_run empty d o w fs = rw append-nil halt
  forest_run {S} (more t f) d o w fs =
      let r = forest_run f d.1 o (w ++ (label t ∷ [])) fs in
      run_append (tree_run t d.0 o w fs) (rw append_assoc at r)

-- what an owner's children after w are: a derived forest that fills it with w
pub record Future (S : Schema) (o : Owner) (w : List ℕ) : Type 0 where
  pub forest : Forest
  pub derived : DerivedAll S forest
  pub fills : Fills S o (w ++ labels forest)

-- the future of each frame of a document that is read in part
pub data Suspended (S : Schema) : List Frame → Type 0 where
  ended : Suspended S []
  outer : {w : List ℕ} → Future S top w → Suspended S (frame top w ∷ [])
  inner : {κ : Kind} {a : ℕ} {w : List ℕ} {fs : List Frame} → Future S (own κ a) w → Suspended S fs → Suspended S (frame (own κ a) w ∷ fs)

-- the events still to be read
abbrev pub todo : {S : Schema} {fs : List Frame} → Suspended S fs → List Event
todo ended = []
todo (outer f) = streams f.forest ++ (finish ∷ [])
todo (inner {a = a} f s) = streams f.forest ++ (closing a ∷ todo s)

pub suspended_run : {S : Schema} {fs : List Frame} (s : Suspended S fs) → Run S fs (todo s) []
suspended_run ended = halt
suspended_run (outer {w = w} f) = run_append (forest_run f.forest f.derived top w []) (move (ends f.fills) halt)
suspended_run (inner {κ = κ} {a = a} {w = w} {fs = fs} f s) =
    run_append (forest_run f.forest f.derived (own κ a) w fs) (move (closes f.fills) (suspended_run s))

-- a suspended document with the given events still to be read
pub record SuspendedAt (S : Schema) (fs : List Frame) (ρ : List Event) : Type 0 where
  pub suspended : Suspended S fs
  pub events : todo suspended ≡ ρ

-- one child more, with its own children, before the rest
future_with_child : {S : Schema} {o : Owner} {w : List ℕ} (κ : Kind) (a : ℕ)
    → Future S (own κ a) [] → Future S o (w ++ (a ∷ [])) → Future S o w
future_with_child {S} {o} {w} κ a f g =
    record {
      forest = more (node κ a f.forest) g.forest;
      derived = ((f.fills, f.derived), g.derived);
      fills = rw append_assoc at g.fills;
    }

unopen : {S : Schema} {o : Owner} {w : List ℕ} {fs : List Frame} {κ : Kind} {a : ℕ}
    (s : Suspended S (frame (own κ a) [] ∷ frame o (w ++ (a ∷ [])) ∷ fs))
    → SuspendedAt S (frame o w ∷ fs) (opening κ a ∷ todo s)
unfolding future_with_child
unopen {κ = κ} {a = a} (inner f (outer g)) = record { suspended = outer (future_with_child κ a f g); events = simp append_assoc }
unopen {κ = κ} {a = a} (inner f (inner g s)) = record { suspended = inner (future_with_child κ a f g) s; events = simp append_assoc }

no_future : {S : Schema} (o : Owner) (w : List ℕ) → Fills S o w → Future S o w
no_future o w x = record { forest = empty; derived = tt; fills = rw append-nil x }

pub run_suspended : {S : Schema} {fs : List Frame} {ρ : List Event} → Run S fs ρ [] → SuspendedAt S fs ρ
unfolding no_future
run_suspended halt = record { suspended = ended; events = refl }
run_suspended {S} (move (opens {o = o} {w = w} {fs = fs} {κ = κ} {a = a}) r) =
    let s = run_suspended r in
    subst (λ (ρ : List Event). SuspendedAt S (frame o w ∷ fs) (opening κ a ∷ ρ)) s.events (unopen {w = w} {fs = fs} s.suspended)
run_suspended (move (closes {κ = κ} {a = a} {w = w} x) r) =
    let s = run_suspended r in
    record { suspended = inner (no_future (own κ a) w x) s.suspended; events = ap {B = List Event} (λ ρ. closing a ∷ ρ) s.events }
run_suspended (move (ends {w = w} x) halt) = record { suspended = outer (no_future top w x); events = refl }
run_suspended (move (ends x) (move r _)) = elim r [ ]

-- the typed events are the stream of a derived tree with a type at its root that the root may have
pub record TypedDocument (S : Schema) (τ : List Event) : Type 0 where
  pub tree : Tree
  pub derived : Derived S tree
  pub root : IsRoot S (label tree)
  pub events : document tree ≡ τ

pub document_run : {S : Schema} (t : Tree) → Derived S t → IsRoot S (label t) → Run S start (document t) []
document_run t d r = run_append (tree_run t d top [] []) (move (ends (one_root r)) halt)

only_tree : {S : Schema} (f : Forest) → DerivedAll S f → OneRoot S (labels f) → TypedDocument S (streams f ++ (finish ∷ []))
only_tree empty d o = absurd (nil≢cons o.only)
only_tree {S} (more t empty) d o =
    record { tree = t; derived = d.0; root = subst (IsRoot S) (sym (head-eq_of_cons-eq o.only)) o.is_root; events = simp append-nil }
only_tree (more t (more u f)) d o = absurd (cons≢nil (tail-eq_of_cons-eq o.only))

whole_document : {S : Schema} (s : Suspended S start) → TypedDocument S (todo s)
whole_document (outer f) = only_tree f.forest f.derived f.fills

-- What the machine takes from the start to the end is the stream of a derived tree.
pub run_document : {S : Schema} {τ : List Event} → Run S start τ [] → TypedDocument S τ
run_document {S} r =
    let s = run_suspended r in
    subst (λ (τ : List Event). TypedDocument S τ) s.events (whole_document s.suspended)
