-- What trimming keeps: a root type bears a tree exactly when some document is valid, every type that a typing uses is useful, and a
-- trimmed schema has exactly the typings that the given one has.
use mathlib.Core.Path.{◌≡◌, refl, sym, ◌∙◌, ap, subst, fun_ext}
use mathlib.Core.Logic.{◌↔◌}
use mathlib.Core.List.{List, [], ◌∷◌, Memᴰ}
use Prim.Native.Nat.{ℕ}
use Rattle.sdtd.specs.Schema.{step, Schema, block_of, tag_of, Leads, stay, go, Word}
use Rattle.sdtd.specs.Tree.{Kind, plain, nil, Tree, Forest, node, empty, more, label, labels, relabel, preorder, preorders}
use Rattle.sdtd.specs.Tree.{ValidContent, Derived, DerivedAll, IsRoot, IsTyping}
use Rattle.sdtd.specs.Document.{Event, document, Valid, SomeValid}
use Rattle.sdtd.specs.Trim.{SomeRootBears, All, none, both, AllBear, Reached, root, child, Used, Useful, KeptStep, Trimmed}
use Rattle.sdtd.proofs.Automata.{all_append, all_mem, all_head, all_tail}
use Rattle.sdtd.proofs.Bearing.{tree_bears, root_label, forest_bears}

-- a root type bears a tree exactly when some document is valid
pub root_bears : {S : Schema} → SomeRootBears S ↔ SomeValid S
root_bears {S} = (there, back)
  where
    there : SomeRootBears S → SomeValid S
    there r =
        let b = r.bears in
        let tree = relabel (tag_of S) b.tree in
        record {
          whole = document tree;
          valid = record {
            tree = tree;
            is_document = refl;
            typing = record { typed = b.tree; is_typing = record { own_tags = refl; root = root_label r; derived = b.derived } };
          };
        }

    back : SomeValid S → SomeRootBears S
    back s =
        let t = s.valid.typing in
        record { type = label t.typed; is_root = t.is_typing.root; bears = tree_bears t.typed t.is_typing.derived }

-- what each member of a list has, the list has
pub all_of : {P : ℕ → Type 0} (w : List ℕ) → ((j : ℕ) → Memᴰ j w → P j) → All P w
all_of [] every = none
all_of (j ∷ w) every = both (every j (Memᴰ.head refl)) (all_of w (λ k m. every k (Memᴰ.tail m)))

-- the children of a derived element of a reached type have reached types; a nil element has none
children_reached : {S : Schema} (κ : Kind) {a : ℕ} → Reached S a → (f : Forest) → Derived S (node κ a f) → All (Reached S) (labels f)
children_reached plain r f d = all_of (labels f) (λ j m. child r d.0 (forest_bears f d.1) m)
children_reached {S} nil r f d = subst (λ (w : List ℕ). All (Reached S) w) (sym d.0.1) none

mutual
  -- every element of a derived tree with a reached type at its root has a useful type
  useful_tree : {S : Schema} (t : Tree) → Reached S (label t) → Derived S t → All (Useful S) (preorder t)
  useful_tree (node κ a f) r d = both (r, tree_bears (node κ a f) d) (useful_forest f (children_reached κ r f d) d.1)

  useful_forest : {S : Schema} (f : Forest) → All (Reached S) (labels f) → DerivedAll S f → All (Useful S) (preorders f)
  useful_forest empty rs d = none
  useful_forest (more t f) rs d = all_append (useful_tree t (all_head rs) d.0) (useful_forest f (all_tail rs) d.1)

-- every type that a typing of a valid document uses is reached and bears a tree
pub used_useful : {S : Schema} {a : ℕ} → Used S a → Useful S a
used_useful u =
    let t = u.valid.typing in
    all_mem (useful_tree t.typed (root t.is_typing.root) t.is_typing.derived) u.given

-- the document is valid for S' too, with v's tree and v's types
pub record AlsoValid {S : Schema} (S' : Schema) {d : List Event} (v : Valid S d) : Type 0 where
  pub valid : Valid S' d
  pub same_tree : valid.tree ≡ v.tree
  pub same_typed : valid.typing.typed ≡ v.typing.typed

-- where each typing for S is one for S', each document that is valid for S is valid for S'
also_valid : {S S' : Schema} → ((tree typed : Tree) → IsTyping S tree typed → IsTyping S' tree typed)
    → {d : List Event} (v : Valid S d) → AlsoValid S' v
also_valid typing v =
    record {
      valid = record {
        tree = v.tree;
        is_document = v.is_document;
        typing = record { typed = v.typing.typed; is_typing = typing v.tree v.typing.typed v.typing.is_typing };
      };
      same_tree = refl;
      same_typed = refl;
    }

module _ {S S' : Schema} (trimmed : Trimmed S S') where
  -- a way over tree-bearing types to an accepting state of a useful type is kept: it passes live states
  keep_leads : {a p r : ℕ} {w : List ℕ}
      → Useful S a → Leads (block_of S a) p w r → Memᴰ r (block_of S a).accepting → AllBear S w → Leads (block_of S' a) p w r
  keep_leads u stay accepting bear = stay
  keep_leads {a} {p} {r} u (go {j = j} {q = q} {w = w} s l) accepting bear =
      let kept : KeptStep S a (step p j q) = record {
        given = s;
        useful = u;
        by_bearing = all_head bear;
        from_live = record { word = j ∷ w; accepts = record { last = r; leads = go s l; accepting = accepting }; bear = bear };
        to_live = record { word = w; accepts = record { last = r; leads = l; accepting = accepting }; bear = all_tail bear };
      } in
      go ((trimmed.steps a _).1 kept) (keep_leads u l accepting (all_tail bear))

  keep_word : {a : ℕ} {w : List ℕ} → Useful S a → Word (block_of S a) w → AllBear S w → Word (block_of S' a) w
  keep_word {a} u word bear =
      record {
        last = word.last;
        leads = keep_leads u word.leads word.accepting bear;
        accepting = (trimmed.accepting a _).1 (word.accepting, u);
      }

  keep_content : (κ : Kind) {a : ℕ} {w : List ℕ} → Useful S a → ValidContent S κ a w → AllBear S w → ValidContent S' κ a w
  keep_content plain u word bear = keep_word u word bear
  keep_content nil {a} u c bear = ((trimmed.nillable a).1 (c.0, u), c.1)

  mutual
    keep_tree : (t : Tree) → Reached S (label t) → Derived S t → Derived S' t
    keep_tree (node κ a f) r d =
        (keep_content κ (r, tree_bears (node κ a f) d) d.0 (forest_bears f d.1), keep_forest f (children_reached κ r f d) d.1)

    keep_forest : (f : Forest) → All (Reached S) (labels f) → DerivedAll S f → DerivedAll S' f
    keep_forest empty rs d = tt
    keep_forest (more t f) rs d = (keep_tree t (all_head rs) d.0, keep_forest f (all_tail rs) d.1)

  -- each kept step and accepting state is given
  given_leads : (a : ℕ) {p r : ℕ} {w : List ℕ} → Leads (block_of S' a) p w r → Leads (block_of S a) p w r
  given_leads a stay = stay
  given_leads a (go s l) = go ((trimmed.steps a _).0 s).given (given_leads a l)

  given_word : (a : ℕ) {w : List ℕ} → Word (block_of S' a) w → Word (block_of S a) w
  given_word a word =
      record { last = word.last; leads = given_leads a word.leads; accepting = ((trimmed.accepting a _).0 word.accepting).0 }

  given_content : (κ : Kind) (a : ℕ) (w : List ℕ) → ValidContent S' κ a w → ValidContent S κ a w
  given_content plain a w word = given_word a word
  given_content nil a w c = (((trimmed.nillable a).0 c.0).0, c.1)

  mutual
    given_tree : (t : Tree) → Derived S' t → Derived S t
    given_tree (node κ a f) d = (given_content κ a (labels f) d.0, given_forest f d.1)

    given_forest : (f : Forest) → DerivedAll S' f → DerivedAll S f
    given_forest empty d = tt
    given_forest (more t f) d = (given_tree t d.0, given_forest f d.1)

  same_tags : (t : Tree) → relabel (tag_of S') t ≡ relabel (tag_of S) t
  same_tags t = ap (λ (tag : ℕ → ℕ). relabel tag t) (fun_ext trimmed.own_tags)

  same_roots : (a : ℕ) → IsRoot S a ↔ IsRoot S' a
  same_roots a = (subst (Memᴰ a) (sym trimmed.roots), subst (Memᴰ a) trimmed.roots)

  -- trimming leaves exactly the same typings of exactly the same trees
  pub trimmed_same : (tree typed : Tree) → IsTyping S tree typed ↔ IsTyping S' tree typed
  trimmed_same tree typed = (
    λ t. record {
      own_tags = same_tags typed ∙ t.own_tags;
      root = (same_roots (label typed)).0 t.root;
      derived = keep_tree typed (root t.root) t.derived;
    },
    λ t. record {
      own_tags = sym (same_tags typed) ∙ t.own_tags;
      root = (same_roots (label typed)).1 t.root;
      derived = given_tree typed t.derived;
    },
  )

  -- exactly the same documents are valid, with the same trees and the same types
  pub trimmed_valid : (d : List Event) → ((v : Valid S d) → AlsoValid S' v) × ((v : Valid S' d) → AlsoValid S v)
  trimmed_valid d = (also_valid (λ tree typed. (trimmed_same tree typed).0), also_valid (λ tree typed. (trimmed_same tree typed).1))
