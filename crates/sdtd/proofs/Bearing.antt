-- Trees and forests of tree-bearing types; and which types bear a tree opened which way.
use mathlib.Core.Path.{◌≡◌, refl, sym, subst}
use mathlib.Core.Logic.{◌↔◌, ◌⊎◌, inl, inr, ⊎_elim}
use mathlib.Core.List.{List, ◌∷◌}
use Prim.Native.Nat.{ℕ}
use Rattle.sdtd.specs.Schema.{Schema, block_of, Nillable, Word}
use Rattle.sdtd.specs.Tree.{Kind, plain, nil, Tree, Forest, node, empty, more, label, labels, IsRoot, Derived, DerivedAll}
use Rattle.sdtd.specs.Trim.{Bears, BearsBy, SomeRootBears, none, both, AllBear}
use Rattle.sdtd.specs.Competition.{OpenedAlike, both_nillable, both_plain}

-- a derived forest whose roots have the types of w
pub record Grows (S : Schema) (w : List ℕ) : Type 0 where
  pub forest : Forest
  pub at_roots : labels forest ≡ w
  pub derived : DerivedAll S forest

pub grow : {S : Schema} {w : List ℕ} → AllBear S w → Grows S w
grow none = record { forest = empty; at_roots = refl; derived = tt }
grow (both b a) =
    let g = grow a in
    record {
      forest = more b.tree g.forest;
      at_roots = λ i. b.at_root i ∷ g.at_roots i;
      derived = (b.derived, g.derived);
    }

pub tree_bears : {S : Schema} (t : Tree) → Derived S t → Bears S (label t)
tree_bears t d = record { tree = t; at_root = refl; derived = d }

-- the tree that a root type bears has a root type at its root
pub root_label : {S : Schema} (r : SomeRootBears S) → IsRoot S (label r.bears.tree)
root_label {S} r = subst (IsRoot S) (sym r.bears.at_root) r.is_root

pub forest_bears : {S : Schema} (f : Forest) → DerivedAll S f → AllBear S (labels f)
forest_bears empty d = none
forest_bears (more t f) d = both (tree_bears t d.0) (forest_bears f d.1)

-- a type that bears a tree opened so bears a tree
pub by_bears : {S : Schema} (κ : Kind) {a : ℕ} → BearsBy S κ a → Bears S a
by_bears κ {a} b = record { tree = node κ a b.children; at_root = refl; derived = b.derived }

-- exactly the nillable types bear a tree opened as nil
pub nil_bears : {S : Schema} {a : ℕ} → BearsBy S nil a ↔ Nillable S a
nil_bears = (λ b. b.derived.0.0, λ n. record { children = empty; derived = ((n, refl), tt) })

tree_opened : {S : Schema} (t : Tree) → Derived S t → BearsBy S plain (label t) ⊎ Nillable S (label t)
tree_opened (node plain a f) d = inl (record { children = f; derived = d })
tree_opened (node nil a f) d = inr d.0.0

-- a type bears a tree exactly if it bears one opened plainly or is nillable
pub bears_either : {S : Schema} {a : ℕ} → Bears S a ↔ (BearsBy S plain a ⊎ Nillable S a)
bears_either {S} = (
  λ b. subst (λ (c : ℕ). BearsBy S plain c ⊎ Nillable S c) b.at_root (tree_opened b.tree b.derived),
  λ s. ⊎_elim (λ p. by_bears plain p) (λ n. by_bears nil (nil_bears.1 n)) s,
)

-- two types that bear trees opened alike
pub alike : {S : Schema} (κ : Kind) {j k : ℕ} → BearsBy S κ j → BearsBy S κ k → OpenedAlike S j k
alike plain b c = both_plain b c
alike nil b c = both_nillable (nil_bears.0 b) (nil_bears.0 c)

-- .. have a way of opening in common
pub record Shared (S : Schema) (j k : ℕ) : Type 0 where
  pub kind : Kind
  pub bears_j : BearsBy S kind j
  pub bears_k : BearsBy S kind k

pub shared : {S : Schema} {j k : ℕ} → OpenedAlike S j k → Shared S j k
shared (both_nillable m n) = record { kind = nil; bears_j = nil_bears.1 m; bears_k = nil_bears.1 n }
shared (both_plain b c) = record { kind = plain; bears_j = b; bears_k = c }

pub alike_swap : {S : Schema} {j k : ℕ} → OpenedAlike S j k → OpenedAlike S k j
alike_swap (both_nillable m n) = both_nillable n m
alike_swap (both_plain b c) = both_plain c b

-- a type with a word over tree-bearing types bears a tree opened plainly
pub word_bears : {S : Schema} (a : ℕ) {w : List ℕ} → Word (block_of S a) w → AllBear S w → BearsBy S plain a
word_bears {S} a {w} word bear =
    let g = grow bear in
    let own : Word (block_of S a) (labels g.forest) = subst (λ (v : List ℕ). Word (block_of S a) v) (sym g.at_roots) word in
    record { children = g.forest; derived = (own, g.derived) }

-- a word over tree-bearing types
pub record BearingWord (S : Schema) (a : ℕ) : Type 0 where
  pub word : List ℕ
  pub is_word : Word (block_of S a) word
  pub bear : AllBear S word

pub bears_word : {S : Schema} {a : ℕ} → BearsBy S plain a → BearingWord S a
bears_word b =
    let f = b.children in
    record { word = labels f; is_word = b.derived.0; bear = forest_bears f b.derived.1 }
