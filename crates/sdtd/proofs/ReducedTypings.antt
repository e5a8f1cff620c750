-- The typings of a reduced schema are those of the given schema that give kept types alone, with the new numbers; no two of these become one.
use mathlib.Core.Path.{◌≡◌, refl, sym, ◌∙◌, ap, subst}
use mathlib.Core.Bool.{Bool}
use mathlib.Core.List.{List, [], ◌∷◌, map, cons≢nil, nil≢cons, head-eq_of_cons-eq, tail-eq_of_cons-eq, Memᴰ}
use Prim.Native.Nat.{ℕ}
use native.Mathlib.Omega.{arith}
use lib.Dec.{T}
use lib.ListN.{length}
use Rattle.sdtd.specs.Schema.{Step, step, Block, Schema, block_of, tag_of, Leads, stay, go, Word}
use Rattle.sdtd.specs.Tree.{Kind, plain, nil, Tree, Forest, node, empty, more, label, labels, relabel, relabel_all, preorder, preorders}
use Rattle.sdtd.specs.Tree.{ValidContent, Derived, DerivedAll, IsRoot, IsTyping}
use Rattle.sdtd.specs.Trim.{All, none, both}
use Rattle.sdtd.specs.Reduced.{new_number, block_left, reduced}
use Rattle.sdtd.proofs.Automata.{all_front, all_back, all_append, all_head}
use Rattle.sdtd.proofs.Trees.{label-relabel, labels_relabel}
use Rattle.sdtd.proofs.Questions.{content_in}
use Rattle.sdtd.proofs.NewNumbers.{new_injective, new_onto, types_left}
use Rattle.sdtd.proofs.Reducing.{steps_left_lem, step_left, root_left, reduced_block, reduced_tag, reduced-nillable}

-- what all elements of a tree have, its root has, and what all elements of a forest have, its roots have
pub root_has : {P : ℕ → Type 0} (t : Tree) → All P (preorder t) → P (label t)
root_has (node κ a f) all = all_head all

pub roots_have : {P : ℕ → Type 0} (f : Forest) → All P (preorders f) → All P (labels f)
roots_have empty all = none
roots_have (more t f) all = both (root_has t (all_front (preorder t) (preorders f) all)) (roots_have f (all_back (preorder t) all))

-- all the types are kept
abbrev pub AllKept : (ℕ → Bool) → List ℕ → Type 0
AllKept kept w = All (λ a. T (kept a)) w

module _ (kept : ℕ → Bool) where
  same_word : {v w : List ℕ} → AllKept kept v → AllKept kept w → map (new_number kept) v ≡ map (new_number kept) w → v ≡ w
  same_word none none e = refl
  same_word none (both t all) e = absurd (nil≢cons e)
  same_word (both t all) none e = absurd (cons≢nil e)
  same_word (both {j = a} {w = v} t all) (both {j = b} {w = w} u every) e =
      let first = new_injective kept a b t u (head-eq_of_cons-eq e) in
      let others = same_word all every (tail-eq_of_cons-eq e) in
      λ i. first i ∷ others i

  mutual
    -- trees of kept types with the same new numbers are one
    pub same_typed : (t u : Tree) → AllKept kept (preorder t) → AllKept kept (preorder u)
        → relabel (new_number kept) t ≡ relabel (new_number kept) u → t ≡ u
    same_typed (node κ a f) (node ν b g) (both s all) (both r every) e =
        let kind : κ ≡ ν = cc in
        let first = new_injective kept a b s r (cc) in
        let others = same_forest f g all every (cc) in
        λ i. node (kind i) (first i) (others i)

    same_forest : (f g : Forest) → AllKept kept (preorders f) → AllKept kept (preorders g)
        → relabel_all (new_number kept) f ≡ relabel_all (new_number kept) g → f ≡ g
    same_forest empty empty all every e = refl
    same_forest empty (more u g) all every e = let z : ◌≡◌ {A = ℕ} 0 1 = cc in absurd (omega arith)
    same_forest (more t f) empty all every e = let z : ◌≡◌ {A = ℕ} 0 1 = cc in absurd (omega arith)
    same_forest (more t f) (more u g) all every e =
        let first =
        same_typed t u (all_front (preorder t) (preorders f) all) (all_front (preorder u) (preorders g) every) (cc) in
        let others = same_forest f g (all_back (preorder t) all) (all_back (preorder u) every) (cc) in
        λ i. more (first i) (others i)

  -- a way by kept types is left
  left_leads : {b : Block} {p r : ℕ} {w : List ℕ} → Leads b p w r → AllKept kept w → Leads (block_left kept b) p (map (new_number kept) w) r
  unfolding block_left
  left_leads stay all = stay
  left_leads (go m l) (both t all) = go (step_left kept t m) (left_leads l all)

  left_word : {b : Block} {w : List ℕ} → Word b w → AllKept kept w → Word (block_left kept b) (map (new_number kept) w)
  unfolding block_left
  left_word x all = record { last = x.last; leads = left_leads x.leads all; accepting = x.accepting }

  -- each way of what is left is an old one by kept types
  record OldWay (b : Block) (p : ℕ) (w : List ℕ) (r : ℕ) : Type 0 where
    word : List ℕ
    leads : Leads b p word r
    are_kept : AllKept kept word
    renumbered : map (new_number kept) word ≡ w

  old_way : {b : Block} {p r : ℕ} {w : List ℕ} → Leads (block_left kept b) p w r → OldWay b p w r
  unfolding block_left
  old_way stay = record { word = []; leads = stay; are_kept = none; renumbered = refl }
  old_way {b} (go {p = p} {j = j} {q = q} m l) =
      let f = (steps_left_lem kept b.steps (step p j q)).0 m in
      let e = f.holds.1 in
      let o = old_way l in
      let old : Memᴰ (step p f.member.by q) b.steps =
      mathlib.Core.List.Memᴰ.cast (λ i. step (sym (ap (λ (s : Step). s.from) e) i) f.member.by (sym (ap (λ (s : Step). s.to) e) i)) f.given in
      record {
        word = f.member.by ∷ o.word;
        leads = go old o.leads;
        are_kept = both f.holds.0 o.are_kept;
        renumbered = λ i. ap (λ (s : Step). s.by) e i ∷ o.renumbered i;
      }

  module _ (S : Schema) where
    -- what a kept type may contain of kept types, it may contain after
    left_content : (κ : Kind) (a : ℕ) {w : List ℕ} → T (kept a) → AllKept kept w → ValidContent S κ a w
        → ValidContent (reduced kept S) κ (new_number kept a) (map (new_number kept) w)
    left_content plain a {w} t all x =
        subst (λ (b : Block). Word b (map (new_number kept) w)) (sym (reduced_block kept S a t)) (left_word x all)
    left_content nil a t all x = (subst T (sym (reduced-nillable kept S a t)) x.0, ap (map (new_number kept)) x.1)

    mutual
      -- a derived tree of kept types is derived after
      left_tree : (t : Tree) → AllKept kept (preorder t) → Derived S t → Derived (reduced kept S) (relabel (new_number kept) t)
      left_tree (node κ a f) (both t all) d = (
        subst (λ (w : List ℕ). ValidContent (reduced kept S) κ (new_number kept a) w) (sym (labels_relabel (new_number kept) f))
            (left_content κ a t (roots_have f all) d.0),
        left_forest f all d.1,
      )

      left_forest : (f : Forest) → AllKept kept (preorders f) → DerivedAll S f → DerivedAll (reduced kept S) (relabel_all (new_number kept) f)
      left_forest empty all d = tt
      left_forest (more t f) all d =
          (left_tree t (all_front (preorder t) (preorders f) all) d.0, left_forest f (all_back (preorder t) all) d.1)

    mutual
      -- its elements keep their tags
      left_tags : (t : Tree) → AllKept kept (preorder t) → relabel (tag_of (reduced kept S)) (relabel (new_number kept) t) ≡ relabel (tag_of S) t
      left_tags (node κ a f) (both t all) = λ i. node κ (reduced_tag kept S a t i) (left_all_tags f all i)

      left_all_tags : (f : Forest) → AllKept kept (preorders f)
          → relabel_all (tag_of (reduced kept S)) (relabel_all (new_number kept) f) ≡ relabel_all (tag_of S) f
      left_all_tags empty all = refl
      left_all_tags (more t f) all =
          let first = left_tags t (all_front (preorder t) (preorders f) all) in
          let others = left_all_tags f (all_back (preorder t) all) in
          λ i. more (first i) (others i)

    -- A typing that gives kept types alone is one after, with the new numbers.
    pub left_typing : (tree typed : Tree) → AllKept kept (preorder typed) → IsTyping S tree typed
        → IsTyping (reduced kept S) tree (relabel (new_number kept) typed)
    left_typing tree typed all t =
        record {
          own_tags = left_tags typed all ∙ t.own_tags;
          root =
              subst (IsRoot (reduced kept S)) (sym (label-relabel (new_number kept) typed))
              ((root_left kept S (label typed) (root_has typed all)).0 t.root);
          derived = left_tree typed all t.derived;
        }

    -- content by old types that are kept
    record OldContent (κ : Kind) (a : ℕ) (w : List ℕ) : Type 0 where
      word : List ℕ
      content : ValidContent S κ a word
      are_kept : AllKept kept word
      renumbered : map (new_number kept) word ≡ w

    old_word : (a : ℕ) {w : List ℕ} → Word (block_left kept (block_of S a)) w → OldContent plain a w
    unfolding block_left
    old_word a x =
        let o = old_way x.leads in
        record {
          word = o.word;
          content = record { last = x.last; leads = o.leads; accepting = x.accepting };
          are_kept = o.are_kept;
          renumbered = o.renumbered;
        }

    old_content : (κ : Kind) (a : ℕ) {w : List ℕ} → T (kept a) → ValidContent (reduced kept S) κ (new_number kept a) w → OldContent κ a w
    old_content plain a {w} t x = old_word a (subst (λ (b : Block). Word b w) (reduced_block kept S a t) x)
    old_content nil a t x =
        record {
          word = [];
          content = (subst T (reduced-nillable kept S a t) x.0, refl);
          are_kept = none;
          renumbered = sym x.1;
        }

    -- the tree of old types, which are kept
    pub record OldTree (t : Tree) : Type 0 where
      pub tree : Tree
      pub derived : Derived S tree
      pub are_kept : AllKept kept (preorder tree)
      pub renumbered : relabel (new_number kept) tree ≡ t

    record OldForest (f : Forest) : Type 0 where
      forest : Forest
      derived : DerivedAll S forest
      are_kept : AllKept kept (preorders forest)
      renumbered : relabel_all (new_number kept) forest ≡ f

    -- an element over old children
    old_node : (κ : Kind) (a : ℕ) (f : Forest) → ValidContent (reduced kept S) κ a (labels f) → OldForest f → OldTree (node κ a f)
    old_node κ a f x o =
        let inside = (content_in (reduced kept S) κ a (labels f) x).0 in
        let n = new_onto kept (length S.blocks) a (omega (arith, types_left kept S)) in
        let own = subst (λ (k : ℕ). ValidContent (reduced kept S) κ k (labels f)) (sym n.number) x in
        let c = old_content κ n.type n.is_kept own in
        let image = sym (labels_relabel (new_number kept) o.forest) ∙ ap labels o.renumbered ∙ sym c.renumbered in
        let same = same_word (roots_have o.forest o.are_kept) c.are_kept image in
        record {
          tree = node κ n.type o.forest;
          derived = (subst (λ (w : List ℕ). ValidContent S κ n.type w) (sym same) c.content, o.derived);
          are_kept = both n.is_kept o.are_kept;
          renumbered = λ i. node κ (n.number i) (o.renumbered i);
        }

    mutual
      -- each derived tree of what is left is an old one of kept types
      old_tree : (t : Tree) → Derived (reduced kept S) t → OldTree t
      old_tree (node κ a f) d = old_node κ a f d.0 (old_forest f d.1)

      old_forest : (f : Forest) → DerivedAll (reduced kept S) f → OldForest f
      old_forest empty d = record { forest = empty; derived = tt; are_kept = none; renumbered = refl }
      old_forest (more t f) d =
          let o = old_tree t d.0 in
          let p = old_forest f d.1 in
          record {
            forest = more o.tree p.forest;
            derived = (o.derived, p.derived);
            are_kept = all_append o.are_kept p.are_kept;
            renumbered = λ i. more (o.renumbered i) (p.renumbered i);
          }

    -- a typing for the given schema that gives kept types alone, and these with the new numbers
    pub record OldTyping (tree typed : Tree) : Type 0 where
      pub old : Tree
      pub is_typing : IsTyping S tree old
      pub are_kept : AllKept kept (preorder old)
      pub renumbered : relabel (new_number kept) old ≡ typed

    -- Each typing for what is left is such a typing with the new numbers.
    pub old_typing : (tree typed : Tree) → IsTyping (reduced kept S) tree typed → OldTyping tree typed
    old_typing tree typed t =
        let o = old_tree typed t.derived in
        let top = sym (ap label o.renumbered) ∙ label-relabel (new_number kept) o.tree in
        record {
          old = o.tree;
          is_typing = record {
            own_tags = sym (left_tags o.tree o.are_kept) ∙ ap (relabel (tag_of (reduced kept S))) o.renumbered ∙ t.own_tags;
            root = (root_left kept S (label o.tree) (root_has o.tree o.are_kept)).1 (subst (IsRoot (reduced kept S)) top t.root);
            derived = o.derived;
          };
          are_kept = o.are_kept;
          renumbered = o.renumbered;
        }
