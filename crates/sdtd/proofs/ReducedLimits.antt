-- A reduced schema is inside the limits and accepted where the given one is; and one with no type to drop stays as it is.
use mathlib.Core.Path.{◌≡◌, refl, ◌∙◌, subst}
use mathlib.Core.Logic.{◌↔◌, ⊎_elim}
use mathlib.Core.Bool.{Bool}
use mathlib.Core.List.Memᴰ
use mathlib.Core.List.{List, [], ◌∷◌, Memᴰ}
use Prim.Native.Nat.{ℕ, suc, ◌+◌, ◌≤◌, ◌<◌}
use native.Mathlib.Omega.{arith}
use lib.Dec.{T}
use lib.ListN.{length, length-map}
use Rattle.sdtd.specs.Schema.{Step, Block, Schema, steps_in, StepWithin, BlockWithin, WithinLimits}
use Rattle.sdtd.specs.Tree.{label, IsRoot}
use Rattle.sdtd.specs.Document.{SomeValid}
use Rattle.sdtd.specs.Trim.{SomeRootBears, kept_steps}
use Rattle.sdtd.specs.Competition.{Accepted}
use Rattle.sdtd.specs.Reduced.{EveryTypeUsed, TellsUsed, new_number, relabel_step, steps_left, block_left, blocks_left, roots_left, reduced}
use Rattle.sdtd.proofs.Basics.{is_true, cond_both}
use Rattle.sdtd.proofs.Trimming.{root_bears}
use Rattle.sdtd.proofs.NewNumbers.{new_after, new_at_most, new_rises, new_same, left_none, left_kept, left_dropped, types_left}
use Rattle.sdtd.proofs.Reducing.{steps_left_lem, reduced-roots, root_left, blocks_left_lem}
use Rattle.sdtd.proofs.ReducedTypings.{root_has}
use Rattle.sdtd.proofs.ReducedDocuments.{typing_kept, reduced_some_valid, reduced_every_type_used, reduced_competition}

-- a list with a member is not empty
has_some : {A : Type 0} {x : A} (xs : List A) → Memᴰ x xs → 1 ≤ length xs
has_some [] m = absurd (Memᴰ.not-nil m)
has_some (y ∷ xs) m = omega arith

module _ (kept : ℕ → Bool) where
  -- no more steps and roots than before
  fewer_kept : (f : Step → Bool) (ss : List Step) → length (kept_steps f ss) ≤ length ss
  fewer_kept f [] = omega arith
  fewer_kept f (s ∷ ss) =
      let r = fewer_kept f ss in
      cond_both (λ l. length l ≤ length (s ∷ ss)) (f s) (s ∷ kept_steps f ss) (kept_steps f ss) (omega arith) (omega arith)

  fewer_steps : (ss : List Step) → length (steps_left kept ss) ≤ length ss
  unfolding steps_left
  fewer_steps ss = rw (length-map (kept_steps (λ s. kept s.by) ss) (relabel_step (new_number kept))) (fewer_kept (λ s. kept s.by) ss)

  fewer_in_block : (b : Block) → length (block_left kept b).steps ≤ length b.steps
  unfolding block_left
  fewer_in_block b = fewer_steps b.steps

  fewer_in_all : (n : ℕ) (bs : List Block) → steps_in (blocks_left kept n bs) ≤ steps_in bs
  fewer_in_all n [] = rw (left_none kept n) (omega arith)
  fewer_in_all n (b ∷ bs) =
      let r = fewer_in_all (suc n) bs in
      ⊎_elim
      (λ p. rw (left_kept kept n b bs p.0) (omega (arith, fewer_in_block b)))
      (λ p. rw (left_dropped kept n b bs p.0) (omega arith))
      (new_after kept n)

  fewer_roots : (rs : List ℕ) → length (roots_left kept rs) ≤ length rs
  unfolding roots_left
  fewer_roots [] = omega arith
  fewer_roots (a ∷ rs) =
      let r = fewer_roots rs in
      cond_both (λ l. length l ≤ length (a ∷ rs)) (kept a) (new_number kept a ∷ roots_left kept rs) (roots_left kept rs) (omega arith) (omega arith)

  -- a block that is left is inside the limits
  left_within : {S : Schema} (b : Block) → BlockWithin S b → BlockWithin (reduced kept S) (block_left kept b)
  unfolding block_left reduced
  left_within {S} b w =
      record {
        tag = w.tag;
        states_least = w.states_least;
        states_most = w.states_most;
        accepting = w.accepting;
        steps = λ s m.
            let f = (steps_left_lem kept b.steps s).0 m in
            let o = f.member in
            let i = w.steps o f.given in
            let rises = new_rises kept o.by (length S.blocks) f.holds.0 i.by in
            subst (StepWithin b.states (length (blocks_left kept 0 S.blocks))) f.holds.1
            (record { from = i.from; by = omega (arith, types_left kept S); to = i.to });
      }

  reduced_steps_most : (S : Schema) → steps_in (reduced kept S).blocks ≤ steps_in S.blocks
  unfolding reduced
  reduced_steps_most S = fewer_in_all 0 S.blocks

  reduced-roots_most : (S : Schema) → length (reduced kept S).roots ≤ length S.roots
  unfolding reduced
  reduced-roots_most S = fewer_roots S.roots

  reduced-blocks : (S : Schema) (b : Block) → WithinLimits S → Memᴰ b (reduced kept S).blocks → BlockWithin (reduced kept S) b
  unfolding reduced
  reduced-blocks S b w m =
      let f = blocks_left_lem kept 0 S.blocks b m in
      subst (BlockWithin (reduced kept S)) f.holds (left_within f.member (w.blocks f.member f.given))

  -- Where a root type is kept, what is left is inside the limits.
  pub kept_within : (S : Schema) (a : ℕ) → IsRoot S a → T (kept a) → WithinLimits S → WithinLimits (reduced kept S)
  unfolding reduced
  kept_within S a r t w =
      let types = types_left kept S in
      record {
        tags_least = w.tags_least;
        tags_most = w.tags_most;
        types_least = omega (arith, types, new_rises kept a (length S.blocks) t (w.roots a r));
        types_most = omega (arith, types, new_at_most kept (length S.blocks), w.types_most);
        steps_most = omega (arith, reduced_steps_most S, w.steps_most);
        roots_least = has_some (reduced kept S).roots ((root_left kept S a t).0 r);
        roots_most = omega (arith, reduced-roots_most S, w.roots_most);
        roots = λ k m.
            let f = (reduced-roots kept S k).0 m in
            let rises = new_rises kept f.member (length S.blocks) f.holds.0 (w.roots f.member f.given) in
            omega (arith, types, f.holds.1);
        blocks = λ b m. reduced-blocks S b w m;
      }

-- where all types below n are kept, what names only these stays as it is
module _ (kept : ℕ → Bool) (n : ℕ) (all : (a : ℕ) → a < n → T (kept a)) where
  same_number : (a : ℕ) → a < n → new_number kept a ≡ a
  same_number a l = new_same kept a (λ b k. all b (omega arith))

  same_steps : (ss : List Step) → ((s : Step) → Memᴰ s ss → s.by < n) → steps_left kept ss ≡ ss
  unfolding steps_left
  same_steps [] below = refl
  same_steps (s ∷ ss) below =
      let l = below s (Memᴰ.head refl) in
      rw (is_true (kept s.by) (all s.by l), same_number s.by l, same_steps ss (λ t m. below t (Memᴰ.tail m)))

  same_block : (b : Block) → ((s : Step) → Memᴰ s b.steps → s.by < n) → block_left kept b ≡ b
  unfolding block_left
  same_block b below = rw (same_steps b.steps below)

  same_blocks : (a : ℕ) (bs : List Block) → a + length bs ≤ n
      → ((b : Block) → Memᴰ b bs → (s : Step) → Memᴰ s b.steps → s.by < n) → blocks_left kept a bs ≡ bs
  same_blocks a [] l below = left_none kept a
  same_blocks a (b ∷ bs) l below =
      let first = same_block b (below b (Memᴰ.head refl)) in
      let others = same_blocks (suc a) bs (omega arith) (λ c m. below c (Memᴰ.tail m)) in
      left_kept kept a b bs (all a (omega arith)) ∙ (λ i. first i ∷ others i)

  same_roots : (rs : List ℕ) → ((a : ℕ) → Memᴰ a rs → a < n) → roots_left kept rs ≡ rs
  unfolding roots_left
  same_roots [] below = refl
  same_roots (a ∷ rs) below =
      let l = below a (Memᴰ.head refl) in
      rw (is_true (kept a) (all a l), same_number a l, same_roots rs (λ b m. below b (Memᴰ.tail m)))

-- Where every type is kept, the schema stays as it is.
pub all_kept_same : (kept : ℕ → Bool) (S : Schema) → ((a : ℕ) → a < length S.blocks → T (kept a)) → WithinLimits S → reduced kept S ≡ S
unfolding reduced
all_kept_same kept S all w =
    let n = length S.blocks in
    let blocks = same_blocks kept n all 0 S.blocks (omega arith) (λ b m s k. ((w.blocks b m).steps s k).by) in
    let roots = same_roots kept n all S.roots w.roots in
    λ i. record { tags = S.tags; blocks = blocks i; roots = roots i }

module _ {S : Schema} (kept : ℕ → Bool) (tells : TellsUsed S kept) where
  pub reduced_within : WithinLimits S → SomeValid S → WithinLimits (reduced kept S)
  reduced_within w s =
      let v = s.valid in
      let typed = v.typing.typed in
      let i = v.typing.is_typing in
      kept_within kept S (label typed) i.root (root_has typed (typing_kept kept tells v.tree typed i)) w

  pub reduced_root_bears : SomeRootBears S ↔ SomeRootBears (reduced kept S)
  reduced_root_bears = (
    λ r. root_bears.1 ((reduced_some_valid kept tells).0 (root_bears.0 r)),
    λ r. root_bears.1 ((reduced_some_valid kept tells).1 (root_bears.0 r)),
  )

  -- "The written file passes": what is left of an accepted schema is accepted.
  pub reduced_accepted : Accepted S → Accepted (reduced kept S)
  reduced_accepted x =
      record {
        within = reduced_within x.within (root_bears.0 x.bears);
        bears = reduced_root_bears.0 x.bears;
        no_competition = λ c. x.no_competition ((reduced_competition kept tells).0 c);
      }

  -- a schema whose every type is used stays as it is
  pub every_type_used_same : EveryTypeUsed S → WithinLimits S → reduced kept S ≡ S
  every_type_used_same every w = all_kept_same kept S (λ a l. (tells a).1 (every a l)) w

  -- so a second pass changes nothing
  pub reduced_twice : (again : ℕ → Bool) → TellsUsed (reduced kept S) again → WithinLimits S → SomeValid S
      → reduced again (reduced kept S) ≡ reduced kept S
  reduced_twice again right w s =
      all_kept_same again (reduced kept S) (λ a l. (right a).1 (reduced_every_type_used kept tells a l)) (reduced_within w s)
