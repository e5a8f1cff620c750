-- Where the new file stands while the old one stands somewhere: before the first TYPE that is kept, in a block, after a ROOT that is kept, at
-- the end.
use mathlib.Core.Path.{◌≡◌, sym, subst, ◌∙◌}
use mathlib.Core.Bool.{Bool, ◌||◌}
use mathlib.Core.List.{[]}
use Prim.Native.Nat.{ℕ, pred, ◌≤◌, ◌<◌}
use native.Mathlib.Omega.{arith}
use lib.Dec.{T, eqb}
use lib.ListN.{length}
use Rattle.commands.specs.Questions.{rank, same_phase, in_type_block}
use Rattle.commands.specs.File.{Stated}
use Rattle.commands.specs.declared.phase.Phase.{Phase}
use Rattle.commands.specs.declared.phase.Phase.TheVariants.{BeforeTypes, InBlock, AfterExpression, AfterRoot, AfterDone}
use Rattle.commands.proofs.Passes.{or_left, or_right, eq_test}

-- The old file is in a block or after a ROOT, and no ROOT is kept yet.
pub record Amid (g h : Stated) : Type 0 where
  pub least : rank InBlock ≤ rank g.phase
  pub most : rank g.phase ≤ rank AfterRoot
  pub some_type : 1 ≤ length g.blocks
  pub no_root : h.roots ≡ []

pub data Standing (kept : ℕ → Bool) (g h : Stated) : Type 0 where
  early : rank g.phase ≤ rank BeforeTypes → rank h.phase ≡ rank g.phase → length h.blocks ≡ 0 → h.roots ≡ [] → Standing kept g h
  waiting : Amid g h → rank h.phase ≡ rank BeforeTypes → length h.blocks ≡ 0 → Standing kept g h
  within : Amid g h → T (in_type_block h.phase)
      → (rank g.phase ≡ rank InBlock → T (kept (pred (length g.blocks))) → rank h.phase ≡ rank InBlock) → Standing kept g h
  rooted : rank g.phase ≡ rank AfterRoot → rank h.phase ≡ rank AfterRoot → Standing kept g h
  done : rank g.phase ≡ rank AfterDone → rank h.phase ≡ rank AfterDone → Standing kept g h

-- in a block by its rank
pub block_rank : (p q : Phase) → rank p ≡ rank q → T (in_type_block p) → T (in_type_block q)
block_rank p q e t = subst (λ (n : ℕ). T (eqb n 2 || eqb n 4)) e t

module _ {kept : ℕ → Bool} {g h : Stated} (s : Standing kept g h) where
  -- before TAGS
  pub at_tags : rank g.phase ≡ 0 → (rank h.phase ≡ 0) × (length h.blocks ≡ 0) × (h.roots ≡ [])
  at_tags o = go s
    where
      go : Standing kept g h → (rank h.phase ≡ 0) × (length h.blocks ≡ 0) × (h.roots ≡ [])
      go (early a b c d) = (omega arith, c, d)
      go (waiting a b c) = absurd (omega (arith, a.least))
      go (within a b c) = absurd (omega (arith, a.least))
      go (rooted a b) = absurd (omega arith)
      go (done a b) = absurd (omega arith)

  -- before a ROOT none is there
  pub no_roots : rank g.phase ≤ rank AfterExpression → h.roots ≡ []
  no_roots o = go s
    where
      go : Standing kept g h → h.roots ≡ []
      go (early a b c d) = d
      go (waiting a b c) = a.no_root
      go (within a b c) = a.no_root
      go (rooted a b) = absurd (omega arith)
      go (done a b) = absurd (omega arith)

  -- where a TYPE can stand in the old file, one can in the new
  pub at_type : rank BeforeTypes ≤ rank g.phase → rank g.phase ≤ rank AfterExpression
      → T (same_phase h.phase BeforeTypes || in_type_block h.phase)
  at_type l m = go s
    where
      before : rank h.phase ≡ rank BeforeTypes → T (same_phase h.phase BeforeTypes || in_type_block h.phase)
      before e = or_left (same_phase h.phase BeforeTypes) (in_type_block h.phase) (eq_test (rank h.phase) (rank BeforeTypes) e)

      go : Standing kept g h → T (same_phase h.phase BeforeTypes || in_type_block h.phase)
      go (early a b c d) = before (omega arith)
      go (waiting a b c) = before b
      go (within a b c) = or_right (same_phase h.phase BeforeTypes) (in_type_block h.phase) b
      go (rooted a b) = absurd (omega arith)
      go (done a b) = absurd (omega arith)

  -- a block has its TYPE
  pub some_block : rank InBlock ≤ rank g.phase → rank g.phase ≤ rank AfterExpression → 1 ≤ length g.blocks
  some_block l m = go s
    where
      go : Standing kept g h → 1 ≤ length g.blocks
      go (early a b c d) = absurd (omega arith)
      go (waiting a b c) = a.some_type
      go (within a b c) = a.some_type
      go (rooted a b) = absurd (omega arith)
      go (done a b) = absurd (omega arith)

  -- in a kept type's block the new file is in one, by states where the old one is
  pub in_own : rank InBlock ≤ rank g.phase → rank g.phase ≤ rank AfterExpression → 0 < length h.blocks → T (in_type_block h.phase)
  in_own l m some = go s
    where
      go : Standing kept g h → T (in_type_block h.phase)
      go (early a b c d) = absurd (omega arith)
      go (waiting a b c) = absurd (omega arith)
      go (within a b c) = b
      go (rooted a b) = absurd (omega arith)
      go (done a b) = absurd (omega arith)

  pub by_states : rank g.phase ≡ rank InBlock → T (kept (pred (length g.blocks))) → 0 < length h.blocks
      → rank h.phase ≡ rank InBlock
  by_states o k some = go s
    where
      go : Standing kept g h → rank h.phase ≡ rank InBlock
      go (early a b c d) = absurd (omega arith)
      go (waiting a b c) = absurd (omega arith)
      go (within a b c) = c o k
      go (rooted a b) = absurd (omega arith)
      go (done a b) = absurd (omega arith)

  -- where a ROOT can stand in the old file, one can in the new, once it has a type
  pub at_root : rank InBlock ≤ rank g.phase → rank g.phase ≤ rank AfterRoot → 0 < length h.blocks
      → T (same_phase h.phase AfterRoot || in_type_block h.phase)
  at_root l m some = go s
    where
      go : Standing kept g h → T (same_phase h.phase AfterRoot || in_type_block h.phase)
      go (early a b c d) = absurd (omega arith)
      go (waiting a b c) = absurd (omega arith)
      go (within a b c) = or_right (same_phase h.phase AfterRoot) (in_type_block h.phase) b
      go (rooted a b) = or_left (same_phase h.phase AfterRoot) (in_type_block h.phase) (eq_test (rank h.phase) (rank AfterRoot) b)
      go (done a b) = absurd (omega arith)

  -- before DONE, once a ROOT is kept
  pub at_done : rank g.phase ≡ rank AfterRoot → ¬ (h.roots ≡ []) → rank h.phase ≡ rank AfterRoot
  at_done o some = go s
    where
      go : Standing kept g h → rank h.phase ≡ rank AfterRoot
      go (early a b c d) = absurd (omega arith)
      go (waiting a b c) = absurd (some a.no_root)
      go (within a b c) = absurd (some a.no_root)
      go (rooted a b) = b
      go (done a b) = absurd (omega arith)

  pub at_end : rank g.phase ≡ rank AfterDone → rank h.phase ≡ rank AfterDone
  at_end o = go s
    where
      go : Standing kept g h → rank h.phase ≡ rank AfterDone
      go (early a b c d) = absurd (omega arith)
      go (waiting a b c) = absurd (omega (arith, a.most))
      go (within a b c) = absurd (omega (arith, a.most))
      go (rooted a b) = absurd (omega arith)
      go (done a b) = b

  -- nothing that counts is changed
  pub stays_standing : {g' h' : Stated} → rank g'.phase ≡ rank g.phase → length g'.blocks ≡ length g.blocks
      → rank h'.phase ≡ rank h.phase → length h'.blocks ≡ length h.blocks → h'.roots ≡ h.roots → Standing kept g' h'
  stays_standing {g'} {h'} p b q c r = go s
    where
      amid : Amid g h → Amid g' h'
      amid a =
          record { least = omega (arith, a.least); most = omega (arith, a.most); some_type = omega (arith, a.some_type); no_root = r ∙ a.no_root }

      go : Standing kept g h → Standing kept g' h'
      go (early k l m n) = early (omega arith) (omega arith) (omega arith) (r ∙ n)
      go (waiting k l m) = waiting (amid k) (omega arith) (omega arith)
      go (within k l m) =
          within (amid k) (block_rank h.phase h'.phase (sym q) l)
          (λ e t. q ∙ m (sym p ∙ e) (subst (λ (n : ℕ). T (kept (pred n))) b t))
      go (rooted k l) = rooted (p ∙ k) (q ∙ l)
      go (done k l) = done (p ∙ k) (q ∙ l)

  -- a type's block that is not kept: the new file stays where it is
  pub skips_type : {g' : Stated} → rank BeforeTypes ≤ rank g.phase → rank g.phase ≤ rank AfterExpression
      → rank InBlock ≤ rank g'.phase → rank g'.phase ≤ rank AfterExpression → 1 ≤ length g'.blocks
      → ¬ T (kept (pred (length g'.blocks))) → Standing kept g' h
  skips_type {g'} l m l' m' some n = go s
    where
      amid : h.roots ≡ [] → Amid g' h
      amid r = record { least = l'; most = omega arith; some_type = some; no_root = r }

      go : Standing kept g h → Standing kept g' h
      go (early a b c d) = waiting (amid d) (omega arith) c
      go (waiting a b c) = waiting (amid a.no_root) b c
      go (within a b c) = within (amid a.no_root) b (λ e t. absurd (n t))
      go (rooted a b) = absurd (omega arith)
      go (done a b) = absurd (omega arith)

  -- a ROOT that is not kept
  pub skips_root : {g' : Stated} → rank InBlock ≤ rank g.phase → rank g.phase ≤ rank AfterRoot → rank g'.phase ≡ rank AfterRoot
      → length g'.blocks ≡ length g.blocks → Standing kept g' h
  skips_root {g'} l m e b = go s
    where
      amid : Amid g h → Amid g' h
      amid a = record { least = omega arith; most = omega arith; some_type = omega (arith, a.some_type); no_root = a.no_root }

      go : Standing kept g h → Standing kept g' h
      go (early x y z w) = absurd (omega arith)
      go (waiting x y z) = waiting (amid x) y z
      go (within x y z) = within (amid x) y (λ q t. absurd (omega arith))
      go (rooted x y) = rooted e y
      go (done x y) = absurd (omega arith)
