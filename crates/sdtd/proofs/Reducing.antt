-- The parts of a reduced schema, by the kept parts of the given one: its blocks, steps and root types.
use mathlib.Core.Path.{◌≡◌, refl, sym, ◌∙◌, ap}
use mathlib.Core.Logic.{◌↔◌, ⊎_elim}
use mathlib.Core.Bool.{Bool, true, false}
use mathlib.Core.List.{List, [], ◌∷◌, Memᴰ}
use Prim.Native.Nat.{ℕ, zero, suc, ◌+◌, ◌≤◌}
use native.Mathlib.Nat.{add-zero, zero-add}
use native.Mathlib.Omega.{arith}
use lib.Dec.{T}
use lib.ListN.{get_or}
use Rattle.sdtd.specs.Schema.{Step, step, Block, Schema, no_block, block_of, tag_of}
use Rattle.sdtd.specs.Tree.{IsRoot}
use Rattle.sdtd.specs.Trim.{kept_steps}
use Rattle.sdtd.specs.Reduced.{new_number, relabel_step, steps_left, block_left, blocks_left, roots_left, reduced}
use Rattle.sdtd.proofs.Tests.{itself, Found, collect, collect-mem}
use Rattle.sdtd.proofs.Trimmer.{kept as step_kept, keeps as step_Keeps}
use Rattle.sdtd.proofs.NewNumbers.{new_zero, new_after, new_monotone, new_injective, left_none, left_kept, left_dropped}

module _ (kept : ℕ → Bool) where
  -- the steps left are those by kept types, with their new numbers
  pub steps_left_lem : (ss : List Step) (s : Step)
      → Memᴰ s (steps_left kept ss) ↔ Found (λ o. T (kept o.by) × (relabel_step (new_number kept) o ≡ s)) ss
  unfolding steps_left
  steps_left_lem ss s = (
    λ m.
        let r = mathlib.Core.List.Memᴰ.of_map (relabel_step (new_number kept)) (kept_steps (λ o. kept o.by) ss) m in
        let k = step_kept (λ o. kept o.by) ss r.0 r.1 in
        record { member = r.0; given = k.0; holds = (k.1, r.2) },
    λ f.
        mathlib.Core.List.Memᴰ.cast (sym f.holds.1)
        (mathlib.Core.List.Memᴰ.map (relabel_step (new_number kept)) (step_Keeps (λ o. kept o.by) ss f.member f.given f.holds.0)),
  )

  -- a step by a kept type is left
  pub step_left : {ss : List Step} {p j q : ℕ} → T (kept j) → Memᴰ (step p j q) ss → Memᴰ (step p (new_number kept j) q) (steps_left kept ss)
  step_left {ss} {p} {j} {q} t m =
      (steps_left_lem ss (step p (new_number kept j) q)).1 (record { member = step p j q; given = m; holds = (t, refl) })

  -- .. and only then: kept types with one new number are one
  pub step_was : {ss : List Step} {p j q : ℕ} → T (kept j) → Memᴰ (step p (new_number kept j) q) (steps_left kept ss) → Memᴰ (step p j q) ss
  step_was {ss} {p} {j} {q} t m =
      let f = (steps_left_lem ss (step p (new_number kept j) q)).0 m in
      let e = f.holds.1 in
      let by : new_number kept f.member.by ≡ new_number kept j = ap (λ (s : Step). s.by) e in
      let same = new_injective kept f.member.by j f.holds.0 t by in
      mathlib.Core.List.Memᴰ.cast (λ i. step (sym (ap (λ (s : Step). s.from) e) i) (sym same i) (sym (ap (λ (s : Step). s.to) e) i)) f.given

  -- the root types left are the kept ones, with their new numbers
  roots_collected : (rs : List ℕ) → roots_left kept rs ≡ collect kept (new_number kept) rs
  unfolding roots_left
  roots_collected [] = refl
  roots_collected (a ∷ rs) = by_test (kept a) refl (roots_collected rs)
    where
      by_test : (b : Bool) → kept a ≡ b → roots_left kept rs ≡ collect kept (new_number kept) rs
          → roots_left kept (a ∷ rs) ≡ collect kept (new_number kept) (a ∷ rs)
      by_test true e r = rw (e, r)
      by_test false e r = rw (e, r)

  pub roots_left_lem : (rs : List ℕ) (k : ℕ) → Memᴰ k (roots_left kept rs) ↔ Found (λ a. T (kept a) × (k ≡ new_number kept a)) rs
  roots_left_lem rs k = rw (roots_collected rs) (collect-mem (λ a. itself (kept a)) (new_number kept) rs k)

  pub reduced-roots : (S : Schema) (k : ℕ) → IsRoot (reduced kept S) k ↔ Found (λ a. T (kept a) × (k ≡ new_number kept a)) S.roots
  unfolding reduced
  reduced-roots S k = roots_left_lem S.roots k

  -- a kept type is a root type before exactly if it is one after
  pub root_left : (S : Schema) (a : ℕ) → T (kept a) → IsRoot S a ↔ IsRoot (reduced kept S) (new_number kept a)
  root_left S a t = (
    λ r. (reduced-roots S (new_number kept a)).1 (record { member = a; given = r; holds = (t, refl) }),
    λ r.
        let f = (reduced-roots S (new_number kept a)).0 r in
        mathlib.Core.List.Memᴰ.cast (new_injective kept a f.member t f.holds.0 f.holds.1) f.given,
  )

  -- what stands for the block of no type stays
  none_left : block_left kept no_block ≡ no_block
  unfolding block_left steps_left
  none_left = refl

  -- the block of a kept type, among the blocks from the type n on
  left_at : (n : ℕ) (bs : List Block) (a k : ℕ) → T (kept (n + a)) → new_number kept n + k ≡ new_number kept (n + a)
      → get_or (blocks_left kept n bs) k no_block ≡ block_left kept (get_or bs a no_block)
  left_at n [] a k t e = rw (left_none kept n, none_left)
  left_at n (b ∷ bs) zero k t e =
      let same : n + 0 ≡ n = add-zero n in
      let z : k ≡ 0 = let q = rw same at e in omega arith in
      rw (left_kept kept n b bs (rw same at t), z)
  left_at n (b ∷ bs) (suc a) k t e =
      let same : n + suc a ≡ suc n + a = omega arith in
      let u : T (kept (suc n + a)) = rw same at t in
      let q : new_number kept n + k ≡ new_number kept (suc n + a) = rw same at e in
      let l = new_monotone kept (suc n) (suc n + a) (omega arith) in
      ⊎_elim
      (λ p. rw (left_kept kept n b bs p.0) (by_place k (left_at (suc n) bs a) u p.1 q l))
      (λ p. rw (left_dropped kept n b bs p.0) (left_at (suc n) bs a k u (ap (λ (m : ℕ). m + k) p.1 ∙ q)))
      (new_after kept n)
    where
      by_place : (k : ℕ)
          → ((k : ℕ) → T (kept (suc n + a)) → new_number kept (suc n) + k ≡ new_number kept (suc n + a)
          → get_or (blocks_left kept (suc n) bs) k no_block ≡ block_left kept (get_or bs a no_block))
          → T (kept (suc n + a)) → new_number kept (suc n) ≡ suc (new_number kept n) → new_number kept n + k ≡ new_number kept (suc n + a)
          → new_number kept (suc n) ≤ new_number kept (suc n + a)
          → get_or (block_left kept b ∷ blocks_left kept (suc n) bs) k no_block ≡ block_left kept (get_or bs a no_block)
      by_place zero later u p q l = absurd (omega arith)
      by_place (suc k) later u p q l = later k u (omega arith)

  -- The block of a kept type is its old block without the steps that go; a number past the blocks has none before and after.
  pub reduced_block : (S : Schema) (a : ℕ) → T (kept a) → block_of (reduced kept S) (new_number kept a) ≡ block_left kept (block_of S a)
  unfolding reduced
  reduced_block S a t =
      let same : 0 + a ≡ a = zero-add a in
      left_at 0 S.blocks a (new_number kept a) (rw same t) (rw same (omega (arith, new_zero kept)))

  pub reduced_tag : (S : Schema) (a : ℕ) → T (kept a) → tag_of (reduced kept S) (new_number kept a) ≡ tag_of S a
  unfolding block_left
  reduced_tag S a t = ap (λ (b : Block). b.tag) (reduced_block S a t)

  pub reduced-nillable : (S : Schema) (a : ℕ) → T (kept a) → (block_of (reduced kept S) (new_number kept a)).nillable ≡ (block_of S a).nillable
  unfolding block_left
  reduced-nillable S a t = ap (λ (b : Block). b.nillable) (reduced_block S a t)

  -- each block left is a given one's
  pub blocks_left_lem : (n : ℕ) (bs : List Block) (b : Block) → Memᴰ b (blocks_left kept n bs) → Found (λ o. block_left kept o ≡ b) bs
  blocks_left_lem n [] b m = absurd (mathlib.Core.List.Memᴰ.not-nil (rw (left_none kept n) at m))
  blocks_left_lem n (o ∷ bs) b m =
      let later : Memᴰ b (blocks_left kept (suc n) bs) → Found (λ o. block_left kept o ≡ b) (o ∷ bs) = λ k.
      let r = blocks_left_lem (suc n) bs b k in record { member = r.member; given = mathlib.Core.List.Memᴰ.tail r.given; holds = r.holds } in
      ⊎_elim
      (λ p.
      ⊎_elim
      (λ e. record { member = o; given = mathlib.Core.List.Memᴰ.head refl; holds = sym e })
      later
      (mathlib.Core.List.Memᴰ.cases_cons (rw (left_kept kept n o bs p.0) at m)))
      (λ p. later (rw (left_dropped kept n o bs p.0) at m))
      (new_after kept n)
