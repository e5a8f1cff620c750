-- New numbers: the kept types are numbered in order, from 0 on and without a gap.
use mathlib.Core.Path.{◌≡◌, refl, ◌∙◌, ap}
use mathlib.Core.Logic.{◌⊎◌, inl, inr, ⊎_elim}
use mathlib.Core.Bool.{Bool, true, false}
use mathlib.Core.List.{List, [], ◌∷◌}
use Prim.Native.Nat.{ℕ, zero, suc, ◌+◌, ◌≤◌, ◌<◌}
use native.Mathlib.Decide.{ℕ_discrete, dec_lt}
use native.Mathlib.Nat.{add-zero}
use native.Mathlib.Omega.{arith}
use lib.Dec.{T}
use lib.ListN.{length}
use Rattle.sdtd.specs.Schema.{Block, Schema}
use Rattle.sdtd.specs.Reduced.{new_number, block_left, blocks_left, reduced}
use Rattle.sdtd.proofs.Basics.{is_true, is_false}

-- k is the new number of a kept type below n
pub record OldNumber (kept : ℕ → Bool) (n k : ℕ) : Type 0 where
  pub type : ℕ
  pub is_kept : T (kept type)
  pub below : type < n
  pub number : new_number kept type ≡ k

module _ (kept : ℕ → Bool) where
  -- a kept type takes a number, another none
  pub new_after_kept : (a : ℕ) → T (kept a) → new_number kept (suc a) ≡ suc (new_number kept a)
  unfolding new_number
  new_after_kept a t = rw (is_true (kept a) t)

  pub new_after_dropped : (a : ℕ) → ¬ T (kept a) → new_number kept (suc a) ≡ new_number kept a
  unfolding new_number
  new_after_dropped a n = rw (is_false (kept a) n)

  -- one of the two
  pub new_after : (a : ℕ) → (T (kept a) × (new_number kept (suc a) ≡ suc (new_number kept a)))
      ⊎ ((¬ T (kept a)) × (new_number kept (suc a) ≡ new_number kept a))
  new_after a = by_test (kept a) refl
    where
      by_test : (b : Bool) → kept a ≡ b → (T (kept a) × (new_number kept (suc a) ≡ suc (new_number kept a)))
          ⊎ ((¬ T (kept a)) × (new_number kept (suc a) ≡ new_number kept a))
      by_test true e = let t : T (kept a) = rw e tt in inl (t, new_after_kept a t)
      by_test false e = let n : ¬ T (kept a) = rw e (λ t. t) in inr (n, new_after_dropped a n)

  pub new_zero : new_number kept 0 ≡ 0
  unfolding new_number
  new_zero = refl

  pub new_at_most : (a : ℕ) → new_number kept a ≤ a
  new_at_most zero = omega (arith, new_zero)
  new_at_most (suc a) =
      let below = new_at_most a in
      ⊎_elim (λ p. let e = p.1 in omega arith) (λ p. let e = p.1 in omega arith) (new_after a)

  pub new_monotone : (a b : ℕ) → a ≤ b → new_number kept a ≤ new_number kept b
  new_monotone a zero l = let e : a ≡ 0 = omega arith in rw e (omega arith)
  new_monotone a (suc b) l = elim (ℕ_discrete a (suc b)) [
    | yes e ↦ rw e (omega arith)
    | no e ↦
        let before = new_monotone a b (omega arith) in
        ⊎_elim (λ p. let e = p.1 in omega arith) (λ p. let e = p.1 in omega arith) (new_after b)
  ]

  pub new_rises : (a b : ℕ) → T (kept a) → a < b → new_number kept a < new_number kept b
  new_rises a b t l = omega (arith, new_after_kept a t, new_monotone (suc a) b l)

  pub new_injective : (a b : ℕ) → T (kept a) → T (kept b) → new_number kept a ≡ new_number kept b → a ≡ b
  new_injective a b t u e = elim (dec_lt a b) [
    | yes l ↦ absurd (omega (arith, new_rises a b t l))
    | no l ↦ elim (dec_lt b a) [ yes m ↦ absurd (omega (arith, new_rises b a u m)) | no m ↦ omega arith ]
  ]

  -- types whose new numbers stand in order stand in order
  pub new_order : (a b : ℕ) → new_number kept a < new_number kept b → a < b
  new_order a b l = elim (dec_lt a b) [ yes m ↦ m | no m ↦ absurd (omega (arith, new_monotone b a (omega arith))) ]

  -- where all before it are kept, a type keeps its number
  pub new_same : (a : ℕ) → ((b : ℕ) → b < a → T (kept b)) → new_number kept a ≡ a
  new_same zero all = new_zero
  new_same (suc a) all = new_after_kept a (all a (omega arith)) ∙ ap suc (new_same a (λ b l. all b (omega arith)))

  old_later : {n k : ℕ} → OldNumber kept n k → OldNumber kept (suc n) k
  old_later r = record { type = r.type; is_kept = r.is_kept; below = omega (arith, r.below); number = r.number }

  -- each number below that of n is a kept type's
  pub new_onto : (n k : ℕ) → k < new_number kept n → OldNumber kept n k
  new_onto zero k l = absurd (omega (arith, new_zero))
  new_onto (suc n) k l =
      ⊎_elim
      (λ p. elim (ℕ_discrete (new_number kept n) k) [
        | yes e ↦ record { type = n; is_kept = p.0; below = omega arith; number = e }
        | no e ↦ old_later (new_onto n k (omega (arith, p.1)))
      ])
      (λ p. old_later (new_onto n k (omega (arith, p.1))))
      (new_after n)

  pub left_none : (a : ℕ) → blocks_left kept a [] ≡ []
  unfolding blocks_left
  left_none a = refl

  -- the blocks left, by whether the first is kept
  pub left_kept : (a : ℕ) (b : Block) (bs : List Block) → T (kept a) → blocks_left kept a (b ∷ bs) ≡ block_left kept b ∷ blocks_left kept (suc a) bs
  unfolding blocks_left
  left_kept a b bs t = rw (is_true (kept a) t)

  pub left_dropped : (a : ℕ) (b : Block) (bs : List Block) → ¬ T (kept a) → blocks_left kept a (b ∷ bs) ≡ blocks_left kept (suc a) bs
  unfolding blocks_left
  left_dropped a b bs n = rw (is_false (kept a) n)

  -- the blocks left take the numbers from the first one's on
  pub new_length : (a : ℕ) (bs : List Block) → new_number kept (a + length bs) ≡ new_number kept a + length (blocks_left kept a bs)
  unfolding blocks_left
  new_length a [] = rw (add-zero a) (omega arith)
  new_length a (b ∷ bs) =
      let r = new_length (suc a) bs in
      let e : a + length (b ∷ bs) ≡ suc a + length bs = omega arith in
      ⊎_elim
      (λ p. rw (e, left_kept a b bs p.0) (omega (arith, p.1)))
      (λ p. rw (e, left_dropped a b bs p.0) (omega (arith, p.1)))
      (new_after a)

  -- so that many types are left of a schema
  pub types_left : (S : Schema) → length (reduced kept S).blocks ≡ new_number kept (length S.blocks)
  unfolding reduced
  types_left S =
      let r = new_length 0 S.blocks in
      let e : 0 + length S.blocks ≡ length S.blocks = omega arith in
      omega (arith, new_zero, rw e at r)
