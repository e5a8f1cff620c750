-- The schema trimmed by right tests is trimmed.
use mathlib.Core.Path.{◌≡◌, refl, ap, subst, sym, ◌∙◌}
use mathlib.Core.Logic.{◌↔◌, ◌⊎◌, ⊎_elim}
use mathlib.Core.Bool.{Bool, cond, true, false, ◌&&◌}
use mathlib.Core.List.Memᴰ
use mathlib.Core.List.{List, [], ◌∷◌, Memᴰ}
use Prim.Native.Nat.{ℕ, zero, suc, ◌+◌}
use native.Mathlib.Nat.{add-zero, suc-add, add-suc, zero-add}
use lib.Dec.{T}
use lib.ListN.{length, get_or}
use Rattle.sdtd.specs.Schema.{Step, Block, Schema, no_block, block_of}
use Rattle.sdtd.specs.Trim.{Bears, Live, Reached, Useful, Trimmed}
use Rattle.sdtd.specs.Trim.{TypeTests, keeps_type, keeps_step, kept_steps, trim_at, trim_from, trimmed_by_tests}
use Rattle.sdtd.proofs.Tests.{Means, itself, and_means}

-- the kept steps are just the given ones that pass
module _ (f : Step → Bool) where
  pub kept : (xs : List Step) (y : Step) → Memᴰ y (kept_steps f xs) → Memᴰ y xs × T (f y)
  kept [] y m = absurd (Memᴰ.not-nil m)
  kept (x ∷ xs) y m = by_test (f x) refl m (kept xs y)
    where
      by_test : (b : Bool) → f x ≡ b → Memᴰ y (cond b (x ∷ kept_steps f xs) (kept_steps f xs))
          → (Memᴰ y (kept_steps f xs) → Memᴰ y xs × T (f y)) → Memᴰ y (x ∷ xs) × T (f y)
      by_test true e k h =
          ⊎_elim (λ p. (Memᴰ.head p, subst (λ z. T (f z)) (sym p) (subst T (sym e) tt))) (λ l. (Memᴰ.tail (h l).0, (h l).1))
          (Memᴰ.cases_cons k)
      by_test false e k h = (Memᴰ.tail (h k).0, (h k).1)

  pub keeps : (xs : List Step) (y : Step) → Memᴰ y xs → T (f y) → Memᴰ y (kept_steps f xs)
  keeps (x ∷ xs) y m t = by_test (f x) refl (Memᴰ.cases_cons m) (λ k. keeps xs y k t)
    where
      by_test : (b : Bool) → f x ≡ b → (y ≡ x) ⊎ Memᴰ y xs → (Memᴰ y xs → Memᴰ y (kept_steps f xs))
          → Memᴰ y (cond b (x ∷ kept_steps f xs) (kept_steps f xs))
      by_test true e k h = ⊎_elim (λ p. Memᴰ.head p) (λ l. Memᴰ.tail (h l)) k
      by_test false e k h = ⊎_elim (λ p. absurd (subst T e (subst (λ z. T (f z)) p t))) h k
  keeps [] y m t = absurd (Memᴰ.not-nil m)

-- the list, if the test passes
kept_if : {b : Bool} {A : Type 0} {xs : List ℕ} {q : ℕ} → Means b A → Memᴰ q (cond b xs []) ↔ (Memᴰ q xs × A)
kept_if {b = true} m = (λ k. (k, m.says tt), λ p. p.0)
kept_if {b = false} m = (λ k. absurd (Memᴰ.not-nil k), λ p. absurd (m.passes p.1))

module _ (t : TypeTests) where
  -- what stands for the block of a number that is no type stays
  trim_none : (a : ℕ) → no_block ≡ trim_at t a no_block
  unfolding trim_at
  trim_none a = by_test (keeps_type t a)
    where
      by_test : (b : Bool) → no_block ≡ record { tag = 0; nillable = b && false; states = 0; accepting = cond b [] []; steps = [] }
      by_test true = refl
      by_test false = refl

  trim_at_lem : (n : ℕ) (bs : List Block) (a : ℕ) → get_or (trim_from t n bs) a no_block ≡ trim_at t (n + a) (get_or bs a no_block)
  unfolding trim_from
  trim_at_lem n [] a = trim_none (n + a)
  trim_at_lem n (b ∷ bs) zero = rw add-zero
  trim_at_lem n (b ∷ bs) (suc a) = trim_at_lem (suc n) bs a ∙ ap (λ (k : ℕ). trim_at t k (get_or bs a no_block)) (suc-add n a ∙ sym (add-suc n a))

  trim_length : (n : ℕ) (bs : List Block) → length (trim_from t n bs) ≡ length bs
  unfolding trim_from
  trim_length n [] = refl
  trim_length n (b ∷ bs) = ap suc (trim_length (suc n) bs)

  trim_block : (S : Schema) (a : ℕ) → block_of (trimmed_by_tests t S) a ≡ trim_at t a (block_of S a)
  unfolding trimmed_by_tests
  trim_block S a = trim_at_lem 0 S.blocks a ∙ ap (λ (k : ℕ). trim_at t k (block_of S a)) (zero-add a)

-- the tests are right of the schema
pub record RightTests (S : Schema) (t : TypeTests) : Type 0 where
  pub reached : (a : ℕ) → Means (t.reached a) (Reached S a)
  pub bears : (a : ℕ) → Means (t.bears a) (Bears S a)
  pub live : (a q : ℕ) → Means (t.live a q) (Live S a q)

module _ {S : Schema} {t : TypeTests} (right : RightTests S t) where
  -- the tests of a block and of a step pass exactly if trimming keeps it
  keeps_type_means : (a : ℕ) → Means (keeps_type t a) (Useful S a)
  unfolding keeps_type
  keeps_type_means a = and_means (right.reached a) (right.bears a)

  keeps_step_means : (a : ℕ) (s : Step) → Means (keeps_step t a s) (((Useful S a × Bears S s.by) × Live S a s.from) × Live S a s.to)
  unfolding keeps_step
  keeps_step_means a s = and_means (and_means (and_means (keeps_type_means a) (right.bears s.by)) (right.live a s.from)) (right.live a s.to)

  pub tests_trim : Trimmed S (trimmed_by_tests t S)
  unfolding trimmed_by_tests trim_at
  tests_trim =
      record {
        tags = refl;
        types = trim_length t 0 S.blocks;
        roots = refl;
        own_tags = λ a. ap (λ (b : Block). b.tag) (trim_block t S a);
        states = λ a. ap (λ (b : Block). b.states) (trim_block t S a);
        nillable = λ a.
            let m = and_means (keeps_type_means a) (itself (block_of S a).nillable) in
            rw (trim_block t S a) (λ k. let h = m.says k in (h.1, h.0), λ p. m.passes (p.1, p.0));
        accepting = λ a q. rw (trim_block t S a) (kept_if (keeps_type_means a));
        steps = λ a s.
            rw (trim_block t S a) (
              λ m.
                  let k = kept (keeps_step t a) (block_of S a).steps s m in
                  let h = (keeps_step_means a s).says k.1 in
                  record { given = k.0; useful = h.0.0.0; by_bearing = h.0.0.1; from_live = h.0.1; to_live = h.1 },
              λ p. keeps (keeps_step t a) (block_of S a).steps s p.given
                  ((keeps_step_means a s).passes (((p.useful, p.by_bearing), p.from_live), p.to_live)),
            );
      }
