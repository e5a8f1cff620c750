-- What occurs in a schema is finitely many: lists gathered from its blocks, and the pairs of two lists' members.
use mathlib.Core.Path.{◌≡◌, subst}
use mathlib.Core.List.Memᴰ
use mathlib.Core.List.{List, [], ◌∷◌, ◌++◌, map, Memᴰ}
use Prim.Native.Nat.{ℕ, zero, suc}
use lib.ListN.{get_or}
use Rattle.sdtd.specs.Schema.{Block, no_block}

-- the lists that the blocks give with their numbers, joined
abbrev pub gather : {A : Type 0} → (ℕ → Block → List A) → List Block → List A
gather f [] = []
gather f (b ∷ bs) = f 0 b ++ gather (λ a. f (suc a)) bs

-- where the block of no type has nothing, what the block of any number has is there
pub gathered : {A : Type 0} (f : ℕ → Block → List A) → ((a : ℕ) → f a no_block ≡ []) → (bs : List Block) (a : ℕ) {x : A}
    → Memᴰ x (f a (get_or bs a no_block)) → Memᴰ x (gather f bs)
gathered f z [] a {x} m = absurd (Memᴰ.not-nil (subst (Memᴰ x) (z a) m))
gathered f z (b ∷ bs) zero m = Memᴰ.append_left (gather (λ a. f (suc a)) bs) m
gathered f z (b ∷ bs) (suc a) m = Memᴰ.append_right (f 0 b) (gathered (λ k. f (suc k)) (λ k. z (suc k)) bs a m)

-- the pairs of a member of the first list and one of the second
abbrev pub crossed : List ℕ → List ℕ → List (ℕ × ℕ)
crossed [] qs = []
crossed (p ∷ ps) qs = map (λ q. (p, q)) qs ++ crossed ps qs

pub in_crossed : {p q : ℕ} {ps qs : List ℕ} → Memᴰ p ps → Memᴰ q qs → Memᴰ {A = ℕ × ℕ} (p, q) (crossed ps qs)
in_crossed {q = q} {qs = qs} (Memᴰ.head {x = x} {xs = ps} e) n =
    Memᴰ.append_left (crossed ps qs) (Memᴰ.cast (λ i. (e i, q)) (Memᴰ.map (λ q. (x, q)) n))
in_crossed {qs = qs} (Memᴰ.tail {x = x} m) n = Memᴰ.append_right (map (λ q. (x, q)) qs) (in_crossed m n)
