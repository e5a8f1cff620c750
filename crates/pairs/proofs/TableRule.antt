-- The table's rule at every entry, from one test over the whole table that is computed; and what follows from the rule.
use mathlib.Core.Path.{◌≡◌, ◌∙◌, sym, ap, subst}
use mathlib.Core.Bool.{Bool, true, ◌&&◌}
use mathlib.Core.List.{List, [], ◌∷◌}
use Prim.Native.Nat.{ℕ, zero, suc, ◌+◌, ◌/◌, ◌%◌, ◌<◌}
use native.Mathlib.Omega.{arith}
use lib.Dec.{T, eqb, eqb→eq}
use lib.ListN.{length, get_or}
use lib.Seq.{ext_get_or}
use Rattle.sdtd.specs.Limits.{most_states, most_pairs}
use Rattle.sdtd.specs.Competition.{pair_number}
use Rattle.sdtd.proofs.Basics.{and_parts}
use Rattle.sdtd.proofs.Pairs.{pair_below_most}
use Rattle.pairs.specs.Table.{ordered_pairs, pair_place, PairTable}

-- each entry is what f gives for its place, where the first place is i
abbrev pub is_list_of : (ℕ → ℕ) → ℕ → List ℕ → Bool
is_list_of f i [] = true
is_list_of f i (x ∷ xs) = eqb x (f i) && is_list_of f (suc i) xs

entry : (f : ℕ → ℕ) (xs : List ℕ) (i k : ℕ) → T (is_list_of f i xs) → k < length xs → get_or xs k 0 ≡ f (i + k)
entry f [] i k t l = absurd (omega arith)
entry f (x ∷ xs) i zero t l = eqb→eq x (f i) (and_parts (eqb x (f i)) (is_list_of f (suc i) xs) t).0 ∙ ap f (omega arith)
entry f (x ∷ xs) i (suc k) t l =
    entry f xs (suc i) k (and_parts (eqb x (f i)) (is_list_of f (suc i) xs) t).1 (omega arith) ∙ ap f (omega arith)

-- the number that belongs at a place of the table
abbrev pub number_at : ℕ → ℕ
number_at k = pair_number (k / most_states) (k % most_states)

-- a list of 1,024 numbers that passes the test is the table
pub passes : (xs : List ℕ) → T (eqb (length xs) ordered_pairs) → T (is_list_of number_at 0 xs) → PairTable xs
passes xs size test =
    let whole : length xs ≡ ordered_pairs = eqb→eq (length xs) ordered_pairs size in
    record { size = whole; rule = λ s t l m. at_pair whole s t l m }
  where
    at_pair : length xs ≡ ordered_pairs → (s t : ℕ) → s < most_states → t < most_states → get_or xs (pair_place s t) 0 ≡ pair_number s t
    at_pair whole s t l m =
        let first : (0 + pair_place s t) / most_states ≡ s = omega arith in
        let second : (0 + pair_place s t) % most_states ≡ t = omega arith in
        entry number_at xs 0 (pair_place s t) test (omega arith) ∙ rw (first, second)

-- the rule by places
at_place : {xs : List ℕ} → PairTable xs → (k : ℕ) → k < ordered_pairs → get_or xs k 0 ≡ number_at k
at_place {xs} p k l =
    let place : pair_place (k / most_states) (k % most_states) ≡ k = omega arith in
    subst (λ (n : ℕ). get_or xs n 0 ≡ number_at k) place (p.rule (k / most_states) (k % most_states) (omega arith) (omega arith))

-- each entry is below 528
pub entry_below : {xs : List ℕ} → PairTable xs → (k : ℕ) → k < ordered_pairs → get_or xs k 0 < most_pairs
entry_below p k l = rw (at_place p k l) (pair_below_most (k / most_states) (k % most_states) (omega arith) (omega arith))

-- there is one such table
pub one_table : {xs ys : List ℕ} → PairTable xs → PairTable ys → xs ≡ ys
one_table {xs} {ys} p q =
    ext_get_or 0 xs ys (p.size ∙ sym q.size) (λ k l. let m : k < ordered_pairs = omega (arith, p.size) in at_place p k m ∙ sym (at_place q k m))
