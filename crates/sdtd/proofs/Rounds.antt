-- Rounds end: a table of marks takes at most as many additions as it has entries, and distinct numbers below n are at most n.
use mathlib.Core.Path.{◌≡◌, refl, sym}
use mathlib.Core.Bool.{Bool, false, true}
use mathlib.Core.List.Memᴰ
use mathlib.Core.List.{List, [], ◌∷◌, Memᴰ}
use Prim.Native.Nat.{ℕ, zero, suc, ◌+◌, ◌≤◌, ◌<◌}
use native.Mathlib.Omega.{arith}
use lib.ListN.{length, get_or, set, replicate, length-set, length-replicate, get_or-replicate}
use lib.Seq.{get_or-set_other}

-- how many entries are true
abbrev pub count : List Bool → ℕ
count [] = 0
count (false ∷ t) = count t
count (true ∷ t) = suc (count t)

pub count-le : (t : List Bool) → count t ≤ length t
count-le [] = omega arith
count-le (false ∷ t) = omega (arith, count-le t)
count-le (true ∷ t) = omega (arith, count-le t)

pub count_set : (t : List Bool) (i : ℕ) → i < length t → get_or t i false ≡ false → count (set t i true) ≡ suc (count t)
count_set [] i h e = omega arith
count_set (false ∷ t) zero h e = refl
count_set (true ∷ t) zero h e = let z : ◌≡◌ {A = ℕ} 0 1 = cc in omega arith
count_set (false ∷ t) (suc i) h e = count_set t i (omega arith) e
count_set (true ∷ t) (suc i) h e = omega (arith, count_set t i (omega arith) e)

-- n entries were added to the table one after another, each one absent before
pub data Additions : List Bool → ℕ → List Bool → Type 0 where
  unchanged : {t : List Bool} → Additions t 0 t
  added : {t t' : List Bool} {n : ℕ} (i : ℕ) → i < length t → get_or t i false ≡ false → Additions (set t i true) n t'
      → Additions t (suc n) t'

additions_length : {t t' : List Bool} {n : ℕ} → Additions t n t' → length t' ≡ length t
additions_length unchanged = refl
additions_length (added {t = t} i h e a) = omega (arith, length-set t i true, additions_length a)

pub additions_count : {t t' : List Bool} {n : ℕ} → Additions t n t' → count t' ≡ count t + n
additions_count unchanged = omega arith
additions_count (added {t = t} i h e a) = omega (arith, count_set t i h e, additions_count a)

-- a pass that changes something adds an entry, so there are at most as many such passes as entries
pub rounds_end : {t t' : List Bool} {n : ℕ} → Additions t n t' → n ≤ length t
rounds_end {t' = t'} a = omega (arith, additions_length a, additions_count a, count-le t')

-- no number of the list stands in it a second time
pub data Distinct : List ℕ → Type 0 where
  no_number : Distinct []
  fresh : {x : ℕ} {xs : List ℕ} → (Memᴰ x xs → ⊥) → Distinct xs → Distinct (x ∷ xs)

-- a table that comes of t by n additions
record Added (t : List Bool) (n : ℕ) : Type 0 where
  table : List Bool
  additions : Additions t n table

-- distinct numbers, absent from the table, are marked one after another
mark : (t : List Bool) {xs : List ℕ} → Distinct xs → ((x : ℕ) → Memᴰ x xs → (x < length t) × (get_or t x false ≡ false))
    → Added t (length xs)
mark t no_number absent = record { table = t; additions = unchanged }
mark t (fresh {x = x} {xs = xs} new d) absent =
    let h = absent x (Memᴰ.head refl) in
    let r = mark (set t x true) d (λ y m. still y m (absent y (Memᴰ.tail m))) in
    record { table = r.table; additions = added x h.0 h.1 r.additions }
  where
    still : (y : ℕ) → Memᴰ y xs → (y < length t) × (get_or t y false ≡ false)
        → (y < length (set t x true)) × (get_or (set t x true) y false ≡ false)
    still y m h = (rw length-set h.0, rw (get_or-set_other t x y true false (λ e. new (Memᴰ.cast (sym e) m))) h.1)

-- distinct numbers below n are at most n
pub full_length : (n : ℕ) {xs : List ℕ} → Distinct xs → ((x : ℕ) → Memᴰ x xs → x < n) → length xs ≤ n
full_length n d below =
    let r = mark (replicate n false) d (λ x m. (rw length-replicate (below x m), get_or-replicate n x false false (below x m))) in
    omega (arith, rounds_end r.additions, length-replicate n false)
