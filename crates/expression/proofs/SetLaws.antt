-- Sets of uses: the members of a union, of one use, and of none.
pub use Rattle.schema.proofs.LowestState.{smallest_member, none_smaller, smallest_out, without_own, without_other}
use mathlib.Core.Path.{◌≡◌, refl, sym, ap, subst, ◌∙◌}
use mathlib.Core.Logic.{⊎_elim, inr}
use mathlib.Core.Bool.{Bool, true, false, ◌&&◌, ◌||◌, or-false}
use mathlib.Core.List.Memᴰ
use mathlib.Core.List.{List, [], ◌∷◌, Memᴰ}
use Prim.Native.Nat.{ℕ, zero, suc, ◌/◌, ◌%◌, ◌^◌, ◌<◌}
use native.Mathlib.Decide.{ℕ_discrete}
use native.Mathlib.Omega.{arith}
use borrow.Author.Tests.{eq-eqb, ne_eqb}
use lib.Bits.{bit_or, or_shr, or_mod, or_zero_l}
use lib.Dec.{T, eqb, eqb→eq}
use Rattle.sdtd.specs.Limits.{most_states}
use Rattle.sdtd.proofs.Basics.{is_false, same_test}
use Rattle.schema.specs.States.{member, insert, members}
use Rattle.schema.proofs.Bits.{member_none, member-insert, member_below, mem-members}
use Rattle.expression.specs.Parsing.{beyond}

pub member_zero : (q : ℕ) → member q 0 ≡ false
member_zero q = is_false (member q 0) (member_none q)

or_bits : (a b : ℕ) → a < 2 → b < 2 → eqb (bit_or a b) 1 ≡ (eqb a 1 || eqb b 1)
or_bits zero b l k = rw (or_zero_l b)
or_bits (suc zero) zero l k = refl
or_bits (suc zero) (suc zero) l k = refl
or_bits (suc zero) (suc (suc b)) l k = absurd (omega arith)
or_bits (suc (suc a)) b l k = absurd (omega arith)

pub member_or : (q x y : ℕ) → member q (bit_or x y) ≡ (member q x || member q y)
member_or q x y =
    ap (λ (n : ℕ). eqb (n % 2) 1) (or_shr x y q) ∙ ap (λ (n : ℕ). eqb n 1) (or_mod (x / 2 ^ q) (y / 2 ^ q) 1)
    ∙ or_bits (x / 2 ^ q % 2) (y / 2 ^ q % 2) (omega arith) (omega arith)

pub member-beyond : (b : Bool) (q x y : ℕ) → member q (beyond b x y) ≡ (member q x || (b && member q y))
member-beyond true q x y = member_or q x y
member-beyond false q x y = sym (or-false (member q x))

-- the set of one use
pub member_own : (n q : ℕ) → n < most_states → member q (insert n 0) ≡ eqb q n
member_own n q l =
    same_test (member q (insert n 0)) (eqb q n)
    (λ m. ⊎_elim (λ h. absurd (member_none q h)) (λ h. subst T (sym (eq-eqb q n h.0)) tt) ((member-insert n q 0 (omega arith)).0 m))
    (λ t. (member-insert n q 0 (omega arith)).1 (inr (eqb→eq q n t, l)))

-- a state is one of the list
abbrev pub listed : ℕ → List ℕ → Bool
listed q [] = false
listed q (p ∷ ps) = eqb q p || listed q ps

listed_mem : (q : ℕ) (ps : List ℕ) → T (listed q ps) → Memᴰ q ps
listed_mem q [] t = absurd t
listed_mem q (p ∷ ps) t = go (eqb q p) refl t (listed_mem q ps)
  where
    go : (b : Bool) → eqb q p ≡ b → T (b || listed q ps) → (T (listed q ps) → Memᴰ q ps) → Memᴰ q (p ∷ ps)
    go true e u h = Memᴰ.head (eqb→eq q p (subst T (sym e) tt))
    go false e u h = Memᴰ.tail (h u)

mem_listed : (q : ℕ) (ps : List ℕ) → Memᴰ q ps → T (listed q ps)
mem_listed q (p ∷ ps) m = go (ℕ_discrete q p) (mem_listed q ps)
  where
    go : Dec (q ≡ p) → (Memᴰ q ps → T (listed q ps)) → T (eqb q p || listed q ps)
    go (yes e) h = rw (eq-eqb q p e) tt
    go (no n) h = rw (ne_eqb q p n) (⊎_elim (λ e. absurd (n e)) h (Memᴰ.cases_cons m))
mem_listed q [] m = absurd (Memᴰ.not-nil m)

-- the list of a set has its states
pub listed_member : (q x : ℕ) → x < 2 ^ most_states → listed q (members x) ≡ member q x
listed_member q x l =
    same_test (listed q (members x)) (member q x) (λ t. (mem-members q x l).0 (listed_mem q (members x) t))
    (λ t. mem_listed q (members x) ((mem-members q x l).1 t))

pub listed_below : (q x : ℕ) → x < 2 ^ most_states → T (listed q (members x)) → q < most_states
listed_below q x l t = member_below q x l (subst T (listed_member q x l) t)
