-- Laws of sets of states as numbers. A state's digit is 1 in the set and 0 outside. Induction drops the lowest digit.
use mathlib.Core.Path.{◌≡◌, refl, sym, ap, ap₂, ◌∙◌, subst}
use mathlib.Core.Logic.{◌↔◌, ◌⊎◌, inl, inr, ⊎_elim, ◌≢◌}
use mathlib.Core.Bool.{Bool, true, false, cond, not, ◌&&◌}
use mathlib.Core.List.Memᴰ
use mathlib.Core.List.{List, [], ◌∷◌, Memᴰ}
use Prim.Native.Nat.{ℕ, zero, suc, ◌+◌, ◌-◌, ◌*◌, ◌/◌, ◌%◌, ◌^◌, ◌≤◌, ◌<◌, min}
use native.Mathlib.Nat.{zero-div, div-one, div-eq_of_lt, div-div-eq-div-mul, pow-suc, pow-succ'}
use native.Mathlib.Nat.{le_refl, le_trans, le_antisymm, le_of_suc-le-suc, lt_of_not-le, not-suc-le-zero}
use native.Mathlib.Decide.{dec_lt, ℕ_discrete}
use native.Mathlib.Omega.{arith}
use lib.Dec.{T, eqb, ltb, eqb→eq, T_not, not_T}
use lib.ListN.{length, get_or, set, length-append}
use lib.Arith.{lt-one}
use lib.Pow.{pow_mono, pow-add}
use lib.Bits.{bit_and, bit_or, and_step, and_high, or_add_and}
use borrow.Author.Tests.{ltb-true, ltb-false, eqb-false, eq-eqb, ne_eqb}
use Rattle.sdtd.specs.Limits.{most_states}
use Rattle.sdtd.proofs.Basics.{same_test}
use Rattle.sdtd.proofs.Tests.{itself, and_means, or_means}
use Rattle.schema.specs.States.{member, insert, meet_below, meet, members_below, members}

abbrev digit : ℕ → ℕ → ℕ
digit s x = x / 2 ^ s % 2

is_one : (s x : ℕ) → T (member s x) → digit s x ≡ 1
is_one s x m = eqb→eq (digit s x) 1 m

is_member : (s x : ℕ) → digit s x ≡ 1 → T (member s x)
is_member s x e = subst (λ (d : ℕ). T (eqb d 1)) (sym e) tt

-- the lowest digit, and the next ones as those of the half
digit_first : (x : ℕ) → digit 0 x ≡ x % 2
digit_first x = ap (λ (n : ℕ). n % 2) (div-one x)

digit_next : (s x : ℕ) → digit (suc s) x ≡ digit s (x / 2)
digit_next s x = ap (λ (n : ℕ). x / n % 2) (pow-succ' 2 s) ∙ ap (λ (n : ℕ). n % 2) (sym (div-div-eq-div-mul x 2 (2 ^ s)))

half_below : (k x : ℕ) → x < 2 ^ suc k → x / 2 < 2 ^ k
half_below k x b = omega (arith, pow-suc 2 k)

half_plus : (s x : ℕ) → (x + 2 ^ suc s) / 2 ≡ x / 2 + 2 ^ s
half_plus s x = omega (arith, pow-suc 2 s)

digit_above : (s x : ℕ) → x < 2 ^ s → digit s x ≡ 0
digit_above s x b = omega (arith, div-eq_of_lt b)

-- a set below 2 ^ k has only states below k
below : (k s x : ℕ) → x < 2 ^ k → T (member s x) → s < k
below k s x b m = elim (dec_lt s k) [ yes l ↦ l | no l ↦ absurd (high (omega arith)) ]
  where
    high : k ≤ s → ⊥
    high l = omega (arith, digit_above s x (le_trans b (pow_mono l)), is_one s x m)

-- no state is in the set 0, and only state 0 in the set 1
pub member_none : (s : ℕ) → T (member s 0) → ⊥
member_none s m = omega (arith, is_one s 0 m, zero-div (2 ^ s))

pub member_start : (s : ℕ) → T (member s 1) ↔ (s ≡ 0)
member_start s = (λ m. omega (arith, below 1 s 1 (omega arith) m), λ e. is_member s 1 (ap (λ (n : ℕ). digit n 1) e))

pub member_below : (s x : ℕ) → x < 2 ^ most_states → T (member s x) → s < most_states
member_below s x b m = below most_states s x b m

pub member_out : (s x : ℕ) → x < 2 ^ most_states → most_states ≤ s → member s x ≡ false
member_out s x b l = ne_eqb (digit s x) 1 (λ e. omega (arith, below most_states s x b (is_member s x e)))

-- a digit 0 made 1: the digit, the others, and the bound
made : (s x : ℕ) → digit s x ≡ 0 → digit s (x + 2 ^ s) ≡ 1
made zero x e = omega (arith, digit_first x, digit_first (x + 1))
made (suc s) x e = digit_next s (x + 2 ^ suc s) ∙ ap (digit s) (half_plus s x) ∙ made s (x / 2) (sym (digit_next s x) ∙ e)

kept : (s t x : ℕ) → digit s x ≡ 0 → t ≢ s → digit t (x + 2 ^ s) ≡ digit t x
kept zero zero x e d = absurd (d refl)
kept zero (suc t) x e d = digit_next t (x + 1) ∙ ap (digit t) (omega (arith, digit_first x)) ∙ sym (digit_next t x)
kept (suc s) zero x e d = omega (arith, pow-suc 2 s, digit_first x, digit_first (x + 2 ^ suc s))
kept (suc s) (suc t) x e d =
    digit_next t (x + 2 ^ suc s) ∙ ap (digit t) (half_plus s x)
    ∙ kept s t (x / 2) (sym (digit_next s x) ∙ e) (λ p. d (ap suc p)) ∙ sym (digit_next t x)

pub member_kept : (s t x : ℕ) → member s x ≡ false → t ≢ s → member t (x + 2 ^ s) ≡ member t x
member_kept s t x e d = ap (λ (n : ℕ). eqb n 1) (kept s t x (let n = eqb-false (digit s x) 1 e in omega arith) d)

fits : (k s x : ℕ) → x < 2 ^ k → s < k → digit s x ≡ 0 → x + 2 ^ s < 2 ^ k
fits zero s x b l e = absurd (not-suc-le-zero l)
fits (suc k) zero x b l e = omega (arith, pow-suc 2 k, digit_first x)
fits (suc k) (suc s) x b l e =
    omega (arith, pow-suc 2 k, pow-suc 2 s, fits k s (x / 2) (half_below k x b) (omega arith) (sym (digit_next s x) ∙ e))

-- the set after the insertion: the same, or with the digit made 1
abbrev Inserted : ℕ → ℕ → ℕ → Type 0
Inserted s x r = ((r ≡ x) × (s < most_states → digit s x ≡ 1)) ⊎ ((r ≡ x + 2 ^ s) × (s < most_states) × (digit s x ≡ 0))

inserted : (s x : ℕ) → Inserted s x (insert s x)
unfolding insert
inserted s x = go (ltb s most_states) (member s x) refl refl
  where
    go : (a b : Bool) → ltb s most_states ≡ a → member s x ≡ b → Inserted s x (cond a (cond b x (x + 2 ^ s)) x)
    go true true p q = inl (refl, λ l. is_one s x (subst T (sym q) tt))
    go true false p q = inr (refl, ltb-true s most_states p, let n = eqb-false (digit s x) 1 q in omega arith)
    go false b p q = inl (refl, λ l. omega (arith, ltb-false s most_states p))

-- inserting keeps the bound
pub insert_below : (s x : ℕ) → x < 2 ^ most_states → insert s x < 2 ^ most_states
insert_below s x b = ⊎_elim (λ i. omega arith) (λ i. rw i.0 (fits most_states s x b i.1 i.2)) (inserted s x)

-- inserting adds the state and nothing else
pub member-insert : (s t x : ℕ) → x < 2 ^ most_states → T (member t (insert s x)) ↔ (T (member t x) ⊎ ((t ≡ s) × (s < most_states)))
member-insert s t x b = go (insert s x) (inserted s x) (ℕ_discrete t s)
  where
    go : (r : ℕ) → Inserted s x r → Dec (t ≡ s) → T (member t r) ↔ (T (member t x) ⊎ ((t ≡ s) × (s < most_states)))
    go r (inl i) d = (
      λ m. inl (rw i.0 at m),
      λ o. rw i.0 (⊎_elim (λ m. m) (λ p. is_member t x (ap (λ (n : ℕ). digit n x) p.0 ∙ i.1 p.1)) o),
    )
    go r (inr i) (yes p) = (
      λ m. inr (p, i.1),
      λ o. is_member t r (ap (digit t) i.0 ∙ ap (λ (n : ℕ). digit n (x + 2 ^ s)) p ∙ made s x i.2),
    )
    go r (inr i) (no d) =
        let same : digit t r ≡ digit t x = ap (digit t) i.0 ∙ kept s t x i.2 d in (
          λ m. inl (is_member t x (sym same ∙ is_one t r m)),
          λ o. is_member t r (same ∙ ⊎_elim (is_one t x) (λ q. absurd (d q.0)) o),
        )

-- a table of sets with a set put in
pub set_below : (t : List ℕ) (a x : ℕ) → x < 2 ^ most_states → ((k : ℕ) → get_or t k 0 < 2 ^ most_states) → (k : ℕ)
    → get_or (set t a x) k 0 < 2 ^ most_states
set_below [] a x b h k = h k
set_below (y ∷ t) zero x b h zero = b
set_below (y ∷ t) zero x b h (suc k) = h (suc k)
set_below (y ∷ t) (suc a) x b h zero = h 0
set_below (y ∷ t) (suc a) x b h (suc k) = set_below t a x b (λ i. h (suc i)) k

-- no state past the limit is inserted
pub insert_out : (s x : ℕ) → most_states ≤ s → insert s x ≡ x
insert_out s x l = ⊎_elim (λ i. i.0) (λ i. absurd (omega arith)) (inserted s x)

-- the machine inserts by `|`
pub or_insert : (s x : ℕ) → s < most_states → bit_or x (2 ^ s) ≡ insert s x
or_insert s x l = ⊎_elim (λ i. let e = sum 1 (i.1 l) in omega arith) (λ i. let e = sum 0 i.2 in omega arith) (inserted s x)
  where
    both : bit_and x (2 ^ s) ≡ digit s x * 2 ^ s
    both = ap (bit_and x) (omega (arith, pow-add 2 1 s)) ∙ and_high x 1 s

    sum : (d : ℕ) → digit s x ≡ d → bit_or x (2 ^ s) + d * 2 ^ s ≡ x + 2 ^ s
    sum d e = ap (λ (n : ℕ). bit_or x (2 ^ s) + n) (sym (both ∙ ap (λ (n : ℕ). n * 2 ^ s) e)) ∙ or_add_and x (2 ^ s)

-- a larger set has no smaller digit
digit_up : (s x y : ℕ) → (T (member s x) → T (member s y)) → digit s x ≤ digit s y
digit_up s x y f = elim (ℕ_discrete (digit s x) 1) [ yes e ↦ omega (arith, is_one s y (f (is_member s x e))) | no e ↦ omega arith ]

same_digits : (k x y : ℕ) → x < 2 ^ k → y < 2 ^ k → ((s : ℕ) → digit s x ≡ digit s y) → x ≡ y
same_digits zero x y bx by e = omega arith
same_digits (suc k) x y bx by e =
    let next : (s : ℕ) → digit s (x / 2) ≡ digit s (y / 2) = λ s. sym (digit_next s x) ∙ e (suc s) ∙ digit_next s y in
    let h = same_digits k (x / 2) (y / 2) (half_below k x bx) (half_below k y by) next in
    omega (arith, digit_first x, digit_first y, e 0)

-- two sets with the same states are the same
pub same_members : (x y : ℕ) → x < 2 ^ most_states → y < 2 ^ most_states → ((s : ℕ) → T (member s x) ↔ T (member s y)) → x ≡ y
same_members x y bx by e = same_digits most_states x y bx by (λ s. le_antisymm (digit_up s x y (e s).0) (digit_up s y x (e s).1))

-- the states below n, and the last of them
mem_last : (b : Bool) (q n : ℕ) → Memᴰ q (cond b (n ∷ []) []) ↔ ((q ≡ n) × T b)
mem_last true q n = (λ m. (Memᴰ.eq_of_singleton m, tt), λ p. Memᴰ.head p.0)
mem_last false q n = (λ m. absurd (Memᴰ.not-nil m), λ p. absurd p.1)

mem_below : (n q x : ℕ) → Memᴰ q (members_below n x) ↔ ((q < n) × T (member q x))
unfolding members_below
mem_below zero q x = (λ m. absurd (Memᴰ.not-nil m), λ p. absurd (not-suc-le-zero p.0))
mem_below (suc n) q x = (
  λ m. ⊎_elim
      (λ h. let p = (mem_below n q x).0 h in (omega arith, p.1))
      (λ h. let p = (mem_last (member n x) q n).0 h in (omega arith, subst (λ (k : ℕ). T (member k x)) (sym p.0) p.1))
      (Memᴰ.append_cases (members_below n x) m),
  λ p. elim (ℕ_discrete q n) [
    | yes e ↦ Memᴰ.append_right (members_below n x) ((mem_last (member n x) q n).1 (e, subst (λ (k : ℕ). T (member k x)) e p.1))
    | no d ↦ Memᴰ.append_left (cond (member n x) (n ∷ []) []) ((mem_below n q x).1 (omega arith, p.1))
  ],
)

-- the list of the states of a set
pub mem-members : (q x : ℕ) → x < 2 ^ most_states → Memᴰ q (members x) ↔ T (member q x)
mem-members q x b = (λ m. ((mem_below most_states q x).0 m).1, λ t. (mem_below most_states q x).1 (member_below q x b t, t))

bounded : (k x : ℕ) → x < 2 ^ most_states → ((q : ℕ) → T (member q x) → q < k) → x < 2 ^ k
bounded zero x b h =
    let z = same_members x 0 b (omega arith) (λ s. (λ m. absurd (not-suc-le-zero (h s m)), λ m. absurd (member_none s m))) in omega arith
bounded (suc k) x b h =
    let next : (q : ℕ) → T (member q (x / 2)) → suc q < suc k = λ q m. h (suc q) (is_member (suc q) x (digit_next q x ∙ is_one q (x / 2) m)) in
    omega (arith, pow-suc 2 k, bounded k (x / 2) (omega arith) (λ q m. le_of_suc-le-suc (next q m)))

-- a number is below 2 ^ k exactly when its states are below k
pub states_below : (k x : ℕ) → k ≤ most_states → x < 2 ^ most_states → (x < 2 ^ k) ↔ ((q : ℕ) → T (member q x) → q < k)
states_below k x l b = (λ h q m. below k q x h m, λ h. bounded k x b h)

-- how many of the states are not in the set
unfoldable pub absent : ℕ → ℕ
absent x = most_states - length (members x)

pub absent_all : (x : ℕ) → absent x ≤ most_states
unfolding absent
absent_all x = omega arith

-- the length of the list is the sum of the digits
count_last : (n x : ℕ) (b : Bool) → member n x ≡ b → length (cond b (n ∷ []) []) ≡ digit n x
count_last n x true e = sym (is_one n x (subst T (sym e) tt))
count_last n x false e = let d = eqb-false (digit n x) 1 e in omega arith

count_next : (n x : ℕ) → length (members_below (suc n) x) ≡ length (members_below n x) + digit n x
unfolding members_below
count_next n x =
    length-append (members_below n x) (cond (member n x) (n ∷ []) [])
    ∙ ap (λ (k : ℕ). length (members_below n x) + k) (count_last n x (member n x) refl)

-- of the states below n a set has at most n
pub members_most : (n x : ℕ) → length (members_below n x) ≤ n
unfolding members_below
members_most zero x = le_refl 0
members_most (suc n) x = omega (arith, count_next n x, members_most n x)

-- a larger set has no fewer states, and as many only if it has no other
record Larger (n x y : ℕ) : Type 0 where
  more : length (members_below n x) ≤ length (members_below n y)
  even : length (members_below n y) ≤ length (members_below n x) → (s : ℕ) → s < n → T (member s y) → T (member s x)

larger_next : (n x y : ℕ) → (T (member n x) → T (member n y)) → Larger n x y → Larger (suc n) x y
larger_next n x y up g =
    let d = digit_up n x y up in
    let cx = count_next n x in
    let cy = count_next n y in
    record {
      more = omega arith;
      even = λ h s l m. elim (ℕ_discrete s n) [
        | yes e ↦ is_member s x (rw e (omega (arith, rw e at (is_one s y m))))
        | no e ↦ g.even (omega arith) s (omega arith) m
      ];
    }

larger : (n x y : ℕ) → ((s : ℕ) → T (member s x) → T (member s y)) → Larger n x y
unfolding members_below
larger zero x y up = record { more = le_refl 0; even = λ h s l. absurd (not-suc-le-zero l) }
larger (suc n) x y up = larger_next n x y (up n) (larger n x y up)

-- no more states are absent of a larger set, and as many only of the same
absent_most : (x y : ℕ) → x < 2 ^ most_states → y < 2 ^ most_states → ((s : ℕ) → T (member s x) → T (member s y))
    → (absent y ≤ absent x) × (absent x ≤ absent y → x ≡ y)
unfolding absent
absent_most x y bx by up =
    let g = larger most_states x y up in (
      omega (arith, g.more),
      λ h. same_members x y bx by (λ s. (up s, λ m. g.even (omega (arith, members_most most_states y, members_most most_states x)) s (member_below s y by m) m)),
    )

-- a set that grew has fewer states absent
pub absent_falls : (x y : ℕ) → x < 2 ^ most_states → y < 2 ^ most_states → ((s : ℕ) → T (member s x) → T (member s y)) → x ≢ y → absent y < absent x
absent_falls x y bx by up d = lt_of_not-le (λ h. d ((absent_most x y bx by up).1 h))

-- the same for tables of sets
unfoldable pub absent_in : List ℕ → ℕ
absent_in [] = 0
absent_in (x ∷ xs) = absent x + absent_in xs

absent_in_most : (xs ys : List ℕ) → length xs ≡ length ys → ((a : ℕ) → get_or xs a 0 < 2 ^ most_states) → ((a : ℕ) → get_or ys a 0 < 2 ^ most_states)
    → ((a s : ℕ) → T (member s (get_or xs a 0)) → T (member s (get_or ys a 0)))
    → (absent_in ys ≤ absent_in xs) × (absent_in xs ≤ absent_in ys → xs ≡ ys)
unfolding absent_in
absent_in_most [] [] l bx by up = (le_refl 0, λ h. refl)
absent_in_most [] (y ∷ ys) l bx by up = absurd (omega arith)
absent_in_most (x ∷ xs) [] l bx by up = absurd (omega arith)
absent_in_most (x ∷ xs) (y ∷ ys) l bx by up =
    let e = absent_most x y (bx 0) (by 0) (up 0) in
    let es = absent_in_most xs ys (omega arith) (λ a. bx (suc a)) (λ a. by (suc a)) (λ a. up (suc a)) in
    (omega arith, λ h. ap₂ ◌∷◌ (e.1 (omega arith)) (es.1 (omega arith)))

pub absent_in_falls : (xs ys : List ℕ) → length xs ≡ length ys → ((a : ℕ) → get_or xs a 0 < 2 ^ most_states) → ((a : ℕ) → get_or ys a 0 < 2 ^ most_states)
    → ((a s : ℕ) → T (member s (get_or xs a 0)) → T (member s (get_or ys a 0))) → xs ≢ ys → absent_in ys < absent_in xs
absent_in_falls xs ys l bx by up d = lt_of_not-le (λ h. d ((absent_in_most xs ys l bx by up).1 h))

-- two sets have a state in common
pub record Meets (x y : ℕ) : Type 0 where
  pub state : ℕ
  pub left : T (member state x)
  pub right : T (member state y)

common_state : (k x y : ℕ) → x < 2 ^ k → bit_and x y ≢ 0 → Meets x y
common_state zero x y b d = absurd (d (ap (λ (n : ℕ). bit_and n y) (lt-one b)))
common_state (suc k) x y b d = elim (ℕ_discrete (min (x % 2) (y % 2)) 0) [
  | yes e ↦ next (common_state k (x / 2) (y / 2) (half_below k x b) (λ z. d (omega (arith, and_step x y))))
  | no e ↦ record { state = 0; left = is_member 0 x (omega (arith, digit_first x)); right = is_member 0 y (omega (arith, digit_first y)) }
]
  where
    next : Meets (x / 2) (y / 2) → Meets x y
    next m = record {
      state = suc m.state;
      left = is_member (suc m.state) x (digit_next m.state x ∙ is_one m.state (x / 2) m.left);
      right = is_member (suc m.state) y (digit_next m.state y ∙ is_one m.state (y / 2) m.right);
    }

and_pos : (q x y : ℕ) → digit q x ≡ 1 → digit q y ≡ 1 → 0 < bit_and x y
and_pos zero x y ex ey = omega (arith, digit_first x, digit_first y, and_step x y)
and_pos (suc q) x y ex ey =
    omega (arith, and_step x y, and_pos q (x / 2) (y / 2) (sym (digit_next q x) ∙ ex) (sym (digit_next q y) ∙ ey))

-- the machine's `&` of two sets is not 0 exactly when they meet
and_common : (x y : ℕ) → x < 2 ^ most_states → y < 2 ^ most_states → (bit_and x y ≢ 0) ↔ Meets x y
and_common x y bx by = (
  common_state most_states x y bx,
  λ m e. omega (arith, and_pos m.state x y (is_one m.state x m.left) (is_one m.state y m.right)),
)

-- the test of the states below n finds a state in common, and each that there is
meet_finds : (n x y : ℕ) → T (meet_below n x y) → Meets x y
unfolding meet_below
meet_finds (suc n) x y t =
    ⊎_elim (λ b. let m = (and_means (itself (member n x)) (itself (member n y))).says b in record { state = n; left = m.0; right = m.1 })
    (meet_finds n x y) ((or_means (itself (member n x && member n y)) (itself (meet_below n x y))).says t)
meet_finds zero x y t = elim t [ ]

meet_has : (n q x y : ℕ) → q < n → T (member q x) → T (member q y) → T (meet_below n x y)
unfolding meet_below
meet_has (suc n) q x y l mx my =
    (or_means (itself (member n x && member n y)) (itself (meet_below n x y))).passes (elim (ℕ_discrete q n) [
      | yes e ↦ inl ((and_means (itself (member n x)) (itself (member n y))).passes (rw e at mx, rw e at my))
      | no d ↦ inr (meet_has n q x y (omega arith) mx my)
    ])
meet_has zero q x y l mx my = absurd (not-suc-le-zero l)

pub meet_means : (x y : ℕ) → x < 2 ^ most_states → T (meet x y) ↔ Meets x y
meet_means x y b = (meet_finds most_states x y, λ m. meet_has most_states m.state x y (member_below m.state x b m.left) m.left m.right)

-- the machine tests by `&` whether two sets meet
pub and_is_meet : (x y : ℕ) → x < 2 ^ most_states → y < 2 ^ most_states → not (eqb (bit_and x y) 0) ≡ meet x y
and_is_meet x y bx by =
    same_test (not (eqb (bit_and x y) 0)) (meet x y)
    (λ t. (meet_means x y bx).1 ((and_common x y bx by).0 (λ e. T_not (eqb (bit_and x y) 0) t (rw (eq-eqb (bit_and x y) 0 e) tt))))
    (λ t. not_T (eqb (bit_and x y) 0) (λ z. (and_common x y bx by).1 ((meet_means x y bx).0 t) (eqb→eq (bit_and x y) 0 z)))
