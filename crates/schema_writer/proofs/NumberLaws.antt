-- The table of new numbers, as it is made.
use mathlib.Core.Path.{◌≡◌, refl, sym, ap, ◌∙◌}
use mathlib.Core.Bool.{Bool, true, false, cond}
use mathlib.Core.List.{List}
use Prim.Native.Nat.{ℕ, zero, suc, ◌+◌, ◌-◌, ◌≤◌, ◌<◌, min}
use native.Mathlib.Decide.{ℕ_discrete, dec_lt}
use native.Mathlib.Numerals.{add-one}
use native.Mathlib.Omega.{arith}
use borrow.Author.Tests.{le-ltb, lt-ltb}
use lib.ListN.{length, get_or, set, length-set}
use mir.Val.{bool_byte}
use lib.Seq.{get_or-set_same, get_or-set_other}
use Rattle.sdtd.specs.Limits.{most_types}
use Rattle.sdtd.specs.Reduced.{new_number}
use Rattle.schema_writer.specs.Laying.{kept_by, NewNumbers}

-- where no number from m on is a kept type's, their new number is that of m
none_past : (kept : ℕ → Bool) (m : ℕ) → ((j : ℕ) → m ≤ j → kept j ≡ false) → (k : ℕ) → new_number kept (k + m) ≡ new_number kept m
unfolding new_number
none_past kept m none zero = let e : 0 + m ≡ m = omega arith in ap (new_number kept) e
none_past kept m none (suc k) =
    let e : suc k + m ≡ suc (k + m) = omega arith in
    rw (e, none (k + m) (omega arith)) (none_past kept m none k)

-- The table has the numbers of the types below a, and n is the next.
pub record Numbered (kept : List Bool) (numbers : List ℕ) (n a : ℕ) : Type 0 where
  pub most : a ≤ most_types
  pub few : n ≤ a
  pub long : length numbers ≡ most_types + 1
  pub next : n ≡ new_number (kept_by kept) a
  pub below : (j : ℕ) → j < a → get_or numbers j 0 ≡ new_number (kept_by kept) j

pub none_numbered : (kept : List Bool) (numbers : List ℕ) → length numbers ≡ most_types + 1 → Numbered kept numbers 0 0
unfolding new_number
none_numbered kept numbers l = record { most = omega arith; few = omega arith; long = l; next = refl; below = λ j b. absurd (omega arith) }

module _ {kept : List Bool} {numbers : List ℕ} {n a : ℕ} (x : Numbered kept numbers n a) where
  put_in : (j : ℕ) → j < suc a → get_or (set numbers a n) j 0 ≡ new_number (kept_by kept) j
  put_in j l =
      elim (ℕ_discrete j a) [
        | yes e ↦ rw e (get_or-set_same numbers a n 0 (omega (arith, x.long, x.most)) ∙ x.next)
        | no d ↦ get_or-set_other numbers a j n 0 d ∙ x.below j (omega arith)
      ]

  numbered_to : {m : ℕ} → a < most_types → m ≡ cond (get_or kept a false) (suc n) n → Numbered kept (set numbers a n) m (a + 1)
  unfolding new_number
  numbered_to {m} l e =
      rw add-one
      (record {
        most = l;
        few = count (get_or kept a false) e;
        long = length-set numbers a n ∙ x.long;
        next = rw (lt-ltb a most_types l, ← x.next) e;
        below = put_in;
      })
    where
      count : (b : Bool) → m ≡ cond b (suc n) n → m ≤ suc a
      count true e = omega (arith, x.few)
      count false e = omega (arith, x.few)

  pub one_numbered : {m : ℕ} → a < most_types → m ≡ bool_byte (get_or kept a false) → Numbered kept (set numbers a n) (n + m) (a + 1)
  one_numbered {m} l e =
      numbered_to l (by_kept (get_or kept a false) e)
    where
      by_kept : (b : Bool) → m ≡ bool_byte b → n + m ≡ cond b (suc n) n
      by_kept true e = omega arith
      by_kept false e = omega arith

  -- with the last number the table is whole
  pub all_numbered : most_types ≤ a → NewNumbers kept (set numbers most_types n)
  all_numbered l =
      let e : a ≡ most_types = omega (arith, x.most) in
      record {
        each =
            λ j. elim (dec_lt j most_types) [
              | yes b ↦ let m : min j most_types ≡ j = omega arith in rw (m, ← e) (put_in j (omega arith))
              | no b ↦
                  let m : min j most_types ≡ most_types = omega arith in
                  let k : j - most_types + most_types ≡ j = omega arith in
                  let past = none_past (kept_by kept) most_types (λ i h. rw (le-ltb i most_types h)) (j - most_types) in
                  rw m ((rw e at (put_in a (omega arith))) ∙ sym past ∙ ap (new_number (kept_by kept)) k)
            ];
      }
