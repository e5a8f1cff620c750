-- The word to a place of a queue in which each entry names an earlier one: how much fuel it takes, how long it is, and its last type.
use mathlib.Core.Path.{◌≡◌, refl, sym, ◌∙◌, ap}
use mathlib.Core.List.{List, [], ◌∷◌, ◌++◌}
use Prim.Native.Nat.{ℕ, zero, suc, ◌≤◌, ◌<◌}
use native.Mathlib.Omega.{arith}
use lib.Dec.{eqb-suc-zero}
use lib.ListN.{length, length-append}
use Rattle.competition.specs.Found.{found_at, Linked, word_to}
use Rattle.competition.specs.declared.queue.Found.{Found}

-- the word to the first place is empty
pub word_first : (queue : List Found) (fuel : ℕ) → word_to fuel queue 0 ≡ []
unfolding word_to
word_first queue zero = refl
word_first queue (suc fuel) = refl

-- with fuel, a later place has the word to the place it was found from, and then its own type
pub word_more : (queue : List Found) (fuel i : ℕ)
    → word_to (suc fuel) queue (suc i) ≡ word_to fuel queue (found_at queue (suc i)).parent ++ ((found_at queue (suc i)).by.0 ∷ [])
unfolding word_to
word_more queue fuel i = rw eqb-suc-zero

-- the word is no longer than the fuel
pub word_short : (queue : List Found) (fuel i : ℕ) → length (word_to fuel queue i) ≤ fuel
unfolding word_to
word_short queue zero i = omega arith
word_short queue (suc fuel) zero = omega arith
word_short queue (suc fuel) (suc i) =
    rw (word_more, length-append) (omega (arith, word_short queue fuel (found_at queue (suc i)).parent))

-- the place that i was found from is earlier, and the word to it has one type less
pub record Back (queue : List Found) (i : ℕ) : Type 0 where
  pub earlier : (found_at queue i).parent < i
  pub shorter : length (word_to i queue i) ≡ suc (length (word_to (found_at queue i).parent queue (found_at queue i).parent))

module _ (queue : List Found) (at : ℕ) (linked : Linked queue at) where
  -- the fuel does not matter once it is at least the place
  pub word_fuel : (f g i : ℕ) → i ≤ at → i ≤ f → i ≤ g → word_to f queue i ≡ word_to g queue i
  word_fuel zero g zero b bf bg = word_first queue zero ∙ sym (word_first queue g)
  word_fuel zero g (suc i) b bf bg = absurd (omega arith)
  word_fuel (suc f) g zero b bf bg = word_first queue (suc f) ∙ sym (word_first queue g)
  word_fuel (suc f) zero (suc i) b bf bg = absurd (omega arith)
  word_fuel (suc f) (suc g) (suc i) b bf bg =
      let e : Found = found_at queue (suc i) in
      let p : e.parent < suc i = linked (suc i) (omega arith) b in
      word_more queue f i
      ∙ ap (λ (w : List ℕ). w ++ (e.by.0 ∷ [])) (word_fuel f g e.parent (omega arith) (omega arith) (omega arith))
      ∙ sym (word_more queue g i)

  -- the word to a later place is the word to the place it was found from, and then its own type
  pub word_step : (i : ℕ) → 0 < i → i ≤ at
      → word_to i queue i ≡ word_to (found_at queue i).parent queue (found_at queue i).parent ++ ((found_at queue i).by.0 ∷ [])
  word_step zero pos b = absurd (omega arith)
  word_step (suc i) pos b =
      let e : Found = found_at queue (suc i) in
      let p : e.parent < suc i = linked (suc i) pos b in
      word_more queue i i
      ∙ ap (λ (w : List ℕ). w ++ (e.by.0 ∷ [])) (word_fuel i e.parent e.parent (omega arith) (omega arith) (omega arith))

  -- going back from a later place
  pub back : (i : ℕ) → 0 < i → i ≤ at → Back queue i
  back i pos b = record { earlier = linked i pos b; shorter = rw (word_step i pos b, length-append) (omega arith) }
