-- Laws of rows of entries.
use mathlib.Core.Path.{◌≡◌, refl, sym, ◌∙◌}
use mathlib.Core.Logic.{◌⊎◌, inl, inr}
use mathlib.Core.List.{List, ◌∷◌}
use Prim.Native.Nat.{ℕ, zero, suc, ◌+◌, ◌-◌, ◌<◌}
use native.Mathlib.Decide.{dec_lt}
use native.Mathlib.Omega.{arith}
use lib.ListN.{length, get_or, drop, get_or-eq_default}
use Rattle.std.specs.List.{Contains}
use Rattle.std.proofs.lemmas.Grind.{get_or_default_zero}
use Rattle.std.proofs.lemmas.List.{length-take, length-drop}
use Rattle.std.proofs.lemmas.List.Edits.{get_or-between}
use Rattle.std.proofs.lemmas.List.Elements.{Contains-get_or}
use Rattle.schema.specs.Rows.{row_place, InRow}
use Rattle.schema.specs.Rows.{row_of}

-- an entry of a row stands at its first place or in the rest
pub contains_first : (y : ℕ) (row : List ℕ) → Contains (y ∷ row) y
contains_first y row = (0, omega arith, refl)

pub contains_later : (y : ℕ) (row : List ℕ) (x : ℕ) → Contains row x → Contains (y ∷ row) x
contains_later y row x c = (suc c.0, omega (arith, c.1), c.2)

pub contains_cases : (y : ℕ) (row : List ℕ) (x : ℕ) → Contains (y ∷ row) x → (y ≡ x) ⊎ Contains row x
contains_cases y row x (zero, l, is) = inl is
contains_cases y row x (suc k, l, is) = inr (k, omega arith, is)

-- an entry of the row of a state is one that the beginnings put there
module _ (entries begins : List ℕ) (a p : ℕ) where
  pub in_row : {e : ℕ} → Contains (row_of entries begins a p) e → InRow entries begins (row_place a p) e
  in_row {e} c =
      let s : ℕ = get_or begins (row_place a p) 0 in
      let t : ℕ = get_or begins (suc (row_place a p)) 0 in
      let short = length-take (t - s) (drop s entries) in
      let most : s + c.0 < t = omega (arith, short, c.1) in
      let is : get_or entries (s + c.0) 0 ≡ e =
      sym (get_or-between entries s t c.0 0 most) ∙ sym (get_or_default_zero (row_of entries begins a p) c.0 e c.1) ∙ c.2 in
      record { place = s + c.0; least = omega arith; most = most; is = is }

  -- one that is not 0 stands inside the table, so that the row has it
  pub row_contains : {e : ℕ} → 0 < e → InRow entries begins (row_place a p) e → Contains (row_of entries begins a p) e
  row_contains {e} some r =
      let s : ℕ = get_or begins (row_place a p) 0 in
      let t : ℕ = get_or begins (suc (row_place a p)) 0 in
      let k : ℕ = r.place - s in
      let inside : r.place < length entries =
      elim (dec_lt r.place (length entries)) [
        | yes l ↦ l
        | no n ↦ absurd (omega (arith, some, sym r.is ∙ get_or-eq_default entries 0 {n = r.place} (omega arith)))
      ] in
      let cut = length-take (t - s) (drop s entries) in
      let left = length-drop s entries in
      let below : k < length (row_of entries begins a p) = omega (arith, cut, left, inside, r.least, r.most) in
      let same : s + k ≡ r.place = omega (arith, r.least) in
      let is : get_or (row_of entries begins a p) k 0 ≡ e =
      get_or-between entries s t k 0 (omega (arith, r.least, r.most)) ∙ rw same r.is in
      rw (← is) (Contains-get_or (row_of entries begins a p) k 0 below)
