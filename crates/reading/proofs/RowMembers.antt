-- An entry is in the row of a state exactly where it stands there.
use mathlib.Core.Path.{◌≡◌, sym, subst, ◌∙◌}
use mathlib.Core.Logic.{◌↔◌}
use mathlib.Core.List.{List, Memᴰ}
use Prim.Native.Nat.{ℕ, suc, ◌+◌, ◌-◌, ◌<◌}
use native.Mathlib.Omega.{arith}
use lib.ListN.{length, get_or, drop}
use Rattle.std.proofs.lemmas.List.{length-take}
use Rattle.std.proofs.lemmas.List.Edits.{length-between, get_or-between}
use Rattle.sdtd.proofs.Basics.{get_or_member}
use Rattle.schema.specs.Rows.{row_place, InRow, row_of}
use Rattle.schema.specs.declared.row.Rows.{Rows}

-- the place of a member
place_of : {x : ℕ} (xs : List ℕ) → Memᴰ x xs → (k : ℕ) × (k < length xs) × (get_or xs k 0 ≡ x)
place_of xs (Memᴰ.head e) = (0, omega arith, sym e)
place_of xs (Memᴰ.tail {xs = ys} m) = let p = place_of ys m in (suc p.0, omega (arith, p.1), p.2)

module _ (t : Rows) (a p : ℕ) where
  abbrev row : List ℕ
  row = row_of t.entries.now t.begins.now a p

  abbrev start : ℕ
  start = get_or t.begins.now (row_place a p) 0

  abbrev end : ℕ
  end = get_or t.begins.now (suc (row_place a p)) 0

  pub row_mem : (e : ℕ) → Memᴰ e row ↔ InRow t.entries.now t.begins.now (row_place a p) e
  row_mem e = (
    λ m.
        let (k, below, is) = place_of row m in
        let most : start + k < end = omega (arith, below, length-take (end - start) (drop start t.entries.now)) in
        record { place = start + k; least = omega arith; most = most; is = sym (get_or-between t.entries.now start end k 0 most) ∙ is },
    λ r.
        let k : ℕ = r.place - start in
        let room = t.inside (suc (row_place a p)) in
        let long = length-between t.entries.now start end (omega (arith, t.sized)) in
        let same : start + k ≡ r.place = omega (arith, r.least) in
        let is : get_or row k 0 ≡ e = get_or-between t.entries.now start end k 0 (omega (arith, r.least, r.most)) ∙ rw same r.is in
        subst (λ (x : ℕ). Memᴰ x row) is (get_or_member row k 0 (omega (arith, r.least, r.most))),
  )
