-- The table of nillable types: what it holds of the blocks so far, the last first.
use mathlib.Core.Path.{◌≡◌}
use mathlib.Core.Bool.{Bool, true, false}
use mathlib.Core.List.{List, [], ◌∷◌, map}
use Prim.Native.Nat.{ℕ, suc, ◌≤◌, ◌<◌}
use native.Mathlib.Omega.{arith}
use lib.ListN.{length, get_or, set, length-map}
use Rattle.sdtd.specs.Limits.{most_types}
use Rattle.commands.specs.File.{Draft, current, with_nil, in_current}
use Rattle.commands.specs.Building.{last_type}
use Rattle.commands.proofs.Standing.{Standing, next_stands, set_stands}

-- which blocks have a NIL
abbrev pub flags : List Draft → List Bool
flags ds = map (λ (d : Draft). d.nillable) ds

pub flags_count : (ds : List Draft) → length (flags ds) ≡ length ds
flags_count ds = length-map ds (λ (d : Draft). d.nillable)

-- the table holds that of each type, and past them false
abbrev pub NilTable : List Bool → List Draft → Type 0
NilTable table ds = Standing false most_types table (flags ds)

module _ (table : List Bool) where
  -- what is done to the block that the file is in leaves the table, if it leaves the flag
  pub nil_same : (f : Draft → Draft) (ds : List Draft) → ((d : Draft) → (f d).nillable ≡ d.nillable) → NilTable table ds
      → NilTable table (in_current f ds)
  nil_same f [] e h = h
  nil_same f (d ∷ ds) e h = rw (e d) h

  -- a new block has none
  pub nil_type : (ds : List Draft) → length ds < most_types → NilTable table ds → Standing false most_types table (false ∷ flags ds)
  nil_type ds l h = next_stands h (omega (arith, flags_count ds))

  -- the flag of the block that the file is in; before the first there is none
  pub current_nil : {types : ℕ} (ds : List Draft) → types ≡ length ds → types ≤ most_types → NilTable table ds
      → get_or table (last_type types) false ≡ (current ds).nillable
  current_nil {types} [] e l h = h.empty (last_type types) (omega arith)
  current_nil {types} (d ∷ ds) e l h =
      let a : last_type types ≡ length (flags ds) = omega (arith, flags_count ds) in
      rw a h.holds.0

  -- it has one now
  pub nil_more : (a : ℕ) (ds : List Draft) → suc a ≡ length ds → NilTable table ds → NilTable (set table a true) (in_current with_nil ds)
  nil_more a [] e h = absurd (omega arith)
  nil_more a (d ∷ ds) e h =
      let n : a ≡ length (flags ds) = omega (arith, flags_count ds) in
      rw n (set_stands table (flags ds) true h.long h.few h.holds.1 h.empty)
