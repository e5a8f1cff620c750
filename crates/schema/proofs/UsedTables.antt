-- The types that exact tables say are reached and bear a tree are exactly those that a valid document uses.
use mathlib.Core.Path.{◌≡◌, ap, ◌∙◌}
use mathlib.Core.Bool.{Bool, false, ◌&&◌}
use Prim.Native.Nat.{ℕ, ◌≤◌, ◌<◌}
use native.Mathlib.Decide.{dec_lt}
use native.Mathlib.Nat.{zero-add}
use native.Mathlib.Omega.{arith}
use lib.ListN.{length, get_or, length-map, get_or-eq_default}
use Rattle.sdtd.specs.Limits.{most_types}
use Rattle.sdtd.specs.Schema.{Schema, WithinLimits}
use Rattle.sdtd.specs.Reduced.{TellsUsed}
use Rattle.sdtd.proofs.Basics.{and_parts, and_both}
use Rattle.sdtd.proofs.Trimming.{used_useful}
use Rattle.sdtd.proofs.Ambiguity.{useful_used}
use Rattle.sdtd.proofs.Within.{bears_within}
use Rattle.schema.specs.Value.{up_from}
use Rattle.schema.specs.Ways.{bears_in}
use Rattle.schema.specs.Trimming.{Exact, used_in}
use Rattle.schema.specs.declared.tables.Trimming.{Trimming}
use Rattle.schema.proofs.Values.{up_count, map_up}
use Rattle.schema.proofs.WaysLaws.{bears_for}

module _ (t : Trimming) where
  abbrev is_used : ℕ → Bool
  is_used a = get_or t.reached a false && bears_in t.ways a

  pub used_long : length (used_in t) ≡ most_types
  used_long = length-map (up_from 0 most_types) is_used ∙ up_count 0 most_types

  pub used_at : (a : ℕ) → a < most_types → get_or (used_in t) a false ≡ is_used a
  used_at a l = map_up is_used false 0 most_types a l ∙ ap is_used (zero-add a)

  pub used_exactly : {S : Schema} → WithinLimits S → Exact S t → TellsUsed S (λ a. get_or (used_in t) a false)
  used_exactly {S} within exact a = elim (dec_lt a most_types) [
    | yes l ↦
        let says = and_parts (get_or t.reached a false) (bears_in t.ways a) in
        let bears = bears_for (exact.ways a) in
        rw (used_at a l) (
          λ u. let p = says u in useful_used ((exact.reached a).0 p.0, bears.0 p.1),
          λ u. let p = used_useful u in and_both (get_or t.reached a false) (bears_in t.ways a) ((exact.reached a).1 p.0) (bears.1 p.1),
        )
    | no n ↦
        let past : length (used_in t) ≤ a = rw used_long (omega arith) in
        rw (get_or-eq_default (used_in t) false past) (
          λ f. absurd f,
          λ u. absurd (n (omega (arith, (bears_within within (used_useful u).1).0, within.types_most))),
        )
  ]
