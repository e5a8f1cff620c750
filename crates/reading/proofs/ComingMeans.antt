-- What a call asks of the type that comes next.
use mathlib.Core.Logic.{◌↔◌}
use Prim.Native.Nat.{ℕ, ◌^◌, ◌≤◌, ◌<◌}
use lib.Dec.{T}
use Rattle.sdtd.specs.Limits.{most_states}
use Rattle.sdtd.specs.Schema.{Schema as Meaning}
use Rattle.sdtd.specs.Tree.{Kind}
use Rattle.schema.specs.States.{member}
use Rattle.reading.specs.declared.value.Reading.{Reading}
use Rattle.std.specs.Prelude.{Some, None}
use Rattle.reading.specs.Coming.{Coming}
use Rattle.reading.specs.Questions.{LeadsTo, CanOpen}

-- the type j is the smallest that can be opened so under the tag g, and it leads to the states kept
pub record ComesNext (S : Meaning) (r : Reading) (κ : Kind) (g j kept : ℕ) : Type 0 where
  pub can_open : CanOpen S r κ g j
  pub smallest : (k : ℕ) → CanOpen S r κ g k → j ≤ k
  pub kept_below : kept < 2 ^ most_states
  pub keeps : 0 < r.depth → (q : ℕ) → T (member q kept) ↔ LeadsTo S r j q

abbrev pub ComingMeans : Meaning → Reading → Kind → ℕ → Coming → Type 0
ComingMeans S r κ g None = (j : ℕ) → ¬ CanOpen S r κ g j
ComingMeans S r κ g (Some c) = ComesNext S r κ g c.0.0 c.1.0
