-- Laws of the numbers that tell by which kinds of opening a type bears a tree.
use mathlib.Core.Logic.{⊎_elim, inl, inr}
use mathlib.Core.Bool.{◌&&◌}
use Prim.Native.Nat.{ℕ}
use lib.Dec.{T}
use Rattle.sdtd.specs.Tree.{Kind, plain, nil}
use Rattle.sdtd.proofs.Tests.{Means, itself, and_means, or_means}
use Rattle.schema.specs.Ways.{opens_by}
use Rattle.competition.specs.Rivals.{open_alike}

-- a kind that both numbers have
pub record Common (w v : ℕ) : Type 0 where
  pub kind : Kind
  pub first : T (opens_by kind w)
  pub second : T (opens_by kind v)

module _ (w v : ℕ) where
  both_have : (κ : Kind) → Means (opens_by κ w && opens_by κ v) (T (opens_by κ w) × T (opens_by κ v))
  both_have κ = and_means (itself (opens_by κ w)) (itself (opens_by κ v))

  pub common : T (open_alike w v) → Common w v
  common t =
      ⊎_elim
      (λ p. record { kind = nil; first = p.0; second = p.1 })
      (λ p. record { kind = plain; first = p.0; second = p.1 })
      ((or_means (both_have nil) (both_have plain)).says t)

  pub has_common : (κ : Kind) → T (opens_by κ w) → T (opens_by κ v) → T (open_alike w v)
  has_common plain t u = (or_means (both_have nil) (both_have plain)).passes (inr (t, u))
  has_common nil t u = (or_means (both_have nil) (both_have plain)).passes (inl (t, u))

pub alike_swap : (w v : ℕ) → T (open_alike w v) → T (open_alike v w)
alike_swap w v t = let c = common w v t in has_common v w c.kind c.second c.first
