-- What each answer of the calls about competition means.
use mathlib.Core.Path.{◌≡◌, refl, ap, ◌∙◌}
use mathlib.Core.Logic.{inl, inr}
use mathlib.Core.Bool.{true, false}
use mathlib.Core.List.{List, ◌++◌}
use Prim.Native.Nat.{ℕ, ◌+◌, ◌*◌, ◌/◌, ◌%◌, ◌≤◌, ◌<◌}
use native.Mathlib.Omega.{arith}
use lib.ListN.{length}
use Rattle.sdtd.specs.Limits.{least_witness}
use Rattle.sdtd.specs.Schema.{Schema, WithinLimits}
use Rattle.sdtd.specs.Competition.{Competition, of_roots, in_type, Witness, by_roots, by_types}
use Rattle.sdtd.specs.Numbered.{type_no}
use Rattle.sdtd.proofs.Witnesses.{parts_of}
use Rattle.competition.specs.Witness.{head_of}
use Rattle.competition.specs.Search.{Written, SearchMeans}
use Rattle.competition.specs.Queue.{CompetesMeans}

-- a witness shows a competition
pub witness_competes : {S : Schema} {bytes : List ℕ} → Witness S bytes → Competition S
witness_competes (by_roots w) = of_roots (record { first = w.first; second = w.second; compete = w.compete })
witness_competes (by_types none w) = in_type (record { word = w.word; first = w.first; second = w.second; compete = w.compete })

pub written_competes : {S : Schema} {was is : List ℕ} → Written S was is → Competition S
written_competes w = witness_competes w.witness

-- the head of a witness's bytes, whatever follows them
pub head_written : {S : Schema} {bytes : List ℕ} (w : Witness S bytes) (rest : List ℕ)
    → head_of (bytes ++ rest)
    ≡ record {
      of = type_no (parts_of w).parent;
      first = type_no (parts_of w).first;
      second = type_no (parts_of w).second;
      word = length (parts_of w).word;
    }
head_written w rest =
    let p = parts_of w in
    let long : length p.word % 256 + 256 * (length p.word / 256) ≡ length p.word = omega arith in
    ap (λ (l : List ℕ). head_of (l ++ rest)) p.written
    ∙ (λ i. record { of = type_no p.parent; first = type_no p.first; second = type_no p.second; word = long i })

module _ (S : Schema) (was : List ℕ) where
  pub short_searched : length was < least_witness → SearchMeans S was was 1
  short_searched l =
      record { answer = inl (λ h. omega arith, refl); written = λ e. absurd (omega arith); unchanged = λ d. refl }

  module _ (long : least_witness ≤ length was) where
    pub outside_searched : ¬ WithinLimits S → SearchMeans S was was 10
    outside_searched o =
        record { answer = inr (long, inl (o, refl)); written = λ e. absurd (omega arith); unchanged = λ d. refl }

    module _ (within : WithinLimits S) where
      pub competing_searched : {is : List ℕ} → CompetesMeans S was is true → SearchMeans S was is 9
      competing_searched w =
          record {
            answer = inr (long, inr (within, inl (λ n. n (written_competes w), refl)));
            written = λ e. w;
            unchanged = λ d. absurd (d refl);
          }

      pub restrained_searched : {is : List ℕ} → CompetesMeans S was is false → SearchMeans S was is 0
      restrained_searched n =
          record {
            answer = inr (long, inr (within, inr (n.0, refl)));
            written = λ e. absurd (omega arith);
            unchanged = λ d. n.1;
          }
