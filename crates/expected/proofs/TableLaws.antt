-- The tables of an answer: how many of their entries count, and that the others are 0.
use mathlib.Core.Path.{◌≡◌, refl, sym, ap, subst, ◌∙◌}
use mathlib.Core.Bool.{false}
use mathlib.Core.List.{List, ◌++◌, map}
use Prim.Native.Nat.{ℕ, ◌-◌, ◌≤◌}
use lib.ListN.{length, length-map, take, drop, replicate}
use lib.Seq.{drop_at}
use native.Mathlib.Omega.{arith}
use Rattle.std.proofs.lemmas.List.{drop-replicate, length-take-le}
use Rattle.sdtd.specs.Limits.{most_levels}
use Rattle.sdtd.specs.Schema.{Schema}
use Rattle.expected.specs.declared.Expected.{Expected}
use Rattle.expected.specs.Expected.{Listed, Answered, most_openings, padded, as_nil, laid_out, ExpectedMeans}
use Rattle.expected.proofs.AnswerLaws.{depth_most, count_most}

-- of a table of `most` entries the first n count, and the rest are x
pub record Counted {A : Type 0} (most : ℕ) (x : A) (n : ℕ) (table : List A) : Type 0 where
  pub enough : n ≤ most
  pub rest : drop n table ≡ replicate (most - n) x

pub record Tables (e : Expected) : Type 0 where
  pub types : Counted most_levels 0 e.depth e.types
  pub tags : Counted most_openings 0 e.count e.tags
  pub nils : Counted most_openings false e.count e.nils

counted : {A : Type 0} (most : ℕ) (x : A) (xs : List A) {n : ℕ} → length xs ≡ n → n ≤ most → Counted most x n (padded most x xs)
counted most x xs {n} e l =
    record { enough = l; rest = drop_at xs (replicate (most - length xs) x) n e ∙ ap (λ (k : ℕ). replicate (most - k) x) e }

pub laid_tables : (end : ℕ) (a : Answered) → length a.types ≤ most_levels → length a.openings ≤ most_openings → Tables (laid_out end a)
laid_tables end a k l =
    record {
      types = counted most_levels 0 a.types refl k;
      tags = counted most_openings 0 (map (λ (x : Listed). x.tag) a.openings) (length-map a.openings (λ (x : Listed). x.tag)) l;
      nils = counted most_openings false (map (λ (x : Listed). as_nil x.kind) a.openings)
          (length-map a.openings (λ (x : Listed). as_nil x.kind)) l;
    }

-- Each element that is open and each opening that is listed has its entry, and the entries past them are 0.
pub expected_tables : {S : Schema} {file : List ℕ} {e : Expected} → ExpectedMeans S file e → Tables e
expected_tables {file = file} m =
    subst Tables (sym m.laid_out)
    (laid_tables (length file) m.answered (subst (λ (e : Expected). e.depth ≤ most_levels) m.laid_out (depth_most m))
    (subst (λ (e : Expected). e.count ≤ most_openings) m.laid_out (count_most m)))

-- the first entries over a table of zeros
pub kept_padded : (types : List ℕ) (depth : ℕ) → length types ≡ most_levels → depth ≤ most_levels
    → take depth types ++ drop depth (replicate most_levels 0) ≡ padded most_levels 0 (take depth types)
kept_padded types depth long inside =
    rw (drop-replicate {X = ℕ} depth most_levels 0, length-take-le depth types (omega (arith, long))) refl
