-- A list, the last first, in a table: what stands there, and what is set behind it.
use mathlib.Core.Path.{◌≡◌, ◌∙◌}
use mathlib.Core.List.{List, [], ◌∷◌}
use Prim.Native.Nat.{ℕ, suc, ◌≤◌, ◌<◌}
use native.Mathlib.Omega.{arith}
use lib.ListN.{length, get_or, set, replicate, length-set, length-replicate}
use lib.Seq.{get_or-set_same, get_or-set_other}
use Rattle.schema.proofs.Values.{same_everywhere}
use Rattle.commands.specs.Value.{HoldsFrom}

-- the list, the last first, stands in the table from its start on
abbrev pub StandsIn : {A : Type 0} → A → List A → List A → Type 0
StandsIn d table [] = Unit
StandsIn d table (x ∷ xs) = (get_or table (length xs) d ≡ x) × StandsIn d table xs

-- The table of so many entries holds the list, and past it d.
pub record Standing {A : Type 0} (d : A) (most : ℕ) (table xs : List A) : Type 0 where
  pub long : length table ≡ most
  pub few : length xs ≤ most
  pub holds : StandsIn d table xs
  pub empty : HoldsFrom d (length xs) table

pub none_stands : {A : Type 0} (d : A) (most : ℕ) → Standing d most (replicate most d) []
none_stands d most =
    record {
      long = length-replicate most d;
      few = omega arith;
      holds = tt;
      empty = λ i l. same_everywhere d most i;
    }

module _ {A : Type 0} {d : A} {most : ℕ} where
  -- d stands behind the list already
  pub next_stands : {table xs : List A} → Standing d most table xs → length xs < most → Standing d most table (d ∷ xs)
  next_stands {xs = xs} h l =
      record {
        long = h.long;
        few = l;
        holds = (h.empty (length xs) (omega arith), h.holds);
        empty = λ i k. h.empty i (omega arith);
      }

  -- v is set behind the list, where nothing stands past its place
  pub set_stands : (table xs : List A) (v : A) → length table ≡ most → length xs < most → StandsIn d table xs → HoldsFrom d (suc (length xs)) table
      → Standing d most (set table (length xs) v) (v ∷ xs)
  set_stands table xs v long l h empty =
      record {
        long = length-set table (length xs) v ∙ long;
        few = l;
        holds = (get_or-set_same table (length xs) v d (omega arith), keep xs (omega arith) h);
        empty = λ i k. get_or-set_other table (length xs) i v d (omega arith) ∙ empty i (omega arith);
      }
    where
      keep : (ys : List A) → length ys ≤ length xs → StandsIn d table ys → StandsIn d (set table (length xs) v) ys
      keep [] m k = tt
      keep (y ∷ ys) m k = (get_or-set_other table (length xs) (length ys) v d (omega arith) ∙ k.0, keep ys (omega arith) k.1)
