-- `expected::expect_next` meets its contract.
use mathlib.Core.Path.{◌≡◌, refl, sym, ap, subst}
use mathlib.Core.Logic.Iff
use mathlib.Core.Logic.{◌↔◌}
use mathlib.Core.Bool.{Bool}
use mathlib.Core.List.{List, Memᴰ}
use Prim.Native.Nat.{ℕ}
use native.Mathlib.Omega.{arith}
use lib.Dec.{T}
use lib.Seq.{length-take-le}
use Rattle.sdtd.specs.Limits.{most_levels}
use Rattle.sdtd.specs.Schema.{Schema}
use Rattle.sdtd.specs.Tree.{Kind, plain, nil}
use Rattle.sdtd.specs.Document.{opening}
use Rattle.reading.specs.declared.stop.Stop.{Stop}
use Rattle.reading.specs.Stop.{WouldTake, StopMeans}
use Rattle.reading.proofs.Keeping.{Sized}
use Rattle.expected.specs.declared.list.Listing.{Listing}
use Rattle.expected.specs.Expected.{Answered, AnswerFits, open_types, padded, ExpectedMeans}
use Rattle.expected.specs.Listing.{listed, listed_by, flags_in, listing}
use Rattle.expected.proofs.ListLaws.{listed_exactly, listed_rises, flags_below}
use Rattle.expected.proofs.PassageLaws.{passage_sized}
use Rattle.expected.proofs.expect_next.Goals as goal

-- what is told of the stop, listed
module _ {S : Schema} {file : List ℕ} {s : Stop} (m : StopMeans S file s) where
  sized : Sized s.reading
  sized = subst Sized (sym m.told.reading) (passage_sized S file m.passage m.passes)

  abbrev flags : Kind → ℕ → Bool
  flags = flags_in s.opens s.opens_nil

  abbrev answered : Answered
  answered =
      record {
        verdict = m.passage.verdict;
        types = open_types s.reading;
        openings = listed_by flags;
        closes = s.closes;
        finishes = s.finishes;
      }

  listed_taken : (κ : Kind) (g : ℕ) → Memᴰ (listed κ g) (listed_by flags) ↔ WouldTake S m.passage.last (opening κ g)
  listed_taken κ g =
      Iff.trans
      (listed_exactly flags (flags_below s.opens s.opens_nil m.told.opens.entries m.told.opens_nil.entries) κ g)
      (told_taken κ)
    where
      told_taken : (κ : Kind) → T (flags κ g) ↔ WouldTake S m.passage.last (opening κ g)
      told_taken plain = m.told.opens.exactly g
      told_taken nil = m.told.opens_nil.exactly g

  answer_fits : AnswerFits S m.passage answered
  answer_fits =
      record {
        verdict = refl;
        types = ap open_types m.told.reading;
        listed = listed_taken;
        rising = listed_rises flags;
        closes = m.told.closes;
        finishes = m.told.finishes;
      }

  -- laid out
  answer_means : {types : List ℕ} {l : Listing} → types ≡ padded most_levels 0 (open_types s.reading)
      → l ≡ listing (listed_by flags)
      → ExpectedMeans S file
      (record {
        number = s.number;
        place = s.place;
        depth = s.reading.depth;
        types = types;
        count = l.count;
        tags = l.tags;
        nils = l.nils;
        closes = s.closes;
        finishes = s.finishes;
      })
  answer_means t e =
      let long = length-take-le s.reading.depth s.reading.types (omega (arith, sized.depth, sized.types)) in
      record {
        passage = m.passage;
        passes = m.passes;
        answered = answered;
        fits = answer_fits;
        laid_out = λ i.
            record {
              number = m.told.number i;
              place = m.told.place i;
              depth = sym long i;
              types = t i;
              count = (e i).count;
              tags = (e i).tags;
              nils = (e i).nils;
              closes = s.closes;
              finishes = s.finishes;
            };
      }

pub open_types-types-requires : goal.open_types-types-requires
open_types-types-requires c = rw c.from-depth.ensures (sized c.pass_events-stop.ensures).depth

pub returns : goal.returns
returns c =
    rw c.from-depth.ensures
    (answer_means c.pass_events-stop.ensures (rw c.from-depth.ensures at c.open_types-types.ensures) c.list_openings-list.ensures)
