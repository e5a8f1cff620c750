-- Document 02, Req 07, "What would have been taken".
use Rattle.std.specs.Prelude.{◌≡◌, ◌↔◌, ◌⊎◌, Bool, true, false, ℕ, ◌-◌, ◌*◌, ◌<◌, T, length, take, replicate}
use mathlib.Core.List.{List, [], ◌++◌, map, Memᴰ}
use Rattle.sdtd.specs.Limits.{most_tags, most_levels}
use Rattle.sdtd.specs.Lists.{Rising}
use Rattle.sdtd.specs.Schema.{Schema}
use Rattle.sdtd.specs.Tree.{Kind, plain, nil}
use Rattle.sdtd.specs.Document.{opening, closing, finish}
use Rattle.sdtd.specs.Answer.{Verdict}
use Rattle.events.specs.Events.{events_of}
use Rattle.reading.specs.Levels.{fresh}
use Rattle.reading.specs.Passage.{Passage, Passes}
use Rattle.reading.specs.EventFile.{by_calls, number_of, place_of}
use Rattle.reading.specs.Stop.{WouldTake}
use Rattle.reading.specs.declared.value.Reading.{Reading}
use Rattle.expected.specs.declared.Expected.{Expected}

-- an opening that is listed: a tag with a kind
pub record Listed : Type 0 where
  pub kind : Kind
  pub tag : ℕ

-- "rising by tag, plain before nil": a strict order, so that none is listed twice
abbrev pub Before : Listed → Listed → Type 0
Before x y = (x.tag < y.tag) ⊎ ((x.tag ≡ y.tag) × (x.kind ≡ plain) × (y.kind ≡ nil))

-- "the types of the open elements from the root down": those of the open levels
abbrev pub open_types : Reading → List ℕ
open_types r = take r.depth r.types

-- What is answered where a walk stopped, before it is laid out in a value.
pub record Answered : Type 0 where
  pub verdict : Verdict
  pub types : List ℕ
  pub openings : List Listed
  pub closes : Bool
  pub finishes : Bool

-- What is answered of the walk that comes to the passage p: "the types of the open elements from the root down, each tag with each kind of opening
-- that would have been taken at that point, rising by tag, plain before nil, and whether a closing or a finish would have been. Exactly these are
-- listed, as the reading decides".
pub record AnswerFits (S : Schema) (p : Passage Reading) (a : Answered) : Type 0 where
  pub verdict : a.verdict ≡ p.verdict
  pub types : a.types ≡ open_types p.last
  pub listed : (κ : Kind) (g : ℕ) → Memᴰ (record { kind = κ; tag = g }) a.openings ↔ WouldTake S p.last (opening κ g)
  pub rising : Rising Before a.openings
  pub closes : T a.closes ↔ ((g : ℕ) × WouldTake S p.last (closing g))
  pub finishes : T a.finishes ↔ WouldTake S p.last finish

-- nothing is open, and nothing would be taken
abbrev pub nothing : Verdict → Answered
nothing v = record { verdict = v; types = []; openings = []; closes = false; finishes = false }

-- two kinds for each tag
abbrev pub most_openings : ℕ
most_openings = 2 * most_tags

-- the entries first, and as many more as make n of them
abbrev pub padded : {A : Type 0} → ℕ → A → List A → List A
padded n x xs = xs ++ replicate (n - length xs) x

abbrev pub as_nil : Kind → Bool
as_nil plain = false
as_nil nil = true

-- the answer as a value, of a file of so many bytes: entries past the counts are 0
abbrev pub laid_out : ℕ → Answered → Expected
laid_out end a =
    record {
      number = number_of a.verdict;
      place = place_of end a.verdict;
      depth = length a.types;
      types = padded most_levels 0 a.types;
      count = length a.openings;
      tags = padded most_openings 0 (map (λ (x : Listed). x.tag) a.openings);
      nils = padded most_openings false (map (λ (x : Listed). as_nil x.kind) a.openings);
      closes = a.closes;
      finishes = a.finishes;
    }

-- What the call answers for any schema value and any event file, refused or not: "the file is walked with no types' buffer, so without 20".
pub record ExpectedMeans (S : Schema) (file : List ℕ) (r : Expected) : Type 0 where
  pub passage : Passage Reading
  pub passes : Passes (by_calls S) fresh 0 (events_of file) passage
  pub answered : Answered
  pub fits : AnswerFits S passage answered
  pub laid_out : r ≡ laid_out (length file) answered
