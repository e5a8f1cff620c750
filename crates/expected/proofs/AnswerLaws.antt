-- The answer for every schema and every event file: there is one; after a finish nothing is open and nothing is listed, and so for the number 0.
use mathlib.Core.Path.{◌≡◌, refl, sym, ap, subst, ◌∙◌}
use mathlib.Core.Logic.Iff
use mathlib.Core.Logic.{◌↔◌, inl, inr}
use mathlib.Core.Bool.{Bool, true, true≢false, false≢true}
use mathlib.Core.List.Memᴰ
use mathlib.Core.List.{List}
use Prim.Native.Nat.{ℕ, ◌≤◌}
use native.Mathlib.Omega.{arith}
use lib.Dec.{T}
use lib.ListN.{length}
use lib.Seq.{length-take-le}
use Rattle.sdtd.specs.Limits.{most_tags, most_levels}
use Rattle.sdtd.specs.Schema.{Schema}
use Rattle.sdtd.specs.Tree.{Kind, plain, nil}
use Rattle.sdtd.specs.Document.{Event, opening, closing, finish}
use Rattle.sdtd.specs.Answer.{Verdict, fine}
use Rattle.sdtd.proofs.Basics.{same_test}
use Rattle.sdtd.proofs.EachLaws.{rising_same}
use Rattle.sdtd.proofs.Tests.{Decision}
use Rattle.events.specs.Events.{events_of}
use Rattle.reading.specs.declared.value.Reading.{Reading}
use Rattle.reading.specs.Levels.{fresh}
use Rattle.reading.specs.Passage.{Passage}
use Rattle.reading.specs.EventFile.{number_of}
use Rattle.reading.specs.Stop.{WouldTake}
use Rattle.reading.proofs.EventWalk.{passage_unique, passage_exists}
use Rattle.expected.specs.declared.Expected.{Expected}
use Rattle.expected.specs.Expected.{Listed, Before, open_types, Answered, AnswerFits, nothing, most_openings, as_nil, laid_out, ExpectedMeans}
use Rattle.expected.specs.Listing.{listed_by}
use Rattle.expected.proofs.ListLaws.{below_most, listed_exactly, listed_rises}
use Rattle.expected.proofs.TakenLaws.{taken_unfinished, taken_below, would_decided, closes_decided}
use Rattle.expected.proofs.PassageLaws.{zero_finished, passage_sized, finished_closed}

-- the listed openings are in a strict order
plain_or_nil : {κ : Kind} → κ ≡ plain → κ ≡ nil → ⊥
plain_or_nil e d = false≢true (ap as_nil (sym e ∙ d))

before_trans : (x y z : Listed) → Before x y → Before y z → Before x z
before_trans x y z (inl l) (inl m) = inl (omega arith)
before_trans x y z (inl l) (inr m) = inl (omega (arith, m.0))
before_trans x y z (inr l) (inl m) = inl (omega (arith, l.0))
before_trans x y z (inr l) (inr m) = absurd (plain_or_nil m.1 l.2)

before_strict : (x : Listed) → Before x x → ⊥
before_strict x (inl l) = omega arith
before_strict x (inr l) = plain_or_nil l.1 l.2

same_flag : {P : Type 0} (a b : Bool) → T a ↔ P → T b ↔ P → a ≡ b
same_flag a b f g = same_test a b (λ t. g.1 (f.0 t)) (λ t. f.1 (g.0 t))

-- what is answered of a passage is fixed
answered_unique : {S : Schema} {p : Passage Reading} {a b : Answered} → AnswerFits S p a → AnswerFits S p b → a ≡ b
answered_unique {a = a} {b = b} f g i =
    record {
      verdict = (f.verdict ∙ sym g.verdict) i;
      types = (f.types ∙ sym g.types) i;
      openings = rising_same before_trans before_strict a.openings b.openings f.rising g.rising
          (λ x. Iff.trans (f.listed x.kind x.tag) (Iff.symm (g.listed x.kind x.tag))) i;
      closes = same_flag a.closes b.closes f.closes g.closes i;
      finishes = same_flag a.finishes b.finishes f.finishes g.finishes i;
    }

told : {A : Type 0} (d : Decision A) → T d.0 ↔ A
told d = (d.1.says, d.1.passes)

-- something is answered
module _ (S : Schema) (p : Passage Reading) where
  abbrev taking : (x : Event) → Decision (WouldTake S p.last x)
  taking x = would_decided S p.last x

  answered_exists : (a : Answered) × AnswerFits S p a
  answered_exists =
      let closes = closes_decided S p.last in (
        record {
          verdict = p.verdict;
          types = open_types p.last;
          openings = listed_by (λ κ g. (taking (opening κ g)).0);
          closes = closes.0;
          finishes = (taking finish).0;
        },
        record {
          verdict = refl;
          types = refl;
          listed = λ κ g.
              Iff.trans
              (listed_exactly (λ κ g. (taking (opening κ g)).0) (λ κ g t. taken_below S p.last κ g ((taking (opening κ g)).1.says t)) κ g)
              (told (taking (opening κ g)));
          rising = listed_rises (λ κ g. (taking (opening κ g)).0);
          closes = told closes;
          finishes = told (taking finish);
        },
      )

-- Every schema with every event file has an answer.
pub expected_exists : (S : Schema) (file : List ℕ) → (r : Expected) × ExpectedMeans S file r
expected_exists S file =
    let (p, f) = passage_exists S fresh 0 (events_of file) in
    let (a, g) = answered_exists S p in
    (laid_out (length file) a, record { passage = p; passes = f; answered = a; fits = g; laid_out = refl })

-- It has no other.
pub expected_unique : {S : Schema} {file : List ℕ} {r₁ r₂ : Expected} → ExpectedMeans S file r₁ → ExpectedMeans S file r₂ → r₁ ≡ r₂
expected_unique {S} {file} m n =
    let same = passage_unique S fresh 0 (events_of file) n.passes m.passes in
    let fits = subst (λ (p : Passage Reading). AnswerFits S p n.answered) same n.fits in
    m.laid_out ∙ ap (laid_out (length file)) (answered_unique m.fits fits) ∙ sym n.laid_out

module _ {S : Schema} {file : List ℕ} {r : Expected} (m : ExpectedMeans S file r) where
  -- the number is the walk's
  pub expected_number : r.number ≡ number_of m.passage.verdict
  expected_number = ap (λ (o : Expected). o.number) m.laid_out ∙ ap number_of m.fits.verdict

  -- after a finish nothing is open, and no call would have been taken
  pub finished-nothing : m.passage.last.finished ≡ true → r ≡ laid_out (length file) (nothing m.passage.verdict)
  finished-nothing f = m.laid_out ∙ ap (laid_out (length file)) (answered_unique m.fits fits)
    where
      none : (x : Event) → ¬ WouldTake S m.passage.last x
      none x w = true≢false (sym f ∙ taken_unfinished S m.passage.last x w)

      fits : AnswerFits S m.passage (nothing m.passage.verdict)
      fits =
          record {
            verdict = refl;
            types = rw (finished_closed S file m.passage m.passes f);
            listed = λ κ g. (λ k. absurd (Memᴰ.not-nil k), λ w. absurd (none (opening κ g) w));
            rising = tt;
            closes = (λ t. absurd t, λ w. absurd (none (closing w.0) w.1));
            finishes = (λ t. absurd t, λ w. absurd (none finish w));
          }

  -- the number 0 is that of a file taken whole, after which nothing is left
  pub number_whole : r.number ≡ 0 → r ≡ laid_out (length file) (nothing fine)
  number_whole z =
      let (whole, finished) = zero_finished S fresh 0 (events_of file) m.passage m.passes (sym expected_number ∙ z) in
      finished-nothing finished ∙ ap (λ (v : Verdict). laid_out (length file) (nothing v)) whole

  -- every element that is open and every opening that is listed has its entry
  pub depth_most : r.depth ≤ most_levels
  depth_most =
      let sized = passage_sized S file m.passage m.passes in
      let depth : r.depth ≡ m.passage.last.depth =
      ap (λ (o : Expected). o.depth) m.laid_out ∙ ap length m.fits.types
      ∙ length-take-le m.passage.last.depth m.passage.last.types (omega (arith, sized.depth, sized.types)) in
      omega (arith, sized.depth)

  pub count_most : r.count ≤ most_openings
  unfolding answered_exists
  count_most =
      let same = answered_unique m.fits (answered_exists S m.passage).1 in
      let count : r.count ≡ length (listed_by (λ κ g. (taking S m.passage (opening κ g)).0)) =
      ap (λ (o : Expected). o.count) m.laid_out ∙ ap (λ (a : Answered). length a.openings) same in
      omega (arith, below_most (λ κ g. (taking S m.passage (opening κ g)).0) most_tags)
