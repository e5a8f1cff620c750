-- What would be taken on a reading, as the steps answer it.
use mathlib.Core.Path.{◌≡◌, sym, subst, ◌∙◌}
use mathlib.Core.Bool.{Bool, false}
use mathlib.Core.Logic.{◌↔◌, ◌≢◌}
use mathlib.Core.List.{List}
use Prim.Native.Nat.{ℕ, suc, ◌^◌, ◌<◌}
use native.Mathlib.Decide.{ℕ_discrete}
use native.Mathlib.Omega.{arith}
use borrow.Author.Tests.{ne_eqb}
use lib.Dec.{T}
use lib.ListN.{length, get_or, set, replicate, length-set, length-replicate}
use lib.Seq.{get_or-set_same, get_or-set_other}
use Rattle.sdtd.specs.Limits.{most_tags, most_states}
use Rattle.sdtd.specs.Schema.{WithinLimits}
use Rattle.sdtd.specs.Schema.{Schema as Meaning}
use Rattle.sdtd.specs.Tree.{plain, nil}
use Rattle.sdtd.specs.Document.{Event, opening, closing, finish}
use Rattle.sdtd.specs.Calls.{IsTaken}
use Rattle.sdtd.proofs.Answers.{AllHold, ordered_taken}
use Rattle.sdtd.proofs.Basics.{◌&◌}
use Rattle.schema.specs.Value.{meaning}
use Rattle.schema.specs.declared.value.Schema.{Schema}
use Rattle.schema.proofs.FirstTables.{Fits}
use Rattle.schema.proofs.Values.{same_everywhere}
use Rattle.reading.specs.declared.value.Reading.{Reading}
use Rattle.reading.specs.declared.steps.Inner.{Inner}
use Rattle.reading.specs.declared.event_file.WalkEnd.{WalkEnd}
use Rattle.reading.specs.declared.stop.Stop.{Stop}
use Rattle.reading.specs.Levels.{Within}
use Rattle.reading.specs.Questions.{refuses, questions, TakenBy, CallMeans, Next}
use Rattle.reading.specs.Steps.{inner_of, close_step}
use Rattle.reading.specs.Turns.{Ended}
use Rattle.std.specs.Prelude.{Result, Ok, Err, is_ok}
use Rattle.sdtd.specs.declared.Refused.{Refused}
use Rattle.reading.specs.Calls.{taken_of}
use Rattle.reading.specs.Stop.{WouldTake, TellsTags, StopMeans}
use Rattle.reading.proofs.LevelLaws.{inner_tag}
use Rattle.reading.proofs.OneAnswer.{call_unique}
use Rattle.reading.proofs.StepLaws.{close_step_means}

-- the answer is no refusal
abbrev pub Took : Next → Type 0
Took n = IsTaken (n.answer)

-- A call would be taken exactly if what it gets is no refusal.
pub taken_told : (S : Meaning) (r : Reading) (x : Event) (n : Next) → CallMeans S r x n → Took n ↔ WouldTake S r x
taken_told S r x n m = (λ t. (n, m, t), λ w. subst Took (call_unique S r x w.1 m) w.2)

not_refused : (r : Reading) (n : Next) → Took n → (k : ℕ) → n ≢ refuses r k
not_refused r n t k e = subst Took e t

-- the code's answer to a closing or a finish is no refusal exactly if it is `Ok`
pub ok_took : {A : Type 0} (r : Result A Refused) → T (is_ok r) ↔ IsTaken (taken_of r)
ok_took (Ok x) = (λ t. tt, λ t. tt)
ok_took (Err why) = (λ t. t, λ t. t)

-- Where a call would be taken, each of its questions is answered yes.
pub would_hold : (S : Meaning) (r : Reading) (x : Event) → WouldTake S r x → AllHold (questions S r x)
would_hold S r (opening κ g) (n, m, t) =
    let no = not_refused r n t in
    (ordered_taken (TakenBy S r (opening κ g)) (questions S r (opening κ g)) (no 10 & no 11 & no 12 & no 13 & no 14 & tt) m).0
would_hold S r (closing g) (n, m, t) =
    let no = not_refused r n t in
    (ordered_taken (TakenBy S r (closing g)) (questions S r (closing g)) (no 10 & no 11 & no 12 & no 15 & no 16 & no 17 & tt) m).0
would_hold S r finish (n, m, t) =
    let no = not_refused r n t in
    (ordered_taken (TakenBy S r finish) (questions S r finish) (no 10 & no 11 & no 18 & tt) m).0

-- outside the limits no call is taken
pub none_taken : (S : Meaning) (r : Reading) → ¬ WithinLimits S → (x : Event) → ¬ WouldTake S r x
none_taken S r out (opening κ g) w = out (would_hold S r (opening κ g) w).0.schema
none_taken S r out (closing g) w = out (would_hold S r (closing g) w).0.schema
none_taken S r out finish w = out (would_hold S r finish w).0.schema

-- the entries below g tell whether their numbers have the property, and the others are false
pub record ToldBelow (P : ℕ → Type 0) (g : ℕ) (flags : List Bool) : Type 0 where
  pub entries : length flags ≡ most_tags
  pub exactly : (k : ℕ) → T (get_or flags k false) ↔ ((k < g) × P k)

module _ (P : ℕ → Type 0) where
  pub told_none : ToldBelow P 0 (replicate most_tags false)
  told_none =
      record {
        entries = length-replicate most_tags false;
        exactly = λ k. (λ t. absurd (subst T (same_everywhere false most_tags k) t), λ p. absurd (omega (arith, p.0)));
      }

  pub told_next : {g : ℕ} {flags : List Bool} (b : Bool) → g < most_tags → ToldBelow P g flags → T b ↔ P g → ToldBelow P (suc g) (set flags g b)
  told_next {g} {flags} b l told tells =
      record {
        entries = length-set flags g b ∙ told.entries;
        exactly = λ k. elim (ℕ_discrete k g) [
          | yes e ↦ subst (λ (k : ℕ). T (get_or (set flags g b) k false) ↔ ((k < suc g) × P k)) (sym e) here
          | no n ↦ there k n
        ];
      }
    where
      here : T (get_or (set flags g b) g false) ↔ ((g < suc g) × P g)
      here =
          rw (get_or-set_same flags g b false (omega (arith, told.entries))) (λ t. (omega arith, tells.0 t), λ p. tells.1 p.1)

      there : (k : ℕ) → k ≢ g → T (get_or (set flags g b) k false) ↔ ((k < suc g) × P k)
      there k n =
          rw (get_or-set_other flags g k b false n) (
            λ t. let p = (told.exactly k).0 t in (omega (arith, p.0), p.1),
            λ p. (told.exactly k).1 (omega (arith, p.0), p.1),
          )

  -- no number from g on has it
  pub told_all : {g : ℕ} {flags : List Bool} → ToldBelow P g flags → ((k : ℕ) → P k → k < g) → TellsTags P flags
  told_all told below =
      record { entries = told.entries; exactly = λ k. (λ t. ((told.exactly k).0 t).1, λ p. (told.exactly k).1 (below k p, p)) }

-- A closing would be taken exactly if one of the innermost element's own tag is.
module _ {v : Schema} {r : Reading} (fits : Fits v) (within : Within (meaning v) r) (sets : (n : ℕ) → get_or r.sets n 0 < 2 ^ most_states) where
  abbrev Closes : ℕ → Type 0
  Closes g = WouldTake (meaning v) r (closing g)

  abbrev own_inner : Inner
  own_inner = inner_of v.tag v.nillable v.accepting r

  own_tag : {g : ℕ} → Closes g → g ≡ own_inner.tag.0
  unfolding inner_of
  own_tag {g} w =
      let h = would_hold (meaning v) r (closing g) w in
      let d : 0 < r.depth = h.1.1.1.0 in
      rw (ne_eqb r.depth 0 (λ e. omega arith)) (sym h.1.1.1.1.0 ∙ inner_tag v r within d)

  pub closing_told : (own : Inner) → own ≡ own_inner → (n : Next) → n ≡ close_step own v.tags r own.tag.0 → Took n ↔ ((g : ℕ) × Closes g)
  closing_told own is n step =
      let g = own_inner.tag.0 in
      let told = taken_told (meaning v) r (closing g) n (rw (step, is) (close_step_means fits within sets g)) in
      (λ t. (g, told.0 t), λ w. told.1 (subst Closes (own_tag w.1) w.1))

-- The walk has ended there: what it came to is told, with what would be taken on the reading there.
module _ {v : Schema} {file : List ℕ} {end : WalkEnd} (ended : Ended v file end) where
  abbrev Takes : Event → Type 0
  Takes x = WouldTake (meaning v) end.reading x

  -- what holds of the reading there, of the passage's
  of_last : (P : Reading → Type 0) → P end.reading → P ended.passage.last
  of_last P p = subst P ended.reading p

  pub stop_means : (r : Stop) → r.number ≡ end.told.number → r.place ≡ end.told.place → r.reading ≡ end.reading
      → TellsTags (λ g. Takes (opening plain g)) r.opens → TellsTags (λ g. Takes (opening nil g)) r.opens_nil
      → T r.closes ↔ ((g : ℕ) × Takes (closing g)) → T r.finishes ↔ Takes finish → StopMeans (meaning v) file r
  stop_means r number place reading opens opens_nil closes finishes =
      record {
        passage = ended.passage;
        passes = ended.passes;
        told =
            record {
              number = number ∙ ended.number;
              place = place ∙ ended.place;
              reading = reading ∙ ended.reading;
              opens = of_last (λ l. TellsTags (λ g. WouldTake (meaning v) l (opening plain g)) r.opens) opens;
              opens_nil = of_last (λ l. TellsTags (λ g. WouldTake (meaning v) l (opening nil g)) r.opens_nil) opens_nil;
              closes = of_last (λ l. T r.closes ↔ ((g : ℕ) × WouldTake (meaning v) l (closing g))) closes;
              finishes = of_last (λ l. T r.finishes ↔ WouldTake (meaning v) l finish) finishes;
            };
      }
