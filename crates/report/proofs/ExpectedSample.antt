-- What is printed for R and a second opening of tag 2: the passage of its events, what would have been taken after it, and the text.
use mathlib.Core.Path.{◌≡◌, refl, sym, ap, subst, ◌∙◌}
use mathlib.Core.Logic.Iff
use mathlib.Core.Logic.{◌↔◌}
use mathlib.Core.Bool.{true, false}
use mathlib.Core.List.Memᴰ
use mathlib.Core.List.{List, [], ◌∷◌, ◌++◌, Memᴰ}
use Prim.Native.Nat.{ℕ, zero, suc, ◌-◌}
use native.Mathlib.Omega.{arith}
use borrow.Author.Tests.{le-ltb}
use lib.ListN.{length, take, replicate}
use lib.Seq.{take_at}
use Rattle.sdtd.specs.Limits.{least_witness, most_levels}
use Rattle.sdtd.specs.Samples.{schema_r}
use Rattle.sdtd.specs.Schema.{block_of}
use Rattle.sdtd.specs.Schema.{Schema as Meaning}
use Rattle.sdtd.specs.Tree.{Kind, plain, nil, Tree, node, empty, more}
use Rattle.sdtd.specs.Document.{Event, opening, closing, finish, document, Valid, BeginningOf}
use Rattle.sdtd.specs.Answer.{Answer, refused, typed, taken, refused_at}
use Rattle.sdtd.specs.Reading.{Right}
use Rattle.sdtd.specs.Calls.{IsTaken, if_taken}
use Rattle.sdtd.proofs.Answers.{right_unique}
use Rattle.sdtd.proofs.Decide.{accepts_means}
use Rattle.sdtd.proofs.Machine.{Frame, top, own, frame, start}
use Rattle.sdtd.proofs.Position.{Position}
use Rattle.sdtd.proofs.Model.{model, model_right, model_next, fresh_position}
use Rattle.sdtd.proofs.SampleSchemas.{live_r, exact_r, accepted_r}
use Rattle.std.specs.Prelude.{Ok}
use Rattle.sdtd.proofs.Verdicts.{told_value}
use Rattle.schema.specs.Value.{meaning}
use Rattle.schema_file.specs.Answer.{FileMeans}
use Rattle.commands.specs.File.{StatesSchema}
use Rattle.schema_file.specs.Samples.{file_r}
use Rattle.schema_file.proofs.FileAnswers.{accepted_file}
use Rattle.schema_file.proofs.FileSamples.{files_state}
use Rattle.events.specs.Events.{events_of}
use Rattle.reading.specs.declared.value.Reading.{Reading}
use Rattle.reading.specs.Passage.{taken_call, Passage, stops, before, Passes}
use Rattle.reading.specs.EventMeaning.{by_documents}
use Rattle.reading.specs.Stop.{WouldTake}
use Rattle.reading.proofs.Keeping.{After}
use Rattle.reading.proofs.CallAnswers.{call_answered}
use Rattle.reading.proofs.AnswerExists.{call_exists}
use Rattle.reading.proofs.Passages.{OneAnswer, passes_unique}
use Rattle.reading.proofs.EventWalk.{passage_judged}
use Rattle.expected.specs.Expected.{Listed, Answered, open_types, laid_out, ExpectedMeans}
use Rattle.expected.specs.Meaning.{open_types_in}
use Rattle.expected.specs.declared.Expected.{Expected}
use Rattle.expected.proofs.AnswerLaws.{expected_unique}
use Rattle.expected.proofs.ByDocuments.{expected_judged}
use Rattle.typing.specs.Samples.{third}
use Rattle.typing.proofs.SamplesHold.{samples_hold}
use Rattle.std.specs.Fmt.{digits}
use Rattle.report.specs.Text.{refusal_line}
use Rattle.report.specs.ExpectedText.{inside_line, open_line, end_lines, taken_lines, expected_text, expected_text_of}
use Rattle.report.specs.Samples.{ExpectedSample}
use Rattle.report.proofs.PrintedLaws.{short_job, long_enough}

-- the events taken, and the frames after them
abbrev events_third : List Event
events_third = opening plain 0 ∷ opening plain 2 ∷ closing 2 ∷ []

abbrev frames_third : List Frame
frames_third = frame (own plain 0) (2 ∷ []) ∷ frame top (0 ∷ []) ∷ []

first_frames : Position schema_r [] start
first_frames = fresh_position accepted_r.bears

rooted : Position schema_r (opening plain 0 ∷ []) (frame (own plain 0) [] ∷ frame top (0 ∷ []) ∷ [])
rooted = model_next accepted_r.no_competition exact_r first_frames (opening plain 0)

child_open : Position schema_r (opening plain 0 ∷ opening plain 2 ∷ []) (frame (own plain 2) [] ∷ frames_third)
child_open = model_next accepted_r.no_competition exact_r rooted (opening plain 2)

position_third : Position schema_r events_third frames_third
position_third = model_next accepted_r.no_competition exact_r child_open (closing 2)

right_R : {e : List Event} {fs : List Frame} → Position schema_r e fs → (x : Event) → Right schema_r e x (model schema_r live_r e fs x)
right_R p x = model_right accepted_r.no_competition exact_r p x

abbrev passage_third : Passage (List Event)
passage_third =
    before (taken_call 0 (opening plain 0) (typed 0))
    (before (taken_call 2 (opening plain 2) (typed 2)) (before (taken_call 4 (closing 2) taken) (stops (refused_at 13 6) events_third)))

-- each event gets the model's answer, and there is no other passage
walk_third : Passes (by_documents schema_r) [] 0 (events_of third.bytes) passage_third
walk_third = (
  typed 0,
  _,
  (right_R first_frames (opening plain 0), refl),
  (
    _,
    (
      typed 2,
      _,
      (right_R rooted (opening plain 2), refl),
      (
        _,
        (
          taken,
          _,
          (right_R child_open (closing 2), refl),
          (
            _,
            (refused 13, events_third, (right_R position_third (opening plain 2), refl), refl),
            refl,
          ),
        ),
        refl,
      ),
    ),
    refl,
  ),
)

one_right : OneAnswer (by_documents schema_r)
one_right e x a b after later (r, k) (s, l) =
    let same = right_unique schema_r e x r s in
    (same, k ∙ ap (λ (c : Answer). e ++ if_taken c x) same ∙ sym l)

passage_third_lem : {q : Passage (List Event)} → Passes (by_documents schema_r) [] 0 (events_of third.bytes) q → q ≡ passage_third
passage_third_lem f = passes_unique (by_documents schema_r) one_right [] 0 (events_of third.bytes) f walk_third

-- the model takes the call after these events
abbrev TakesThird : Event → Type 0
TakesThird x = IsTaken (model schema_r live_r events_third frames_third x)

-- a call on the reading after them would be taken exactly then
would_third : {r : Reading} → After schema_r events_third r → (x : Event) → WouldTake schema_r r x ↔ TakesThird x
would_third {r} k x = (
  λ (n, m, t). subst IsTaken (right_unique schema_r events_third x (call_answered accepted_r k x m).right (right_R position_third x)) t,
  λ t.
      let (n, m) = call_exists schema_r r x in
      (n, m, subst IsTaken (right_unique schema_r events_third x (right_R position_third x) (call_answered accepted_r k x m).right) t),
)

abbrev open_one : Listed
open_one = record { kind = plain; tag = 1 }

-- of the openings only a plain one of tag 1
opens_third : (κ : Kind) (g : ℕ) → TakesThird (opening κ g) → record { kind = κ; tag = g } ≡ open_one
opens_third plain zero t = absurd t
opens_third nil zero t = absurd t
opens_third plain (suc zero) t = refl
opens_third nil (suc zero) t = absurd t
opens_third plain (suc (suc zero)) t = absurd t
opens_third nil (suc (suc zero)) t = absurd t
opens_third κ (suc (suc (suc g))) t = absurd (rw (le-ltb (suc (suc (suc g))) 3 (omega arith)) at t)

listed_third : (κ : Kind) (g : ℕ) → Memᴰ (record { kind = κ; tag = g }) (open_one ∷ []) ↔ TakesThird (opening κ g)
listed_third κ g = (
  λ m. subst (λ (x : Listed). TakesThird (opening x.kind x.tag)) (sym (Memᴰ.eq_of_singleton m)) tt,
  λ t. Memᴰ.head (opens_third κ g t),
)

-- a document with this beginning
abbrev tree_third : Tree
tree_third = node plain 0 (more (node plain 2 empty) empty)

abbrev valid_third : Valid schema_r (document tree_third)
valid_third =
    record {
      tree = tree_third;
      is_document = refl;
      typing = record {
        typed = tree_third;
        is_typing = record {
          own_tags = refl;
          root = Memᴰ.head refl;
          derived = ((accepts_means (block_of schema_r 0) (2 ∷ [])).says tt, (((accepts_means (block_of schema_r 2) []).says tt, tt), tt));
        };
      };
    }

-- a value shows the types that it was made of
shown : (end : ℕ) (a : Answered) → take (laid_out end a).depth (laid_out end a).types ≡ a.types
shown end a = take_at a.types (replicate (most_levels - length a.types) 0) (length a.types) refl

types_third : {r : Expected} (m : ExpectedMeans schema_r third.bytes r) → 0 ∷ [] ≡ open_types m.passage.last
types_third {r} m =
    let j = expected_judged accepted_r third.bytes r m in
    let end = length third.bytes in
    let walk = passage_third_lem j.judged in
    let beginning : BeginningOf j.passage.last (document tree_third) =
    record {
      rest = closing 0 ∷ finish ∷ [];
      splits = ap (λ (q : Passage (List Event)). q.last ++ (closing 0 ∷ finish ∷ [])) (sym walk);
    } in
    ap (λ (q : Passage (List Event)). open_types_in q.last valid_third) (sym walk)
    ∙ sym (j.types (document tree_third) valid_third beginning)
    ∙ sym (shown end j.answered)
    ∙ ap (λ (o : Expected). take o.depth o.types) (sym j.laid_out ∙ m.laid_out)
    ∙ shown end m.answered
    ∙ m.fits.types

abbrev answered_third : Answered
answered_third = record { verdict = refused_at 13 6; types = 0 ∷ []; openings = open_one ∷ []; closes = true; finishes = false }

expected_third : {r : Expected} → ExpectedMeans schema_r third.bytes r → r ≡ laid_out (length third.bytes) answered_third
expected_third m =
    let (q, judged, same) = passage_judged accepted_r third.bytes m.passage m.passes in
    let walk = passage_third_lem judged in
    let k = subst (λ (p : Passage (List Event)). After schema_r p.last m.passage.last) walk same.last in
    expected_unique m
    (record {
      passage = m.passage;
      passes = m.passes;
      answered = answered_third;
      fits = record {
        verdict = ap (λ (p : Passage (List Event)). p.verdict) (sym walk) ∙ same.verdict;
        types = types_third m;
        listed = λ κ g. Iff.trans (listed_third κ g) (Iff.symm (would_third k (opening κ g)));
        rising = tt;
        closes = (λ t. (0, (would_third k (closing 0)).1 tt), λ w. tt);
        finishes = (λ t. absurd t, λ w. (would_third k finish).0 w);
      };
      laid_out = refl;
    })

pub expected_sample : ExpectedSample
unfolding digits refusal_line inside_line open_line end_lines taken_lines expected_text
expected_sample other x =
    let a = short_job (omega arith) (omega arith) x in
    let j = a.means in
    let (v, is) = told_value (samples_hold.0.0 _ _ _ (long_enough least_witness) j.schema_file).0 in
    let read = subst (FileMeans file_r.bytes (replicate least_witness 0) a.witness) is j.schema_file in
    let given : StatesSchema file_r.bytes (meaning v) = (accepted_file read).states in
    let stated : StatesSchema file_r.bytes schema_r = files_state.first in
    let same : meaning v ≡ schema_r = cc in
    let (r, q, m) = j.accepted v is in
    let e = expected_third (subst (λ (S : Meaning). ExpectedMeans S third.bytes r) same m) in
    a.prints ∙ ap (expected_text_of a.witness) (q ∙ ap (λ (x : Expected). Ok x) e)
