-- What each answer of the schema file's call means.
use mathlib.Core.Path.{◌≡◌, refl, sym, subst, ◌∙◌}
use mathlib.Core.Bool.{cond}
use lib.Dec.{eqb}
use mathlib.Core.Logic.{◌≢◌, inl, inr, ⊎_elim}
use mathlib.Core.List.{List, [], ◌∷◌}
use Prim.Native.Nat.{ℕ, ◌≤◌, ◌<◌}
use native.Mathlib.Omega.{arith}
use lib.ListN.{length, get_or}
use Rattle.std.specs.Prelude.{Result, Ok, Err, MatchResult}
use Rattle.sdtd.specs.Limits.{most_types, least_witness}
use Rattle.sdtd.specs.Schema.{Schema as Meaning, WithinLimits}
use Rattle.sdtd.specs.Trim.{SomeRootBears}
use Rattle.sdtd.specs.Reduced.{EveryTypeUsed}
use Rattle.sdtd.specs.Competition.{Competition}
use Rattle.sdtd.specs.Answer.{Ordered, Verdict, fine, refused_at, verdict_of}
use Rattle.sdtd.specs.declared.Refusal.{Refusal}
use Rattle.sdtd.proofs.UsedAsked.{FirstUnused, every_type_ordered}
use Rattle.sdtd.proofs.Verdicts.{same_number, same_place, other_number, refused_not_fine}
use Rattle.schema.specs.Value.{meaning}
use Rattle.competition.specs.Questions.{competition_asked}
use Rattle.competition.specs.Search.{Written, questions_of, ReducedMeans, judged_of}
use Rattle.competition.specs.declared.verdict.Judged.{Judged}
use Rattle.competition.specs.declared.verdict.Judged.TheVariants.{ShortBuffer, Outside, NoRootBears, Unused, Competes}
use Rattle.competition.proofs.Answers.{witness_competes}
use Rattle.schema.specs.declared.value.Schema.{Schema}
use Rattle.commands.specs.File.{Stated, Commands, stopped, states, commands, schema_by, type_place, unknown}
use Rattle.commands.specs.TypePlaces.{place_of_type}
use Rattle.commands.proofs.Passing.{stopped_before}
use Rattle.commands.proofs.StatedLimits.{stated_within}
use Rattle.commands.proofs.TypePlaces.{type_place_stated}
use Rattle.commands.specs.Value.{StatedValue}
use Rattle.commands.specs.Answer.{CommandsBy}
use Rattle.schema_file.specs.Answer.{AnswerIs, AnswerBy, BufferBy, OfStated, FileMeans}
use Rattle.schema_file.specs.Place.{placed}
use Rattle.schema_file.proofs.AfterDone.{UnusedAt, unused, competing, accepted, after_answer}

pub buffer_same : (k : Commands) (was : List ℕ) (n p : ℕ) → n ≢ 9 → BufferBy k was was (refused_at n p)
buffer_same k was n p l = (λ e. absurd (other_number refl l e), λ d. refl)

-- the answer is right, and the buffer after it
abbrev pub Answered : List ℕ → List ℕ → List ℕ → Verdict → Type 0
Answered file was is a = AnswerIs file was a × BufferBy (commands file) was is a

module _ (file was : List ℕ) where
  -- a refusal other than 9 leaves the buffer as it was
  refused : (n p : ℕ) → n ≢ 9 → AnswerIs file was (refused_at n p) → Answered file was was (refused_at n p)
  refused n p l a = (a, buffer_same (commands file) was n p l)

  pub short_answered : length was < least_witness → Answered file was was (refused_at 1 0)
  short_answered l = refused 1 0 (omega arith) (inl (λ h. omega arith, refl))

  module _ (long : least_witness ≤ length was) where
    stopped_answered : {n p : ℕ} → commands file ≡ stopped n p → Answered file was was (refused_at n p)
    stopped_answered {n} {p} e =
        refused n p (λ z. stopped_before file e (omega arith) (omega arith)) (inr (long, subst (λ (k : Commands). AnswerBy k (refused_at n p)) (sym e) refl))

    module _ {g : Stated} (e : commands file ≡ states g) where
      answered : {a : Verdict} → AnswerBy (states g) a → AnswerIs file was a
      answered {a} x = inr (long, subst (λ (k : Commands). AnswerBy k a) (sym e) x)

      unknown_answered : ¬ (unknown g ≡ []) → Answered file was was (refused_at 7 (get_or (unknown g) 0 0))
      unknown_answered d = refused 7 (get_or (unknown g) 0 0) (omega arith) (answered (inl (d, refl)))

      module _ (known : unknown g ≡ []) where
        treeless_answered : ¬ SomeRootBears (schema_by g) → Answered file was was (refused_at 8 0)
        treeless_answered d = refused 8 0 (omega arith) (answered (inr (known, inl (d, refl))))

        module _ (bears : SomeRootBears (schema_by g)) where
          unused_answered : {p : ℕ} → UnusedAt g (refused_at 24 p) → Answered file was was (refused_at 24 p)
          unused_answered {p} f = refused 24 p (omega arith) (answered (after_answer g (refused_at 24 p) (unused known bears f)))

          module _ (used : EveryTypeUsed (schema_by g)) where
            compete_answered : (is : List ℕ) → Written (schema_by g) was is → Answered file was is (refused_at 9 0)
            compete_answered is w = (
              answered (after_answer g (refused_at 9 0) (competing known bears used (λ n. n (witness_competes w.witness)) refl)),
              subst (λ (k : Commands). BufferBy k was is (refused_at 9 0)) (sym e) (λ q. w, λ d. absurd (d refl)),
            )

            accepted_answered : ¬ Competition (schema_by g) → Answered file was was fine
            accepted_answered n = (
              answered (after_answer g fine (accepted known bears used n refl)),
              subst (λ (k : Commands). BufferBy k was was fine) (sym e) (λ q. refused_not_fine q refl, λ d. refl),
            )

-- a refusal that is answered so
pub as_refusal : {file was is : List ℕ} {e : Refusal} {a : Verdict} → verdict_of {A = Schema} (Err e) ≡ a → Answered file was is a
    → FileMeans file was is (Err e)
as_refusal {file} {was} {is} q m =
    let (answer, buffer) = subst (Answered file was is) (sym q) m in
    record { answer = answer; buffer = buffer; schema = tt }

-- The refusal of questions 2 to 7 or 21 to 23 is the file's.
module _ (file was : List ℕ) (long : least_witness ≤ length was) (e : Refusal) where
  by_commands : (k : Commands) → commands file ≡ k → CommandsBy k (Err e) → FileMeans file was was (Err e)
  by_commands (stopped m q) c b = as_refusal b (stopped_answered file was long c)
  by_commands (states g) c (inl b, v) = as_refusal b.1 (unknown_answered file was long c b.0)
  by_commands (states g) c (inr b, v) = refused_not_fine refl b.1

  pub commands_refused : CommandsBy (commands file) (Err e) → FileMeans file was was (Err e)
  commands_refused b = by_commands (commands file) refl b

-- Questions 2 to 7 and 21 to 23 are passed: what the commands state, and its value.
pub record Passed (file : List ℕ) (v : Schema) : Type 0 where
  pub stated : Stated
  pub commands_state : commands file ≡ states stated
  pub known : unknown stated ≡ []
  pub value : StatedValue stated v

module _ (file : List ℕ) (v : Schema) where
  by_passed : (k : Commands) → commands file ≡ k → CommandsBy k (Ok v) → Passed file v
  by_passed (stopped m q) e b = refused_not_fine b refl
  by_passed (states g) e (inl b, s) = refused_not_fine b.1 refl
  by_passed (states g) e (inr b, s) = record { stated = g; commands_state = e; known = b.0; value = s }

  pub commands_passed : CommandsBy (commands file) (Ok v) → Passed file v
  commands_passed b = by_passed (commands file) refl b

-- the answer to a file whose value gets the verdict
abbrev in_file : List ℕ → Verdict → Verdict
in_file file fine = fine
in_file file (refused_at n p) = refused_at n (cond (eqb n 24) (place_of_type file p) p)

in_file_placed : (file : List ℕ) (j : Judged) → verdict_of {A = Schema} (Err (placed file j)) ≡ in_file file (judged_of {A = Unit} (Err j))
in_file_placed file ShortBuffer = refl
in_file_placed file Outside = refl
in_file_placed file NoRootBears = refl
in_file_placed file (Unused a) = refl
in_file_placed file Competes = refl

-- what the questions of a schema inside the limits leave, where the buffer is long enough
abbrev FirstUnusedIn : Meaning → Verdict → Type 0
FirstUnusedIn S r = FirstUnused S 0 (length S.blocks) (λ k. refused_at 24 k) r

judged_cases : {R : Type 0} {S : Meaning} {was is : List ℕ} {r : Verdict} → ReducedMeans S was is r → least_witness ≤ length was → WithinLimits S
    → (¬ SomeRootBears S → r ≡ refused_at 8 0 → R) → (SomeRootBears S → FirstUnusedIn S r → R)
    → (SomeRootBears S → EveryTypeUsed S → r ≡ refused_at 9 0 → R)
    → (SomeRootBears S → EveryTypeUsed S → ¬ Competition S → r ≡ fine → R) → R
judged_cases {R} {S} {was} {is} {r} m long within f8 f24 f9 f0 = by_answer m.answer
  where
    by_answer : Ordered (questions_of S was (length S.blocks)) (λ a. a ≡ fine) r → R
    by_answer (inl o) = absurd (o.0 long)
    by_answer (inr (l, inl o)) = absurd (o.0 within)
    by_answer (inr (l, inr (w, inl o))) = f8 o.0 o.1
    by_answer (inr (l, inr (w, inr (b, o)))) =
        ⊎_elim (λ u. f24 b u) (λ p. ⊎_elim (λ c. f9 b p.0 c.1) (λ n. f0 b p.0 n.0 n.1) p.1)
        ((every_type_ordered (λ k. refused_at 24 k) S (competition_asked (refused_at 9 0) S ∷ []) (λ a. a ≡ fine) r).0 o)

-- the place of a 24 is a type
pub judged_type : {S : Meaning} {was is : List ℕ} {n p : ℕ} → ReducedMeans S was is (refused_at n p) → least_witness ≤ length was → WithinLimits S
    → n ≡ 24 → p < most_types
judged_type {n = n} {p = p} m long within z =
    judged_cases m long within
    (λ d e. absurd (omega (arith, same_number e)))
    (λ b u. omega (arith, same_place u.answer, u.below, within.types_most))
    (λ b u e. absurd (omega (arith, same_number e)))
    (λ b u d e. refused_not_fine refl e)

-- The verdict on the value that the commands gave is the file's.
module _ {file : List ℕ} {v : Schema} (s : Passed file v) (was : List ℕ) (long : least_witness ≤ length was) where
  abbrev stated : Stated
  stated = s.stated

  module _ {is : List ℕ} {r : Verdict} (given : ReducedMeans (meaning v) was is r) where
    m : ReducedMeans (schema_by stated) was is r
    m = subst (λ (S : Meaning). ReducedMeans S was is r) s.value.schema given

    judged_as : {a : Verdict} → r ≡ a → Answered file was is (in_file file a) → Answered file was is (in_file file r)
    judged_as e f = subst (λ (a : Verdict). Answered file was is (in_file file a)) (sym e) f

    -- with another verdict than 9 the buffer is as it was
    unchanged_as : {a : Verdict} → r ≡ a → ¬ (a ≡ refused_at 9 0) → Answered file was was (in_file file a)
        → Answered file was is (in_file file r)
    unchanged_as {a} e n f =
        judged_as e (subst (λ (l : List ℕ). Answered file was l (in_file file a)) (sym (m.unchanged (λ q. n (sym e ∙ q)))) f)

    -- the TYPE of the first type that is not used stands where the file states it
    unused_as : SomeRootBears (schema_by stated) → FirstUnusedIn (schema_by stated) r → Answered file was is (in_file file r)
    unused_as bears u =
        let here = type_place_stated file u.type s.commands_state in
        let first : UnusedAt stated (refused_at 24 (type_place stated u.type)) =
        record { type = u.type; from = u.from; below = u.below; unused = u.unused; before = u.before; answer = refl } in
        unchanged_as u.answer (other_number refl (λ z. omega arith))
        (subst (λ (p : ℕ). Answered file was was (refused_at 24 p)) (sym here) (unused_answered file was long s.commands_state s.known bears first))

    judged_answered : Answered file was is (in_file file r)
    judged_answered =
        judged_cases m long (stated_within file stated s.commands_state s.known)
        (λ d e. unchanged_as e (other_number refl (λ z. omega arith)) (treeless_answered file was long s.commands_state s.known d))
        unused_as
        (λ b u e. judged_as e (compete_answered file was long s.commands_state s.known b u is (m.written e)))
        (λ b u n e. unchanged_as e (λ q. refused_not_fine q refl) (accepted_answered file was long s.commands_state s.known b u n))

  pub judged_refused : {is : List ℕ} (r : Result Unit Judged) → ReducedMeans (meaning v) was is (judged_of r) → (e : Refusal)
      → MatchResult r (λ x. ⊥) (λ j. e ≡ placed file j) → FileMeans file was is (Err e)
  judged_refused (Ok x) given e told = absurd told
  judged_refused (Err j) given e told = rw told (as_refusal (in_file_placed file j) (judged_answered given))

  pub judged_accepted : {is : List ℕ} (r : Result Unit Judged) → ReducedMeans (meaning v) was is (judged_of r) → r ≡ Ok tt → FileMeans file was is (Ok v)
  judged_accepted r given told =
      let (answer, buffer) = judged_answered (rw told at given) in
      record {
        answer = answer;
        buffer = buffer;
        schema = subst (λ (k : Commands). OfStated k (λ g. StatedValue g v)) (sym s.commands_state) s.value;
      }
