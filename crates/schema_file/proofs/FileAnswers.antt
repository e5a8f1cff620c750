-- The answer to a schema file: there is at most one, and it is a refusal for competition exactly where the schema is ambiguous.
use mathlib.Core.Path.{◌≡◌, refl, sym, subst, ◌∙◌}
use mathlib.Core.Logic.{inl, inr}
use mathlib.Core.List.{List, [], ◌∷◌}
use Prim.Native.Nat.{ℕ, ◌≤◌}
use native.Mathlib.Omega.{arith}
use lib.ListN.{length}
use Rattle.std.specs.Prelude.{Result, Ok}
use Rattle.sdtd.specs.Limits.{least_witness}
use Rattle.sdtd.specs.Document.{SomeValid}
use Rattle.sdtd.specs.Schema.{Schema as Meaning}
use Rattle.sdtd.specs.Reduced.{EveryTypeUsed}
use Rattle.sdtd.specs.Competition.{Competition}
use Rattle.sdtd.specs.Competition.{Accepted as IsAccepted}
use Rattle.sdtd.specs.Answer.{ask, Ordered, Verdict, fine, refused_at, verdict_of}
use Rattle.sdtd.specs.declared.Refusal.{Refusal}
use Rattle.sdtd.proofs.Answers.{ordered_unique}
use Rattle.sdtd.proofs.Ambiguity.{competition_is_ambiguity}
use Rattle.sdtd.proofs.Trimming.{root_bears}
use Rattle.sdtd.proofs.Verdicts.{refused_not_fine}
use Rattle.commands.specs.File.{Stated, Commands, stopped, states, commands, schema_by, unknown, StatesSchema, OldWithOneRoot, most_bytes}
use Rattle.schema.specs.Value.{meaning}
use Rattle.schema.specs.declared.value.Schema.{Schema}
use Rattle.schema_file.specs.Answer.{after_done, AnswerBy, AnswerIs, BufferBy, OfStated, FileMeans, Demand3File}
use Rattle.commands.specs.Value.{StatedValue}
use Rattle.commands.proofs.StatedLimits.{stated_within}
use Rattle.commands.proofs.Lengths.{longest}
use Rattle.competition.proofs.Answers.{witness_competes}
use Rattle.schema_file.proofs.AfterDone.{AfterDone, unknown_type, treeless, unused, competing, accepted, after_cases}

-- at most one answer where the buffer is long enough
by_unique : (x : Commands) {a b : Verdict} → AnswerBy x a → AnswerBy x b → a ≡ b
by_unique (stopped n p) r s = r ∙ sym s
by_unique (states g) r s = ordered_unique (λ c. c ≡ fine) (after_done g) (λ all u v. u ∙ sym v) r s

-- a file has at most one answer
pub file_unique : (file was : List ℕ) {a b : Verdict} → AnswerIs file was a → AnswerIs file was b → a ≡ b
file_unique file was r s =
    ordered_unique (AnswerBy (commands file)) (ask (refused_at 1 0) (least_witness ≤ length was) ∷ []) (λ all u v. by_unique (commands file) u v) r s

-- the answer where the questions before 9 hold
last_question : (g : Stated) {a : Verdict} → unknown g ≡ [] → SomeValid (schema_by g) → EveryTypeUsed (schema_by g) → AfterDone g a
    → Ordered (ask (refused_at 9 0) (¬ Competition (schema_by g)) ∷ []) (λ b. b ≡ fine) a
last_question g known some used (unknown_type n e) = absurd (n known)
last_question g known some used (treeless k n e) = absurd (n (root_bears.1 some))
last_question g known some used (unused k b f) = absurd (f.unused (used f.type (omega (arith, f.below))))
last_question g known some used (competing k b u c e) = inl (c, e)
last_question g known some used (accepted k b u n e) = inr (n, e)

-- the answer to question 9, with a competition where it is refused for one
demanded : {S : Meaning} {a : Verdict} → Ordered (ask (refused_at 9 0) (¬ Competition S) ∷ []) (λ b. b ≡ fine) a
    → (a ≡ refused_at 9 0 → Competition S) → Demand3File S a
demanded (inl o) found =
    record {
      refused = (λ e. competition_is_ambiguity.0 (found e), λ m. o.1);
      accepted = (λ e. refused_not_fine o.1 e, λ n. absurd (o.0 (λ c. n (competition_is_ambiguity.0 c))));
      either = inl o.1;
    }
demanded (inr o) found =
    record {
      refused = (λ e. refused_not_fine e o.1, λ m. absurd (o.0 (competition_is_ambiguity.1 m)));
      accepted = (λ e m. o.0 (competition_is_ambiguity.1 m), λ n. o.1);
      either = inr o.1;
    }

-- the same of a file that passes questions 1 to 7 and 21 to 23
demanded_of : (file was is : List ℕ) {g : Stated} {a : Verdict} → commands file ≡ states g → unknown g ≡ []
    → least_witness ≤ length was → SomeValid (schema_by g) → EveryTypeUsed (schema_by g) → AnswerIs file was a → BufferBy (commands file) was is a
    → Demand3File (schema_by g) a
demanded_of file was is e known l some used (inl o) buffer = absurd (o.0 l)
demanded_of file was is {g} {a} e known l some used (inr o) buffer =
    let witness = (subst (λ (x : Commands). BufferBy x was is a) e buffer).0 in
    demanded (last_question g known some used (after_cases g a (subst (λ (x : Commands). AnswerBy x a) e o.1)))
    (λ n. witness_competes (witness n).witness)

-- What the call promises of competition is what is demanded. That there is a competition where the file is refused for one is read off the witness.
pub file_ambiguous : {file was is : List ℕ} {r : Result Schema Refusal} {S : Meaning} → FileMeans file was is r → StatesSchema file S
    → least_witness ≤ length was → SomeValid S → EveryTypeUsed S → Demand3File S (verdict_of r)
file_ambiguous {file} {was} {is} {r} m x l some used =
    subst (λ (R : Meaning). Demand3File R (verdict_of r)) x.schema
    (demanded_of file was is x.passes x.known l (subst SomeValid (sym x.schema) some) (subst EveryTypeUsed (sym x.schema) used)
    m.answer m.buffer)

-- an accepted file: it states the schema of the value, which is inside the limits and passes questions 8, 24 and 9, and if it has
-- one ROOT and only old commands it is no longer than 8,389 bytes
pub record AcceptedFile (file : List ℕ) (v : Schema) : Type 0 where
  pub states : StatesSchema file (meaning v)
  pub schema : IsAccepted (meaning v)
  pub used : EveryTypeUsed (meaning v)
  pub short : OldWithOneRoot file → length file ≤ most_bytes

module _ (file : List ℕ) {g : Stated} {v : Schema} (e : commands file ≡ states g) (s : StatedValue g v) where
  accepted_after : AfterDone g fine → AcceptedFile file v
  accepted_after (unknown_type n o) = refused_not_fine o refl
  accepted_after (treeless k n o) = refused_not_fine o refl
  accepted_after (unused k b f) = refused_not_fine f.answer refl
  accepted_after (competing k b u c o) = refused_not_fine o refl
  accepted_after (accepted k b u n o) =
      let same = sym s.schema in
      record {
        states = record { stated = g; passes = e; known = k; schema = same };
        schema = subst IsAccepted same (record { within = stated_within file g e k; bears = b; no_competition = n });
        used = subst EveryTypeUsed same u;
        short = λ old. longest file old g e;
      }

accepted_by : (file : List ℕ) (k : Commands) {v : Schema} → commands file ≡ k → AnswerBy k fine → OfStated k (λ g. StatedValue g v)
    → AcceptedFile file v
accepted_by file (stopped n p) e r s = refused_not_fine r refl
accepted_by file (states g) e r s = accepted_after file e s (after_cases g fine r)

-- The schema of an accepted file is inside question 10's limits and accepted, and a valid document uses each of its types; a file with
-- one ROOT and only old commands is no longer than 8,389 bytes.
pub accepted_file : {file was is : List ℕ} {v : Schema} → FileMeans file was is (Ok v) → AcceptedFile file v
accepted_file {file} {was} {is} {v} m = from m.answer
  where
    from : AnswerIs file was fine → AcceptedFile file v
    from (inl o) = refused_not_fine o.1 refl
    from (inr o) = accepted_by file (commands file) refl o.1 m.schema
