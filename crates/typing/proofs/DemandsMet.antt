-- The demands are met.
use mathlib.Core.Path.{◌≡◌, refl, sym, subst}
use mathlib.Core.Logic.{inl, inr, ⊎_elim}
use mathlib.Core.List.{List, []}
use Prim.Native.Nat.{ℕ}
use native.Mathlib.Omega.{arith}
use lib.ListN.{length}
use Rattle.std.specs.Prelude.{Result, Ok}
use Rattle.schema.specs.Value.{meaning}
use Rattle.sdtd.specs.Schema.{WithinLimits}
use Rattle.sdtd.specs.Schema.{Schema as Meaning}
use Rattle.sdtd.specs.Document.{Ambiguous}
use Rattle.sdtd.proofs.Ambiguity.{competition_is_ambiguity}
use Rattle.sdtd.proofs.Unique.{same_types}
use Rattle.sdtd.proofs.Trimming.{trimmed_same, trimmed_valid}
use Rattle.sdtd.proofs.ReachedTypes.{trimmed_exists}
use Rattle.schema.proofs.TablesTrim.{tables_trim}
use Rattle.competition.specs.Search.{Written}
use Rattle.commands.specs.File.{Stated, Commands, stopped, states, commands, schema_by, unknown, StatesSchema}
use Rattle.commands.proofs.StatedLimits.{stated_within}
use Rattle.commands.proofs.StatedExpressions.{stated_written}
use Rattle.schema_file.specs.Answer.{AnswerBy, OfStated, FileMeans}
use Rattle.sdtd.specs.Answer.{Verdict, refused_at, verdict_of}
use Rattle.sdtd.specs.declared.Refusal.{Refusal}
use Rattle.schema.specs.declared.value.Schema.{Schema}
use Rattle.competition.proofs.Answers.{written_competes}
use Rattle.schema_file.proofs.FileAnswers.{file_ambiguous, AcceptedFile, accepted_file}
use Rattle.schema_file.proofs.UnusedTypes.{file_unused}
use Rattle.schema_file.proofs.FileExists.{one_file_answer, buffer_exists}
use Rattle.reading.proofs.AnswerExists.{one_answer}
use Rattle.reading.proofs.OneAnswer.{refused_unchanged}
use Rattle.reading.proofs.ListOfCalls.{list_meets, whole_meets}
use Rattle.reading.specs.Levels.{fresh}
use Rattle.events.specs.Events.{events_of}
use Rattle.reading.specs.Passage.{Passes}
use Rattle.reading.specs.EventFile.{by_calls, verdict_with, types_with, EventsMean}
use Rattle.reading.proofs.EventWalk.{passage_unique, passage_exists, events_exist, events_unique}
use Rattle.reading.proofs.EventTheory.{event_file_meets}
use Rattle.typing.specs.Demands.{One, AnswerAndBuffer, Demand1, Demand2, Demand2File, Demand3, NotTestable}

one_passage : (S : Meaning) (file : List ℕ) → One (Passes (by_calls S) fresh 0 (events_of file))
one_passage S file =
    let (p, f) = passage_exists S fresh 0 (events_of file) in
    record { it = p; has = f; only = λ q g. passage_unique S fresh 0 (events_of file) g f }

-- the answer and the buffer
answered : (S : Meaning) (file was : List ℕ) → One (λ (a : AnswerAndBuffer). EventsMean S file was a.buffer a.answer)
answered S file was =
    let (r, is, m) = events_exist S file was in
    record {
      it = record { answer = r; buffer = is };
      has = m;
      only = λ o h. let same = events_unique h m in λ i. record { answer = same.0 i; buffer = same.1 i };
    }

pub demand_1 : Demand1
demand_1 =
    record {
      file = λ file was. let a = one_file_answer file was in record { it = a.0; has = a.1; only = λ b h. sym (a.2 b h) };
      lent = buffer_exists;
      left = λ file was is f m. m.buffer;
      call = λ v r x. let a = one_answer (meaning v) r x in record { it = a.0; has = a.1; only = λ b h. sym (a.2 b h) };
      unchanged = λ v r x n number m e. refused_unchanged (meaning v) r x m e;
      events = λ v file. one_passage (meaning v) file;
      events_lent = λ v file was. answered (meaning v) file was;
    }

pub demand_2 : Demand2
demand_2 file was is v m xs calls = whole_meets (accepted_file m).schema xs calls

pub demand_2_file : Demand2File
demand_2_file file was is v m events lent after r e = (
  verdict_with (length lent) e.passage,
  types_with (length lent) e.passage,
  e.told,
  event_file_meets (accepted_file m).schema events (length lent) e.passage e.passes,
)

pub demand_3 : Demand3
demand_3 file was is r m =
    let given : (v : Schema) → r ≡ Ok v → AcceptedFile file v = λ v q. accepted_file (subst (FileMeans file was is) q m) in
    record {
      refused_exactly = λ S l states some used. file_ambiguous m states l some used;
      every_used = λ v q. (given v q).used;
      unused_refused = λ l p. file_unused m l p;
      states = λ v q. (given v q).states;
      written = λ v q. stated_written (given v q).states;
      calls = λ v q xs calls. list_meets (given v q).schema xs calls;
    }

-- a file that is answered 9 has passed question 7
nine_known : (g : Stated) (a : Verdict) → a ≡ refused_at 9 0 → AnswerBy (states g) a → unknown g ≡ []
nine_known g a q (inl o) = let z : ◌≡◌ {A = ℕ} 9 7 = cc in absurd (omega arith)
nine_known g a q (inr o) = o.0

-- it states a schema, which is ambiguous: its witness shows two rivals
nine_ambiguous : (file was is : List ℕ) (k : Commands) → commands file ≡ k → (a : Verdict) → a ≡ refused_at 9 0 → AnswerBy k a
    → OfStated k (λ g. Written (schema_by g) was is) → (S : Meaning) × StatesSchema file S × Ambiguous S
nine_ambiguous file was is (stopped n p) e a q b w = absurd w
nine_ambiguous file was is (states g) e a q b w = (
  schema_by g,
  record { stated = g; passes = e; known = nine_known g a q b; schema = refl },
  competition_is_ambiguity.0 (written_competes w),
)

refused_ambiguous : {file was is : List ℕ} {r : Result Schema Refusal} → FileMeans file was is r → verdict_of r ≡ refused_at 9 0
    → (S : Meaning) × StatesSchema file S × Ambiguous S
refused_ambiguous {file} {was} {is} {r} m q =
    ⊎_elim (λ o. let z : ◌≡◌ {A = ℕ} 9 1 = cc in absurd (omega arith))
    (λ o. nine_ambiguous file was is (commands file) refl (verdict_of r) q o.1 (m.buffer.0 q)) m.answer

-- a schema that a file states is inside the limits
states_within : {file : List ℕ} {S : Meaning} → StatesSchema file S → WithinLimits S
states_within {file} x = subst WithinLimits x.schema (stated_within file x.stated x.passes x.known)

pub not_testable : NotTestable
not_testable file was is r m =
    let given : (v : Schema) → r ≡ Ok v → AcceptedFile file v = λ v q. accepted_file (subst (FileMeans file was is) q m) in
    record {
      one_reading = λ v q two. (given v q).schema.no_competition (competition_is_ambiguity.1 two);
      had_to_be = refused_ambiguous m;
      keeps_type = λ v q e d₁ d₂ v₁ v₂. same_types (given v q).schema.no_competition v₁ v₂ e;
      trimmed = λ S x. trimmed_exists S;
      by_tables = λ S x t tables. tables_trim (tables.exact (states_within x));
      same_documents = λ S S' x t d. let s = trimmed_valid t d in (λ v. (s.0 v).valid, λ v. (s.1 v).valid);
      same_typings = λ S S' x t. trimmed_same t;
    }
