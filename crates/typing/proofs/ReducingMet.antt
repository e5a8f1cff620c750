-- The writer of schema files does what is asked of it.
use mathlib.Core.Path.{◌≡◌, refl, sym, ap, subst, ◌∙◌}
use mathlib.Core.Logic.{inr}
use mathlib.Core.Bool.{Bool}
use mathlib.Core.List.{List}
use Prim.Native.Nat.{ℕ, ◌≤◌}
use lib.ListN.{length, take, drop}
use lib.Seq.{take-append_seam}
use Rattle.std.specs.Prelude.{Result}
use Rattle.sdtd.specs.Limits.{least_witness}
use Rattle.sdtd.specs.Schema.{Schema as Meaning}
use Rattle.sdtd.specs.Trim.{SomeRootBears}
use Rattle.sdtd.specs.Competition.{Competition}
use Rattle.sdtd.specs.Reduced.{EveryTypeUsed, TellsUsed, new_number, reduced}
use Rattle.sdtd.specs.Output.{writes, FileWritten}
use Rattle.sdtd.proofs.Trimming.{root_bears}
use Rattle.sdtd.proofs.UsedAsked.{used_test}
use Rattle.sdtd.proofs.ReducedTypings.{old_typing}
use Rattle.sdtd.proofs.ReducedDocuments.{reduced_typing, reduced_injective, reduced_valid, reduced_every_type_used, reduced_competition}
use Rattle.sdtd.proofs.ReducedLimits.{reduced_root_bears}
use Rattle.commands.specs.File.{Commands, states, commands, schema_by, StatesSchema}
use Rattle.schema_file.specs.Answer.{AnswerBy, FileMeans}
use Rattle.schema_file.proofs.AfterDone.{accepted, after_answer}
use Rattle.schema_file.proofs.FileAnswers.{file_unique, accepted_file}
use Rattle.schema_writer.specs.Answer.{OutputBy, WriteMeans}
use Rattle.schema_writer.proofs.Outcomes.{written_of, one_outcome}
use Rattle.schema_writer.proofs.SecondPass.{written_states}
use Rattle.schema_writer.proofs.SecondPass.{written_same as same_bytes}
use Rattle.sdtd.specs.Answer.{fine, verdict_of}
use Rattle.sdtd.specs.declared.Refusal.{Refusal}
use Rattle.schema.specs.declared.value.Schema.{Schema}
use Rattle.typing.specs.Reducing.{TypingsRenumbered, Reduces, WriterMeets}

-- A file whose schema uses every type, with a root that bears a tree and no competition.
module _ {file : List ℕ} {S : Meaning} (s : StatesSchema file S) (bears : SomeRootBears S) (used : EveryTypeUsed S) (free : ¬ Competition S) where
  stated_bears : SomeRootBears (schema_by s.stated)
  stated_bears = subst SomeRootBears (sym s.schema) bears

  stated_free : ¬ Competition (schema_by s.stated)
  stated_free = subst (λ (R : Meaning). ¬ Competition R) (sym s.schema) free

  -- the reader accepts it
  reader_accepts : (was is : List ℕ) (r : Result Schema Refusal) → least_witness ≤ length was → FileMeans file was is r → verdict_of r ≡ fine
  reader_accepts was is r long m =
      let every = subst EveryTypeUsed (sym s.schema) used in
      let last : AnswerBy (states s.stated) fine =
      after_answer s.stated fine (accepted s.known stated_bears every stated_free refl) in
      file_unique file was m.answer (inr (long, subst (λ (k : Commands). AnswerBy k fine) (sym s.passes) last))

  -- and it is written as it is
  written_same : (was : List ℕ) → length file ≤ length was → OutputBy file (commands file) was (writes was file)
  written_same was fits =
      let R = schema_by s.stated in
      let own : StatesSchema file R = record { stated = s.stated; passes = s.passes; known = s.known; schema = refl } in
      let t = used_test R in
      let every : EveryTypeUsed R = subst EveryTypeUsed (sym s.schema) used in
      let same = same_bytes t.0 own t.1 every in
      subst (λ (k : Commands). OutputBy file k was (writes was file)) (sym s.passes)
      (inr (
        s.known,
        inr (
          stated_bears,
          inr (
            stated_free,
            record { bytes = file; reduced = record { kept = t.0; tells_used = t.1; is = sym same }; output = inr (fits, refl) },
          ),
        ),
      ))

  second_pass : (was is : List ℕ) (r : FileWritten) → length file ≤ length was → WriteMeans file was is r
      → record { answer = r; buffer = is } ≡ writes was file
  second_pass was is r fits m =
      let one = one_outcome file was in
      one.2 (record { answer = r; buffer = is }) m ∙ sym (one.2 (writes was file) (written_same was fits))

-- What is written of a file that states S, for the test that tells its used types.
module _ {file : List ℕ} {S : Meaning} (s : StatesSchema file S) (bears : SomeRootBears S) (free : ¬ Competition S) (kept : ℕ → Bool)
    (tells : TellsUsed S kept) {written : List ℕ} (states_written : StatesSchema written (reduced kept S)) where
  new_bears : SomeRootBears (reduced kept S)
  new_bears = (reduced_root_bears kept tells).0 bears

  new_free : ¬ Competition (reduced kept S)
  new_free c = free ((reduced_competition kept tells).0 c)

  typings : TypingsRenumbered S (reduced kept S) (new_number kept)
  typings =
      record {
        new = reduced_typing kept tells;
        back = λ tree typed t. let o = old_typing kept S tree typed t in (o.old, o.is_typing, o.renumbered);
        one = λ tree old other t u e. reduced_injective kept tells tree tree old other t u e;
      }

  reduces : Reduces file written
  reduces =
      let used = reduced_every_type_used kept tells in
      record {
        schema = S;
        states = s;
        kept = kept;
        tells_used = tells;
        states_written = states_written;
        passes = reader_accepts states_written new_bears used new_free;
        same_documents = reduced_valid kept tells;
        typings = typings;
        second = second_pass states_written new_bears used new_free;
      }

pub writer_meets : WriterMeets
writer_meets =
    record {
      outcome = λ file was. let o = one_outcome file was in record { it = o.0; has = o.1; only = o.2 };
      written = λ file was is n m.
          let w = written_of file was is n m in
          let S = schema_by w.stated in
          let r = w.reduced in
          let s : StatesSchema file S = record { stated = w.stated; passes = w.passes; known = w.known; schema = refl } in
          let there = written_states r.kept s r.tells_used (root_bears.0 w.bears) in
          let front = take-append_seam w.bytes (drop (length w.bytes) was) in
          let bytes = ap (λ (k : ℕ). take k is) w.count ∙ ap (take (length w.bytes)) w.buffer ∙ front in
          let own = subst (λ (b : List ℕ). StatesSchema b (reduced r.kept S)) (sym r.is) there in
          subst (Reduces file) (sym bytes) (reduces s w.bears w.restrained r.kept r.tells_used own);
      same = λ file was is v m lent after r fits w.
          let x = accepted_file m in
          second_pass x.states x.schema.bears x.used x.schema.no_competition lent after r fits w;
    }
