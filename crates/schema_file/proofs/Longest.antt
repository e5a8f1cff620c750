-- The longest file with one ROOT and only old commands is accepted.
use mathlib.Core.Path.{◌≡◌, refl, sym, subst}
use mathlib.Core.Logic.{inr}
use mathlib.Core.List.{List}
use Prim.Native.Nat.{ℕ, ◌≤◌}
use lib.ListN.{length}
use Rattle.std.specs.Prelude.{Result}
use Rattle.sdtd.specs.Limits.{least_witness}
use Rattle.commands.specs.File.{Commands}
use Rattle.commands.proofs.LongestFile.{longest_file, longest_stated}
use Rattle.schema_file.specs.Answer.{AnswerIs, AnswerBy, FileMeans}
use Rattle.sdtd.specs.Answer.{fine, verdict_of}
use Rattle.sdtd.specs.declared.Refusal.{Refusal}
use Rattle.schema.specs.declared.value.Schema.{Schema}
use Rattle.schema_file.proofs.AfterDone.{accepted, after_answer}
use Rattle.schema_file.proofs.FileAnswers.{file_unique}

-- "The 8,389 bytes hold for files with one ROOT and only the old commands": this one of those has as many (`longest_length`), and is accepted.
pub longest_accepted : (was : List ℕ) → least_witness ≤ length was → AnswerIs longest_file was fine
longest_accepted was l =
    let s = longest_stated in
    let after_done = accepted s.steps_known s.bears_tree s.every_type_used s.restrained refl in
    inr (l, subst (λ (k : Commands). AnswerBy k fine) (sym s.commands_pass) (after_answer s.longest_states fine after_done))

-- so the call accepts it
pub longest_read : {was is : List ℕ} {r : Result Schema Refusal} → FileMeans longest_file was is r → least_witness ≤ length was → verdict_of r ≡ fine
longest_read {was} m l = file_unique longest_file was m.answer (longest_accepted was l)
