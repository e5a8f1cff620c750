-- `schema_writer::write::write_reduced` meets its contract: each answer is that of the first question answered no.
use mathlib.Core.Path.{refl}
use native.Mathlib.Omega.{arith}
use Rattle.std.specs.Prelude.{Ok}
use Rattle.std.proofs.Common.{rules}
use Rattle.std.proofs.lemmas.Result.{err_from_is_err_and}
use Rattle.commands.specs.File.{commands}
use Rattle.commands.specs.Answer.{CommandsBy}
use Rattle.schema_writer.proofs.Answered.{commands_passed, judged_refused, judged_fine}
use Rattle.schema_writer.proofs.write.write_reduced.Goals as goal

pub returns-in_err-judge : goal.returns-in_err-judge
returns-in_err-judge c =
    let told : CommandsBy (commands c.args.file.now) (Ok c.in_ok-schema.schema) = search rules in
    let p = err_from_is_err_and c.from_residual-in_err-judge.result c.from_residual-in_err-judge.ensures.1 in
    rw (p.1, p.2) (judged_refused (commands_passed _ _ told) _ (omega arith) (rw c.in_err-judge.was at c.judge.ensures) refl)

pub returns : goal.returns
returns c =
    let told : CommandsBy (commands c.args.file.now) (Ok c.in_ok-schema.schema) = search rules in
    judged_fine (commands_passed _ _ told) _ (omega arith) (rw c.in_ok-judge.was at c.judge.ensures) refl c.write_left.ensures
