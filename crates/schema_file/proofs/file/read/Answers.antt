-- `schema_file::file::read` meets its contract: each answer is that of the first question answered no.
use mathlib.Core.Path.{◌≡◌}
use Rattle.std.specs.Prelude.{Ok, MatchResult}
use Rattle.std.proofs.Common.{rules}
use Rattle.std.proofs.lemmas.Result.{err_from_is_err_and}
use Rattle.schema_file.specs.Place.{placed}
use Rattle.schema_file.proofs.Answered.{Passed, commands_refused, commands_passed, judged_refused, judged_accepted}
use Rattle.schema_file.proofs.file.read.Goals as goal

pub returns-in_err-schema : goal.returns-in_err-schema
returns-in_err-schema c =
    let p = err_from_is_err_and c.from_residual.result c.from_residual.ensures.1 in
    rw (p.1, p.2) (commands_refused _ _ c.if-witness-lt-LEAST_WITNESS.false c.in_err-schema.field-0.0 c.in_err-schema.ensures)

pub returns-in_err-map_err : goal.returns-in_err-map_err
returns-in_err-map_err c =
    let passed : Passed c.args.file.now c.in_ok-schema.schema = commands_passed _ _ c.in_ok-schema.ensures in
    let p = err_from_is_err_and c.from_residual-in_err-map_err.result c.from_residual-in_err-map_err.ensures.1 in
    let e = c.in_err-map_err.field-0.0 in
    let told : MatchResult c.judge_reduced.result (λ x. ⊥) (λ judged. e ≡ placed c.args.file.now judged) = search rules in
    rw (p.1, p.2) (judged_refused passed _ c.if-witness-lt-LEAST_WITNESS.false c.judge_reduced.result c.judge_reduced.ensures e told)

pub returns : goal.returns
returns c =
    let passed : Passed c.args.file.now c.in_ok-schema.schema = commands_passed _ _ c.in_ok-schema.ensures in
    let told : c.judge_reduced.result ≡ Ok tt = search rules in
    judged_accepted passed _ c.if-witness-lt-LEAST_WITNESS.false c.judge_reduced.result c.judge_reduced.ensures told
