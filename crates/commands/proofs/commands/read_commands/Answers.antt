-- The loop's invariant: what is built holds what the commands so far state, and the commands from the place on decide. The measure is what is
-- left of the file: a command that passed ends inside it, and so does an expression.
use mathlib.Core.Path.{◌≡◌, refl, sym, ap, ◌∙◌}
use native.Mathlib.Omega.{arith}
use mathlib.Core.Logic.{◌≢◌}
use Rattle.std.specs.Prelude.{Some, None, Err, MatchResult}
use Rattle.std.proofs.Common.{rules}
use Rattle.std.proofs.lemmas.Result.{err_from_is_err_and}
use Rattle.sdtd.specs.Answer.{refused_at, question_number}
use Rattle.sdtd.specs.declared.Refusal.{Refusal}
use Rattle.sdtd.specs.declared.Refused.TheVariants.{NoCommand}
use Rattle.command.specs.Command.{command_at}
use Rattle.commands.specs.Building.{failed_by}
use Rattle.commands.specs.declared.phase.Phase.TheVariants.{InExpression, AfterDone}
use Rattle.commands.proofs.ExpressionTurns.{turn_refused, turn_fits, turn_end, turn_too_many, turn_reads}
use Rattle.commands.proofs.OneByOne.{reads_first, reads_missing, reads_refused, reads_next, reads_over, answer_stopped, answer_unknown, answer_known}
use Rattle.commands.proofs.commands.read_commands.Goals as goal

pub loop-built-init : goal.loop-built-init
loop-built-init c = rw c.new-built.ensures (reads_first c.args.file.now)

pub returns-in_err-read : goal.returns-in_err-read
returns-in_err-read c =
    let inside : c.loop-built.built.phase ≡ InExpression = search rules in
    let p = err_from_is_err_and c.from_residual.result c.from_residual.ensures.1 in
    rw (p.1, p.2) (answer_stopped _ (Err c.in_err-read.field-0.0) (turn_refused c.loop-built.invariant inside c.in_err-read.field-0.0 c.in_err-read.ensures) refl)

pub add_expression-requires : goal.add_expression-requires
add_expression-requires c =
    let inside : c.loop-built.built.phase ≡ InExpression = search rules in
    turn_fits c.loop-built.invariant inside c.in_ok-read.read c.in_ok-read.ensures

pub returns-in_err-add_expression : goal.returns-in_err-add_expression
returns-in_err-add_expression c =
    let inside : c.loop-built.built.phase ≡ InExpression = search rules in
    let p = err_from_is_err_and c.from_residual-in_err-add_expression.result c.from_residual-in_err-add_expression.ensures.1 in
    let e = c.in_err-add_expression.field-0.0 in
    rw (p.1, p.2)
    (answer_stopped _ (Err e) (turn_too_many c.loop-built.invariant inside c.in_ok-read.read c.in_ok-read.ensures e c.in_err-add_expression.ensures) refl)

pub overflow_add-at : goal.overflow_add-at
overflow_add-at c =
    let inside : c.loop-built.built.phase ≡ InExpression = search rules in
    omega (arith, turn_end c.loop-built.invariant inside c.in_ok-read.read c.in_ok-read.ensures)

pub loop-built-smaller-then-eq : goal.loop-built-smaller-then-eq
loop-built-smaller-then-eq c =
    let inside : c.loop-built.built.phase ≡ InExpression = search rules in
    omega (arith, turn_end c.loop-built.invariant inside c.in_ok-read.read c.in_ok-read.ensures)

pub loop-built-preserved-then-eq : goal.loop-built-preserved-then-eq
loop-built-preserved-then-eq c =
    let inside : c.loop-built.built.phase ≡ InExpression = search rules in
    turn_reads c.loop-built.invariant inside c.in_ok-read.read c.in_ok-read.ensures c.add_expression.new.self c.in_ok-add_expression.ensures

pub returns-in_err-command : goal.returns-in_err-command
returns-in_err-command c =
    let more : c.loop-built.built.phase ≢ AfterDone = search rules in
    let outside : c.loop-built.built.phase ≢ InExpression = search rules in
    let p = err_from_is_err_and c.from_residual-in_err-command.result c.from_residual-in_err-command.ensures.1 in
    let e = c.in_err-command.field-0.0 in
    let missing : command_at c.args.file.now c.loop-built.at ≡ None = search rules in
    let told : e ≡ record { why = NoCommand; place = c.loop-built.at } = search rules in
    rw (p.1, p.2) (answer_stopped _ (Err e) (reads_missing c.loop-built.invariant more outside missing) (ap (λ (x : Refusal). refused_at (question_number x.why) x.place) told))

pub returns-in_err-map_err : goal.returns-in_err-map_err
returns-in_err-map_err c =
    let more : c.loop-built.built.phase ≢ AfterDone = search rules in
    let outside : c.loop-built.built.phase ≢ InExpression = search rules in
    let p = err_from_is_err_and c.from_residual-in_err-map_err.result c.from_residual-in_err-map_err.ensures.1 in
    let e = c.in_err-map_err.field-0.0 in
    let stands : command_at c.args.file.now c.loop-built.at ≡ Some c.in_ok-command.command = search rules in
    let told : MatchResult c.ask.result (λ x. ⊥) (λ why. e ≡ record { why = why; place = c.loop-built.at }) = search rules in
    rw (p.1, p.2) (answer_stopped _ (Err e) (reads_refused c.loop-built.invariant more outside stands c.ask.result c.ask.ensures e told) refl)

pub loop-built-preserved : goal.loop-built-preserved
loop-built-preserved c =
    let more : c.loop-built.built.phase ≢ AfterDone = search rules in
    let outside : c.loop-built.built.phase ≢ InExpression = search rules in
    let stands : command_at c.args.file.now c.loop-built.at ≡ Some c.in_ok-command.command = search rules in
    let passed : failed_by c.loop-built.built c.in_ok-command.command ≡ 0 = search rules in
    rw (c.size.ensures, c.add.ensures) (reads_next c.loop-built.invariant more outside stands passed)

pub returns-then-at-file : goal.returns-then-at-file
returns-then-at-file c =
    let done : c.loop-built.built.phase ≡ AfterDone = search rules in
    rw c.at-then-at-file.ensures (answer_stopped _ (Err _) (reads_over c.loop-built.invariant done (omega arith)) refl)

pub returns-in-Some : goal.returns-in-Some
returns-in-Some c =
    let done : c.loop-built.built.phase ≡ AfterDone = search rules in
    rw c.at-in-Some.ensures (answer_unknown c.loop-built.invariant done (omega arith) c.in-Some.place (sym c.unknown.ensures ∙ c.in-Some.is))

pub returns-in-None : goal.returns-in-None
returns-in-None c =
    let done : c.loop-built.built.phase ≡ AfterDone = search rules in
    answer_known c.loop-built.invariant done (omega arith) (sym c.unknown.ensures ∙ c.in-None.is)
