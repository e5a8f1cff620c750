-- `expression::content::read_content` meets its contract: the choice, the command behind it, and the automaton's tables.
use mathlib.Core.Path.{◌≡◌, refl, ap}
use mathlib.Core.Bool.{false}
use native.Mathlib.Omega.{arith}
use Rattle.std.proofs.lemmas.Result.{err_from_is_err_and}
use Rattle.std.specs.Prelude.{Ok}
use Rattle.sdtd.specs.Answer.{question_number}
use Rattle.sdtd.proofs.Verdicts.{number_some}
use Rattle.command.specs.Command.{command_at}
use Rattle.expression.specs.Parsing.{ending, ChoiceWhole, ChoiceRefused}
use Rattle.expression.proofs.ContentLaws.{content_refused, content_unended, content_whole}
use Rattle.expression.proofs.content.read_content.Goals as goal

pub returns-in_err-read : goal.returns-in_err-read
returns-in_err-read c =
    let a = c.args in
    let p = err_from_is_err_and c.from_residual.result c.from_residual.ensures.1 in
    let r : ChoiceRefused a.file.now a.at 0 0 _ _ = rw c.in_err-read.was at c.choice.ensures in
    rw (content_refused a.file.now a.at _ _ r, p.1, p.2) refl

pub returns-in_err-ends : goal.returns-in_err-ends
returns-in_err-ends c =
    let a = c.args in
    let x = c.in_ok-read in
    let f = c.from_residual-in_err-ends in
    let p = err_from_is_err_and f.result f.ensures.1 in
    let y = c.in_err-ends in
    let w : ChoiceWhole a.file.now a.at 0 0 _ _ x.read = rw x.was at c.choice.ensures in
    let e : (question_number y.field-0.0.why ≡ ending false (command_at a.file.now x.read.at)) × (y.field-0.0.place ≡ x.read.at) =
    rw y.was at c.ends.ensures in
    let unended = content_unended a.file.now a.at _ _ x.read w (λ z. omega (arith, number_some y.field-0.0.why, e.0)) in
    rw (unended, p.1, p.2, e.0, e.1) refl

pub returns : goal.returns
returns c =
    let a = c.args in
    let x = c.in_ok-read in
    let w : ChoiceWhole a.file.now a.at 0 0 _ _ x.read = rw x.was at c.choice.ensures in
    let e : ending false (command_at a.file.now x.read.at) ≡ 0 = rw c.in_ok-ends.was at c.ends.ensures in
    let k = content_whole a.file.now a.at _ _ x.read w e in
    rw k.same (ap Ok (c.automaton_of.ensures k.content k.names k.read))
