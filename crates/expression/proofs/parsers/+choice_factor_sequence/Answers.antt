-- The proof of the cycle of calls {choice, factor, sequence}: what each says follows from what the ones that it calls say.
use mathlib.Core.Path.{◌≡◌, refl, sym, ◌∙◌}
use Prim.Native.Nat.{◌+◌}
use native.Mathlib.Omega.{arith}
use Rattle.std.proofs.Common.{rules}
use Rattle.std.proofs.lemmas.Result.{err_from_is_err_and}
use Rattle.std.specs.Prelude.{Some}
use Rattle.command.specs.Command.{command_at}
use Rattle.command.specs.declared.Command.TheVariants.{Expression}
use Rattle.command.specs.declared.Part.TheVariants.{OpenBracket, Use}
use Rattle.expression.specs.Parsing.{ChoiceTaken, ChoiceWhole, ChoiceRefused, SequenceWhole, SequenceRefused, FactorTaken, FactorRefused, behind_33}
use Rattle.expression.proofs.CommandTests.{is_or_lem}
use Rattle.expression.proofs.ParseLaws.{ItemTaken, use_says, bracket_refused, inside_refused, bracket_says, repeat_says}
use Rattle.expression.proofs.ParseLaws.{sequence_start, sequence_turn, choice_turn, choice_refused}
use Rattle.expression.proofs.parsers.+choice_factor_sequence.Goals as goal

pub choice-returns-in_err-other : goal.choice-returns-in_err-other
choice-returns-in_err-other t c =
    let a = c.args in
    let l = c.loop-other in
    let p = err_from_is_err_and c.from_residual.result c.from_residual.ensures.1 in
    let r : SequenceRefused a.file.now l.from a.depth l.read.uses _ _ = rw c.in_err-other.was at c.sequence.ensures in
    rw (p.1, p.2) (choice_refused a.file.now a.at a.depth a.uses a.tables.now l.tables l.read l.from l.invariant.1 _ _ r)

pub choice-returns-then-not-divides : goal.choice-returns-then-not-divides
choice-returns-then-not-divides t c =
    let a = c.args in
    let l = c.loop-other in
    let s : SequenceWhole a.file.now l.from a.depth l.read.uses l.tables c.sequence.new.tables c.in_ok-other.other = rw c.in_ok-other.was at c.sequence.ensures in
    record {
      taken = rw c.or-read.ensures (choice_turn a.file.now a.at a.depth a.uses a.tables.now l.tables l.read l.from l.invariant.1 _ _ s);
      divides_not = sym c.divides.ensures ∙ c.if-not-divides.true;
    }

pub choice-loop-other-preserved : goal.choice-loop-other-preserved
choice-loop-other-preserved t c =
    let a = c.args in
    let l = c.loop-other in
    let s : SequenceWhole a.file.now l.from a.depth l.read.uses l.tables c.sequence.new.tables c.in_ok-other.other = rw c.in_ok-other.was at c.sequence.ensures in
    let k : ChoiceTaken a.file.now a.at a.depth a.uses a.tables.now c.sequence.new.tables c.or-read.result =
    rw c.or-read.ensures (choice_turn a.file.now a.at a.depth a.uses a.tables.now l.tables l.read l.from l.invariant.1 _ _ s) in
    (omega (arith, k.onward), behind_33 k (is_or_lem _ (sym c.divides.ensures ∙ c.if-not-divides.false)) refl)

pub factor-returns-in_err-read-in-Some-OneType : goal.factor-returns-in_err-read-in-Some-OneType
factor-returns-in_err-read-in-Some-OneType t c =
    let a = c.args in
    let p = err_from_is_err_and c.from_residual.result c.from_residual.ensures.1 in
    let u : command_at a.file.now a.at ≡ Some (Expression (Use c.in-Some-OneType.j)) = search rules in
    let r : FactorRefused a.file.now a.at a.depth a.uses _ _ =
    rw c.in_err-read-in-Some-OneType.was at (use_says a.file.now a.at a.depth a.uses c.in-Some-OneType.j a.tables.now u _ c.one_use.result c.one_use.ensures) in
    rw (p.1, p.2) r

pub factor-returns-then-depth-ge-BRACKETS : goal.factor-returns-then-depth-ge-BRACKETS
factor-returns-then-depth-ge-BRACKETS t c =
    let a = c.args in
    let b : command_at a.file.now a.at ≡ Some (Expression OpenBracket) = search rules in
    rw c.at.ensures (bracket_refused a.file.now a.at a.depth a.uses b (omega arith))

pub factor-returns-in_err-inner-in-Some-Bracket : goal.factor-returns-in_err-inner-in-Some-Bracket
factor-returns-in_err-inner-in-Some-Bracket t c =
    let a = c.args in
    let f = c.from_residual-in_err-inner-in-Some-Bracket in
    let p = err_from_is_err_and f.result f.ensures.1 in
    let b : command_at a.file.now a.at ≡ Some (Expression OpenBracket) = search rules in
    let r : ChoiceRefused a.file.now (a.at + 1) (a.depth + 1) a.uses _ _ = rw c.in_err-inner-in-Some-Bracket.was at c.choice.ensures in
    rw (p.1, p.2) (inside_refused a.file.now a.at a.depth a.uses b c.if-depth-ge-BRACKETS.false _ _ r)

pub factor-returns-in_err-read-in-Some-Bracket : goal.factor-returns-in_err-read-in-Some-Bracket
factor-returns-in_err-read-in-Some-Bracket t c =
    let a = c.args in
    let f = c.from_residual-in_err-read-in-Some-Bracket in
    let p = err_from_is_err_and f.result f.ensures.1 in
    let b : command_at a.file.now a.at ≡ Some (Expression OpenBracket) = search rules in
    let x = c.in_ok-inner-in-Some-Bracket in
    let w : ChoiceWhole a.file.now (a.at + 1) (a.depth + 1) a.uses a.tables.now c.choice.new.tables x.inner = rw x.was at c.choice.ensures in
    let r : FactorRefused a.file.now a.at a.depth a.uses _ _ =
    rw c.in_err-read-in-Some-Bracket.was at (bracket_says a.file.now a.at a.depth a.uses b c.if-depth-ge-BRACKETS.false _ _ x.inner w c.closed.result c.closed.ensures) in
    rw (p.1, p.2) r

pub factor-returns-in_ok-read-in-Some-OneType : goal.factor-returns-in_ok-read-in-Some-OneType
factor-returns-in_ok-read-in-Some-OneType t c =
    let a = c.args in
    let x = c.in_ok-read-in-Some-OneType in
    let u : command_at a.file.now a.at ≡ Some (Expression (Use c.in-Some-OneType.j)) = search rules in
    let k : ItemTaken a.file.now a.at a.depth a.uses a.tables.now c.one_use.new.self x.read =
    rw x.was at (use_says a.file.now a.at a.depth a.uses c.in-Some-OneType.j a.tables.now u _ c.one_use.result c.one_use.ensures) in
    repeat_says a.file.now a.at a.depth a.uses a.tables.now _ _ x.read k c.repeated.result c.repeated.ensures

pub factor-returns-in_ok-read-in-Some-Bracket : goal.factor-returns-in_ok-read-in-Some-Bracket
factor-returns-in_ok-read-in-Some-Bracket t c =
    let a = c.args in
    let b : command_at a.file.now a.at ≡ Some (Expression OpenBracket) = search rules in
    let x = c.in_ok-inner-in-Some-Bracket in
    let y = c.in_ok-read-in-Some-Bracket in
    let w : ChoiceWhole a.file.now (a.at + 1) (a.depth + 1) a.uses a.tables.now c.choice.new.tables x.inner = rw x.was at c.choice.ensures in
    let k : ItemTaken a.file.now a.at a.depth a.uses a.tables.now c.choice.new.tables y.read =
    rw y.was at (bracket_says a.file.now a.at a.depth a.uses b c.if-depth-ge-BRACKETS.false _ _ x.inner w c.closed.result c.closed.ensures) in
    repeat_says a.file.now a.at a.depth a.uses a.tables.now _ _ y.read k c.repeated-in-Some-Bracket.result
    c.repeated-in-Some-Bracket.ensures

pub sequence-loop-one-init : goal.sequence-loop-one-init
sequence-loop-one-init t c =
    let a = c.args in
    rw c.nothing-read.ensures (sequence_start a.file.now a.at a.depth a.uses a.tables.now)

pub sequence-loop-one-preserved : goal.sequence-loop-one-preserved
sequence-loop-one-preserved t c =
    let a = c.args in
    let l = c.loop-one in
    let f : FactorTaken a.file.now l.read.at a.depth l.read.uses l.tables c.factor.new.tables c.in-Some.one =
    rw (c.in_ok-one.was, c.in-Some.is) at c.factor.ensures in
    rw c.then-read.ensures (sequence_turn a.file.now a.at a.depth a.uses a.tables.now l.tables l.read l.invariant _ c.link.new.self c.in-Some.one f c.link.ensures)
