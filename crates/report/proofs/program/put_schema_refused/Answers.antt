-- `report::program::put_schema_refused` meets its contract: for 9, a witness line follows.
use mathlib.Core.Bool.{true≢false}
use mathlib.Core.List.{append-nil}
use mathlib.Core.Path.{◌≡◌, sym, ap, ◌∙◌}
use denote.Enum.Bare.{sameb, same_true}
use native.Mathlib.Omega.{arith}
use borrow.Author.Rules.{rules}
use borrow.Author.Tests.{ne_eqb}
use Rattle.sdtd.specs.Answer.{question_number}
use Rattle.sdtd.specs.contracts.Refused.{the_type}
use Rattle.sdtd.specs.declared.Refused.{Refused}
use Rattle.sdtd.specs.declared.Refused.TheVariants.{Competition}
use Rattle.sdtd.proofs.Verdicts.{same_question}
use Rattle.text.proofs.PageLaws.{laid_then}
use Rattle.report.proofs.TextLengths.{refused_short, nine_short}
use Rattle.report.proofs.program.put_schema_refused.Goals as goal

pub returns-then-eq : goal.returns-then-eq
returns-then-eq c =
    let nine : question_number c.args.refusal.why ≡ 9 = ap question_number (same_true the_type (search rules) c.args.refusal.why Competition (sym c.if-eq.ensures)) in
    record {
      laid =
          rw nine (
            c.put_witness.ensures.0 ∙ c.put_refusal.ensures.0,
            laid_then _ _ _ (rw (c.number.ensures, nine) at c.put_refusal.ensures.1) (rw c.witness_head.ensures at c.put_witness.ensures.1),
          );
      short =
          nine_short c.args.witness.now c.witness_head.ensures (omega (arith, c.witness_head.type_inv)) (omega (arith, c.witness_head.type_inv))
          (omega (arith, c.witness_head.type_inv)) (omega (arith, c.witness_head.type_inv)) (omega (arith, c.number.type_inv, c.number.ensures))
          (omega arith);
    }

pub returns-else-eq : goal.returns-else-eq
returns-else-eq c =
    let why = c.args.refusal.why in
    let other : ¬ (question_number why ≡ 9) =
    λ q. true≢false (sym (ap (λ (w : Refused). sameb the_type w Competition) (same_question {v = why} {w = Competition} q)) ∙ sym c.if-eq.ensures) in
    record {
      laid = rw (ne_eqb _ 9 other, append-nil) (rw c.number.ensures at c.put_refusal.ensures);
      short = refused_short c.args.witness.now other (omega (arith, c.number.type_inv, c.number.ensures)) (omega arith);
    }
