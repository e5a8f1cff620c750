-- `report::expected_program::put_expected` meets its contract: by the number.
use mathlib.Core.Path.{◌≡◌}
use Prim.Native.Nat.{ℕ, ◌^◌, ◌≤◌, ◌<◌}
use native.Mathlib.Omega.{arith}
use borrow.Author.Rules.{rules}
use borrow.Author.Tests.{eq-eqb, ne_eqb}
use lib.ListN.{length, get_or}
use mir.Syntax.{w8}
use mir.Val.{Fits as FitsIn}
use Rattle.sdtd.specs.Limits.{most_levels}
use Rattle.expected.specs.Expected.{most_openings}
use Rattle.report.specs.ExpectedText.{expected_text}
use Rattle.report.specs.ExpectedReport.{most_expected}
use mathlib.Core.Path.{◌∙◌}
use Rattle.text.proofs.PageLaws.{laid_then}
use Rattle.report.proofs.ExpectedLengths.{expected_short}
use Rattle.report.proofs.expected_program.put_expected.Goals as goal

pub returns-then-e-eq0 : goal.returns-then-e-eq0
unfolding expected_text
returns-then-e-eq0 c =
    let short : length (expected_text c.args.e) ≤ most_expected = let e = c.args.e in
    let types : length e.types ≡ most_levels = search rules in
    let tags : length e.tags ≡ most_openings = search rules in
    let type_fits : (i : ℕ) → FitsIn w8 (get_or e.types i 0) = λ i. search rules in
    let tag_fits : (i : ℕ) → FitsIn w8 (get_or e.tags i 0) = λ i. search rules in
    let number : e.number < 256 = omega arith in
    let place : e.place < 2 ^ 64 = omega arith in
    expected_short e types tags (λ i. (type_fits i).fits) (λ i. (tag_fits i).fits) number place in
    record { laid = rw (eq-eqb _ 0 c.if-e-eq0.true) c.line.ensures; short = short }

pub returns : goal.returns
unfolding expected_text
returns c =
    let short : length (expected_text c.args.e) ≤ most_expected = let e = c.args.e in
    let types : length e.types ≡ most_levels = search rules in
    let tags : length e.tags ≡ most_openings = search rules in
    let type_fits : (i : ℕ) → FitsIn w8 (get_or e.types i 0) = λ i. search rules in
    let tag_fits : (i : ℕ) → FitsIn w8 (get_or e.tags i 0) = λ i. search rules in
    let number : e.number < 256 = omega arith in
    let place : e.place < 2 ^ 64 = omega arith in
    expected_short e types tags (λ i. (type_fits i).fits) (λ i. (tag_fits i).fits) number place in
    record {
      laid = rw (ne_eqb _ 0 c.if-e-eq0.false) (c.put_taken.ensures.0 ∙ c.put_refusal.ensures.0, laid_then _ _ _ c.put_refusal.ensures.1 c.put_taken.ensures.1);
      short = short;
    }
