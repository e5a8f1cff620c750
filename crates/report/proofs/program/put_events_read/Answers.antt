-- `report::program::put_events_read` meets its contract: the first line, the openings, the last line.
use mathlib.Core.Path.{◌∙◌}
use Prim.Native.Nat.{◌^◌, ◌<◌}
use native.Mathlib.Omega.{arith}
use Rattle.report.specs.Text.{events_text}
use Rattle.text.proofs.PageLaws.{laid_then}
use Rattle.report.proofs.ReportLaws.{cut}
use Rattle.report.proofs.TextLengths.{read_short}
use Rattle.report.proofs.program.put_events_read.Goals as goal

pub returns : goal.returns
unfolding events_text
returns c =
    let number : c.args.e.number < 256 = omega arith in
    let place : c.args.e.place < 2 ^ 64 = omega arith in
    let count : c.args.e.count < 2 ^ 64 = omega arith in
    record {
      laid = (
        c.put_last.ensures.0 ∙ c.put_openings.ensures.0 ∙ c.line.ensures.0,
        laid_then _ _ _ c.line.ensures.1
            (laid_then _ _ _ (rw (cut _ _ _ c.min-taken.ensures) at c.put_openings.ensures.1) c.put_last.ensures.1),
      );
      short =
          read_short _ _ _ (λ i. (c.type_inv.events i).fits) (λ i. (c.type_inv.types i).fits) c.requires.0 c.requires.1 number place count;
    }
