-- The request for what would have been taken is met.
use mathlib.Core.Logic.{⊎_elim}
use native.Mathlib.Omega.{arith}
use Rattle.schema.specs.Value.{meaning}
use Rattle.schema_file.proofs.FileAnswers.{accepted_file}
use Rattle.expected.proofs.AnswerLaws.{expected_exists, expected_unique, expected_number, finished-nothing, number_whole}
use Rattle.expected.proofs.ByDocuments.{expected_judged}
use Rattle.typing.specs.Expecting.{ExpectingMeets}
use Rattle.typing.proofs.EventNumbers.{calls_range}

pub expecting_met : ExpectingMeets
expecting_met =
    record {
      one = λ v file.
          let (r, m) = expected_exists (meaning v) file in
          record { it = r; has = m; only = λ o n. expected_unique n m };
      never_20 = λ v file r m z.
          let number = expected_number m in
          ⊎_elim (λ q. omega arith) (λ q. omega arith) (calls_range (meaning v) file m.passage m.passes);
      after_finish = λ v file r m. finished-nothing m;
      taken_whole = λ v file r m. number_whole m;
      accepted = λ file was is v m events r. expected_judged (accepted_file m).schema events r;
    }
