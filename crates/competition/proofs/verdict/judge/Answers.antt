-- `competition::verdict::judge` meets its contract: of no type it is asked whether it is used.
use mathlib.Core.Path.{◌≡◌}
use mathlib.Core.List.{List}
use Prim.Native.Nat.{ℕ}
use Rattle.std.specs.Prelude.{Result, Ok, Err, MatchResult}
use Rattle.std.proofs.Common.{rules}
use Rattle.sdtd.specs.Schema.{Schema}
use Rattle.sdtd.specs.Answer.{verdict_at}
use Rattle.sdtd.specs.declared.Refused.{Refused}
use Rattle.competition.specs.declared.verdict.Judged.{Judged}
use Rattle.competition.specs.Search.{questions_of, JudgedBy, why_of, judged_of}
use Rattle.competition.proofs.JudgedSchemas.{why_judged}
use Rattle.competition.proofs.verdict.judge.Goals as goal

-- the question that is answered no is the one that the refusal tells
told_by : (S : Schema) (was is : List ℕ) (r : Result (Unit {0}) Judged) (t : Result (Unit {0}) Refused)
    → JudgedBy (questions_of S was 0) S was is (judged_of r) → MatchResult r (λ x. t ≡ Ok tt) (λ judged. t ≡ Err (why_of judged))
    → JudgedBy (questions_of S was 0) S was is (verdict_at 0 t)
told_by S was is (Ok tt) t j told = rw told j
told_by S was is (Err e) t j told = rw told (why_judged S was is e j)

pub returns : goal.returns
returns c =
    let told : MatchResult c.judge_types.result (λ x. c.map_err.result ≡ Ok tt) (λ judged. c.map_err.result ≡ Err (why_of judged)) = search rules in
    told_by _ _ _ _ _ c.judge_types.ensures told
