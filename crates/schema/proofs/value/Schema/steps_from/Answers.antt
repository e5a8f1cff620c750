-- The cut changes nothing but where there is no step.
use mathlib.Core.Path.{◌∙◌}
use native.Mathlib.Omega.{arith}
use Rattle.schema.proofs.Values.{steps_cut}
use Rattle.schema.proofs.value.Schema.steps_from.Goals as goal

pub returns : goal.returns
returns c = c.steps_in.ensures ∙ steps_cut _ _ _ _ _ c.args.start _ (omega arith) (λ l. omega arith) (λ l. omega arith)
