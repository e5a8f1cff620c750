-- A type's steps are counted behind those of the types before it.
use native.Mathlib.Omega.{arith}
use Rattle.schema.proofs.Rounds.{offset_more}
use Rattle.schema.proofs.value.Schema.span.Goals as goal

pub loop-b-preserved : goal.loop-b-preserved
loop-b-preserved c = (omega (arith, offset_more c.args.self.now.steps c.loop-b.b _ c.loop-b.invariant.0), omega arith)

pub overflow_add-before : goal.overflow_add-before
overflow_add-before c = omega arith
