-- `schema::roots::root_types` meets its contract. The loop's invariant: the roots before the place i are marked.
use mathlib.Core.Path.{◌≡◌}
use native.Mathlib.Omega.{arith}
use Rattle.schema.proofs.RootLaws.{marks_none, marks_next, marks_all}
use Rattle.schema.proofs.roots.root_types.Goals as goal

pub loop-i-init : goal.loop-i-init
loop-i-init c = marks_none _

pub loop-i-preserved : goal.loop-i-preserved
loop-i-preserved c = rw (c.mark_type.ensures, c.root_at.ensures) (marks_next c.loop-i.invariant)

pub returns : goal.returns
returns c =
    let e : c.loop-i.i ≡ c.args.roots = omega arith in
    rw (← e) (marks_all c.loop-i.invariant)
