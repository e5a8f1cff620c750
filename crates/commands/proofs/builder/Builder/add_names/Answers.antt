-- The loop's invariant: with the names that are left added, all are.
use mathlib.Core.Path.{◌≡◌, ◌∙◌}
use Prim.Native.Nat.{◌+◌, ◌-◌}
use native.Mathlib.Omega.{arith}
use Rattle.commands.specs.Building.{places_with, bound_with}
use Rattle.commands.specs.Laying.{names_from}
use Rattle.commands.proofs.LayingLaws.{names_next}
use Rattle.commands.proofs.builder.Builder.add_names.Goals as goal

pub loop-q-preserved : goal.loop-q-preserved
loop-q-preserved c =
    let l = c.loop-q in
    let r = c.args.read.now in
    rw c.name.ensures (names_next r.uses l.q (omega arith) r.types r.places l.self ∙ l.invariant)

pub returns : goal.returns
unfolding places_with bound_with names_from
returns c =
    let l = c.loop-q in
    let e : c.args.read.now.uses + 1 - l.q ≡ 0 = omega arith in
    rw e at l.invariant
