-- The steps of a type lie before the end of all; a number that is no type has none.
use mathlib.Core.Path.{refl}
use native.Mathlib.Omega.{arith}
use borrow.Author.Tests.{lt-ltb}
use Rattle.schema.proofs.Rounds.{steps_fit}
use Rattle.schema.proofs.reach.span_of.Goals as goal

pub invariant_of-result-2 : goal.invariant_of-result-2
invariant_of-result-2 c =
    let v = c.args.accepted.now.schema.now in
    let start = c.requires c.args.a (omega arith) in
    record { inside = rw (c.from-n.ensures, c.from-i.ensures) (omega (arith, c.args.accepted.now.steps, start, steps_fit v.steps c.args.a v.types (omega arith))) }

pub returns : goal.returns
returns c =
    let v = c.args.accepted.now.schema.now in
    rw (lt-ltb c.args.a v.types (omega arith), c.from-n.ensures, c.from-i.ensures, c.requires c.args.a (omega arith)) refl
