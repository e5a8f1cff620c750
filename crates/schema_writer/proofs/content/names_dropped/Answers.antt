-- `schema_writer::content::names_dropped` meets its contract. The loop's invariant: whether one of the uses that are
-- left names a type that is not kept decides.
use mathlib.Core.Path.{◌≡◌, sym, ap, ◌∙◌}
use mathlib.Core.Bool.{not}
use Prim.Native.Nat.{◌+◌, ◌-◌}
use native.Mathlib.Omega.{arith}
use Rattle.commands.specs.Laying.{names_from}
use Rattle.schema_writer.proofs.ContentLaws.{first_dropped, first_kept}
use Rattle.schema_writer.proofs.content.names_dropped.Goals as goal

pub returns-then-not-has_type : goal.returns-then-not-has_type
returns-then-not-has_type c =
    let x = c.args.read.now in
    let told = rw c.from.ensures at c.has_type.ensures in
    let gone = ap not (sym told ∙ c.if-not-has_type.true) in
    sym (first_dropped _ x.types x.places x.uses c.loop-q.q (omega arith) gone) ∙ c.loop-q.invariant

pub loop-q-preserved : goal.loop-q-preserved
loop-q-preserved c =
    let x = c.args.read.now in
    let told = rw c.from.ensures at c.has_type.ensures in
    let there = ap not (sym told ∙ c.if-not-has_type.false) in
    sym (first_kept _ x.types x.places x.uses c.loop-q.q (omega arith) there) ∙ c.loop-q.invariant

pub returns : goal.returns
unfolding names_from
returns c =
    let z : c.args.read.now.uses + 1 - c.loop-q.q ≡ 0 = omega arith in
    rw z at c.loop-q.invariant
