-- `reading::heads::heads` meets its contract. The loop's invariant: the numbers of the types below a are laid, and nothing opens yet.
use mathlib.Core.Path.{◌≡◌}
use native.Mathlib.Numerals.{add-one}
use native.Mathlib.Omega.{arith}
use Rattle.sdtd.specs.Schema.{WithinLimits}
use Rattle.schema.specs.Value.{meaning}
use Rattle.schema.proofs.LimitLaws.{within_room}
use Rattle.reading.proofs.RootMeans.{heads_none, heads_laid, roots_fit, heads_plain, heads_nil, heads_all}
use Rattle.reading.proofs.heads.heads.Goals as goal

pub loop-i-init : goal.loop-i-init
loop-i-init c = ((within_room _ c.requires.0).types, heads_none _)

pub loop-i-preserved : goal.loop-i-preserved
loop-i-preserved c =
    let i = c.loop-i.invariant in
    (i.0, rw (add-one, c.lay_head.ensures) (heads_laid c.args.schema.now c.requires.0 _ (omega (arith, c.from-i-end.ensures)) _ i.1))

pub returns : goal.returns
returns c =
    let v = c.args.schema.now in
    let within : WithinLimits (meaning v) = c.requires.0 in
    let types_most = (within_room _ within).types in
    let ways = c.args.ways.now in
    let end : c.loop-i.i ≡ v.types = omega (arith, c.from-i-end.ensures) in
    let laid = rw end at c.loop-i.invariant.1 in
    let plainly = heads_plain v within ways c.requires.1 types_most laid v.roots (omega arith) in
    let both = heads_nil v within ways c.requires.1 types_most plainly v.roots (omega arith) in
    rw (c.lay_roots-2.ensures, c.lay_roots.ensures) (heads_all v within _ both)

pub lay_roots-requires : goal.lay_roots-requires
lay_roots-requires c = roots_fit _ c.requires.0

pub lay_roots-requires-2 : goal.lay_roots-requires-2
lay_roots-requires-2 c = roots_fit _ c.requires.0
