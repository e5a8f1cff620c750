-- `competition::roots::ways_of_roots` meets its contract.
use Prim.Native.Nat.{◌≤◌, ◌<◌}
use mathlib.Core.Path.{◌≡◌, sym, ◌∙◌}
use mathlib.Core.Bool.{false, cond}
use mathlib.Core.List.{append-nil}
use native.Mathlib.Omega.{arith}
use lib.ListN.{length, get_or}
use lib.Seq.{take_all}
use Rattle.sdtd.specs.Limits.{most_types}
use Rattle.schema.proofs.Rounds.{fill_next}
use Rattle.competition.specs.Roots.{ways_of_roots}
use Rattle.competition.proofs.RootLaws.{ways_long, ways_at}
use Rattle.competition.proofs.roots.ways_of_roots.Goals as goal
use Rattle.competition.proofs.roots.ways_of_roots.Goals.{then-roots-a, else-roots-a}

pub loop-a-preserved : goal.loop-a-preserved
loop-a-preserved c =
    let roots = c.args.roots.now in
    let ways = c.args.ways.now in
    let l : c.loop-a.a < length (ways_of_roots roots ways) = rw (ways_long roots ways) (omega arith) in
    let is : c.if-roots-a.opening ≡ cond (get_or roots c.loop-a.a false) (get_or ways c.loop-a.a 0) 0 =
    elim c.if-roots-a.branch [
      | then-roots-a w ↦ rw w.if-roots-a.true (cc)
      | else-roots-a w ↦ rw w.if-roots-a.false (cc)
    ] in
    let e = is ∙ sym (ways_at roots ways c.loop-a.a (omega arith)) in
    rw (c.loop-a.invariant, e) (fill_next (ways_of_roots roots ways) c.loop-a.a most_types 0 0 l (omega arith))

pub returns : goal.returns
returns c =
    let a = c.args in
    let e : c.loop-a.a ≡ most_types = omega arith in
    let b = ways_of_roots a.roots.now a.ways.now in
    let l : length b ≤ most_types = rw (ways_long a.roots.now a.ways.now) (omega arith) in
    c.loop-a.invariant ∙ rw (e, take_all most_types b l) (append-nil b)
