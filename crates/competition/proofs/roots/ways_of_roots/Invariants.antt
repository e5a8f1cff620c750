-- `competition::roots::ways_of_roots` meets its contract. The loop's invariant: the table so far has the ways of the roots below `a`.
use Prim.Native.Nat.{◌-◌}
use mathlib.Core.Path.{◌≡◌}
use mathlib.Core.List.{◌++◌}
use lib.ListN.{take, replicate}
use Rattle.sdtd.specs.Limits.{most_types}
use Rattle.competition.specs.Roots.{ways_of_roots}
use Rattle.competition.proofs.roots.ways_of_roots.Given as goal

abbrev pub invariant-loop-a : goal.invariant-loop-a
invariant-loop-a l = l.opening ≡ take l.a (ways_of_roots l.roots l.ways) ++ replicate (most_types - l.a) 0
