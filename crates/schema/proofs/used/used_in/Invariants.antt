-- `schema::used::used_in` meets its contract. The loop's invariant: the table so far is that of the types below `a`.
use Prim.Native.Nat.{◌-◌}
use mathlib.Core.Path.{◌≡◌}
use mathlib.Core.Bool.{false}
use mathlib.Core.List.{◌++◌}
use lib.ListN.{take, replicate}
use Rattle.sdtd.specs.Limits.{most_types}
use Rattle.schema.specs.Trimming.{used_in}
use Rattle.schema.proofs.used.used_in.Given as goal

abbrev pub invariant-loop-a : goal.invariant-loop-a
invariant-loop-a l = l.used ≡ take l.a (used_in l.trimming) ++ replicate (most_types - l.a) false
