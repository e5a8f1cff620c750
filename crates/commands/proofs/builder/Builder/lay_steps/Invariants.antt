use mathlib.Core.Path.{◌≡◌}
use Prim.Native.Nat.{ℕ}
use lib.ListN.{length, get_or}
use Rattle.sdtd.specs.Limits.{most_types}
use Rattle.sdtd.specs.Lists.{of_each}
use Rattle.commands.specs.Laying.{laid_from, LaidAs}
use Rattle.commands.proofs.builder.Builder.lay_steps.Given as goal

abbrev pub invariant-loop-p : goal.invariant-loop-p
invariant-loop-p l =
    LaidAs (of_each (λ k. laid_from l.read.types k (get_or l.read.next k 0)) 0 l.p) l.initial.self l.self
    × (length l.sets ≡ most_types)
    × ((k : ℕ) → get_or l.sets k 0 ≡ 0)
