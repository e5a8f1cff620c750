-- The loop's invariant: what lays the steps by the types that are left, lays all.
use mathlib.Core.Path.{◌≡◌}
use mathlib.Core.Bool.{false}
use Prim.Native.Nat.{ℕ, ◌+◌, ◌^◌, ◌≤◌, ◌<◌}
use lib.Dec.{T}
use lib.ListN.{length, get_or}
use Rattle.sdtd.specs.Limits.{most_types, most_steps}
use Rattle.schema.specs.States.{member}
use Rattle.commands.specs.Laying.{of_members, laid_by, laid_from, LaidAs}
use Rattle.commands.specs.declared.builder.Builder.{Builder}
use Rattle.commands.proofs.builder.Builder.lay_from.Given as goal

abbrev pub invariant-loop-rest : goal.invariant-loop-rest
invariant-loop-rest l =
    (l.rest < 2 ^ most_types)
    × (l.self.steps ≤ most_steps + 1)
    × (length l.sets ≡ most_types)
    × ((j : ℕ) → T (member j l.rest) → get_or l.sets j 0 ≡ get_or l.initial.sets j 0)
    × ((j : ℕ) → member j l.rest ≡ false → get_or l.sets j 0 ≡ 0)
    × ((s' : Builder) → LaidAs (of_members most_types (λ j. laid_by l.p j (get_or l.initial.sets j 0)) l.rest) l.self s'
    → LaidAs (laid_from l.types l.p l.set) l.initial.self s')

abbrev pub decreases-loop-rest : goal.decreases-loop-rest
decreases-loop-rest l = l.rest
