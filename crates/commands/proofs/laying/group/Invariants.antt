-- The loop's invariant: the sets so far, with the uses that are left, have the whole set's uses.
use mathlib.Core.Path.{◌≡◌}
use mathlib.Core.Bool.{false, ◌&&◌, ◌||◌}
use Prim.Native.Nat.{ℕ, ◌%◌, ◌^◌, ◌<◌}
use lib.Dec.{T, eqb}
use lib.ListN.{length, get_or}
use Rattle.sdtd.specs.Limits.{most_types, most_states}
use Rattle.schema.specs.States.{member}
use Rattle.schema.specs.StatesLeft.{states_left}
use Rattle.expression.proofs.SetLaws.{listed}
use Rattle.commands.proofs.laying.group.Given as goal

abbrev pub invariant-loop-q : goal.invariant-loop-q
invariant-loop-q l =
    ((q : ℕ) → T (listed q (states_left l.q-iterator)) → q < most_states)
    × (l.named < 2 ^ most_types)
    × (length l.sets ≡ most_types)
    × ((j : ℕ) → get_or l.sets j 0 < 2 ^ most_states)
    × ((j q : ℕ) → (member q (get_or l.sets j 0) || (listed q (states_left l.q-iterator) && eqb (get_or l.types q 0 % most_types) j)) ≡ (member q l.set && eqb (get_or l.types q 0 % most_types) j))
    × ((j : ℕ) → member j l.named ≡ false → get_or l.sets j 0 ≡ 0)
