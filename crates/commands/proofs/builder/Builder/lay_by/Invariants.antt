-- The loop's invariant: what lays the steps that are left, lays all.
use mathlib.Core.List.{map}
use Prim.Native.Nat.{◌+◌, ◌≤◌}
use Rattle.sdtd.specs.Limits.{most_steps}
use Rattle.sdtd.specs.Schema.{step}
use Rattle.schema.specs.StatesLeft.{states_left}
use Rattle.commands.specs.Laying.{laid_by, LaidAs}
use Rattle.commands.specs.declared.builder.Builder.{Builder}
use Rattle.commands.proofs.builder.Builder.lay_by.Given as goal

abbrev pub invariant-loop-q : goal.invariant-loop-q
invariant-loop-q l =
    (l.self.steps ≤ most_steps + 1)
    × ((s' : Builder) → LaidAs (map (step l.p l.j) (states_left l.q-iterator)) l.self s' → LaidAs (laid_by l.p l.j l.set) l.initial.self s')
