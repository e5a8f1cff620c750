-- The loop's invariant: with the names that are left added, all are.
use mathlib.Core.Path.{◌≡◌}
use Prim.Native.Nat.{◌+◌, ◌-◌}
use Rattle.commands.specs.Building.{all_named}
use Rattle.commands.specs.Laying.{names_from}
use Rattle.commands.proofs.builder.Builder.add_names.Given as goal

abbrev pub invariant-loop-q : goal.invariant-loop-q
invariant-loop-q l =
    all_named l.self (names_from l.read.types l.read.places l.q (l.read.uses + 1 - l.q)) ≡ all_named l.initial.self (names_from l.read.types l.read.places 1 l.read.uses)
