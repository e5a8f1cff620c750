-- The loop's invariant: the type sought is the type number `left` from `at` on.
use mathlib.Core.Path.{◌≡◌}
use Prim.Native.Nat.{◌-◌}
use lib.ListN.{length, get_or}
use Rattle.commands.specs.TypePlaces.{place_of_type}
use Rattle.commands.proofs.TypePlaces.{types_at}
use Rattle.commands.proofs.type_places.type_place.Given as goal

abbrev pub invariant-loop-command : goal.invariant-loop-command
invariant-loop-command l = get_or (types_at l.file l.at) l.left 0 ≡ place_of_type l.file l.initial.left

abbrev pub decreases-loop-command : goal.decreases-loop-command
decreases-loop-command l = length l.file - l.at
