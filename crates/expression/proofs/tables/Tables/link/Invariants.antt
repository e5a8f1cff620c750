-- `link`'s loop: the rows so far, with the links of the states that are left, are the rows before with all links.
use Rattle.std.proofs.Common.{◌≡◌, ◌<◌, ℕ}
use mathlib.Core.Bool.{◌&&◌, ◌||◌}
use lib.ListN.{get_or}
use Rattle.sdtd.specs.Limits.{most_states}
use lib.Dec.{T}
use Rattle.schema.specs.States.{member}
use Rattle.schema.specs.StatesLeft.{states_left}
use Rattle.expression.proofs.SetLaws.{listed}
use Rattle.expression.proofs.tables.Tables.link.Given as goal

abbrev pub invariant-loop-p : goal.invariant-loop-p
invariant-loop-p l =
    ((q : ℕ) → T (listed q (states_left l.p-iterator)) → q < most_states)
    × ((p q : ℕ) → (member q (get_or l.self.next p 0) || (listed p (states_left l.p-iterator) && member q l.first.0)) ≡ (member q (get_or l.initial.self.next p 0) || (member p l.fn.last.0 && member q l.first.0)))
    × (l.self.types ≡ l.initial.self.types)
    × (l.self.places ≡ l.initial.self.places)
