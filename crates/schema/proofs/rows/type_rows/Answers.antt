-- The rows left, put after those made so far, make the whole; past the states that the type has each row ends where the rows so far do.
use Prim.Native.Nat.{ℕ, ◌+◌, ◌*◌, ◌<◌}
use mathlib.Core.Path.{◌≡◌, refl}
use mathlib.Core.List.{List}
use native.Mathlib.Omega.{arith}
use lib.ListN.{length, get_or, set}
use lib.Seq.{get_or-set_same}
use Rattle.sdtd.specs.Limits.{most_states}
use Rattle.schema.proofs.RowTurns.{rows_first, row_room, rows_held, rows_empty, rows_done}
use Rattle.schema.proofs.rows.type_rows.Goals as goal

pub loop-p-init : goal.loop-p-init
loop-p-init c = rows_first _ _ _ _ c.requires.1 c.requires.2

pub add_row-requires : goal.add_row-requires
add_row-requires c = rw (c.from.ensures, c.from-in-loop-p.ensures) (omega arith, row_room _ _ c.loop-p.invariant)

pub loop-p-preserved : goal.loop-p-preserved
loop-p-preserved c =
    rw (c.add_row.ensures, c.from.ensures, c.from-in-loop-p.ensures) (rows_held _ _ c.loop-p.invariant (omega arith) (omega arith) (omega arith))

pub loop-q-init : goal.loop-q-init
loop-q-init c =
    let last : c.loop-p.p ≡ c.min-held.result = omega arith in
    rw (c.from-q.ensures, c.from-2.ensures, c.from.ensures) (omega arith, refl, rw (← last) c.loop-p.invariant)

-- the row that has been ended ends there
ends : (begins : List ℕ) (first q end : ℕ) → first + q + 1 < length begins → get_or (set begins (first + q + 1) end) (first + (q + 1)) 0 ≡ end
ends begins first q end l = let next : first + (q + 1) ≡ first + q + 1 = omega arith in rw next (get_or-set_same begins (first + q + 1) end 0 l)

pub loop-q-preserved : goal.loop-q-preserved
loop-q-preserved c =
    let i = c.loop-q.invariant in
    rw c.from.ensures (omega arith, ends c.loop-q.begins (most_states * c.args.a) c.loop-q.q _ (omega (arith, i.2.long)), rows_empty _ _ i.2 _ (omega arith) (omega arith) (omega arith) (rw c.from.ensures at i.1))

pub returns : goal.returns
returns c = rows_done _ _ c.loop-q.invariant.2 (omega arith)
