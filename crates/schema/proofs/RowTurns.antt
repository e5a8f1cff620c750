-- The loop that makes the rows of one type: its invariant, and what a turn does to it.
use mathlib.Core.Path.{◌≡◌, refl}
use mathlib.Core.Bool.{Bool, true, false, cond}
use mathlib.Core.List.{List, []}
use Prim.Native.Nat.{ℕ, suc, ◌+◌, ◌-◌, ◌≤◌, ◌<◌}
use native.Mathlib.Nat.{add-zero}
use native.Mathlib.Numerals.{add-one}
use native.Mathlib.Omega.{arith}
use lib.Dec.{ltb}
use lib.ListN.{length, get_or, set, length-set}
use borrow.Author.Tests.{lt-ltb, le-ltb}
use lib.Seq.{get_or-set_same}
use Rattle.sdtd.specs.Limits.{most_states, most_steps}
use Rattle.schema.specs.Rows.{most_rows}
use Rattle.schema.specs.Putting.{put_all}
use Rattle.schema.specs.RowMaking.{RowTables, row_tables, picked, add_row, row_by, add_rows}
use Rattle.schema.proofs.PuttingLaws.{from_on, from_split, from_most}

module _ (es : List ℕ) (states : ℕ) where
  -- The rows before the state p are made; those left, from the row first + p on, make the whole, and have room.
  pub record RowsLeft (first p : ℕ) (t whole : RowTables) : Type 0 where
    pub room : get_or t.begins (first + p) 0 + from_on p es ≤ most_steps
    pub long : most_rows < length t.begins
    pub left : add_rows es states (first + p) p (most_states - p) t ≡ whole

  pub row_most : (p : ℕ) → length (row_by es states p) ≤ length (picked p es)
  row_most p = go (ltb p states)
    where
      go : (b : Bool) → length (cond b (picked p es) []) ≤ length (picked p es)
      go true = omega arith
      go false = omega arith

  pub rows_first : (first : ℕ) (t : RowTables) → most_rows < length t.begins → get_or t.begins first 0 + length es ≤ most_steps
      → RowsLeft first 0 t (add_rows es states first 0 most_states t)
  rows_first first t h r = record { room = rw add-zero (omega (arith, r, from_most 0 es)); long = h; left = rw add-zero refl }

  module _ {first p : ℕ} {t whole : RowTables} (r : RowsLeft first p t whole) where
    pub row_room : get_or t.begins (first + p) 0 + length (picked p es) ≤ most_steps
    row_room = omega (arith, r.room, from_split p es)

    pub rows_next : p < most_states → first + p < most_rows → RowsLeft first (p + 1) (add_row (row_by es states p) (first + p) t) whole
    unfolding add_row add_rows
    rows_next l h =
        let next : first + (p + 1) ≡ suc (first + p) = omega arith in
        let count : most_states - p ≡ suc (most_states - (p + 1)) = omega arith in
        let begins : get_or (add_row (row_by es states p) (first + p) t).begins (suc (first + p)) 0
        ≡ get_or t.begins (first + p) 0 + length (row_by es states p)
        = get_or-set_same t.begins (suc (first + p)) _ 0 (omega (arith, r.long)) in
        record {
          room = rw (next, begins, add-one p) (omega (arith, r.room, row_most p, from_split p es));
          long = rw length-set r.long;
          left = rw (next, add-one p) (rw (count, add-one p) at r.left);
        }

    -- the row of a state that the type has, and of one that it has not
    pub rows_held : p < states → p < most_states → first + p < most_rows → RowsLeft first (p + 1) (add_row (picked p es) (first + p) t) whole
    rows_held h l f =
        let own : row_by es states p ≡ picked p es = rw (lt-ltb p states h) refl in
        rw own at (rows_next l f)

    pub rows_empty : (end : ℕ) → states ≤ p → p < most_states → first + p < most_rows → get_or t.begins (first + p) 0 ≡ end
        → RowsLeft first (p + 1) (row_tables t.entries (set t.begins (first + p + 1) end)) whole
    unfolding add_row put_all
    rows_empty end h l f e =
        let own : row_by es states p ≡ [] = rw (le-ltb p states h) refl in
        let next : suc (first + p) ≡ first + p + 1 = omega arith in
        rw (own, next, e, add-zero) at (rows_next l f)

    -- past the last state no row is left
    pub rows_done : most_states ≤ p → t ≡ whole
    unfolding add_rows
    rows_done l = let none : most_states - p ≡ 0 = omega arith in rw none at r.left
