-- `text::page::put_in` meets its contract: past the buffer's end nothing is put; else the bytes that fit are copied.
use mathlib.Core.Path.{◌≡◌, sym}
use Prim.Native.Nat.{◌+◌, ◌-◌}
use native.Mathlib.Omega.{arith}
use Rattle.text.proofs.LaidLaws.{laid_past, copied}
use Rattle.text.proofs.page.put_in.Goals as goal

pub returns-then-out-at : goal.returns-then-out-at
returns-then-out-at c = let a = c.args in sym (laid_past a.out.now a.at a.text.now c.if-out-at.true)

pub returns : goal.returns
returns c =
    let a = c.args in
    let copied_bytes : a.at + c.min-n.result - a.at ≡ c.min-n.result = omega arith in
    rw (copied_bytes, c.copy_from_slice.ensures.after)
    (sym (copied a.out.now a.at c.min-n.result a.text.now (omega (arith, c.if-out-at.false)) c.min-n.ensures))
