-- `competition::witness::fill_word` meets its contract. The loop's invariant: `left` is the length of the word to i, and that word before the
-- part of the buffer from `left` on is the claim. The measure is i.
use mathlib.Core.Path.{◌≡◌, sym, ◌∙◌}
use mathlib.Core.List.{List, ◌∷◌, ◌++◌, append_assoc}
use Prim.Native.Nat.{ℕ, zero, suc, ◌-◌, ◌≤◌, ◌<◌}
use native.Mathlib.Omega.{arith}
use lib.ListN.{length, set, drop, length-set}
use lib.Seq.{drop-cons, get_or-set_same, drop-set-lt}
use Rattle.competition.specs.Found.{found_at, Linked, word_to}
use Rattle.competition.specs.declared.queue.Found.{Found}
use Rattle.competition.proofs.Words.{word_first, word_step, Back, back}
use Rattle.competition.proofs.witness.fill_word.Invariants.{Filling}
use Rattle.competition.proofs.witness.fill_word.Goals as goal

-- after a store at m the part from m on is what was stored, and then the part as it was
drop-set : (out : List ℕ) (m b : ℕ) → m < length out → drop m (set out m b) ≡ b ∷ drop (suc m) out
drop-set out m b h =
    let l : m < length (set out m b) = rw length-set h in
    rw (drop-cons (set out m b) m 0 l, get_or-set_same out m b 0 h, drop-set-lt (suc m) out m b (omega arith))

-- a store of i's type moves the type from the word to the buffer
moved : (queue : List Found) (at : ℕ) → Linked queue at → (i : ℕ) → 0 < i → i ≤ at → (out : List ℕ) (left m : ℕ) → left ≡ suc m
    → m < length out
    → word_to (found_at queue i).parent queue (found_at queue i).parent ++ drop m (set out m (found_at queue i).by.0)
    ≡ word_to i queue i ++ drop left out
moved queue at l i pos b out left m e h = rw (word_step queue at l i pos b, e, drop-set out m (found_at queue i).by.0 h, append_assoc)

-- one type less to store
turn : (queue : List Found) (at : ℕ) → Linked queue at → (n : ℕ) (out₀ out : List ℕ) (left i : ℕ) → 0 < i → Filling queue at n out₀ out left i
    → Filling queue at n out₀ (set out (left - 1) (found_at queue i).by.0) (left - 1) (found_at queue i).parent
turn queue at l n out₀ out left i pos inv =
    let s = back queue at l i pos inv.0 in (
      omega arith,
      omega arith,
      rw length-set inv.2,
      rw length-set (omega arith),
      moved queue at l i pos inv.0 out left (left - 1) (omega arith) (omega arith) ∙ inv.4,
    )

-- at the first place all of the word is in the buffer
whole : (queue : List Found) (out : List ℕ) (left i : ℕ) → i ≤ 0 → left ≡ length (word_to i queue i) → word_to i queue i ++ drop left out ≡ out
whole queue out left zero z e = rw (e, word_first queue 0)
whole queue out left (suc i) z e = absurd (omega arith)

pub overflow_sub-left : goal.overflow_sub-left
overflow_sub-left c =
    let back_from : Back c.args.queue.now c.loop-i.i = back c.args.queue.now c.args.at c.requires.1 c.loop-i.i c.loop-i-test.true c.loop-i.invariant.0 in
    omega (arith, back_from)

pub bounds-out-left : goal.bounds-out-left
bounds-out-left c =
    let back_from : Back c.args.queue.now c.loop-i.i = back c.args.queue.now c.args.at c.requires.1 c.loop-i.i c.loop-i-test.true c.loop-i.invariant.0 in
    omega (arith, back_from)

pub loop-i-preserved : goal.loop-i-preserved
loop-i-preserved c =
    let l = c.loop-i in
    let a = c.args in
    rw c.from-i.ensures (turn a.queue.now a.at c.requires.1 a.n a.out.now l.out l.left l.i c.loop-i-test.true l.invariant)

pub returns : goal.returns
returns c =
    let l = c.loop-i in
    sym (whole c.args.queue.now l.out l.left l.i c.loop-i-test.false l.invariant.1) ∙ l.invariant.4
