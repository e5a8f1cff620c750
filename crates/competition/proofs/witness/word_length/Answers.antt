-- `competition::witness::word_length` meets its contract. The loop's invariant: i is at most `at`, and what is counted so far and the length
-- of the word to i are together the length of the word to `at`. The measure is i.
use native.Mathlib.Omega.{arith}
use Rattle.competition.proofs.Words.{word_short, Back, back}
use Rattle.competition.proofs.witness.word_length.Goals as goal

pub overflow_add-n : goal.overflow_add-n
overflow_add-n c =
    let a = c.args in
    omega (arith, word_short a.queue.now a.at a.at)

pub loop-i-preserved : goal.loop-i-preserved
loop-i-preserved c =
    let back_from : Back c.args.queue.now c.loop-i.i = back c.args.queue.now c.args.at c.requires.1 c.loop-i.i c.loop-i-test.true c.loop-i.invariant.0 in
    rw c.from-i.ensures (omega (arith, back_from))

pub returns : goal.returns
returns c =
    let a = c.args in
    omega (arith, word_short a.queue.now c.loop-i.i c.loop-i.i, word_short a.queue.now a.at a.at)
