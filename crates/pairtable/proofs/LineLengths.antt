-- The lines of the table of pair numbers have at most four bytes each, so that a buffer of 4,096 bytes takes them all.
use mathlib.Core.List.{List, [], ◌∷◌}
use Prim.Native.Nat.{ℕ, suc, ◌*◌, ◌≤◌, ◌<◌}
use native.Mathlib.Omega.{arith}
use lib.ListN.{length, get_or, length-append}
use Rattle.std.proofs.lemmas.Fmt.{length-decimal-le}
use Rattle.sdtd.specs.Limits.{most_pairs}
use Rattle.text.proofs.LaidLaws.{laid_whole}
use Rattle.text.specs.Laid.{Laid}
use Rattle.pairs.specs.Table.{ordered_pairs, PairTable}
use Rattle.pairs.proofs.TableRule.{entry_below}
use Rattle.pairtable.specs.Lines.{line_of, lines_of, TextOf}

-- a number below 528 has at most three digits
line_short : (n : ℕ) → n < most_pairs → length (line_of n) ≤ 4
line_short n h = let a = length-decimal-le 3 n (omega arith) (omega arith) (omega arith) in simp length-append (omega arith)

lines_short : (ns : List ℕ) → ((k : ℕ) → k < length ns → get_or ns k 0 < most_pairs) → length (lines_of ns) ≤ 4 * length ns
lines_short [] h = omega arith
lines_short (n ∷ ns) h =
    let first = line_short n (h 0 (omega arith)) in
    let rest = lines_short ns (λ k l. h (suc k) (omega arith)) in
    omega (arith, length-append (line_of n) (lines_of ns))

table_short : {ns : List ℕ} → PairTable ns → length (lines_of ns) ≤ 4 * ordered_pairs
table_short {ns} p = omega (arith, p.size, lines_short ns (λ k l. entry_below p k (omega (arith, p.size))))

-- the lines of the table, laid from the start of so long a buffer, are there whole
pub table_text : (ns : List ℕ) {was is : List ℕ} {r : ℕ} → PairTable ns → Laid was 0 (lines_of ns) is r → 4 * ordered_pairs ≤ length was → TextOf ns is r
table_text ns p l h =
    let whole = laid_whole l (omega (arith, table_short p)) in
    record { inside = whole.0; lines = whole.1 }
