-- No text of what would have been taken is longer than `most_expected`.
use mathlib.Core.Path.{◌≡◌}
use mathlib.Core.Bool.{Bool, true, false, cond}
use mathlib.Core.List.{List, [], ◌∷◌, ◌++◌}
use Prim.Native.Nat.{ℕ, ◌+◌, ◌*◌, ◌^◌, ◌≤◌, ◌<◌}
use native.Mathlib.Omega.{arith}
use lib.Dec.{eqb}
use lib.ListN.{length, take, get_or, length-append, length-take}
use Rattle.sdtd.specs.Limits.{most_levels}
use Rattle.expected.specs.Expected.{most_openings}
use Rattle.expected.specs.declared.Expected.{Expected}
use Rattle.text.specs.Line.{line_end}
use Rattle.std.specs.Fmt.{decimal}
use Rattle.std.proofs.lemmas.Fmt.{length-decimal-le}
use Rattle.report.specs.Words.{refused, space, accepted_line, inside, open_nil, close_line, finish_line}
use Rattle.report.specs.Text.{numbered, refusal_line}
use Rattle.report.specs.ExpectedText.{spaced, inside_line, open_line, open_lines, end_lines, taken_lines, expected_text}
use Rattle.report.specs.ExpectedReport.{most_number, most_expected}
use Rattle.report.proofs.TextLengths.{Bytes, bytes, bytes_take, refusal_long}

spaced_long : (ts : List ℕ) → Bytes ts → length (spaced ts) ≤ most_number * length ts
spaced_long [] h = omega arith
spaced_long (t ∷ ts) (h, hs) =
    let a = length-decimal-le 3 t (omega arith) (omega arith) (omega arith) in
    let b = spaced_long ts hs in
    omega (arith, length-append (numbered space t) (spaced ts), length-append space (decimal t))

open_long : (nil : Bool) (g : ℕ) → g < 256 → length (open_line nil g) ≤ length open_nil + most_number
unfolding open_line
open_long true g h = let a = length-decimal-le 3 g (omega arith) (omega arith) (omega arith) in simp length-append (omega arith)
open_long false g h = let a = length-decimal-le 3 g (omega arith) (omega arith) (omega arith) in simp length-append (omega arith)

opens_long : (gs : List ℕ) (ns : List Bool) → Bytes gs → length (open_lines gs ns) ≤ (length open_nil + most_number) * length gs
opens_long [] ns h = omega arith
opens_long (g ∷ gs) [] h = omega arith
opens_long (g ∷ gs) (n ∷ ns) (h, hs) =
    let a = open_long n g h in
    let b = opens_long gs ns hs in
    omega (arith, length-append (open_line n g) (open_lines gs ns))

ends_long : (closes finishes : Bool) → length (end_lines closes finishes) ≤ length close_line + length finish_line
unfolding end_lines
ends_long true true = omega arith
ends_long true false = omega arith
ends_long false true = omega arith
ends_long false false = omega arith

-- a table of types and one of tags, as a value has them
module _ (e : Expected) (types : length e.types ≡ most_levels) (tags : length e.tags ≡ most_openings)
    (type_bytes : (i : ℕ) → get_or e.types i 0 < 256) (tag_bytes : (i : ℕ) → get_or e.tags i 0 < 256) where
  taken_long : length (taken_lines e)
      ≤ (length inside + most_number * most_levels + 1) + (length open_nil + most_number) * most_openings + (length close_line + length finish_line)
  unfolding inside_line taken_lines
  taken_long =
      let ts = take e.depth e.types in
      let gs = take e.count e.tags in
      let ns = take e.count e.nils in
      let a = spaced_long ts (bytes_take e.depth e.types (bytes e.types type_bytes)) in
      let b = opens_long gs ns (bytes_take e.count e.tags (bytes e.tags tag_bytes)) in
      let c = ends_long e.closes e.finishes in
      omega (
        arith,
        length-append (inside_line ts) (open_lines gs ns ++ end_lines e.closes e.finishes),
        length-append inside (spaced ts ++ line_end),
        length-append (spaced ts) line_end,
        length-append (open_lines gs ns) (end_lines e.closes e.finishes),
        length-take e.depth e.types,
        length-take e.count e.tags,
      )

  pub expected_short : e.number < 256 → e.place < 2 ^ 64 → length (expected_text e) ≤ most_expected
  unfolding expected_text
  expected_short h k = by (eqb e.number 0)
    where
      by : (c : Bool) → length (cond c accepted_line (refusal_line refused e.number e.place ++ taken_lines e)) ≤ most_expected
      by true = omega arith
      by false =
          omega (
            arith,
            length-append (refusal_line refused e.number e.place) (taken_lines e),
            refusal_long refused e.number e.place h k,
            taken_long,
          )
