-- Laying nothing, and one text after another, on a page.
use mathlib.Core.Path.{◌≡◌, refl, sym, ap, ◌∙◌}
use mathlib.Core.List.{List, [], ◌++◌}
use Prim.Native.Nat.{ℕ, ◌+◌}
use native.Mathlib.Decide.{dec_le}
use native.Mathlib.Omega.{arith}
use Rattle.std.specs.Prelude.{min, max}
use lib.ListN.{length, length-append}
use lib.Seq.{sets, length-sets}
use Rattle.text.specs.Page.{most_counted, Sheet, sheet_of, laid}
use Rattle.text.proofs.LaidLaws.{laid_past, sets_then}

-- the place after n bytes, where the largest place is `most`
abbrev after : ℕ → ℕ → ℕ → ℕ
after at n most = max at (min (at + n) most)

after_then : (at n m most : ℕ) → after at (n + m) most ≡ after (after at n most) m most
after_then at n m most = omega arith

-- the second text goes where the first ends, inside the buffer or past its end
bytes_then : (was : List ℕ) (at : ℕ) (s t : List ℕ)
    → sets was at (s ++ t) ≡ sets (sets was at s) (after at (length s) (max most_counted (length was))) t
bytes_then was at s t =
    let most : ℕ = max most_counted (length was) in
    sets_then was at s t
    ∙ elim (dec_le (at + length s) most) [
      | yes h ↦ ap (λ (n : ℕ). sets (sets was at s) n t) (omega arith)
      | no n ↦
          laid_past (sets was at s) (at + length s) t (omega (arith, length-sets was at s))
          ∙ sym (laid_past (sets was at s) (after at (length s) most) t (omega (arith, length-sets was at s)))
    ]

-- Laying one text and then another is laying the two as one.
pub laid_append : (p : Sheet) (s t : List ℕ) → laid p (s ++ t) ≡ laid (laid p s) t
unfolding laid
laid_append p s t =
    let most : ℕ = max most_counted (length p.bytes) in
    let place : max p.at (min (p.at + length (s ++ t)) most) ≡ after (after p.at (length s) most) (length t) most =
    ap (λ (n : ℕ). after p.at n most) (length-append s t) ∙ after_then p.at (length s) (length t) most in
    rw (bytes_then p.bytes p.at s t, place, length-sets p.bytes p.at s) refl

pub laid_none : (p : Sheet) → laid p [] ≡ p
unfolding laid
laid_none p =
    let place : max p.at (min (p.at + 0) (max most_counted (length p.bytes))) ≡ p.at = omega arith in
    ap (sheet_of p.bytes) place

-- pages in a row, piece after piece
pub laid_then : (p : Sheet) {q r : Sheet} (s t : List ℕ) → q ≡ laid p s → r ≡ laid q t → r ≡ laid p (s ++ t)
laid_then p s t e f = f ∙ ap (λ (q : Sheet). laid q t) e ∙ sym (laid_append p s t)
