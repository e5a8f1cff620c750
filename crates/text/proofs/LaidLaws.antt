-- Bytes set in a buffer from a place on: one text after another, past the buffer's end, from its start, and by a copy. Texts laid at a place, one
-- after another.
use mathlib.Core.Path.{◌≡◌, refl, sym, ap, ◌∙◌}
use mathlib.Core.List.{List, [], ◌∷◌, ◌++◌, append_assoc}
use Prim.Native.Nat.{ℕ, suc, ◌+◌, ◌-◌, ◌≤◌}
use Rattle.std.specs.Prelude.{min}
use native.Mathlib.Decide.{dec_le}
use native.Mathlib.Omega.{arith}
use lib.ListN.{length, set, take, drop, take-append-drop, drop_of_length-le, length-append}
use Rattle.std.proofs.lemmas.List.{drop-drop}
use lib.Seq.{sets, sets-eq, length-sets, set_out, take_all, length-take-le, take_at}
use Rattle.text.specs.Laid.{Laid}

-- past the end nothing is put
pub laid_past : (was : List ℕ) (at : ℕ) (text : List ℕ) → length was ≤ at → sets was at text ≡ was
laid_past was at [] h = refl
laid_past was at (b ∷ text) h = rw (set_out was at b h) (laid_past was (suc at) text (omega arith))

pub sets_then : (was : List ℕ) (at : ℕ) (s t : List ℕ) → sets was at (s ++ t) ≡ sets (sets was at s) (at + length s) t
sets_then was at [] t = ap (λ (n : ℕ). sets was n t) (omega arith)
sets_then was at (b ∷ s) t =
    sets_then (set was at b) (suc at) s t
    ∙ ap (λ (n : ℕ). sets (sets (set was at b) (suc at) s) n t) (omega arith)

-- a text that fits
fits : (was text : List ℕ) → length text ≤ length was → sets was 0 text ≡ text ++ drop (length text) was
fits was text h =
    let same : 0 + length text ≡ length text = omega arith in
    sets-eq text was 0 (omega arith) ∙ ap (λ (n : ℕ). text ++ drop n was) same

-- A text that fits is laid whole, and the next place counts its bytes.
pub laid_whole : {was text is : List ℕ} {r : ℕ} → Laid was 0 text is r → length text ≤ length was → (r ≤ length is) × (take r is ≡ text)
laid_whole {was} {text} {is} {r} x h =
    let same : r ≡ length text = omega (arith, x.place) in
    let long : length is ≡ length was = ap length x.bytes ∙ length-sets was 0 text in
    (omega arith, rw (x.bytes, fits was text h) (take_at text (drop (length text) was) r (sym same)))

-- a text laid from the buffer's start on ends inside it
pub laid_inside : {was text is : List ℕ} {r : ℕ} → Laid was 0 text is r → r ≤ length is
laid_inside {was} {text} l = omega (arith, l.place, ap length l.bytes, length-sets was 0 text)

-- from the buffer's start on
pub sets_start : (was text : List ℕ) → sets was 0 text ≡ take (length was) text ++ drop (length text) was
sets_start was text =
    elim (dec_le (length text) (length was)) [
      | yes h ↦ rw (take_all (length was) text h) (fits was text h)
      | no n ↦
          let some = take (length was) text in
          let long : length some ≡ length was = length-take-le (length was) text (omega arith) in
          let split : text ≡ some ++ drop (length was) text = sym (take-append-drop (length was) text) in
          ap (sets was 0) split
          ∙ sets_then was 0 some (drop (length was) text)
          ∙ laid_past (sets was 0 some) (0 + length some) (drop (length was) text) (omega (arith, length-sets was 0 some))
          ∙ fits was some (omega arith)
          ∙ ap (λ (l : List ℕ). some ++ l)
          (drop_of_length-le was {i = length some} (omega arith) ∙ sym (drop_of_length-le was {i = length text} (omega arith)))
    ]

-- what a copy of the bytes that fit leaves
pub copied : (was : List ℕ) (at n : ℕ) (text : List ℕ) → at ≤ length was → n ≡ min (length text) (length was - at)
    → sets was at text ≡ take at was ++ (take n text ++ drop n (drop at was))
copied was at n text h q =
    let some = take n text in
    let long : length some ≡ n = length-take-le n text (omega arith) in
    let rest : sets (sets was at some) (at + length some) (drop n text) ≡ sets was at some =
    elim (dec_le (length text) n) [
      | yes all ↦ ap (sets (sets was at some) (at + length some)) (drop_of_length-le text all)
      | no more ↦ laid_past (sets was at some) (at + length some) (drop n text) (omega (arith, length-sets was at some))
    ] in
    ap (sets was at) (sym (take-append-drop n text))
    ∙ sets_then was at some (drop n text)
    ∙ rest
    ∙ sets-eq some was at (omega arith)
    ∙ append_assoc (take at was) some (drop (at + length some) was)
    ∙ ap (λ (l : List ℕ). take at was ++ (some ++ l)) (ap (λ (k : ℕ). drop (at + k) was) long ∙ sym (drop-drop n at was))

-- Laying nothing at a place.
pub laid_none : (was : List ℕ) (at : ℕ) → Laid was at [] was at
laid_none was at = record { bytes = refl; place = omega arith }

module _ {was : List ℕ} {at : ℕ} {s m : List ℕ} {r : ℕ} {t is : List ℕ} {q : ℕ} (x : Laid was at s m r) (y : Laid m r t is q) where
  long : length m ≡ length was
  long = ap length x.bytes ∙ length-sets was at s

  -- the second text goes where the first one ends, inside the buffer or not
  second : sets m r t ≡ sets m (at + length s) t
  second =
      elim (dec_le (at + length s) (length was)) [
        | yes h ↦ ap (λ (n : ℕ). sets m n t) (omega (arith, x.place))
        | no n ↦ laid_past m r t (omega (arith, x.place, long)) ∙ sym (laid_past m (at + length s) t (omega (arith, long)))
      ]

  -- Laying one text and then another is laying the two as one.
  pub laid_then : Laid was at (s ++ t) is q
  laid_then =
      record {
        bytes = y.bytes ∙ second ∙ ap (λ (l : List ℕ). sets l (at + length s) t) x.bytes ∙ sym (sets_then was at s t);
        place = omega (arith, x.place, y.place, long, length-append s t);
      }

-- What is left of a text, laid from a place of a buffer on, is the whole of it laid.
pub record ToGo (was : List ℕ) (at : ℕ) (whole now : List ℕ) (place : ℕ) (rest : List ℕ) : Type 0 where
  pub long : length now ≡ length was
  pub then : (is : List ℕ) (r : ℕ) → Laid now place rest is r → Laid was at whole is r

pub all_to_go : (was : List ℕ) (at : ℕ) (whole : List ℕ) → ToGo was at whole was at whole
all_to_go was at whole = record { long = refl; then = λ is r l. l }

module _ {was : List ℕ} {at : ℕ} {whole now : List ℕ} {place : ℕ} {rest : List ℕ} (x : ToGo was at whole now place rest) where
  pub one_less : {s t m : List ℕ} {r : ℕ} → rest ≡ s ++ t → Laid now place s m r → ToGo was at whole m r t
  one_less {s} {t} q l =
      record {
        long = ap length l.bytes ∙ length-sets now place s ∙ x.long;
        then = λ is r k. x.then is r (rw q (laid_then l k));
      }

  pub none_left : rest ≡ [] → Laid was at whole now place
  none_left q = x.then now place (rw q (laid_none now place))
