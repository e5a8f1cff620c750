-- The promise of a call that answers 9 leaves one A and one n, whichever types and word the call chooses.
use mathlib.Core.Path.{◌≡◌, sym, ap, ◌∙◌}
use mathlib.Core.List.{List}
use Prim.Native.Nat.{ℕ, ◌+◌}
use native.Mathlib.Omega.{arith}
use lib.ListN.{length, drop}
use lib.Seq.{drop_at}
use Rattle.sdtd.specs.Schema.{Schema}
use Rattle.sdtd.specs.Numbered.{type_no}
use Rattle.sdtd.proofs.Witnesses.{parts_of, same_parent, same_length}
use Rattle.competition.specs.Witness.{word_place, head_of}
use Rattle.competition.specs.Search.{Written}
use Rattle.competition.specs.declared.witness.WitnessHead.{WitnessHead}
use Rattle.competition.proofs.Answers.{head_written}

-- Two buffers have one A and one n, as their heads say.
pub record SameTypeAndLength (is₁ is₂ : List ℕ) : Type 0 where
  pub of : (head_of is₁).of ≡ (head_of is₂).of
  pub word : (head_of is₁).word ≡ (head_of is₂).word

-- a buffer's head is that of the witness that fills it
head_filled : {S : Schema} {was is : List ℕ} (x : Written S was is)
    → head_of is
    ≡ record {
      of = type_no (parts_of x.witness).parent;
      first = type_no (parts_of x.witness).first;
      second = type_no (parts_of x.witness).second;
      word = length (parts_of x.witness).word;
    }
head_filled {was = was} x = ap head_of x.filled ∙ head_written x.witness (drop (length x.bytes) was)

-- the witness fills 5 + n bytes: from there on the buffer is as it was
pub rest_filled :
    {S : Schema} {was is : List ℕ} → Written S was is → drop (word_place + (head_of is).word) is ≡ drop (word_place + (head_of is).word) was
rest_filled {was = was} {is} x =
    let n = word_place + (head_of is).word in
    let long : length x.bytes ≡ n =
    omega (arith, ap length (parts_of x.witness).written, ap (λ (h : WitnessHead). h.word) (head_filled x)) in
    ap (drop n) x.filled
    ∙ drop_at x.bytes (drop (length x.bytes) was) n long
    ∙ ap (λ (l : ℕ). drop l was) long

-- two witnesses of a schema, written into any buffers, have one A and one n
pub same_written : {S : Schema} {was₁ is₁ was₂ is₂ : List ℕ} → Written S was₁ is₁ → Written S was₂ is₂ → SameTypeAndLength is₁ is₂
same_written x y =
    let v = x.witness in
    let w = y.witness in
    record {
      of = ap (λ (h : WitnessHead). h.of) (head_filled x) ∙ ap type_no (same_parent v w) ∙ sym (ap (λ (h : WitnessHead). h.of) (head_filled y));
      word = ap (λ (h : WitnessHead). h.word) (head_filled x) ∙ same_length v w ∙ sym (ap (λ (h : WitnessHead). h.word) (head_filled y));
    }
