-- A text laid on a page from a buffer's start on, and the report that it makes.
use mathlib.Core.Path.{◌≡◌, refl, sym, ap, ap₂, ◌∙◌}
use mathlib.Core.List.{List}
use Prim.Native.Nat.{ℕ, ◌≤◌, ◌<◌, min}
use native.Mathlib.Decide.{dec_le}
use native.Mathlib.Omega.{arith}
use lib.ListN.{length, take, drop, length-append, length-take, length-drop}
use lib.Seq.{sets, take_all, take_at, length-take-le, length-sets}
use Rattle.report.specs.Words.{too_long}
use Rattle.text.specs.declared.page.Page.{Page}
use Rattle.text.specs.Page.{Sheet, laid, Lays}
use Rattle.report.specs.Steps.{WholeLaid, AnswerLaid}
use Rattle.report.specs.Report.{most_schema, most_events, ReportedBy}
use Rattle.text.proofs.LaidLaws.{sets_start}

-- a list cut at a length, or at its own where that is less
pub cut : {A : Type 0} (l : List A) (n r : ℕ) → r ≡ min n (length l) → take r l ≡ take n l
cut l n r q =
    elim (dec_le n (length l)) [
      | yes h ↦ let same : r ≡ n = omega arith in rw same
      | no k ↦ take_all r l (omega arith) ∙ sym (take_all n l (omega arith))
    ]

pub cut_long : {A : Type 0} (l : List A) (n r : ℕ) → r ≡ min n (length l) → r ≡ length (take r l)
cut_long l n r q = sym (length-take-le r l (omega arith))

-- a text that is laid and has at most so many bytes has at most any greater number of them
pub laid_within : {most enough : ℕ} {was is : Page} {text : List ℕ} → most ≤ enough → WholeLaid most was text is → WholeLaid enough was text is
laid_within h w = record { laid = w.laid; short = omega (arith, w.short) }

module _ {Prints : List ℕ → List ℕ → List ℕ → Type 0} {most : ℕ} where
  pub laid_long : (schema : List ℕ) {events : List ℕ} {was is : Page} → length too_long ≤ most → most_events < length events → Lays was too_long is
      → AnswerLaid Prints most schema events was is
  laid_long schema short h l =
      record {
        text = too_long;
        printed = record { too_long = λ k. refl; answered = λ k. absurd (omega arith) };
        whole = record { laid = l; short = short };
      }

  pub laid_job : {schema events text : List ℕ} {was is : Page} → length events ≤ most_events → Prints (take most_schema schema) events text
      → WholeLaid most was text is → AnswerLaid Prints most schema events was is
  laid_job {text = text} h printed w =
      record { text = text; printed = record { too_long = λ k. absurd (omega arith); answered = λ k. printed }; whole = w }

  -- what is laid on a page from a buffer's start on
  pub reported : {schema events b out : List ℕ} {was is : Page} {r : ℕ} → (was.out.now ≡ b) × (was.at ≡ 0)
      → AnswerLaid Prints most schema events was is → out ≡ is.out.now → r ≡ min is.at (length is.out.now)
      → ReportedBy Prints most schema events b out r
  unfolding laid
  reported {b = b} {out} {was} {is} (before, place) x q held =
      let l = x.whole.laid.1 in
      let bytes : is.out.now ≡ sets b 0 x.text =
      ap (λ (s : Sheet). s.bytes) l ∙ ap₂ (λ (c : List ℕ) (n : ℕ). sets c n x.text) before place in
      let long : length is.out.now ≡ length b = ap length bytes ∙ length-sets b 0 x.text in
      record {
        text = x.text;
        printed = x.printed;
        short = x.whole.short;
        buffer = q ∙ bytes ∙ sets_start b x.text;
        count = omega (arith, held, ap (λ (s : Sheet). s.at) l, place, long, ap length before);
      }

  -- The answer counts bytes at the buffer's start.
  pub reported_within : {schema events was is : List ℕ} {r : ℕ} → ReportedBy Prints most schema events was is r → r ≤ length is
  reported_within {was = was} {is} x =
      let long = ap length x.buffer ∙ length-append (take (length was) x.text) (drop (length x.text) was) in
      omega (arith, x.count, long, length-take (length was) x.text, length-drop (length x.text) was)

  -- A buffer of `most` bytes takes the whole text.
  pub reported_whole : {schema events was is : List ℕ} {r : ℕ} (x : ReportedBy Prints most schema events was is r) → most ≤ length was
      → (r ≡ length x.text) × (take r is ≡ x.text)
  reported_whole {was = was} {is} {r} x h =
      let fits = x.short in
      let same : r ≡ length x.text = omega (arith, x.count) in
      let all : take (length was) x.text ≡ x.text = take_all (length was) x.text (omega arith) in
      (same, rw (x.buffer, all) (take_at x.text _ r (sym same)))
