-- Calls that would be taken, for any schema and any reading: each is decided, and none is after a finish.
use mathlib.Core.Path.{◌≡◌, sym, subst}
use mathlib.Core.Bool.{true, false}
use Prim.Native.Nat.{ℕ, ◌<◌}
use native.Mathlib.Omega.{arith}
use Rattle.sdtd.specs.Limits.{most_tags}
use Rattle.sdtd.specs.Schema.{Schema, tag_of}
use Rattle.sdtd.specs.Tree.{Kind}
use Rattle.sdtd.specs.Document.{Event, opening, closing, finish}
use Rattle.sdtd.specs.Answer.{Answer, refused, typed, taken}
use Rattle.sdtd.specs.Calls.{IsTaken}
use Rattle.sdtd.proofs.Tests.{Decision, decision, means_iff}
use Rattle.reading.specs.declared.value.Reading.{Reading}
use Rattle.reading.specs.Levels.{inner_type}
use Rattle.reading.specs.Stop.{WouldTake}
use Rattle.reading.proofs.AnswerExists.{call_exists}
use Rattle.reading.proofs.Asking.{taken_told, would_hold}

taken_decided : (a : Answer) → Decision (IsTaken a)
taken_decided (refused n) = (false, record { says = λ t. t; passes = λ t. t })
taken_decided (typed j) = (true, record { says = λ t. t; passes = λ t. t })
taken_decided taken = (true, record { says = λ t. t; passes = λ t. t })

module _ (S : Schema) (r : Reading) where
  -- the reading is not finished
  pub taken_unfinished : (x : Event) → WouldTake S r x → r.finished ≡ false
  taken_unfinished (opening κ g) w = (would_hold S r (opening κ g) w).1.0
  taken_unfinished (closing g) w = (would_hold S r (closing g) w).1.0
  taken_unfinished finish w = (would_hold S r finish w).1.0

  -- an opening's tag is below the limit
  pub taken_below : (κ : Kind) (g : ℕ) → WouldTake S r (opening κ g) → g < most_tags
  taken_below κ g w = let h = would_hold S r (opening κ g) w in omega (arith, h.0.schema.tags_most, h.1.1.0)

  pub would_decided : (x : Event) → Decision (WouldTake S r x)
  would_decided x =
      let (n, m) = call_exists S r x in
      let told = taken_told S r x n m in
      decision (means_iff (taken_decided n.answer).1 (told.1, told.0))

  -- only a closing of the innermost element's tag
  pub closes_decided : Decision ((g : ℕ) × WouldTake S r (closing g))
  closes_decided =
      let tag = tag_of S (inner_type r) in
      let own : (g : ℕ) → WouldTake S r (closing g) → g ≡ tag = λ g w. sym (would_hold S r (closing g) w).1.1.1.1.0 in
      decision
      (means_iff (would_decided (closing tag)).1 (
        λ w. subst (λ (g : ℕ). WouldTake S r (closing g)) (own w.0 w.1) w.1,
        λ w. (tag, w),
      ))
