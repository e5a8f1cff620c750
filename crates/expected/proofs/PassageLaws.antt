-- What holds of every answer, and where a walk stops, for any schema: its reading has `most_levels` levels, after a finish none of them is open, and
-- only then is the number 0.
use mathlib.Core.Path.{◌≡◌, refl, sym, subst, ◌∙◌}
use mathlib.Core.Logic.{◌⊎◌, inl, inr, ◌≢◌}
use mathlib.Core.Bool.{true, false, true≢false}
use mathlib.Core.List.{List}
use Prim.Native.Nat.{ℕ, ◌≤◌, ◌<◌}
use native.Mathlib.Omega.{arith}
use lib.ListN.{length-replicate}
use Rattle.sdtd.specs.Limits.{most_levels}
use Rattle.sdtd.specs.Schema.{Schema}
use Rattle.sdtd.specs.Tree.{Kind}
use Rattle.sdtd.specs.Document.{Event, opening, closing, finish}
use Rattle.sdtd.specs.Answer.{refused, typed, taken, fine}
use Rattle.events.specs.Events.{Events, events_of}
use Rattle.reading.specs.declared.value.Reading.{Reading}
use Rattle.reading.specs.Levels.{fresh}
use Rattle.reading.specs.Questions.{Next, gives, refuses, opened, closed, after_finish, RootOver, CallMeans}
use Rattle.reading.specs.Passage.{Passage, Passes}
use Rattle.reading.specs.EventFile.{by_calls, number_of}
use Rattle.reading.proofs.OneAnswer.{typed_refused, taken_refused}
use Rattle.reading.proofs.Passages.{passes_each}
use Rattle.reading.proofs.Keeping.{Sized, opened_sized, closed_sized}

-- What holds of each refusal, with 10 to 18, and of what each call that is taken gets holds of every answer.
module _ (r : Reading) (Q : Event → Next → Type 0) (refuse : (x : Event) (i : ℕ) → 10 ≤ i → i ≤ 18 → Q x (refuses r i))
    (opens : (κ : Kind) (g j kept : ℕ) → r.finished ≡ false → r.depth < most_levels
    → Q (opening κ g) (gives (typed j) (opened κ r j kept)))
    (closes : (g : ℕ) → r.finished ≡ false → Q (closing g) (gives taken (closed r)))
    (ends : RootOver r → Q finish (gives taken (after_finish r))) where
  asked : {x : Event} {i : ℕ} {P R : Type 0} {n : Next} → 10 ≤ i → i ≤ 18 → (P → R → Q x n) → ((¬ P) × (n ≡ refuses r i)) ⊎ (P × R) → Q x n
  asked {x} {i} l m next (inl o) = subst (Q x) (sym o.1) (refuse x i l m)
  asked l m next (inr o) = next o.0 o.1

  pub each_answer : (S : Schema) (x : Event) {n : Next} → CallMeans S r x n → Q x n
  each_answer S (opening κ g) =
      asked (omega arith) (omega arith)
      (λ w.
      asked (omega arith) (omega arith)
      (λ u.
      asked (omega arith) (omega arith)
      (λ t.
      asked (omega arith) (omega arith)
      (λ c. asked (omega arith) (omega arith) (λ l o. subst (Q (opening κ g)) (sym o.next) (opens κ g o.type o.kept u l))))))
  each_answer S (closing g) =
      asked (omega arith) (omega arith)
      (λ w.
      asked (omega arith) (omega arith)
      (λ u.
      asked (omega arith) (omega arith)
      (λ t.
      asked (omega arith) (omega arith)
      (λ d. asked (omega arith) (omega arith) (λ e. asked (omega arith) (omega arith) (λ c o. subst (Q (closing g)) (sym o) (closes g u)))))))
  each_answer S finish =
      asked (omega arith) (omega arith)
      (λ w. asked (omega arith) (omega arith) (λ u. asked (omega arith) (omega arith) (λ d o. subst (Q finish) (sym o) (ends d))))

-- no call is refused with 0
never_0 : (S : Schema) (r : Reading) (x : Event) (after : Reading) → ¬ CallMeans S r x (gives (refused 0) after)
never_0 S r x after m =
    each_answer r (λ y n. n.answer ≢ refused 0) (λ y i l h e. let same : i ≡ 0 = cc in omega arith) (λ κ g j kept u l. typed_refused refl)
    (λ g u. taken_refused refl) (λ o. taken_refused refl) S x m refl

-- a walk has the number 0 only if all is fine, after a finish
pub zero_finished : (S : Schema) (r : Reading) (at : ℕ) (es : Events) (p : Passage Reading) → Passes (by_calls S) r at es p
    → number_of p.verdict ≡ 0 → (p.verdict ≡ fine) × (p.last.finished ≡ true)
zero_finished S =
    passes_each (by_calls S) (λ r at es p. number_of p.verdict ≡ 0 → (p.verdict ≡ fine) × (p.last.finished ≡ true))
    (λ r at h z. (refl, h)) (λ r at n z. absurd (omega arith)) (λ r at z. absurd (omega arith))
    (λ r at x es n after m z. absurd (never_0 S r x after (subst (λ (i : ℕ). CallMeans S r x (gives (refused i) after)) z m)))
    (λ r at x es a after q t m later. later)

-- What holds after each call that is taken, where it held before it, holds where the walk stops if it held where it began.
module _ (P : Reading → Type 0)
    (opens : (r : Reading) (κ : Kind) (j kept : ℕ) → r.finished ≡ false → r.depth < most_levels → P r → P (opened κ r j kept))
    (closes : (r : Reading) → r.finished ≡ false → P r → P (closed r)) (ends : (r : Reading) → RootOver r → P r → P (after_finish r)) where
  passage_keeps : (S : Schema) (r : Reading) (at : ℕ) (es : Events) (p : Passage Reading) → Passes (by_calls S) r at es p → P r → P p.last
  passage_keeps S =
      passes_each (by_calls S) (λ r at es p. P r → P p.last) (λ r at f h. h) (λ r at n h. h) (λ r at h. h) (λ r at x es n after m h. h)
      (λ r at x es a after q t m later h.
      later
      (each_answer r (λ y n. P n.reading) (λ y i l k. h) (λ κ g j kept u l. opens r κ j kept u l h) (λ g u. closes r u h)
      (λ o. ends r o h) S x m))

module _ (S : Schema) (file : List ℕ) (p : Passage Reading) (passes : Passes (by_calls S) fresh 0 (events_of file) p) where
  -- at most `most_levels` levels are open
  pub passage_sized : Sized p.last
  passage_sized =
      passage_keeps Sized (λ r κ j kept u l. opened_sized κ j kept l) (λ r u. closed_sized)
      (λ r o s. record { depth = s.depth; types = s.types; sets = s.sets }) S fresh 0 (events_of file) p
      passes
      (record { depth = omega arith; types = length-replicate {A = ℕ} most_levels 0; sets = length-replicate {A = ℕ} most_levels 0 })

  -- after a finish no level is open
  pub finished_closed : p.last.finished ≡ true → p.last.depth ≡ 0
  finished_closed =
      passage_keeps (λ r. r.finished ≡ true → r.depth ≡ 0) (λ r κ j kept u l h f. absurd (true≢false (sym f ∙ u)))
      (λ r u h f. absurd (true≢false (sym f ∙ u))) (λ r o h f. o.closed) S fresh 0 (events_of file) p passes
      (λ f. refl)
