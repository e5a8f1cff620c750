-- Of the schema file's answer: 24 exactly where a type is unused, at the first such TYPE, and after 8.
use mathlib.Core.Path.{◌≡◌, refl, sym, ap, subst}
use mathlib.Core.Logic.{◌↔◌, inl, inr, ⊎_elim}
use mathlib.Core.List.{List}
use Prim.Native.Nat.{ℕ, ◌≤◌}
use native.Mathlib.Omega.{arith}
use lib.ListN.{length}
use Rattle.std.specs.Prelude.{Result}
use Rattle.sdtd.specs.Limits.{least_witness}
use Rattle.sdtd.proofs.Verdicts.{same_number, same_place, refused_not_fine}
use Rattle.commands.specs.File.{Stated, Commands, stopped, states, commands}
use Rattle.commands.proofs.Passing.{stopped_number}
use Rattle.schema_file.specs.Answer.{AnswerBy, AnswerIs, FileMeans, FirstUnusedAt}
use Rattle.sdtd.specs.declared.Refusal.{Refusal}
use Rattle.schema.specs.declared.value.Schema.{Schema}
use Rattle.schema_file.proofs.AfterDone.{UnusedAt, AfterDone, unknown_type, treeless, unused, competing, accepted, after_cases, after_answer}
use Rattle.schema_file.proofs.FileAnswers.{file_unique}
use Rattle.sdtd.specs.Answer.{refused_at, verdict_of}

module _ (file : List ℕ) {p : ℕ} where
  after_24 : (g : Stated) → commands file ≡ states g → AfterDone g (refused_at 24 p) → FirstUnusedAt file p
  after_24 g e (unknown_type n o) = absurd (omega (arith, same_number o))
  after_24 g e (treeless k n o) = absurd (omega (arith, same_number o))
  after_24 g e (unused k b f) =
      record {
        stated = g;
        passes = e;
        known = k;
        bears = b;
        type = f.type;
        given = omega (arith, f.below);
        unused = f.unused;
        before = λ a l. f.before a (omega arith) l;
        place = same_place f.answer;
      }
  after_24 g e (competing k b u c o) = absurd (omega (arith, same_number o))
  after_24 g e (accepted k b u n o) = refused_not_fine refl o

  by_24 : (k : Commands) → commands file ≡ k → AnswerBy k (refused_at 24 p) → FirstUnusedAt file p
  by_24 (stopped n q) e r =
      let l = (stopped_number file e).1 in
      ⊎_elim (λ h. absurd (omega (arith, same_number r))) (λ h. absurd (omega (arith, same_number r))) l
  by_24 (states g) e r = after_24 g e (after_cases g (refused_at 24 p) r)

  -- refused with 24 at p: the TYPE at p is the first whose type no valid document uses
  pub refused_24 : (was : List ℕ) → AnswerIs file was (refused_at 24 p) → FirstUnusedAt file p
  refused_24 was (inl o) = absurd (omega (arith, same_number o.1))
  refused_24 was (inr o) = by_24 (commands file) refl o.1

  -- and back
  pub unused_24 : (was : List ℕ) → least_witness ≤ length was → FirstUnusedAt file p → AnswerIs file was (refused_at 24 p)
  unused_24 was l x =
      let g = x.stated in
      let f : UnusedAt g (refused_at 24 p) =
      record {
        type = x.type;
        from = omega arith;
        below = omega (arith, x.given);
        unused = x.unused;
        before = λ a z h. x.before a h;
        answer = ap (λ (q : ℕ). refused_at 24 q) x.place;
      } in
      let a = after_answer g (refused_at 24 p) (unused x.known x.bears f) in
      inr (l, subst (λ (k : Commands). AnswerBy k (refused_at 24 p)) (sym x.passes) a)

-- The call answers 24 at p exactly if p is the place of the first such TYPE.
pub file_unused : {file was is : List ℕ} {r : Result Schema Refusal} → FileMeans file was is r → least_witness ≤ length was → (p : ℕ)
    → (verdict_of r ≡ refused_at 24 p) ↔ FirstUnusedAt file p
file_unused {file} {was} m l p = (
  λ e. refused_24 file was (subst (AnswerIs file was) e m.answer),
  λ x. file_unique file was m.answer (unused_24 file was l x),
)
