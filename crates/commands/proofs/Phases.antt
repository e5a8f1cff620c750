-- Two phases are one exactly where their ranks are.
use mathlib.Core.Bool.{true, false}
use mathlib.Core.Path.{◌≡◌, refl, sym, ap, ◌∙◌}
use Prim.Native.Nat.{ℕ, zero, suc}
use mathlib.Core.Logic.{◌≢◌}
use borrow.Author.Tests.{eq-eqb, ne_eqb}
use Rattle.commands.specs.Questions.{rank, same_phase}
use Rattle.commands.specs.declared.phase.Phase.{Phase}
use Rattle.commands.specs.declared.phase.Phase.TheVariants.{BeforeTags, BeforeTypes, InBlock, InExpression, AfterExpression, AfterRoot, AfterDone}

-- the phase of a rank
phase_at : ℕ → Phase
phase_at zero = BeforeTags
phase_at (suc zero) = BeforeTypes
phase_at (suc (suc zero)) = InBlock
phase_at (suc (suc (suc zero))) = InExpression
phase_at (suc (suc (suc (suc zero)))) = AfterExpression
phase_at (suc (suc (suc (suc (suc zero))))) = AfterRoot
phase_at (suc (suc (suc (suc (suc (suc n)))))) = AfterDone

ranked : (p : Phase) → phase_at (rank p) ≡ p
unfolding phase_at
ranked BeforeTags = refl
ranked BeforeTypes = refl
ranked InBlock = refl
ranked InExpression = refl
ranked AfterExpression = refl
ranked AfterRoot = refl
ranked AfterDone = refl

-- the test by ranks
pub own_phase : (p q : Phase) → p ≡ q → same_phase p q ≡ true
own_phase p q e = eq-eqb (rank p) (rank q) (ap rank e)

pub other_phase : (p q : Phase) → p ≢ q → same_phase p q ≡ false
other_phase p q n = ne_eqb (rank p) (rank q) (λ e. n (sym (ranked p) ∙ ap phase_at e ∙ ranked q))
