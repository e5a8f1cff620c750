-- The steps that are left of a block whose steps rise, rise; and the lists of a block that an expression states rise. So of a type that is written
-- by its states in place of an expression the FINALs rise, and then the STEPs.
use mathlib.Core.Path.{◌≡◌, sym, ap, subst, ◌∙◌}
use mathlib.Core.Logic.{inl, inr}
use mathlib.Core.Bool.{Bool}
use mathlib.Core.List.{List, [], ◌∷◌}
use Prim.Native.Nat.{ℕ, ◌<◌}
use lib.Dec.{T}
use lib.ListN.{length}
use Rattle.sdtd.specs.Schema.{Step, Block, Schema, block_of}
use Rattle.sdtd.specs.Reduced.{new_number, relabel_step, steps_left, block_left}
use Rattle.sdtd.specs.declared.Tag.{Tag}
use Rattle.sdtd.proofs.Basics.{cond_either}
use Rattle.sdtd.proofs.NewNumbers.{new_rises}
use Rattle.std.specs.Prelude.{Option, Some, None}
use Rattle.command.specs.Command.{command_at}
use Rattle.command.specs.declared.Command.{Command}
use Rattle.command.specs.Cases.{on_type}
use Rattle.command.specs.declared.Command.TheVariants.{TypeBlock}
use Rattle.sdtd.specs.Lists.{RisingFrom, Rising}
use Rattle.expression.specs.Automaton.{Before}
use Rattle.expression.proofs.AutomatonLaws.{before_trans}
use Rattle.commands.specs.File.{StatesSchema}
use Rattle.commands.specs.TypePlaces.{place_of_type}
use Rattle.commands.proofs.StatedExpressions.{type_written}
use Rattle.commands.proofs.LeftDrafts.{none_left, step_kept, step_dropped}

-- a list that rises from t on rises from each step before t
rises_earlier : (s t : Step) (ss : List Step) → Before s t → RisingFrom Before t ss → RisingFrom Before s ss
rises_earlier s t [] b r = tt
rises_earlier s t (u ∷ ss) b r = (before_trans s t u b r.0, r.1)

module _ (kept : ℕ → Bool) where
  abbrev image : Step → Step
  image s = relabel_step (new_number kept) s

  -- with new numbers a step by a kept type comes before those that it came before
  image_before : (s t : Step) → T (kept s.by) → Before s t → Before (image s) (image t)
  image_before s t k (inl l) = inl l
  image_before s t k (inr (e, inl l)) = inr (e, inl (new_rises kept s.by t.by k l))
  image_before s t k (inr (e, inr (f, l))) = inr (e, inr (ap (new_number kept) f, l))

  left_from : (s : Step) (ss : List Step) → T (kept s.by) → RisingFrom Before s ss → RisingFrom Before (image s) (steps_left kept ss)
  left_from s [] k r = subst (RisingFrom Before (image s)) (sym (none_left kept)) tt
  left_from s (t ∷ ss) k r =
      let P : List Step → Type 0 = λ l. RisingFrom Before (image s) l in
      cond_either (λ (u : Unit {0}). P (steps_left kept (t ∷ ss))) (kept t.by) {x = tt} {y = tt}
      (λ h. subst P (sym (step_kept kept t ss h)) (image_before s t k r.0, left_from t ss h r.1))
      (λ h. subst P (sym (step_dropped kept t ss h)) (left_from s ss k (rises_earlier s t ss r.0 r.1)))

  rising_tail : (s : Step) (ss : List Step) → RisingFrom Before s ss → Rising Before ss
  rising_tail s [] r = tt
  rising_tail s (t ∷ ss) r = r.1

  -- The steps that are left of steps that rise, rise.
  pub left_rises : (ss : List Step) → Rising Before ss → Rising Before (steps_left kept ss)
  left_rises [] r = subst (Rising Before) (sym (none_left kept)) tt
  left_rises (s ∷ ss) r =
      cond_either (λ (u : Unit {0}). Rising Before (steps_left kept (s ∷ ss))) (kept s.by) {x = tt} {y = tt}
      (λ h. subst (Rising Before) (sym (step_kept kept s ss h)) (left_from s ss h r))
      (λ h. subst (Rising Before) (sym (step_dropped kept s ss h)) (left_rises ss (rising_tail s ss r)))

-- "FINALs rising, then STEPs rising by from, type, to": so is a block written (`block_commands`) whose lists rise.
pub record BlockRises (b : Block) : Type 0 where
  pub accepting : Rising ◌<◌ b.accepting
  pub steps : Rising Before b.steps

pub left_block_rises : (kept : ℕ → Bool) (b : Block) → BlockRises b → BlockRises (block_left kept b)
unfolding block_left
left_block_rises kept b r = record { accepting = r.accepting; steps = left_rises kept b.steps r.steps }

-- the state count of a TYPE
abbrev states_in : Option Command → ℕ
states_in None = 0
states_in (Some c) = on_type (λ g s. s) 0 c

-- The block of a type of a schema that a file states rises, if its TYPE has state count 0: an expression states it.
pub type_rises : {file : List ℕ} {S : Schema} → StatesSchema file S → (a : ℕ) → a < length S.blocks → (t : Tag)
    → command_at file (place_of_type file a) ≡ Some (TypeBlock t 0) → BlockRises (block_of S a)
type_rises {file} x a l t e =
    let (w, place) = type_written x a l in
    let same : Some (TypeBlock w.tag w.states) ≡ Some (TypeBlock t 0) = sym w.begins ∙ ap (command_at file) place ∙ e in
    let automaton = (w.stands (ap states_in same)).automaton in
    record { accepting = automaton.accepting_rise; steps = automaton.steps_rise }
