-- The bytes of what is left of a command, of states and of steps.
use mathlib.Core.Path.{◌≡◌, refl, sym, ap, ◌∙◌}
use mathlib.Core.Bool.{Bool, true, false, cond}
use mathlib.Core.List.{List, [], ◌∷◌, ◌++◌, map, append-nil}
use Prim.Native.Nat.{ℕ}
use Rattle.sdtd.specs.Schema.{step}
use Rattle.sdtd.specs.Schema.{Step as StepOf}
use Rattle.sdtd.specs.Trim.{kept_steps}
use Rattle.sdtd.specs.Reduced.{new_number, relabel_step, steps_left}
use Rattle.sdtd.specs.Numbered.{type_no}
use Rattle.command.specs.Command.{bytes_of, file_of}
use Rattle.command.specs.Relabelled.{relabel_command}
use Rattle.command.specs.declared.Command.{Command}
use Rattle.command.specs.declared.Command.TheVariants.{Final, Step}
use Rattle.text.specs.Page.{Sheet, laid}
use Rattle.text.proofs.PageLaws.{laid_append, laid_none}
use Rattle.schema_writer.specs.Left.{stays, command_left, step_command}

-- one command, or none
one_file : (c : Command) → file_of (c ∷ []) ≡ bytes_of c
unfolding file_of
one_file c = append-nil (bytes_of c)

module _ (kept : ℕ → Bool) where
  pub left_stays : (a : ℕ) (c : Command) → stays kept a c ≡ true → file_of (command_left kept a c) ≡ bytes_of (relabel_command (new_number kept) c)
  left_stays a c e = rw e (one_file (relabel_command (new_number kept) c))

  pub left_goes : (a : ℕ) (c : Command) → stays kept a c ≡ false → file_of (command_left kept a c) ≡ []
  unfolding file_of
  left_goes a c e = rw e

  abbrev pub step_bytes : List StepOf → List ℕ
  step_bytes ss = file_of (map step_command (steps_left kept ss))

  pub step_stays : (p j q : ℕ) → kept j ≡ true → step_bytes (step p j q ∷ []) ≡ bytes_of (relabel_command (new_number kept) (Step p (type_no j) q))
  unfolding steps_left
  step_stays p j q e = rw e (one_file (Step p (type_no (new_number kept j)) q))

  pub step_goes : (p j q : ℕ) → kept j ≡ false → step_bytes (step p j q ∷ []) ≡ []
  unfolding steps_left file_of
  step_goes p j q e = rw e

  pub steps_next : (s : StepOf) (ss : List StepOf) → step_bytes (s ∷ ss) ≡ step_bytes (s ∷ []) ++ step_bytes ss
  unfolding steps_left file_of
  steps_next s ss = by_test (kept_steps (λ s. kept s.by) ss) (kept s.by)
    where
      by_test : (rest : List StepOf) (b : Bool)
          → file_of (map step_command (map (relabel_step (new_number kept)) (cond b (s ∷ rest) rest)))
          ≡ file_of (map step_command (map (relabel_step (new_number kept)) (cond b (s ∷ []) [])))
          ++ file_of (map step_command (map (relabel_step (new_number kept)) rest))
      by_test rest true =
          ap (λ (l : List ℕ). l ++ file_of (map step_command (map (relabel_step (new_number kept)) rest)))
          (sym (append-nil (bytes_of (step_command (relabel_step (new_number kept) s)))))
      by_test rest false = refl

  -- a step is laid, and those that are left after it
  pub steps_turn : (was : Sheet) {now whole : Sheet} {s : StepOf} {before after : List StepOf} → before ≡ s ∷ after → now ≡ laid was (step_bytes (s ∷ []))
      → laid was (step_bytes before) ≡ whole → laid now (step_bytes after) ≡ whole
  steps_turn was {s = s} {after = after} e f w =
      ap (λ (p : Sheet). laid p (step_bytes after)) f ∙ sym (laid_append was (step_bytes (s ∷ [])) (step_bytes after))
      ∙ ap (laid was) (sym (ap step_bytes e ∙ steps_next s after)) ∙ w

  pub steps_end : {now whole : Sheet} {ss : List StepOf} → ss ≡ [] → laid now (step_bytes ss) ≡ whole → now ≡ whole
  unfolding steps_left file_of
  steps_end {now} e w = sym (laid_none now) ∙ ap (λ (ss : List StepOf). laid now (step_bytes ss)) (sym e) ∙ w

-- a FINAL is laid, and those that are left after it
pub finals_turn : (was : Sheet) {now whole : Sheet} {q : ℕ} {before after : List ℕ} → before ≡ q ∷ after → now ≡ laid was (bytes_of (Final q))
    → laid was (file_of (map Final before)) ≡ whole → laid now (file_of (map Final after)) ≡ whole
unfolding file_of
finals_turn was {q = q} {after = after} e f w =
    ap (λ (p : Sheet). laid p (file_of (map Final after))) f ∙ sym (laid_append was (bytes_of (Final q)) (file_of (map Final after)))
    ∙ ap (λ (qs : List ℕ). laid was (file_of (map Final qs))) (sym e) ∙ w

pub finals_end : {now whole : Sheet} {qs : List ℕ} → qs ≡ [] → laid now (file_of (map Final qs)) ≡ whole → now ≡ whole
unfolding file_of
finals_end {now} e w = sym (laid_none now) ∙ ap (λ (qs : List ℕ). laid now (file_of (map Final qs))) (sym e) ∙ w
