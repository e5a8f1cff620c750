-- One turn over an expression: the refusal, or what is read after it.
use mathlib.Core.Path.{◌≡◌, refl, sym, ap, subst, ◌∙◌}
use mathlib.Core.List.{List}
use Prim.Native.Nat.{ℕ, suc, ◌+◌, ◌≤◌, ◌<◌}
use native.Mathlib.Omega.{arith}
use mathlib.Core.Logic.{⊎_elim}
use Rattle.std.specs.Prelude.{Ok, Err}
use Rattle.sdtd.specs.Answer.{question_number}
use Rattle.sdtd.specs.declared.Refusal.{Refusal}
use Rattle.sdtd.proofs.Verdicts.{refused_not_fine}
use lib.ListN.{length}
use Rattle.sdtd.specs.Limits.{most_types, most_states, most_steps}
use Rattle.expression.specs.Automaton.{uses}
use Rattle.expression.specs.Tests.{accepts, all_steps}
use Rattle.expression.specs.Content.{content_at}
use Rattle.expression.specs.Answer.{set_of, ContentMeans}
use Rattle.expression.specs.declared.content.Automaton.{Automaton}
use Rattle.expression.proofs.WholeContents.{rise_most, whole_content}
use Rattle.commands.specs.File.{stopped, commands}
use Rattle.commands.specs.Building.{Added, built_with, built_by}
use Rattle.commands.specs.Laying.{laid_steps, names_from}
use Rattle.commands.specs.declared.phase.Phase.TheVariants.{InExpression}
use Rattle.commands.specs.declared.builder.Builder.{Builder}
use Rattle.commands.proofs.ExpressionReads.{Found, found, not_found, uses_few, names_told, steps_told}
use Rattle.commands.proofs.OneByOne.{Reads, reads_broken, reads_too_many, reads_after}

-- an expression is next
module _ {file : List ℕ} {i : ℕ} {s : Builder} (r : Reads file i s) (inside : s.phase ≡ InExpression) where
  -- and is refused
  pub turn_refused : (e : Refusal) → ContentMeans (content_at file i) (Err e) → commands file ≡ stopped (question_number e.why) e.place
  turn_refused e m = reads_broken r inside (not_found file i e m)

  -- or the automaton a is read
  module _ (a : Automaton) (means : ContentMeans (content_at file i) (Ok a)) where
    read : Found file i a
    read = found file i a means

    -- its steps and names are those of the expression
    own_steps : laid_steps a.next a.types a.uses ≡ all_steps read.expression
    own_steps = (λ k. laid_steps (read.same k).next (read.same k).types (read.same k).uses) ∙ steps_told (whole_content file i read.content)

    own_names : names_from a.types a.places 1 a.uses ≡ read.names
    own_names = (λ k. names_from (read.same k).types (read.same k).places 1 (read.same k).uses) ∙ names_told (whole_content file i read.content)

    own_end : read.end ≡ a.end
    own_end = sym (ap (λ (x : Automaton). x.end) read.same)

    -- what is asked of the code
    pub turn_fits : (a.uses < most_states) × (s.steps ≤ most_steps) × (s.bound ≤ most_types)
    turn_fits = (uses_few read, r.holds.steps_most, r.named.bound_most)

    pub turn_end : (a.end + 1 ≤ length file) × (i < a.end + 1)
    turn_end =
        let w = whole_content file i read.content in
        omega (arith, own_end, w.ends, rise_most i read.names read.end w.rises)

    -- its steps are too many
    pub turn_too_many : {s' : Builder} (e : Refusal) → Added s s' a (Err e) → commands file ≡ stopped (question_number e.why) e.place
    turn_too_many e h =
        ⊎_elim
        (λ k.
        let n : question_number e.why ≡ 5 = cc in
        let p : e.place ≡ a.end = cc in
        let m : ¬ (s.steps + length (all_steps read.expression) ≤ most_steps) = rw own_steps at k.0 in
        rw (n, p, ← own_end) (reads_too_many r inside read.content (omega (arith, m))))
        (λ k. refused_not_fine refl k.1.0)
        h

    -- what is read after it
    pub turn_reads : (s' : Builder) → Added s s' a (Ok tt) → Reads file (a.end + 1) s'
    turn_reads s' h =
        ⊎_elim (λ k. refused_not_fine k.1 refl)
        (λ k.
        let m : s.steps + length (all_steps read.expression) ≤ most_steps = rw own_steps at k.0 in
        let states : uses read.expression ≡ a.uses = sym (ap (λ (x : Automaton). x.uses) read.same) in
        let ends : set_of (accepts read.expression) most_states ≡ a.accepting.0 = sym (ap (λ (x : Automaton). x.accepting.0) read.same) in
        let after : Reads file (read.end + 1) (built_with s (suc (uses read.expression)) (set_of (accepts read.expression) most_states)
        (all_steps read.expression) read.names) = reads_after r inside read.content m in
        let same : built_with s (suc (uses read.expression)) (set_of (accepts read.expression) most_states) (all_steps read.expression) read.names
        ≡ built_by s a = λ j. built_with s (suc (states j)) (ends j) (sym own_steps j) (sym own_names j) in
        subst (λ (n : ℕ). Reads file (n + 1) s') own_end (subst (λ (b : Builder). Reads file (read.end + 1) b) (same ∙ sym k.1.1) after))
        h
