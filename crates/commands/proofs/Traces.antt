-- A file that is read to its end, turn by turn: one turn for each command, and one for a TYPE with the expression that follows it.
use mathlib.Core.Path.{◌≡◌, refl, ap, ◌∙◌}
use mathlib.Core.Logic.{◌≢◌}
use mathlib.Core.Bool.{Bool, true, false}
use mathlib.Core.List.{List}
use Rattle.std.specs.Prelude.{Some}
use Prim.Native.Nat.{ℕ, zero, suc, ◌+◌, ◌-◌, ◌≤◌, ◌<◌}
use native.Mathlib.Omega.{arith}
use borrow.Author.Tests.{eqb-true, eq-eqb, ne_eqb, le-leb, leb-true}
use lib.Dec.{eqb, leb}
use lib.ListN.{length}
use Rattle.sdtd.proofs.Basics.{not_both}
use Rattle.sdtd.specs.Limits.{most_steps}
use Rattle.sdtd.specs.declared.Tag.{Tag}
use Rattle.command.specs.Cases.{on_type}
use Rattle.command.specs.Command.{command_at, size}
use Rattle.command.specs.declared.Command.{Command}
use Rattle.command.specs.declared.Command.TheVariants.{Tags, TypeBlock, Final, Step, Root, Nil, Done, Expression}
use Rattle.command.proofs.CommandLaws.{command_in_file, size_some}
use Rattle.expression.specs.Expression.{Expression as Exp}
use Rattle.expression.specs.Tests.{all_steps}
use Rattle.expression.specs.Content.{Name, whole, content_at}
use Rattle.expression.proofs.WholeContents.{rise_most, whole_content}
use Rattle.commands.specs.Questions.{rank, same_phase, failed}
use Rattle.commands.specs.File.{Stated, nothing_stated, step_count, seen_of, after, after_expression}
use Rattle.commands.specs.File.{states, by_content, commands_from, commands}
use Rattle.commands.specs.declared.phase.Phase.TheVariants.{InExpression, AfterDone}
use Rattle.commands.proofs.Passing.{Passed, passed, not_stopped, turn, after_command, after_content}
use Rattle.commands.proofs.OneByOne.{goes_on, reads_expression, ends}
use Rattle.commands.proofs.Runs.{not_done, not_inside}

-- is it a TYPE that an expression follows?
abbrev pub opens_expression : Command → Bool
opens_expression c = on_type (λ t s. eqb s 0) false c

-- From the place i on, where g₀ is stated, each command passes its questions up to the end of the file, where g is stated.
pub data Trace (file : List ℕ) (g : Stated) : ℕ → Stated → Type 0 where
  ended : {i : ℕ} {g₀ : Stated} → g₀ ≡ g → rank g₀.phase ≡ rank AfterDone → length file ≤ i → Trace file g i g₀
  command : {i : ℕ} {g₀ : Stated} (c : Command) → command_at file i ≡ Some c → failed (seen_of g₀ c) c ≡ 0 → opens_expression c ≡ false
      → Trace file g (i + size c) (after g₀ i c) → Trace file g i g₀
  content : {i : ℕ} {g₀ : Stated} (t : Tag) (e : Exp) (ns : List Name) (p : ℕ) → command_at file i ≡ Some (TypeBlock t 0)
      → failed (seen_of g₀ (TypeBlock t 0)) (TypeBlock t 0) ≡ 0 → content_at file (i + 3) ≡ whole e ns p
      → step_count g₀.blocks + length (all_steps e) ≤ most_steps
      → Trace file g (p + 1) (after_expression (after g₀ i (TypeBlock t 0)) e ns) → Trace file g i g₀

-- An expression is next, and then what follows it.
record ContentThen (file : List ℕ) (g : Stated) (i : ℕ) (g₀ : Stated) : Type 0 where
  expression : Exp
  names : List Name
  end : ℕ
  read : content_at file i ≡ whole expression names end
  fits : step_count g₀.blocks + length (all_steps expression) ≤ most_steps
  then : Trace file g (end + 1) (after_expression g₀ expression names)

-- after a command that no expression follows, none is next
outside_after : (g : Stated) (i : ℕ) (c : Command) → Passed g c → opens_expression c ≡ false → rank (after g i c).phase ≢ rank InExpression
unfolding after
outside_after g i (Tags n) p o = omega arith
outside_after g i (TypeBlock t s) p o = rw o (omega arith)
outside_after g i (Final q) p o = omega arith
outside_after g i (Step x j y) p o = omega arith
outside_after g i (Root a) p o = omega arith
outside_after g i Nil p o = p.2
outside_after g i Done p o = omega arith
outside_after g i (Expression x) p o = absurd p

module _ (file : List ℕ) (g : Stated) where
  -- one command that passes
  one_turn : (i : ℕ) (g₀ : Stated) (c : Command) → command_at file i ≡ Some c → failed (seen_of g₀ c) c ≡ 0
      → (rank (after g₀ i c).phase ≢ rank InExpression → Trace file g (i + size c) (after g₀ i c))
      → (rank (after g₀ i c).phase ≡ rank InExpression → ContentThen file g (i + size c) (after g₀ i c)) → Trace file g i g₀
  unfolding after
  one_turn i g₀ (TypeBlock t zero) h z more read =
      let r = read refl in
      let fits : step_count g₀.blocks + length (all_steps r.expression) ≤ most_steps = omega (arith, r.fits) in
      content {g₀ = g₀} t r.expression r.names r.end h z r.read fits r.then
  one_turn i g₀ (TypeBlock t (suc s)) h z more read =
      let c = TypeBlock t (suc s) in
      let o = ne_eqb (suc s) 0 (λ e. omega arith) in
      command c h z o (more (outside_after g₀ i c (passed g₀ c z) o))
  one_turn i g₀ (Tags n) h z more read = command (Tags n) h z refl (more (outside_after g₀ i (Tags n) (passed g₀ (Tags n) z) refl))
  one_turn i g₀ (Final q) h z more read = command (Final q) h z refl (more (outside_after g₀ i (Final q) (passed g₀ (Final q) z) refl))
  one_turn i g₀ (Step x j y) h z more read =
      let c = Step x j y in
      command c h z refl (more (outside_after g₀ i c (passed g₀ c z) refl))
  one_turn i g₀ (Root a) h z more read = command (Root a) h z refl (more (outside_after g₀ i (Root a) (passed g₀ (Root a) z) refl))
  one_turn i g₀ Nil h z more read = command Nil h z refl (more (outside_after g₀ i Nil (passed g₀ Nil z) refl))
  one_turn i g₀ Done h z more read = command Done h z refl (more (outside_after g₀ i Done (passed g₀ Done z) refl))
  one_turn i g₀ (Expression x) h z more read = absurd (passed g₀ (Expression x) z)

  trace_from : (fuel i : ℕ) (g₀ : Stated) → commands_from fuel file i g₀ ≡ states g
      → (rank g₀.phase ≢ rank InExpression → Trace file g i g₀) × (rank g₀.phase ≡ rank InExpression → ContentThen file g i g₀)
  unfolding commands_from
  trace_from zero i g₀ e = not_stopped e
  trace_from (suc fuel) i g₀ e =
      turn (same_phase g₀.phase AfterDone) (leb (length file) i) (same_phase g₀.phase InExpression) i e
      (λ a b same.
      let d = eqb-true (rank g₀.phase) (rank AfterDone) a in
      (λ o. ended same d (leb-true (length file) i b), λ x. absurd (omega arith)))
      (λ x read.
      let q = eqb-true (rank g₀.phase) (rank InExpression) x in (
        λ o. absurd (o q),
        λ p. after_content g₀ (commands_from fuel file) (content_at file i) read
            (λ k ns m whole fits rest.
            let later = (trace_from fuel (m + 1) (after_expression g₀ k ns) rest).0 (omega arith) in
            record { expression = k; names = ns; end = m; read = whole; fits = fits; then = later }),
      ))
      (λ read.
      after_command g₀ i (commands_from fuel file) (command_at file i) read
      (λ c stands k rest.
      let r = trace_from fuel (i + size c) (after g₀ i c) rest in
      (λ o. one_turn i g₀ c stands k r.0 r.1, λ x. absurd (inside_none x (not_inside g₀ c (passed g₀ c k))))))
    where
      inside_none : rank g₀.phase ≡ rank InExpression → same_phase g₀.phase InExpression ≡ false → ⊥
      inside_none x f = not_both (eq-eqb (rank g₀.phase) (rank InExpression) x) f

  pub trace_of : commands file ≡ states g → Trace file g 0 nothing_stated
  unfolding commands
  trace_of e = (trace_from (suc (length file)) 0 nothing_stated e).0 (omega arith)

  -- an expression, and what follows it
  reads_content : (fuel i : ℕ) (h : Stated) (e : Exp) (ns : List Name) (p : ℕ) → same_phase h.phase InExpression ≡ true
      → content_at file i ≡ whole e ns p → step_count h.blocks + length (all_steps e) ≤ most_steps
      → commands_from (suc fuel) file i h ≡ commands_from fuel file (p + 1) (after_expression h e ns)
  unfolding by_content
  reads_content fuel i h e ns p x r f =
      reads_expression fuel file i h x ∙ rw (r, le-leb (step_count h.blocks + length (all_steps e)) most_steps f)

  opened : (g₀ : Stated) (i : ℕ) (t : Tag) → let h = after g₀ i (TypeBlock t 0) in
      (same_phase h.phase InExpression ≡ true) × (step_count h.blocks ≡ step_count g₀.blocks)
  unfolding after
  opened g₀ i t = (refl, omega arith)

  -- .. and back, with fuel enough
  trace_reads : {i : ℕ} {g₀ : Stated} → Trace file g i g₀ → (fuel : ℕ) → length file - i < fuel → commands_from fuel file i g₀ ≡ states g
  trace_reads t zero l = absurd (omega arith)
  trace_reads {i} {g₀} (ended e d all) (suc fuel) l =
      ends fuel file i g₀ (eq-eqb (rank g₀.phase) (rank AfterDone) d) all ∙ ap states e
  trace_reads {i} {g₀} (command c h z o t) (suc fuel) l =
      let b = command_in_file file i h in
      let s = size_some c in
      goes_on fuel file i g₀ (not_done g₀ c (passed g₀ c z)) (not_inside g₀ c (passed g₀ c z)) h z ∙ trace_reads {i = i + size c} t fuel (omega arith)
  trace_reads {i} {g₀} (content t e ns p h z read fits rest) (suc zero) l =
      let b = command_in_file file i h in
      absurd (omega arith)
  trace_reads {i} {g₀} (content t e ns p h z read fits rest) (suc (suc fuel)) l =
      let c = TypeBlock t 0 in
      let w = whole_content file (i + 3) read in
      let b = rise_most (i + 3) ns p w.rises in
      let m = w.ends in
      let o = opened g₀ i t in
      goes_on (suc fuel) file i g₀ (not_done g₀ c (passed g₀ c z)) (not_inside g₀ c (passed g₀ c z)) h z
      ∙ reads_content fuel (i + 3) (after g₀ i c) e ns p o.0 read (omega (arith, o.1)) ∙ trace_reads {i = p + 1} rest fuel (omega arith)

  pub trace_states : Trace file g 0 nothing_stated → commands file ≡ states g
  unfolding commands
  trace_states t = trace_reads t (suc (length file)) (omega arith)
