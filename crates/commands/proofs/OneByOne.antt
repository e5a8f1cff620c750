-- Reading the commands one by one: a command that passes its questions ends inside the file, what is left of the file then decides, and the
-- answer at the end.
use mathlib.Core.Path.{◌≡◌, refl, sym, ap, subst, ◌∙◌}
use mathlib.Core.Bool.{Bool, true, false, cond}
use mathlib.Core.Logic.{◌≢◌, inl, inr}
use Rattle.std.specs.Prelude.{Some, None, Result, Ok, Err, MatchResult}
use mathlib.Core.List.{List, reverse_aux-eq}
use Prim.Native.Nat.{ℕ, suc, ◌+◌, ◌-◌, ◌≤◌, ◌<◌, min}
use native.Mathlib.Omega.{arith}
use borrow.Author.Tests.{le-leb, lt-leb, eqb-true, ne_eqb, ltb-true, ltb-false}
use lib.Dec.{ltb}
use Rattle.commands.proofs.Phases.{own_phase, other_phase}
use lib.ListN.{length, take, drop}
use Rattle.std.specs.List.{fold}
use Rattle.sdtd.specs.Limits.{most_steps}
use Rattle.sdtd.specs.Answer.{refused_at, question_number, number_told, verdict_of}
use Rattle.sdtd.specs.declared.Refused.{Refused}
use Rattle.sdtd.proofs.Verdicts.{number_some}
use Rattle.sdtd.specs.declared.Refusal.{Refusal}
use Rattle.sdtd.specs.declared.Refused.TheVariants.{UnknownType}
use Rattle.schema.specs.declared.value.Schema.{Schema}
use Rattle.command.specs.Command.{command_at, size}
use Rattle.command.specs.declared.Command.{Command}
use Rattle.command.proofs.CommandLaws.{command_in_file, size_some}
use Rattle.expression.specs.Expression.{Expression as Exp}
use Rattle.expression.specs.Tests.{all_steps}
use Rattle.expression.specs.Content.{Name, broken, whole, content_at}
use Rattle.expression.proofs.WholeContents.{rise_most, WholeContent, whole_content}
use Rattle.commands.specs.Questions.{rank, same_phase, failed}
use Rattle.commands.specs.File.{Stated, nothing_stated, step_count, seen_of, after, after_expression}
use Rattle.commands.specs.File.{Commands, stopped, states, by_content, by_command, commands_from, commands}
use Rattle.commands.specs.Answer.{CommandsBy}
use Rattle.commands.specs.Building.{nothing_built, failed_by, built, unknown}
use Rattle.schema.specs.declared.value.Schema.{Schema}
use Rattle.commands.specs.declared.phase.Phase.{Phase}
use Rattle.commands.specs.declared.phase.Phase.TheVariants.{InExpression, AfterDone}
use Rattle.commands.specs.declared.builder.Builder.{Builder}
use Rattle.commands.proofs.Passing.{passed as passed_by}
use Rattle.commands.proofs.Holding.{Holds}
use Rattle.commands.proofs.Drafts.{first_holds, seen_holds, after_holds, expression_holds, stated_value, fuel_enough}
use Rattle.commands.proofs.ExpressionTables.{built_from}
use Rattle.commands.proofs.Places.{least_from, least_folded, PlacesHold, first_places, built_places, places_with_lem, first_named, none_named}

-- one command, and what is left of the file
module _ (fuel : ℕ) (file : List ℕ) (i : ℕ) (g : Stated) where
  pub goes_on : same_phase g.phase AfterDone ≡ false → same_phase g.phase InExpression ≡ false → {c : Command} → command_at file i ≡ Some c
      → failed (seen_of g c) c ≡ 0 → commands_from (suc fuel) file i g ≡ commands_from fuel file (i + size c) (after g i c)
  unfolding commands_from by_command
  goes_on p x e z = rw (p, x, e, z)

  misses : same_phase g.phase AfterDone ≡ false → same_phase g.phase InExpression ≡ false → command_at file i ≡ None
      → commands_from (suc fuel) file i g ≡ stopped 2 i
  unfolding commands_from by_command
  misses p x e = rw (p, x, e)

  stops : same_phase g.phase AfterDone ≡ false → same_phase g.phase InExpression ≡ false → {c : Command} → command_at file i ≡ Some c
      → ¬ (failed (seen_of g c) c ≡ 0) → commands_from (suc fuel) file i g ≡ stopped (failed (seen_of g c) c) i
  unfolding commands_from by_command
  stops p x {c} e d = rw (p, x, e, ne_eqb (failed (seen_of g c) c) 0 d)

  pub reads_expression : same_phase g.phase InExpression ≡ true → commands_from (suc fuel) file i g ≡ by_content g (commands_from fuel file) (content_at file i)
  unfolding commands_from
  reads_expression x = rw (expression_not_done g.phase x, x)
    where
      expression_not_done : (p : Phase) → same_phase p InExpression ≡ true → same_phase p AfterDone ≡ false
      expression_not_done p e = ne_eqb (rank p) (rank AfterDone) (λ d. omega (arith, eqb-true (rank p) (rank InExpression) e))

  over : same_phase g.phase AfterDone ≡ true → i < length file → commands_from (suc fuel) file i g ≡ stopped 3 i
  unfolding commands_from
  over p l = rw (p, lt-leb (length file) i l)

  pub ends : same_phase g.phase AfterDone ≡ true → length file ≤ i → commands_from (suc fuel) file i g ≡ states g
  unfolding commands_from
  ends p l = rw (p, le-leb (length file) i l)

-- At the place i what is built holds what the commands before it state, and the commands from there on decide.
pub record Reads (file : List ℕ) (i : ℕ) (s : Builder) : Type 0 where
  pub stated : Stated
  pub holds : Holds stated s
  pub named : PlacesHold stated.names (length file) i s.places s.bound
  pub rest : commands_from (suc (length file - i)) file i stated ≡ commands file
  pub within : i ≤ length file

pub reads_first : (file : List ℕ) → Reads file 0 (nothing_built (length file))
unfolding commands
reads_first file =
    let e : length file - 0 ≡ length file = omega arith in
    record {
      stated = nothing_stated;
      holds = first_holds (length file);
      named = first_places (length file);
      rest = rw e;
      within = omega arith;
    }

-- whether there is a first place
some_first : (b : Bool) (first p : ℕ) → cond b (Some first) None ≡ Some p → (b ≡ true) × (first ≡ p)
some_first true first p e = let s : first ≡ p = cc in (refl, s)
some_first false first p e = absurd (let z : ◌≡◌ {A = ℕ} 0 1 = cc in omega arith)

no_first : (b : Bool) (first : ℕ) → cond b (Some first) None ≡ None → b ≡ false
no_first true first e = absurd (let z : ◌≡◌ {A = ℕ} 0 1 = cc in omega arith)
no_first false first e = refl

-- a refusal by questions 2 to 6 or 21 to 23
pub answer_stopped : (file : List ℕ) (r : Result Schema Refusal) {n p : ℕ} → commands file ≡ stopped n p → verdict_of r ≡ refused_at n p
    → CommandsBy (commands file) r
answer_stopped file r e s = subst (λ (k : Commands). CommandsBy k r) (sym e) s

module _ {file : List ℕ} {i : ℕ} {s : Builder} (r : Reads file i s) where
  -- before DONE, outside an expression
  module _ (more : s.phase ≢ AfterDone) (outside : s.phase ≢ InExpression) where
    not_done : same_phase r.stated.phase AfterDone ≡ false
    not_done = rw (← r.holds.phase) (other_phase s.phase AfterDone more)

    not_inside : same_phase r.stated.phase InExpression ≡ false
    not_inside = rw (← r.holds.phase) (other_phase s.phase InExpression outside)

    -- no command stands there
    pub reads_missing : command_at file i ≡ None → commands file ≡ stopped 2 i
    reads_missing e = sym r.rest ∙ misses (length file - i) file i r.stated not_done not_inside e

    -- a command c stands there
    module _ {c : Command} (command : command_at file i ≡ Some c) where
      pub reads_stopped : {n : ℕ} → n ≡ failed_by s c → ¬ (n ≡ 0) → commands file ≡ stopped n i
      reads_stopped {n} f d =
          let m : n ≡ failed (seen_of r.stated c) c = f ∙ ap (λ x. failed x c) (seen_holds r.holds c) in
          rw m (sym r.rest ∙ stops (length file - i) file i r.stated not_done not_inside command (λ z. d (m ∙ z)))

      -- the refusal of what was asked of it
      pub reads_refused : (r : Result Unit Refused) → number_told r ≡ failed_by s c → (e : Refusal)
          → MatchResult r (λ x. ⊥) (λ why. e ≡ record { why = why; place = i }) → commands file ≡ stopped (question_number e.why) e.place
      reads_refused (Ok x) f e h = absurd h
      reads_refused (Err why) f e h = rw h (reads_stopped f (λ z. absurd (omega (arith, number_some why))))

      -- it ends inside the file
      pub reads_in_file : (i + size c ≤ length file) × (0 < size c)
      reads_in_file = (command_in_file file i command, size_some c)

      -- it passed its questions
      pub reads_next : failed_by s c ≡ 0 → Reads file (i + size c) (built s i c)
      reads_next passed =
          let j = i + size c in
          let h = reads_in_file in
          let left : length file - j < length file - i = omega (arith, h.0, h.1) in
          let none_failed : failed (seen_of r.stated c) c ≡ 0 = ap (λ x. failed x c) (sym (seen_holds r.holds c)) ∙ passed in
          record {
            stated = after r.stated i c;
            holds = after_holds r.holds i c none_failed;
            named = built_places r.stated s r.named (omega (arith, h.1)) (omega (arith, h.0, h.1)) c (passed_by r.stated c none_failed);
            rest =
                fuel_enough file (suc (length file - j)) (length file - i) j (after r.stated i c) (omega arith) left
                ∙ sym (goes_on (length file - i) file i r.stated not_done not_inside command none_failed)
                ∙ r.rest;
            within = h.0;
          }

  -- where an expression is next
  module _ (inside : s.phase ≡ InExpression) where
    is_inside : same_phase r.stated.phase InExpression ≡ true
    is_inside = rw (← r.holds.phase) (own_phase s.phase InExpression inside)

    by_content_lem : by_content r.stated (commands_from (length file - i) file) (content_at file i) ≡ commands file
    by_content_lem = sym (reads_expression (length file - i) file i r.stated is_inside) ∙ r.rest

    pub reads_broken : {n p : ℕ} → content_at file i ≡ broken n p → commands file ≡ stopped n p
    unfolding by_content
    reads_broken e = sym by_content_lem ∙ rw e

    -- an expression e that ends at the place p
    module _ {e : Exp} {ns : List Name} {p : ℕ} (content : content_at file i ≡ whole e ns p) where
      whole_read : WholeContent file i e ns p
      whole_read = whole_content file i content

      pub reads_too_many : most_steps < s.steps + length (all_steps e) → commands file ≡ stopped 5 p
      unfolding by_content
      reads_too_many l =
          let n = step_count r.stated.blocks + length (all_steps e) in
          sym by_content_lem ∙ rw (content, lt-leb n most_steps (omega (arith, r.holds.steps)))

      pub reads_after : s.steps + length (all_steps e) ≤ most_steps → Reads file (p + 1) (built_from s e ns)
      unfolding by_content
      reads_after fits =
          let g = r.stated in
          let w = whole_read in
          let begins = rise_most i ns p w.rises in
          let ends = w.ends in
          let f : step_count g.blocks + length (all_steps e) ≤ most_steps = omega (arith, r.holds.steps) in
          record {
            stated = after_expression g e ns;
            holds = expression_holds r.holds (eqb-true (rank g.phase) (rank InExpression) is_inside) e ns fits;
            named = rw (← reverse_aux-eq ns g.names) (places_with_lem ns i p r.named w.rises w.types ends);
            rest =
                fuel_enough file (suc (length file - (p + 1))) (length file - i) (p + 1) (after_expression g e ns) (omega arith) (omega arith)
                ∙ (rw (content, le-leb (step_count g.blocks + length (all_steps e)) most_steps f) at by_content_lem);
            within = omega arith;
          }

  -- after DONE
  module _ (done : s.phase ≡ AfterDone) where
    is_done : same_phase r.stated.phase AfterDone ≡ true
    is_done = rw (← r.holds.phase) (own_phase s.phase AfterDone done)

    pub reads_over : i < length file → commands file ≡ stopped 3 i
    reads_over l = sym r.rest ∙ over (length file - i) file i r.stated is_done l

    module _ (end : length file ≤ i) where
      answered : (a : Result Schema Refusal) → CommandsBy (states r.stated) a → CommandsBy (commands file) a
      answered a k = subst (λ (c : Commands). CommandsBy c a) (sym (ends (length file - i) file i r.stated is_done end) ∙ r.rest) k

      -- question 7, by the least place of the types not given
      abbrev least : ℕ
      least = fold (λ first place. min first place) (length file) (take (s.bound - s.schema.types) (drop s.schema.types s.places))

      least_stated : let n = length r.stated.blocks in least ≡ least_from s.places (length file) n (s.bound - n)
      least_stated =
          rw (← r.holds.types)
          (least_folded s.places (length file) s.schema.types (s.bound - s.schema.types)
          (omega (arith, r.named.sized, r.named.bound_most, r.holds.types_most)))

      pub answer_unknown : (p : ℕ) → unknown s (length file) ≡ Some p → CommandsBy (commands file) (Err (record { why = UnknownType; place = p }))
      answer_unknown p e =
          let k = some_first (ltb least (length file)) least p e in
          let f = first_named r.named (length r.stated.blocks) least_stated (ltb-true least (length file) k.0) in
          answered (Err (record { why = UnknownType; place = p })) (inl (f.0, ap (refused_at 7) (sym k.1 ∙ f.1)), tt)

      pub answer_known : unknown s (length file) ≡ None → CommandsBy (commands file) (Ok s.schema)
      answer_known e =
          let l : length file ≤ least = ltb-false least (length file) (no_first (ltb least (length file)) least e) in
          let none = none_named r.named (length r.stated.blocks) least_stated r.within l in
          answered (Ok s.schema) (inr (none, refl), stated_value r.holds)
