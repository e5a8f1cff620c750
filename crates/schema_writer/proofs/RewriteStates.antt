-- The file that is written of a file that states a schema states the reduced schema.
use mathlib.Core.Path.{◌≡◌, refl, sym, ap, subst, ◌∙◌}
use mathlib.Core.Bool.{Bool, true, false, cond}
use mathlib.Core.List.{List, [], ◌∷◌, ◌++◌, map, reverse, reverse-reverse, append-nil, append_assoc}
use mathlib.Core.List.{Memᴰ}
use Prim.Native.Nat.{ℕ, suc, ◌+◌, ◌-◌, pred, ◌≤◌, ◌<◌}
use native.Mathlib.Omega.{arith}
use borrow.Author.Tests.{eq-eqb}
use lib.Dec.{T}
use lib.ListN.{length, length-append}
use Rattle.sdtd.specs.Limits.{most_types, most_states, most_steps}
use Rattle.sdtd.specs.Schema.{Schema, Block, block_of}
use Rattle.sdtd.specs.Schema.{Step as StepOf}
use Rattle.sdtd.specs.Tree.{IsRoot}
use Rattle.sdtd.specs.Reduced.{new_number, steps_left, block_left, roots_left, reduced}
use Rattle.sdtd.specs.declared.Tag.{Tag}
use Rattle.sdtd.proofs.Basics.{and_parts, and_both, cond_either}
use Rattle.sdtd.proofs.NewNumbers.{new_at_most}
use Rattle.schema.specs.States.{members}
use Rattle.std.specs.Prelude.{Some}
use Rattle.command.specs.Command.{bytes_of, file_of, size, command_at}
use Rattle.command.specs.Relabelled.{relabel_command}
use Rattle.command.specs.declared.Command.{Command}
use Rattle.command.specs.declared.Command.TheVariants.{Tags, TypeBlock, Final, Step, Root, Nil, Done, Expression}
use Rattle.command.proofs.CommandLaws.{read_back, file_append}
use Rattle.expression.specs.Expression.{Expression as Exp}
use Rattle.expression.specs.Limits.{most_uses}
use Rattle.expression.specs.Automaton.{uses, named}
use Rattle.expression.specs.Tests.{accepts, all_steps}
use Rattle.expression.specs.Content.{Name, whole, content_at}
use Rattle.expression.specs.Answer.{set_of}
use Rattle.expression.proofs.UseTypes.{relabel_expression}
use Rattle.expression.proofs.WholeContents.{types_of, whole_content}
use Rattle.expression.proofs.ExpressionParts.{PartsFrom, expression_parts}
use Rattle.expression.proofs.RelabelledContents.{relabelled_parts, relabelled_read}
use Rattle.commands.specs.Questions.{failed}
use Rattle.commands.specs.File.{Draft, Stated, nothing_stated, step_count, seen_of, after, with_automaton, after_expression}
use Rattle.commands.specs.File.{block_by, schema_by, unknown, StatesSchema}
use Rattle.commands.proofs.Passing.{passed}
use Rattle.commands.proofs.StatedLimits.{Each}
use Rattle.commands.proofs.StatedExpressions.{types_below}
use Rattle.commands.proofs.Traces.{Trace, ended, command, content, opens_expression, trace_of, trace_states}
use Rattle.commands.proofs.TraceLaws.{type_known, blocks_grow, draft_at, block_at, content_of, block_stays}
use Rattle.commands.proofs.LeftCommands.{Related, typed, keeps_tags, keeps_type, skips_type, keeps_final, skips_final, keeps_nil, skips_nil}
use Rattle.commands.proofs.LeftCommands.{keeps_step, skips_step, keeps_root, skips_root, keeps_done}
use Rattle.commands.proofs.LeftBlocks.{Backward, step_of, write_command, write_block}
use Rattle.commands.proofs.LeftExpressions.{skips_expression, copied_passes, copied_fits, copied_related, states_passes, states_below, states_within}
use Rattle.commands.proofs.LeftExpressions.{states_steps, states_distinct, states_fit, states_related}
use Rattle.commands.proofs.LeftSchemas.{nothing_related, related_known, related_schema, some_root_left, roots_at_done, related_end}
use Rattle.schema_writer.specs.Left.{stays, command_left, type_count, block_commands, names_dropped, left_from, commands_left}
use Rattle.schema_writer.proofs.WalkCommands.{counted, opens_same, none_dropped, content_known}
use Rattle.schema_writer.proofs.WalkPieces.{left_end, left_command, left_dropped_type, left_copied_type, left_by_states}
use Rattle.schema_writer.proofs.WalkPieces.{left_expression, left_no_expression}

-- The old file is read to its end and states g; the types that it names are given, and of its root types one is kept.
module _ (kept : ℕ → Bool) (file : List ℕ) (g : Stated) (known : unknown g ≡ []) (some_root : ¬ (roots_left kept g.roots ≡ [])) (F : List ℕ) where
  -- from the place k on, where h is stated, the new file is read to its end, and states what is left
  record Rewritten (k : ℕ) (h : Stated) : Type 0 where
    stated : Stated
    trace : Trace F stated k h
    related : Related kept (length g.blocks) g stated

  backward : Backward F Rewritten
  backward = record { one = λ k h c e z o r. record { stated = r.stated; trace = command c e z o r.trace; related = r.related } }

  -- one command that no expression follows
  module _ (i : ℕ) {g₀ h : Stated} (r : Related kept (length g.blocks) g₀ h) where
    -- it is copied, or skipped
    treated : (c : Command) (before : List ℕ) (rest : List Command) → opens_expression c ≡ false
        → F ≡ before ++ file_of (command_left kept (length g₀.blocks) c ++ rest)
        → (T (stays kept (length g₀.blocks) c) → let c' = relabel_command (new_number kept) c in
        (failed (seen_of h c') c' ≡ 0) × Related kept (length g.blocks) (after g₀ i c) (after h (length before) c'))
        → (¬ T (stays kept (length g₀.blocks) c) → Related kept (length g.blocks) (after g₀ i c) h)
        → ((h' : Stated) (before' : List ℕ) → Related kept (length g.blocks) (after g₀ i c) h' → F ≡ before' ++ file_of rest
        → Rewritten (length before') h')
        → Rewritten (length before) h
    unfolding file_of
    treated c before rest o e keep skip then = go (stays kept (length g₀.blocks) c) e keep skip
      where
        c' : Command
        c' = relabel_command (new_number kept) c

        go : (b : Bool) → F ≡ before ++ file_of (cond b (c' ∷ []) [] ++ rest)
            → (T b → (failed (seen_of h c') c' ≡ 0) × Related kept (length g.blocks) (after g₀ i c) (after h (length before) c'))
            → (¬ T b → Related kept (length g.blocks) (after g₀ i c) h) → Rewritten (length before) h
        go true e keep skip =
            let x = keep tt in
            write_command backward h c' before (file_of rest) x.0 (opens_same (new_number kept) c o) e
            (λ before' e'. then (after h (length before) c') before' x.1 e')
        go false e keep skip = then h before (skip (λ t. t)) e

    one_command : (c : Command) (before : List ℕ) (rest : List Command) → failed (seen_of g₀ c) c ≡ 0 → opens_expression c ≡ false
        → ((x : Name) → Memᴰ x (after g₀ i c).names → x.type < length g.blocks) → (c ≡ Done → g₀.roots ≡ g.roots)
        → F ≡ before ++ file_of (command_left kept (length g₀.blocks) c ++ rest)
        → ((h' : Stated) (before' : List ℕ) → Related kept (length g.blocks) (after g₀ i c) h' → F ≡ before' ++ file_of rest
        → Rewritten (length before') h')
        → Rewritten (length before) h
    unfolding after
    one_command (Tags m) before rest z o named end e then =
        treated (Tags m) before rest o e (λ t. keeps_tags r i (length before) m z) (λ n. absurd (n tt)) then
    one_command (TypeBlock t s) before rest z o named end e then =
        treated (TypeBlock t s) before rest o e (keeps_type r i (length before) t s z o) (skips_type r i t s z o) then
    one_command (Final q) before rest z o named end e then =
        treated (Final q) before rest o e (keeps_final r i (length before) q z) (skips_final r i q z) then
    one_command (Step p j q) before rest z o named end e then =
        treated (Step p j q) before rest o e
        (λ t. let u = and_parts (kept (pred (length g₀.blocks))) (kept j.0) t in
        keeps_step r i (length before) p j q z u.0 u.1 (named (record { type = j.0; place = i }) (Memᴰ.head refl)))
        (λ n. skips_step r i p j q z (λ u. n (and_both (kept (pred (length g₀.blocks))) (kept j.0) u.0 u.1))) then
    one_command (Root b) before rest z o named end e then =
        treated (Root b) before rest o e (keeps_root r i (length before) b z) (skips_root r i b z) then
    one_command Nil before rest z o named end e then =
        treated Nil before rest o e (keeps_nil r i (length before) z) (skips_nil r i) then
    one_command Done before rest z o named end e then =
        treated Done before rest o e (λ t. keeps_done r i (length before) z (λ n. some_root (ap (roots_left kept) (sym (end refl)) ∙ n)))
        (λ n. absurd (n tt)) then
    one_command (Expression x) before rest z o named end e then = absurd (passed g₀ (Expression x) z)

  -- a TYPE and the expression that follows it
  module _ (i : ℕ) {g₀ h : Stated} (r : Related kept (length g.blocks) g₀ h) (t : Tag) (e : Exp) (ns : List Name) (p : ℕ)
      (begins : command_at file i ≡ Some (TypeBlock t 0)) (passes : failed (seen_of g₀ (TypeBlock t 0)) (TypeBlock t 0) ≡ 0)
      (read : content_at file (i + 3) ≡ whole e ns p) (fits : step_count g₀.blocks + length (all_steps e) ≤ most_steps)
      (rest : Trace file g (p + 1) (after_expression (after g₀ i (TypeBlock t 0)) e ns))
      (then : (h' : Stated) (before : List ℕ) (fuel : ℕ) → length file - (p + 1) < fuel
      → Related kept (length g.blocks) (after_expression (after g₀ i (TypeBlock t 0)) e ns) h'
      → F ≡ before ++ file_of (left_from fuel kept (schema_by g) file (p + 1) (suc (length g₀.blocks))) → Rewritten (length before) h')
      (before : List ℕ) (fuel : ℕ) (enough : length file - i < fuel)
      (is : F ≡ before ++ file_of (left_from fuel kept (schema_by g) file i (length g₀.blocks))) where
    few : length ns ≤ most_uses
    few = (whole_content file (i + 3) read).few

    names : types_of ns ≡ named e
    names = (whole_content file (i + 3) read).names

    below : Each (λ j. j < most_types) (types_of ns)
    below = types_below ns (whole_content file (i + 3) read).types

    given : Each (λ j. j < length g.blocks) (types_of ns)
    given = content_known known (after g₀ i (TypeBlock t 0)) e ns rest

    parts : PartsFrom file (i + 3) [] ns p
    parts = expression_parts file (i + 3) read

    -- of a type that is not kept
    content_skipped : ¬ T (kept (length g₀.blocks)) → Rewritten (length before) h
    content_skipped k =
        let l = left_dropped_type kept (schema_by g) file fuel i (length g₀.blocks) t begins enough k in
        let m = left_no_expression kept (schema_by g) file parts.chain l.fuel_then (suc (length g₀.blocks)) l.enough k in
        then h before m.fuel_then m.enough (skips_expression r t e ns passes names few below given fits i k)
        (is ∙ ap (λ (cs : List Command). before ++ file_of cs) (l.is ∙ m.is))

    -- of one that is kept, its types kept
    content_copied : T (kept (length g₀.blocks)) → names_dropped kept ns ≡ false → Rewritten (length before) h
    unfolding file_of
    content_copied k d =
        let all = none_dropped kept ns d in
        let l = left_copied_type kept (schema_by g) file fuel i (length g₀.blocks) t begins enough k read d in
        let m = left_expression kept (schema_by g) file parts.chain l.fuel_then (suc (length g₀.blocks)) l.enough k in
        let c = TypeBlock t 0 in
        let xs = file_of (relabelled_parts (new_number kept) parts.parts) in
        let more = left_from m.fuel_then kept (schema_by g) file (p + 1) (suc (length g₀.blocks)) in
        let e₁ : F ≡ before ++ (bytes_of c ++ (xs ++ file_of more)) =
        is ∙ ap (λ (cs : List Command). before ++ file_of cs) (l.is ∙ ap (λ (cs : List Command). c ∷ cs) m.is)
        ∙ ap (λ (x : List ℕ). before ++ (bytes_of c ++ x)) (file_append (relabelled_parts (new_number kept) parts.parts) more) in
        let before₁ = before ++ bytes_of c in
        let e₂ : F ≡ before₁ ++ (xs ++ file_of more) = e₁ ∙ sym (append_assoc before (bytes_of c) (xs ++ file_of more)) in
        let small : (j : ℕ) → Memᴰ j (types_of ns) → new_number kept j < most_types = λ j o. omega (arith, new_at_most kept j, below j o) in
        let q = relabelled_read (new_number kept) file (i + 3) read parts.chain small F before₁ (file_of more) e₂ in
        let e₃ : F ≡ (before₁ ++ xs) ++ file_of more = e₂ ∙ sym (append_assoc before₁ xs (file_of more)) in
        let k₁ : length before₁ ≡ length before + 3 = length-append before (bytes_of c) in
        let k₂ : length (before₁ ++ xs) ≡ q.end + 1 = length-append before₁ xs ∙ sym q.ends in
        let e' = relabel_expression (new_number kept) e in
        let x = then (after_expression (after h (length before) c) e' q.names) (before₁ ++ xs) m.fuel_then m.enough
        (copied_related r t e ns passes names few below given fits k all i (length before) q.names q.types) e₃ in
        record {
          stated = x.stated;
          trace =
              content t e' q.names q.end (read_back before (xs ++ file_of more) c e₁)
              (copied_passes r t e ns passes names few below given fits k all)
              (subst (λ (a : ℕ). content_at F a ≡ whole e' q.names q.end) k₁ q.read)
              (copied_fits r t e ns passes names few below given fits k all)
              (subst (λ (a : ℕ). Trace F x.stated a (after_expression (after h (length before) c) e' q.names)) k₂ x.trace);
          related = x.related;
        }

    -- the schema's block of the type is the expression's automaton, nillable or not
    automaton_draft : content_of (draft_at g.blocks (length g₀.blocks)) ≡ content_of (with_automaton e (typed i t 0))
    unfolding after
    automaton_draft =
        let b = length g₀.blocks in
        let last : draft_at (with_automaton e (typed i t 0) ∷ g₀.blocks) b ≡ with_automaton e (typed i t 0) = rw (eq-eqb b b refl) in
        block_stays rest b (record { given = omega arith; no_more = λ q. absurd (omega arith) }) ∙ ap content_of last

    type_given : length g₀.blocks < length g.blocks
    unfolding after
    type_given = omega (arith, blocks_grow rest)

    block_given : block_of (schema_by g) (length g₀.blocks) ≡ block_by (draft_at g.blocks (length g₀.blocks))
    unfolding schema_by
    block_given = block_at g.blocks (length g₀.blocks) type_given

    block_written : block_commands (block_left kept (block_of (schema_by g) (length g₀.blocks)))
        ≡ TypeBlock t (suc (uses e)) ∷ (map Final (members (set_of (accepts e) most_states)) ++ map step_of (steps_left kept (all_steps e)))
    unfolding block_left
    block_written =
        let written : Draft → List Command = λ d. block_commands (block_left kept (block_by d)) in
        let x = set_of (accepts e) most_states in
        ap (λ (b : Block). block_commands (block_left kept b)) block_given ∙ ap written automaton_draft
        ∙ ap (λ (ss : List StepOf). TypeBlock t (suc (uses e)) ∷ (map Final (members x) ++ map step_of (steps_left kept ss)))
        (reverse-reverse (all_steps e))

    -- .. one of its types not kept
    content_by_states : T (kept (length g₀.blocks)) → names_dropped kept ns ≡ true → Rewritten (length before) h
    content_by_states k d =
        let l = left_by_states kept (schema_by g) file fuel i (length g₀.blocks) t begins enough k read d in
        let more = left_from l.fuel_then kept (schema_by g) file (p + 1) (suc (length g₀.blocks)) in
        let x = set_of (accepts e) most_states in
        let ss = steps_left kept (all_steps e) in
        let cs = TypeBlock t (suc (uses e)) ∷ (map Final (members x) ++ map step_of ss) in
        let e₁ : F ≡ before ++ (file_of cs ++ file_of more) =
        is ∙ ap (λ (x : List Command). before ++ file_of x) (l.is ∙ ap (λ (x : List Command). x ++ more) block_written)
        ∙ ap (λ (x : List ℕ). before ++ x) (file_append cs more) in
        write_block backward h (new_number kept (length g.blocks)) t (uses e) x ss before (file_of more)
        (states_passes r t e ns passes names few below given fits k) (states_below r t e ns passes names few below given fits k)
        (states_within r t e ns passes names few below given fits k) (states_steps r t e ns passes names few below given fits k)
        (states_distinct r t e ns passes names few below given fits k) (states_fit r t e ns passes names few below given fits k) r.names e₁
        (λ ns' before' named e'. then _ before' l.fuel_then l.enough
        (states_related r t e ns passes names few below given fits k i (length before) ns' named) e')

    content_rewritten : Rewritten (length before) h
    content_rewritten =
        cond_either (λ (u : Unit {0}). Rewritten (length before) h) (kept (length g₀.blocks)) {x = tt} {y = tt}
        (λ k. by_names (names_dropped kept ns) (content_copied k) (content_by_states k)) content_skipped
      where
        by_names : (b : Bool) → (b ≡ false → Rewritten (length before) h) → (b ≡ true → Rewritten (length before) h) → Rewritten (length before) h
        by_names true x y = y refl
        by_names false x y = x refl

  -- From each place on, by what is left.
  walk : {i : ℕ} {g₀ : Stated} → Trace file g i g₀ → (h : Stated) (before : List ℕ) (fuel : ℕ) → length file - i < fuel
      → Related kept (length g.blocks) g₀ h → F ≡ before ++ file_of (left_from fuel kept (schema_by g) file i (length g₀.blocks))
      → Rewritten (length before) h
  unfolding file_of after
  walk {i} {g₀} (ended e d l) h before fuel f r is =
      let none = left_end kept (schema_by g) file fuel i (length g₀.blocks) l in
      let all : F ≡ before = is ∙ ap (λ (cs : List Command). before ++ file_of cs) none ∙ append-nil before in
      let end : length F ≤ length before = omega (arith, ap length all) in
      record {
        stated = h;
        trace = ended refl (related_end r d) end;
        related = subst (λ (x : Stated). Related kept (length g.blocks) x h) e r;
      }
  walk {i} {g₀} (command c at_place z o t) h before fuel f r is =
      let l = left_command kept (schema_by g) file fuel i (length g₀.blocks) c at_place o f in
      one_command i r c before (left_from l.fuel_then kept (schema_by g) file (i + size c) (type_count c + length g₀.blocks)) z o
      (λ x m. type_known known t m)
      (λ q. roots_at_done g₀ i (subst (λ (c : Command). Trace file g (i + size c) (after g₀ i c)) q t))
      (is ∙ ap (λ (cs : List Command). before ++ file_of cs) l.is)
      (λ h' before' r' e. walk t h' before' l.fuel_then l.enough r'
      (e ∙ ap (λ (b : ℕ). before' ++ file_of (left_from l.fuel_then kept (schema_by g) file (i + size c) b)) (counted g₀ i c)))
  walk {i} {g₀} (content t e ns p at_place z read fits rest) h before fuel f r is =
      content_rewritten i r t e ns p at_place z read fits rest (λ h' before' fuel' f' r' is'. walk rest h' before' fuel' f' r' is') before fuel f is

-- The written file passes and states the reduced schema, if a root type is kept.
pub states_reduced : {file : List ℕ} {S : Schema} (kept : ℕ → Bool) → StatesSchema file S → (a : ℕ) → IsRoot S a → T (kept a)
    → StatesSchema (file_of (commands_left kept S file)) (reduced kept S)
unfolding commands_left schema_by
states_reduced {file} {S} kept x a root k =
    subst (λ (S : Schema). StatesSchema (file_of (left_from (suc (length file)) kept S file 0 0)) (reduced kept S)) x.schema
    (let g = x.stated in
    let F = file_of (left_from (suc (length file)) kept (schema_by g) file 0 0) in
    let some = some_root_left kept g.roots a (root_stated g x.schema root) k in
    let w =
    walk kept file g x.known some F (trace_of file g x.passes) nothing_stated [] (suc (length file)) (omega arith)
    (nothing_related kept (length g.blocks)) refl in
    record {
      stated = w.stated;
      passes = trace_states F w.stated w.trace;
      known = related_known w.related;
      schema = related_schema w.related;
    })
  where
    root_stated : (g : Stated) → schema_by g ≡ S → IsRoot S a → Memᴰ a (reverse g.roots)
    root_stated g e m = subst (λ (S : Schema). Memᴰ a S.roots) (sym e) m
