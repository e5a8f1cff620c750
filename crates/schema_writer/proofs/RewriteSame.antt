-- A file whose types are all kept is written byte for byte.
use mathlib.Core.Path.{◌≡◌, refl, sym, ap, subst, ◌∙◌}
use mathlib.Core.Bool.{Bool, cond, ◌&&◌}
use mathlib.Core.List.Memᴰ
use mathlib.Core.List.{List, [], ◌∷◌, ◌++◌, reverse, append_assoc, Memᴰ}
use Prim.Native.Nat.{ℕ, suc, ◌+◌, ◌-◌, pred, ◌≤◌, ◌<◌}
use native.Mathlib.Omega.{arith}
use lib.Dec.{T}
use lib.ListN.{length, drop, drop_of_length-le, length-map, length-reverse}
use Rattle.sdtd.specs.Numbered.{type_no}
use Rattle.sdtd.specs.Schema.{Schema}
use Rattle.sdtd.specs.Reduced.{new_number}
use Rattle.sdtd.proofs.Basics.{is_true, and_both}
use Rattle.sdtd.proofs.NewNumbers.{new_same}
use Rattle.command.specs.Command.{part_bytes, bytes_of, file_of, size}
use Rattle.command.specs.Relabelled.{relabel_part}
use Rattle.command.specs.declared.Command.{Command}
use Rattle.command.specs.declared.Command.TheVariants.{Tags, TypeBlock, Final, Step, Root, Nil, Done, Expression}
use Rattle.command.specs.declared.Part.{Part}
use Rattle.command.specs.declared.Part.TheVariants.{OpenBracket, CloseBracket, Use, Or, Repeat, End}
use Rattle.command.proofs.CommandLaws.{file_append}
use Rattle.expression.specs.Content.{Name}
use Rattle.expression.proofs.ExpressionParts.{Parts, last, more, type_used, types_used, expression_parts}
use Rattle.expression.proofs.RelabelledContents.{relabelled_parts}
use Rattle.commands.specs.Questions.{failed}
use Rattle.commands.specs.File.{Stated, seen_of, after, block_by, schema_by, unknown, StatesSchema}
use Rattle.commands.proofs.Passing.{passed}
use Rattle.commands.proofs.StatedLimits.{Each, stated_within}
use Rattle.commands.proofs.Traces.{Trace, ended, command, content, trace_of}
use Rattle.commands.proofs.TraceLaws.{type_known, blocks_grow}
use Rattle.commands.proofs.CommandBytes.{command_bytes}
use Rattle.schema_writer.specs.Left.{command_left, type_count, left_from, commands_left}
use Rattle.schema_writer.proofs.WalkCommands.{counted, all_names_kept, content_known}
use Rattle.schema_writer.proofs.WalkPieces.{left_end, left_command, left_copied_type, left_expression}

-- a command whose types keep their numbers stays as it is
part_same : (image : ℕ → ℕ) (x : Part) → Each (λ j. image j ≡ j) (type_used x) → relabel_part image x ≡ x
part_same image OpenBracket h = refl
part_same image CloseBracket h = refl
part_same image (Use j) h = ap (λ (k : ℕ). Use (type_no k)) (h j.0 (Memᴰ.head refl))
part_same image Or h = refl
part_same image Repeat h = refl
part_same image End h = refl

-- the bytes of an expression's commands
parts_bytes : (image : ℕ → ℕ) {file : List ℕ} {i p : ℕ} {xs : List Part} → Parts file i xs p → Each (λ j. image j ≡ j) (types_used xs)
    → file_of (relabelled_parts image xs) ++ drop (p + 1) file ≡ drop i file
unfolding file_of
parts_bytes image {file} {i} (last e) h = sym (command_bytes file i e)
parts_bytes image {file} {i} {p} (more {x = x} {xs = xs} e n ps) h =
    let tail = file_of (relabelled_parts image xs) in
    append_assoc (part_bytes (relabel_part image x)) tail (drop (p + 1) file)
    ∙ ap (λ (y : Part). part_bytes y ++ (tail ++ drop (p + 1) file)) (part_same image x (λ j m. h j (Memᴰ.append_left (types_used xs) m)))
    ∙ ap (λ (l : List ℕ). part_bytes x ++ l) (parts_bytes image ps (λ j m. h j (Memᴰ.append_right (type_used x) m)))
    ∙ sym (command_bytes file i e)

-- All types of the file, which is read to its end and states g, are kept.
module _ (kept : ℕ → Bool) (S : Schema) (file : List ℕ) (g : Stated) (known : unknown g ≡ []) (some : 1 ≤ length g.blocks)
    (all : (a : ℕ) → a < length g.blocks → T (kept a)) where
  same_number : (a : ℕ) → a < length g.blocks → new_number kept a ≡ a
  same_number a l = new_same kept a (λ b m. all b (omega arith))

  one : (b : Bool) {c c' : Command} → T b → c' ≡ c → cond b (c' ∷ []) [] ≡ c ∷ []
  one b t e = rw (is_true b t, e)

  own_kept : (m : ℕ) → m ≤ length g.blocks → T (kept (pred m))
  own_kept m l = all (pred m) (omega arith)

  -- each command stays
  command_same : (i : ℕ) (g₀ : Stated) (c : Command) → failed (seen_of g₀ c) c ≡ 0 → length g₀.blocks ≤ length g.blocks
      → length (after g₀ i c).blocks ≤ length g.blocks → ((x : Name) → Memᴰ x (after g₀ i c).names → x.type < length g.blocks)
      → command_left kept (length g₀.blocks) c ≡ c ∷ []
  unfolding after
  command_same i g₀ (Tags n) z l m named = refl
  command_same i g₀ (TypeBlock t s) z l m named = one (kept (length g₀.blocks)) (all (length g₀.blocks) (omega arith)) refl
  command_same i g₀ (Final q) z l m named = one (kept (pred (length g₀.blocks))) (own_kept (length g₀.blocks) l) refl
  command_same i g₀ (Step p j q) z l m named =
      let b = named (record { type = j.0; place = i }) (Memᴰ.head refl) in
      let o = kept (pred (length g₀.blocks)) in
      one (o && kept j.0) (and_both o (kept j.0) (own_kept (length g₀.blocks) l) (all j.0 b))
      (ap (λ (k : ℕ). Step p (type_no k) q) (same_number j.0 b))
  command_same i g₀ (Root a) z l m named =
      let b : a.0 < length g.blocks = omega (arith, (passed g₀ (Root a) z).3) in
      one (kept a.0) (all a.0 b) (ap (λ (k : ℕ). Root (type_no k)) (same_number a.0 b))
  command_same i g₀ Nil z l m named = one (kept (pred (length g₀.blocks))) (own_kept (length g₀.blocks) l) refl
  command_same i g₀ Done z l m named = refl
  command_same i g₀ (Expression x) z l m named = absurd (passed g₀ (Expression x) z)

  -- from each place on the rest of the file is left
  same_from : {i : ℕ} {g₀ : Stated} → Trace file g i g₀ → (fuel : ℕ) → length file - i < fuel
      → file_of (left_from fuel kept S file i (length g₀.blocks)) ≡ drop i file
  unfolding file_of after
  same_from {i} {g₀} (ended e d l) fuel f =
      ap file_of (left_end kept S file fuel i (length g₀.blocks) l) ∙ sym (drop_of_length-le file l)
  same_from {i} {g₀} (command c at_place z o t) fuel f =
      let a = length g₀.blocks in
      let l = left_command kept S file fuel i a c at_place o f in
      let more = left_from l.fuel_then kept S file (i + size c) (type_count c + a) in
      let n = blocks_grow t in
      let stays = command_same i g₀ c z (blocks_grow (command {g₀ = g₀} c at_place z o t)) n (λ x m. type_known known t m) in
      ap file_of (l.is ∙ ap (λ (cs : List Command). cs ++ more) stays)
      ∙ ap (λ (b : ℕ). bytes_of c ++ file_of (left_from l.fuel_then kept S file (i + size c) b)) (counted g₀ i c)
      ∙ ap (λ (x : List ℕ). bytes_of c ++ x) (same_from t l.fuel_then l.enough) ∙ sym (command_bytes file i at_place)
  same_from {i} {g₀} (content t e ns p at_place z read fits rest) fuel f =
      let a = length g₀.blocks in
      let given = content_known known (after g₀ i (TypeBlock t 0)) e ns rest in
      let own : T (kept a) = all a (omega (arith, blocks_grow rest)) in
      let parts = expression_parts file (i + 3) read in
      let l = left_copied_type kept S file fuel i a t at_place f own read (all_names_kept kept ns (λ j m. all j (given j m))) in
      let m = left_expression kept S file parts.chain l.fuel_then (suc a) l.enough own in
      let c = TypeBlock t 0 in
      let xs = relabelled_parts (new_number kept) parts.parts in
      let more = left_from m.fuel_then kept S file (p + 1) (suc a) in
      ap file_of (l.is ∙ ap (λ (cs : List Command). c ∷ cs) m.is) ∙ ap (λ (x : List ℕ). bytes_of c ++ x) (file_append xs more)
      ∙ ap (λ (x : List ℕ). bytes_of c ++ (file_of xs ++ x)) (same_from rest m.fuel_then m.enough)
      ∙ ap (λ (x : List ℕ). bytes_of c ++ x)
      (parts_bytes (new_number kept) parts.chain (λ j o. same_number j (given j (subst (Memᴰ j) (sym parts.types) o))))
      ∙ sym (command_bytes file i at_place)

-- Where each type of the schema is kept, the written file is the file itself.
pub every_kept : {file : List ℕ} {S : Schema} (kept : ℕ → Bool) → StatesSchema file S → ((a : ℕ) → a < length S.blocks → T (kept a))
    → file_of (commands_left kept S file) ≡ file
unfolding commands_left schema_by
every_kept {file} {S} kept x all =
    let g = x.stated in
    let w = stated_within file g x.passes x.known in
    let n : length S.blocks ≡ length g.blocks =
    ap (λ (R : Schema). length R.blocks) (sym x.schema) ∙ length-map (reverse g.blocks) block_by ∙ length-reverse g.blocks in
    let some : 1 ≤ length g.blocks = omega (arith, w.types_least, ap (λ (R : Schema). length R.blocks) x.schema) in
    same_from kept S file g x.known some (λ a l. all a (omega arith)) (trace_of file g x.passes) (suc (length file)) (omega arith)
