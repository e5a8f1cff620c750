-- What is left of a file at each place: of a command, of an expression, and of a type that is written by its states.
use mathlib.Core.Path.{◌≡◌, refl, sym, ap, subst, ◌∙◌}
use mathlib.Core.Bool.{Bool, true, false, cond}
use mathlib.Core.List.{List, [], ◌∷◌, ◌++◌, append_assoc}
use Prim.Native.Nat.{ℕ, zero, suc, ◌+◌, ◌-◌, pred, ◌≤◌, ◌<◌}
use native.Mathlib.Omega.{arith}
use borrow.Author.Tests.{lt-leb}
use lib.Dec.{T}
use lib.ListN.{length}
use Rattle.sdtd.specs.Schema.{Schema, block_of}
use Rattle.sdtd.specs.Reduced.{new_number, block_left}
use Rattle.sdtd.specs.declared.Tag.{Tag}
use Rattle.sdtd.proofs.Basics.{is_true, is_false}
use Rattle.std.specs.Prelude.{Option, Some, None}
use Rattle.std.specs.Option.{option_map}
use Rattle.command.specs.Command.{command_at, size, part_size}
use Rattle.command.specs.Relabelled.{relabel_part}
use Rattle.command.specs.declared.Command.{Command}
use Rattle.command.specs.declared.Command.TheVariants.{Tags, TypeBlock, Final, Step, Root, Nil, Done, Expression}
use Rattle.command.specs.declared.Part.{Part}
use Rattle.command.specs.declared.Part.TheVariants.{End}
use Rattle.command.proofs.CommandLaws.{command_in_file, size_some}
use Rattle.expression.specs.Expression.{Expression as Exp}
use Rattle.expression.specs.Content.{Name, whole, content_at}
use Rattle.expression.proofs.WholeContents.{rise_most, whole_content}
use Rattle.expression.proofs.ExpressionParts.{Parts, last, more}
use Rattle.expression.proofs.RelabelledContents.{relabelled_parts}
use Rattle.commands.proofs.Traces.{opens_expression}
use Rattle.schema_writer.specs.Left.{command_left, type_count, block_commands, names_dropped, Piece, one_left, begins_expression, piece_of, piece_at, and_rest, left_from}

-- a command that stands at a place of the file stands inside it
pub inside_file : (file : List ℕ) (i : ℕ) {c : Command} → command_at file i ≡ Some c → (i + size c ≤ length file) × (0 < size c)
inside_file file i {c} h = (command_in_file file i h, size_some c)

begins_same : (c : Command) → begins_expression c ≡ opens_expression c
begins_same (Tags n) = refl
begins_same (TypeBlock g s) = refl
begins_same (Final q) = refl
begins_same (Step p j q) = refl
begins_same (Root r) = refl
begins_same Nil = refl
begins_same Done = refl
begins_same (Expression x) = refl

module _ (kept : ℕ → Bool) (S : Schema) (file : List ℕ) where
  -- what is written from the place i on, where a TYPEs stand before it, is `written` and then what is left from the place j on
  pub record LeftThen (fuel i a : ℕ) (written : List Command) (j b : ℕ) : Type 0 where
    pub fuel_then : ℕ
    pub enough : length file - j < fuel_then
    pub is : left_from fuel kept S file i a ≡ written ++ left_from fuel_then kept S file j b

  -- where no command stands nothing is left
  pub left_none : (fuel i a : ℕ) → command_at file i ≡ None → left_from fuel kept S file i a ≡ []
  unfolding left_from piece_at
  left_none zero i a e = refl
  left_none (suc fuel) i a e = ap (λ (c : Option Command). and_rest (left_from fuel kept S file) (option_map (piece_of kept S file i a) c)) e

  -- at the end of the file
  pub left_end : (fuel i a : ℕ) → length file ≤ i → left_from fuel kept S file i a ≡ []
  left_end fuel i a l = left_none fuel i a (rw (lt-leb (i + 1) (length file) (omega arith)))

  -- one piece
  left_piece : (fuel i a : ℕ) (x : Piece) → piece_at kept S file i a ≡ Some x → i < x.next → i < length file → length file - i < fuel
      → LeftThen fuel i a x.written x.next x.types
  unfolding left_from
  left_piece zero i a x e n l f = absurd (omega arith)
  left_piece (suc fuel) i a x e n l f = record { fuel_then = fuel; enough = omega arith; is = ap (and_rest (left_from fuel kept S file)) e }

  piece_plain : (i a : ℕ) (c : Command) → command_at file i ≡ Some c → opens_expression c ≡ false → piece_at kept S file i a ≡ Some (one_left kept i a c)
  unfolding piece_at
  piece_plain i a c e o = rw (e, begins_same c, o)

  -- a command that no expression follows
  pub left_command : (fuel i a : ℕ) (c : Command) → command_at file i ≡ Some c → opens_expression c ≡ false → length file - i < fuel
      → LeftThen fuel i a (command_left kept a c) (i + size c) (type_count c + a)
  left_command fuel i a c e o f =
      let h = inside_file file i e in
      left_piece fuel i a (one_left kept i a c) (piece_plain i a c e o) (omega arith) (omega arith) f

  -- a TYPE that an expression follows, of a type that is not kept
  piece_dropped : (i a : ℕ) (t : Tag) → command_at file i ≡ Some (TypeBlock t 0) → ¬ T (kept a) → piece_at kept S file i a ≡ Some (one_left kept i a (TypeBlock t 0))
  unfolding piece_at
  piece_dropped i a t e n = rw (e, is_false (kept a) n)

  -- .. of one that is kept, whose expression names no dropped type
  piece_copied : (i a : ℕ) (t : Tag) {e : Exp} {ns : List Name} {p : ℕ} → command_at file i ≡ Some (TypeBlock t 0) → T (kept a)
      → content_at file (i + 3) ≡ whole e ns p → names_dropped kept ns ≡ false → piece_at kept S file i a ≡ Some (one_left kept i a (TypeBlock t 0))
  unfolding piece_at
  piece_copied i a t e k r d = rw (e, is_true (kept a) k, r, d)

  -- .. and whose expression names one
  piece_by_states : (i a : ℕ) (t : Tag) {e : Exp} {ns : List Name} {p : ℕ} → command_at file i ≡ Some (TypeBlock t 0) → T (kept a)
      → content_at file (i + 3) ≡ whole e ns p → names_dropped kept ns ≡ true
      → piece_at kept S file i a ≡ Some (record { written = block_commands (block_left kept (block_of S a)); next = p + 1; types = suc a })
  unfolding piece_at
  piece_by_states i a t e k r d = rw (e, is_true (kept a) k, r, d)

  module _ (fuel i a : ℕ) (t : Tag) (at_type : command_at file i ≡ Some (TypeBlock t 0)) (enough_fuel : length file - i < fuel) where
    inside : i + 3 ≤ length file
    inside = (inside_file file i at_type).0

    type_alone : (b : Bool) → kept a ≡ b → piece_at kept S file i a ≡ Some (one_left kept i a (TypeBlock t 0))
        → LeftThen fuel i a (cond b (TypeBlock t 0 ∷ []) []) (i + 3) (suc a)
    type_alone b k e =
        let l = inside in
        let s : 1 + a ≡ suc a = omega arith in
        subst (λ (n : ℕ). LeftThen fuel i a (cond b (TypeBlock t 0 ∷ []) []) (i + 3) n) s
        (subst (λ (b : Bool). LeftThen fuel i a (cond b (TypeBlock t 0 ∷ []) []) (i + 3) (1 + a)) k
        (left_piece fuel i a (one_left kept i a (TypeBlock t 0)) e (omega arith) (omega arith) enough_fuel))

    pub left_dropped_type : ¬ T (kept a) → LeftThen fuel i a [] (i + 3) (suc a)
    left_dropped_type n = type_alone false (is_false (kept a) n) (piece_dropped i a t at_type n)

    pub left_copied_type : {e : Exp} {ns : List Name} {p : ℕ} → T (kept a) → content_at file (i + 3) ≡ whole e ns p → names_dropped kept ns ≡ false
        → LeftThen fuel i a (TypeBlock t 0 ∷ []) (i + 3) (suc a)
    left_copied_type k r d = type_alone true (is_true (kept a) k) (piece_copied i a t at_type k r d)

    pub left_by_states : {e : Exp} {ns : List Name} {p : ℕ} → T (kept a) → content_at file (i + 3) ≡ whole e ns p → names_dropped kept ns ≡ true
        → LeftThen fuel i a (block_commands (block_left kept (block_of S a))) (p + 1) (suc a)
    left_by_states {ns = ns} {p = p} k r d =
        let l = inside in
        let b = rise_most (i + 3) ns p (whole_content file (i + 3) r).rises in
        left_piece fuel i a (record { written = block_commands (block_left kept (block_of S a)); next = p + 1; types = suc a })
        (piece_by_states i a t at_type k r d) (omega arith) (omega arith) enough_fuel

  -- one command of an expression, by whether its type is kept
  left_part : (fuel i a : ℕ) (x : Part) → command_at file i ≡ Some (Expression x) → length file - i < fuel
      → LeftThen fuel i a (cond (kept (pred a)) (Expression (relabel_part (new_number kept) x) ∷ []) []) (i + part_size x) a
  left_part fuel i a x e f =
      let z : 0 + a ≡ a = omega arith in
      subst (λ (n : ℕ). LeftThen fuel i a (cond (kept (pred a)) (Expression (relabel_part (new_number kept) x) ∷ []) []) (i + part_size x) n) z
      (left_command fuel i a (Expression x) e refl f)

  part_kept : (fuel i a : ℕ) (x : Part) → command_at file i ≡ Some (Expression x) → length file - i < fuel → T (kept (pred a))
      → LeftThen fuel i a (Expression (relabel_part (new_number kept) x) ∷ []) (i + part_size x) a
  part_kept fuel i a x e f k =
      let y = Expression (relabel_part (new_number kept) x) in
      subst (λ (b : Bool). LeftThen fuel i a (cond b (y ∷ []) []) (i + part_size x) a) (is_true (kept (pred a)) k) (left_part fuel i a x e f)

  part_dropped : (fuel i a : ℕ) (x : Part) → command_at file i ≡ Some (Expression x) → length file - i < fuel → ¬ T (kept (pred a))
      → LeftThen fuel i a [] (i + part_size x) a
  part_dropped fuel i a x e f k =
      let y = Expression (relabel_part (new_number kept) x) in
      subst (λ (b : Bool). LeftThen fuel i a (cond b (y ∷ []) []) (i + part_size x) a) (is_false (kept (pred a)) k) (left_part fuel i a x e f)

  -- two pieces
  then : {fuel i a j b k c : ℕ} {xs ys : List Command} → (r : LeftThen fuel i a xs j b) → LeftThen r.fuel_then j b ys k c
      → LeftThen fuel i a (xs ++ ys) k c
  then {xs = xs} {ys} r s =
      record {
        fuel_then = s.fuel_then;
        enough = s.enough;
        is = r.is ∙ ap (λ (l : List Command). xs ++ l) s.is ∙ sym (append_assoc xs ys _);
      }

  -- an expression of a kept type: its commands, their types renumbered
  pub left_expression : {i p : ℕ} {xs : List Part} → Parts file i xs p → (fuel a : ℕ) → length file - i < fuel → T (kept (pred a))
      → LeftThen fuel i a (relabelled_parts (new_number kept) xs) (p + 1) a
  left_expression {i} (last e) fuel a f k = part_kept fuel i a End e f k
  left_expression {i} {p} (more {x = x} {xs = xs} e n ps) fuel a f k =
      let r = part_kept fuel i a x e f k in
      then r (left_expression ps r.fuel_then a r.enough k)

  -- one of a type that is not kept: nothing
  pub left_no_expression : {i p : ℕ} {xs : List Part} → Parts file i xs p → (fuel a : ℕ) → length file - i < fuel → ¬ T (kept (pred a))
      → LeftThen fuel i a [] (p + 1) a
  left_no_expression {i} (last e) fuel a f k = part_dropped fuel i a End e f k
  left_no_expression {i} {p} (more {x = x} {xs = xs} e n ps) fuel a f k =
      let r = part_dropped fuel i a x e f k in
      then r (left_no_expression ps r.fuel_then a r.enough k)
