-- What is left of a file, piece after piece.
use mathlib.Core.Path.{◌≡◌, refl, sym, ap, subst, ◌∙◌}
use mathlib.Core.Bool.{Bool, true, false, cond, ◌&&◌}
use mathlib.Core.List.{List, ◌++◌}
use Prim.Native.Nat.{ℕ, suc, ◌+◌, ◌-◌, ◌≤◌, ◌<◌}
use native.Mathlib.Omega.{arith}
use lib.ListN.{length}
use mir.Val.{bool_byte}
use Rattle.sdtd.specs.Schema.{Schema, block_of}
use Rattle.sdtd.specs.Reduced.{block_left}
use Rattle.std.specs.Prelude.{Option, Some, None}
use Rattle.std.specs.Option.{option_map}
use Rattle.command.specs.Command.{file_of, command_at, size}
use Rattle.command.specs.Cases.{is_type}
use Rattle.command.specs.declared.Command.{Command}
use Rattle.command.specs.declared.Command.TheVariants.{Tags, TypeBlock, Final, Step, Root, Nil, Done, Expression}
use Rattle.command.proofs.CommandLaws.{file_append}
use Rattle.expression.specs.Content.{Content, broken, whole, content_at}
use Rattle.schema_writer.specs.Left.{command_left, type_count, block_commands, names_dropped, Piece, one_left, by_states, begins_expression}
use Rattle.schema_writer.specs.Left.{piece_of, piece_at, and_rest, left_from, commands_left}
use Rattle.text.specs.declared.page.Page.{Page}
use Rattle.text.specs.Page.{Sheet, sheet, laid, Lays}
use Rattle.text.proofs.PageLaws.{laid_append, laid_none}
use Rattle.schema_writer.specs.Laying.{past_content, past_states}
use Rattle.schema_writer.proofs.ContentLaws.{states_end}
use Rattle.schema_writer.proofs.WalkPieces.{inside_file, left_none}

-- a TYPE has a byte
pub count_few : (c : Command) → type_count c ≤ size c
count_few (Tags n) = omega arith
count_few (TypeBlock g s) = omega arith
count_few (Final q) = omega arith
count_few (Step p j q) = omega arith
count_few (Root a) = omega arith
count_few Nil = omega arith
count_few Done = omega arith
count_few (Expression x) = omega arith

-- a TYPE counts 1
pub count_is : (c : Command) → type_count c ≡ bool_byte (is_type c)
count_is (Tags n) = refl
count_is (TypeBlock g s) = refl
count_is (Final q) = refl
count_is (Step p j q) = refl
count_is (Root a) = refl
count_is Nil = refl
count_is Done = refl
count_is (Expression x) = refl

module _ (kept : ℕ → Bool) (S : Schema) (file : List ℕ) where
  -- the piece by how it is written
  abbrev piece_by : ℕ → ℕ → Command → Option ℕ → Piece
  piece_by i a c (Some p) = record { written = block_commands (block_left kept (block_of S a)); next = p; types = suc a }
  piece_by i a c None = one_left kept i a c

  by_written : (i a : ℕ) (c : Command) (b : Bool) (k : Content)
      → cond b (by_states kept S a (one_left kept i a c) k) (one_left kept i a c) ≡ piece_by i a c (cond b (past_content kept k) None)
  by_written i a c false k = refl
  by_written i a c true (broken n p) = refl
  by_written i a c true (whole e names p) = by_names (names_dropped kept names)
    where
      by_names : (b : Bool)
          → cond b (record { written = block_commands (block_left kept (block_of S a)); next = p + 1; types = suc a }) (one_left kept i a c)
          ≡ piece_by i a c (cond b (Some (p + 1)) None)
      by_names true = refl
      by_names false = refl

  piece_by_lem : (i a : ℕ) {c : Command} {w : Option ℕ} → command_at file i ≡ Some c → w ≡ past_states kept file (i + size c) a c
      → piece_at kept S file i a ≡ Some (piece_by i a c w)
  unfolding piece_at
  piece_by_lem i a {c} e h =
      ap (option_map (piece_of kept S file i a)) e
      ∙ ap (λ (x : Piece). Some x) (by_written i a c (begins_expression c && kept a) (content_at file (i + size c)) ∙ ap (piece_by i a c) (sym h))

  -- one piece, and what is left after it
  piece_first : (fuel i a : ℕ) {x : Piece} → piece_at kept S file i a ≡ Some x
      → left_from (suc fuel) kept S file i a ≡ x.written ++ left_from fuel kept S file x.next x.types
  unfolding left_from
  piece_first fuel i a e = ap (and_rest (left_from fuel kept S file)) e

  -- The walk is at the place `at` with so many TYPEs before it: with what is left from there on the page is what all that is left makes of it.
  pub record Walked (was now : Page) (at types : ℕ) : Type 0 where
    pub fuel : ℕ
    pub enough : length file < fuel + at
    pub inside : at ≤ length file
    pub few : types ≤ at
    pub same_buffer : now.out.ghost_name ≡ was.out.ghost_name
    pub left : laid (sheet now) (file_of (left_from fuel kept S file at types)) ≡ laid (sheet was) (file_of (commands_left kept S file))

  pub walked_none : (was : Page) → Walked was was 0 0
  unfolding commands_left
  walked_none was =
      record {
        fuel = suc (length file);
        enough = omega arith;
        inside = omega arith;
        few = omega arith;
        same_buffer = refl;
        left = refl;
      }

  module _ {was now : Page} {at types : ℕ} (x : Walked was now at types) where
    pub walked_end : command_at file at ≡ None → Lays was (file_of (commands_left kept S file)) now
    unfolding file_of
    walked_end e = (
      x.same_buffer,
      sym (laid_none (sheet now)) ∙ ap (λ (cs : List Command). laid (sheet now) (file_of cs)) (sym (left_none kept S file x.fuel at types e)) ∙ x.left,
    )

    module _ {c : Command} (here : command_at file at ≡ Some c) {w : Option ℕ} (how : w ≡ past_states kept file (at + size c) types c) {is : Page} where
      turn : {y : Piece} → piece_by at types c w ≡ y → at < y.next → y.next ≤ length file → y.types ≤ y.next → Lays now (file_of y.written) is
          → Walked was is y.next y.types
      turn {y} e l m f k =
          let n : x.fuel ≡ suc (x.fuel - 1) = omega (arith, x.enough) in
          let rest = left_from (x.fuel - 1) kept S file y.next y.types in
          let first : left_from x.fuel kept S file at types ≡ y.written ++ rest =
          ap (λ (k : ℕ). left_from k kept S file at types) n
          ∙ piece_first (x.fuel - 1) at types (piece_by_lem at types here how ∙ ap (λ (y : Piece). Some y) e) in
          record {
            fuel = x.fuel - 1;
            enough = omega (arith, x.enough);
            inside = m;
            few = f;
            same_buffer = k.0 ∙ x.same_buffer;
            left =
                ap (λ (s : Sheet). laid s (file_of rest)) k.1
                ∙ sym (laid_append (sheet now) (file_of y.written) (file_of rest))
                ∙ ap (laid (sheet now)) (sym (ap file_of first ∙ file_append y.written rest))
                ∙ x.left;
          }

      -- by its states
      pub walked_block : {p : ℕ} → w ≡ Some p → Lays now (file_of (block_commands (block_left kept (block_of S types)))) is
          → Walked was is p (types + 1)
      walked_block {p} e k =
          let ends = states_end kept file (at + size c) types c (sym how ∙ e) in
          let z : suc types ≡ types + 1 = omega arith in
          subst (λ (n : ℕ). Walked was is p n) z (turn (ap (piece_by at types c) e) (omega arith) ends.1 (omega (arith, x.few)) k)

      -- as it is given
      pub walked_given : w ≡ None → Lays now (file_of (command_left kept types c)) is → {m : ℕ} → m ≡ type_count c
          → Walked was is (at + size c) (types + m)
      walked_given e k {m} q =
          let ends = inside_file file at here in
          let z : type_count c + types ≡ types + m = omega arith in
          subst (λ (m : ℕ). Walked was is (at + size c) m) z
          (turn (ap (piece_by at types c) e) (omega arith) (omega arith) (omega (arith, x.few, count_few c)) k)
