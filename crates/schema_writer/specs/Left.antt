-- What is left of a schema file without the types that are not kept: "one without those types and the steps by them, numbers closed up in order".
use Rattle.std.specs.Prelude.{Bool, true, false, not, cond, ◌&&◌, ◌||◌, Option, Some, None, List, [], ◌∷◌, ◌++◌, map, ℕ, zero, suc, ◌+◌, pred, eqb, length}
use Rattle.std.specs.Option.{option_map}
use Rattle.sdtd.specs.Numbered.{tag_no, type_no}
use Rattle.sdtd.specs.Schema.{Block, Schema, block_of}
use Rattle.sdtd.specs.Schema.{Step as StepOf}
use Rattle.sdtd.specs.Reduced.{new_number, block_left}
use Rattle.command.specs.Command.{command_at, size}
use Rattle.command.specs.Cases.{on_type}
use Rattle.command.specs.Relabelled.{relabel_command}
use Rattle.command.specs.declared.Command.{Command}
use Rattle.command.specs.declared.Command.TheVariants.{Tags, TypeBlock, Final, Step, Root, Nil, Done, Expression}
use Rattle.expression.specs.Content.{Name, Content, broken, whole, content_at}

-- Does the command stay, where `a` TYPEs stand before it? The block that it is in is then that of the type `pred a`, and a TYPE is that of the
-- type `a`. "[W]ithout those types and the steps by them"; "a ROOT of a dropped type goes too".
abbrev pub stays : (ℕ → Bool) → ℕ → Command → Bool
stays kept a (Tags n) = true
stays kept a (TypeBlock g s) = kept a
stays kept a (Final q) = kept (pred a)
stays kept a (Step p j q) = kept (pred a) && kept j.0
stays kept a (Root r) = kept r.0
stays kept a Nil = kept (pred a)
stays kept a Done = true
stays kept a (Expression x) = kept (pred a)

-- the command, if it stays, with new numbers for the types that it names
abbrev pub command_left : (ℕ → Bool) → ℕ → Command → List Command
command_left kept a c = cond (stays kept a c) (relabel_command (new_number kept) c ∷ []) []

-- how many TYPEs the command is
abbrev pub type_count : Command → ℕ
type_count c = on_type (λ g s. 1) 0 c

-- "by all its states [..], FINALs rising, then STEPs rising by from, type, to": a block's TYPE, FINALs and STEPs. Of a block that an expression states
-- both rise (`type_rises`), and so do those that are left of them (`left_block_rises`).
abbrev pub step_command : StepOf → Command
step_command s = Step s.from (type_no s.by) s.to

abbrev pub block_commands : Block → List Command
block_commands b = TypeBlock (tag_no b.tag) b.states ∷ (map Final b.accepting ++ map step_command b.steps)

-- one of the names is of a type that is not kept
abbrev pub names_dropped : (ℕ → Bool) → List Name → Bool
names_dropped kept [] = false
names_dropped kept (x ∷ xs) = not (kept x.type) || names_dropped kept xs

-- What is written at one place, the place where the file goes on, and how many TYPEs stand before that.
pub record Piece : Type 0 where
  pub written : List Command
  pub next : ℕ
  pub types : ℕ

-- the command at the place i as it is left
abbrev pub one_left : (ℕ → Bool) → ℕ → ℕ → Command → Piece
one_left kept i a c = record { written = command_left kept a c; next = i + size c; types = type_count c + a }

-- "A type whose expression names a dropped one is written by all its states instead": its TYPE and all through the expression's 3F
abbrev pub by_states : (ℕ → Bool) → Schema → ℕ → Piece → Content → Piece
by_states kept S a given (broken n p) = given
by_states kept S a given (whole e names p) =
    cond (names_dropped kept names)
    (record { written = block_commands (block_left kept (block_of S a)); next = p + 1; types = suc a })
    given

-- is it a TYPE followed by an expression?
abbrev pub begins_expression : Command → Bool
begins_expression c = on_type (λ g s. eqb s 0) false c

-- what is written of the command c at the place i
abbrev pub piece_of : (ℕ → Bool) → Schema → List ℕ → ℕ → ℕ → Command → Piece
piece_of kept S file i a c =
    let given = one_left kept i a c in
    cond (begins_expression c && kept a) (by_states kept S a given (content_at file (i + size c))) given

-- the piece at the place i, if a command stands there
unfoldable pub piece_at : (ℕ → Bool) → Schema → List ℕ → ℕ → ℕ → Option Piece
piece_at kept S file i a = option_map (piece_of kept S file i a) (command_at file i)

-- a piece, and the rest from the place on where the file goes on after it
abbrev pub and_rest : (ℕ → ℕ → List Command) → Option Piece → List Command
and_rest rest None = []
and_rest rest (Some x) = x.written ++ rest x.next x.types

-- The commands that are left from the place i on, where a TYPEs stand before it; `fuel` is more than the bytes left. "All other commands keep their
-- order".
unfoldable pub left_from : ℕ → (ℕ → Bool) → Schema → List ℕ → ℕ → ℕ → List Command
left_from zero kept S file i a = []
left_from (suc fuel) kept S file i a = and_rest (left_from fuel kept S file) (piece_at kept S file i a)

-- The commands that are left of a file that states S.
unfoldable pub commands_left : (ℕ → Bool) → Schema → List ℕ → List Command
commands_left kept S file = left_from (suc (length file)) kept S file 0 0
