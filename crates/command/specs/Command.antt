-- "One-byte commands, hexadecimal, with one-byte operands": their bytes, and the command at a place of a file.
use Rattle.std.specs.Prelude.{Bool, true, false, cond, Option, Some, None, List, [], ◌∷◌, ◌++◌, ℕ, ◌+◌, eqb, leb, length, get_or}
use Rattle.sdtd.specs.Numbered.{tag_no, type_no}
use Rattle.command.specs.declared.Command.{Command}
use Rattle.command.specs.declared.Command.TheVariants.{Tags, TypeBlock, Final, Step, Root, Nil, Done, Expression}
use Rattle.command.specs.declared.Part.{Part}
use Rattle.command.specs.declared.Part.TheVariants.{OpenBracket, CloseBracket, Use, Or, Repeat, End}

-- one of the six old commands, with which a file states every type by its states and no type is nillable
abbrev pub is_old : Command → Bool
is_old (Tags n) = true
is_old (TypeBlock g s) = true
is_old (Final q) = true
is_old (Step p j q) = true
is_old (Root a) = true
is_old Nil = false
is_old Done = true
is_old (Expression x) = false

-- the bytes of a command of an expression: 30 and 31 around a choice, 32 with a type, 33 between sequences, 34 after what is repeated, 3F
-- at the end
abbrev pub part_bytes : Part → List ℕ
part_bytes OpenBracket = 0x30 ∷ []
part_bytes CloseBracket = 0x31 ∷ []
part_bytes (Use j) = 0x32 ∷ j.0 ∷ []
part_bytes Or = 0x33 ∷ []
part_bytes Repeat = 0x34 ∷ []
part_bytes End = 0x3f ∷ []

-- "10 TAGS (count); 11 TYPE (tag, state count), which starts the next type's block; 12 FINAL (state); 13 STEP (from, type, to);
-- 14 ROOT (type); 1F DONE"; "Command 15 NIL": a command's bytes.
abbrev pub bytes_of : Command → List ℕ
bytes_of (Tags n) = 0x10 ∷ n ∷ []
bytes_of (TypeBlock g s) = 0x11 ∷ g.0 ∷ s ∷ []
bytes_of (Final q) = 0x12 ∷ q ∷ []
bytes_of (Step p j q) = 0x13 ∷ p ∷ j.0 ∷ q ∷ []
bytes_of (Root a) = 0x14 ∷ a.0 ∷ []
bytes_of Nil = 0x15 ∷ []
bytes_of Done = 0x1f ∷ []
bytes_of (Expression x) = part_bytes x

-- the file of the commands: their bytes in order
unfoldable pub file_of : List Command → List ℕ
file_of [] = []
file_of (c ∷ cs) = bytes_of c ++ file_of cs

-- how many bytes a command has
abbrev pub part_size : Part → ℕ
part_size x = length (part_bytes x)

abbrev pub size : Command → ℕ
size c = length (bytes_of c)

-- the operand number k of the command at the place i
abbrev operand : List ℕ → ℕ → ℕ → ℕ
operand file i k = get_or file (i + k) 0

-- the command, if the file has its bytes from the place i on
abbrev whole : List ℕ → ℕ → Command → Option Command
whole file i c = cond (leb (i + size c) (length file)) (Some c) None

-- the command beyond the six old ones that begins with the byte b at the place i: NIL, or one of an expression
unfoldable pub added_command : List ℕ → ℕ → ℕ → Option Command
added_command file i b =
    cond (eqb b 0x15) (whole file i Nil)
    (cond (eqb b 0x30) (whole file i (Expression OpenBracket))
    (cond (eqb b 0x31) (whole file i (Expression CloseBracket))
    (cond (eqb b 0x32) (whole file i (Expression (Use (type_no (operand file i 1)))))
    (cond (eqb b 0x33) (whole file i (Expression Or))
    (cond (eqb b 0x34) (whole file i (Expression Repeat))
    (cond (eqb b 0x3f) (whole file i (Expression End)) None))))))

-- the command that begins with the byte b at the place i
unfoldable pub command_of : List ℕ → ℕ → ℕ → Option Command
command_of file i b =
    cond (eqb b 0x10) (whole file i (Tags (operand file i 1)))
    (cond (eqb b 0x11) (whole file i (TypeBlock (tag_no (operand file i 1)) (operand file i 2)))
    (cond (eqb b 0x12) (whole file i (Final (operand file i 1)))
    (cond (eqb b 0x13) (whole file i (Step (operand file i 1) (type_no (operand file i 2)) (operand file i 3)))
    (cond (eqb b 0x14) (whole file i (Root (type_no (operand file i 1))))
    (cond (eqb b 0x1f) (whole file i Done) (added_command file i b))))))

-- The command at the place i: none where the file ends, where the byte begins none, or where its operands run past the end.
abbrev pub command_at : List ℕ → ℕ → Option Command
command_at file i = cond (leb (i + 1) (length file)) (command_of file i (get_or file i 0)) None
