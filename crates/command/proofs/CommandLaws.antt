-- A command stands inside its file, and is read back from its bytes.
use mathlib.Core.Path.{◌≡◌, refl, sym, ap, subst, ◌∙◌}
use mathlib.Core.Bool.{cond}
use Rattle.std.specs.Prelude.{Option, Some, None}
use mathlib.Core.List.{List, [], ◌∷◌, ◌++◌, append-nil, append_assoc}
use Prim.Native.Nat.{ℕ, ◌+◌, ◌≤◌, ◌<◌}
use native.Mathlib.Omega.{arith}
use borrow.Author.Tests.{le-leb}
use lib.Dec.{eqb, leb, leb→le}
use lib.ListN.{length, get_or, length-append}
use lib.Seq.{get_or-append-add}
use Rattle.sdtd.proofs.Basics.{cond_both, cond_either}
use Rattle.command.specs.Command.{part_bytes, part_size, bytes_of, file_of, size, added_command, command_of, command_at}
use Rattle.command.specs.declared.Command.{Command}
use Rattle.command.specs.declared.Command.TheVariants.{Tags, TypeBlock, Final, Step, Root, Nil, Done, Expression}
use Rattle.command.specs.declared.Part.{Part}
use Rattle.command.specs.declared.Part.TheVariants.{OpenBracket, CloseBracket, Use, Or, Repeat, End}

-- the command, if there is one, ends inside the file
abbrev EndsInFile : List ℕ → ℕ → Option Command → Type 0
EndsInFile file i None = Unit
EndsInFile file i (Some c) = i + size c ≤ length file

module _ (file : List ℕ) (i : ℕ) where
  none : EndsInFile file i None
  none = tt

  whole : (c : Command) → EndsInFile file i (cond (leb (i + size c) (length file)) (Some c) None)
  whole c = cond_either (EndsInFile file i) (leb (i + size c) (length file)) (λ t. leb→le (i + size c) (length file) t) (λ n. none)

  of_added : (b : ℕ) → EndsInFile file i (added_command file i b)
  unfolding added_command
  of_added b =
      cond_both (EndsInFile file i) (eqb b 0x15) _ _ (whole Nil)
      (cond_both (EndsInFile file i) (eqb b 0x30) _ _ (whole (Expression OpenBracket))
      (cond_both (EndsInFile file i) (eqb b 0x31) _ _ (whole (Expression CloseBracket))
      (cond_both (EndsInFile file i) (eqb b 0x32) _ _ (whole (Expression (Use _)))
      (cond_both (EndsInFile file i) (eqb b 0x33) _ _ (whole (Expression Or))
      (cond_both (EndsInFile file i) (eqb b 0x34) _ _ (whole (Expression Repeat))
      (cond_both (EndsInFile file i) (eqb b 0x3f) _ _ (whole (Expression End)) none))))))

  of_byte : (b : ℕ) → EndsInFile file i (command_of file i b)
  unfolding command_of
  of_byte b =
      cond_both (EndsInFile file i) (eqb b 0x10) _ _ (whole (Tags _))
      (cond_both (EndsInFile file i) (eqb b 0x11) _ _ (whole (TypeBlock _ _))
      (cond_both (EndsInFile file i) (eqb b 0x12) _ _ (whole (Final _))
      (cond_both (EndsInFile file i) (eqb b 0x13) _ _ (whole (Step _ _ _))
      (cond_both (EndsInFile file i) (eqb b 0x14) _ _ (whole (Root _))
      (cond_both (EndsInFile file i) (eqb b 0x1f) _ _ (whole Done) (of_added b))))))

  ends_in_file : EndsInFile file i (command_at file i)
  ends_in_file = cond_both (EndsInFile file i) (leb (i + 1) (length file)) _ _ (of_byte (get_or file i 0)) none

  pub command_in_file : {c : Command} → command_at file i ≡ Some c → i + size c ≤ length file
  command_in_file e = subst (EndsInFile file i) e ends_in_file

-- every command has bytes
pub part_some : (x : Part) → 0 < part_size x
part_some OpenBracket = omega arith
part_some CloseBracket = omega arith
part_some (Use j) = omega arith
part_some Or = omega arith
part_some Repeat = omega arith
part_some End = omega arith

pub size_some : (c : Command) → 0 < size c
size_some (Tags n) = omega arith
size_some (TypeBlock g s) = omega arith
size_some (Final q) = omega arith
size_some (Step p j q) = omega arith
size_some (Root a) = omega arith
size_some Nil = omega arith
size_some Done = omega arith
size_some (Expression x) = part_some x

-- more commands
pub file_append : (cs ds : List Command) → file_of (cs ++ ds) ≡ file_of cs ++ file_of ds
unfolding file_of
file_append [] ds = refl
file_append (c ∷ cs) ds = ap (λ (l : List ℕ). bytes_of c ++ l) (file_append cs ds) ∙ sym (append_assoc (bytes_of c) (file_of cs) (file_of ds))

-- one command more
pub file_more : (cs : List Command) (c : Command) → file_of (cs ++ (c ∷ [])) ≡ file_of cs ++ bytes_of c
unfolding file_of
file_more cs c = file_append cs (c ∷ []) ∙ ap (λ (l : List ℕ). file_of cs ++ l) (append-nil (bytes_of c))

pub length_more : (cs : List Command) (c : Command) → length (file_of (cs ++ (c ∷ []))) ≡ length (file_of cs) + size c
length_more cs c = rw (file_more cs c, length-append)

-- a command stands where its bytes do
stands_part : (file rest : List ℕ) (i : ℕ) (x : Part) → i + part_size x ≤ length file
    → get_or file i 0 ≡ get_or (part_bytes x ++ rest) 0 0 → ((k : ℕ) → get_or file (i + k) 0 ≡ get_or (part_bytes x ++ rest) k 0)
    → command_at file i ≡ Some (Expression x)
unfolding command_of added_command
stands_part file rest i OpenBracket l b h = simp (le-leb (i + 1) (length file) l, b)
stands_part file rest i CloseBracket l b h = simp (le-leb (i + 1) (length file) l, b)
stands_part file rest i (Use j) l b h = simp (le-leb (i + 1) (length file) (omega arith), b, le-leb (i + 2) (length file) l, h 1)
stands_part file rest i Or l b h = simp (le-leb (i + 1) (length file) l, b)
stands_part file rest i Repeat l b h = simp (le-leb (i + 1) (length file) l, b)
stands_part file rest i End l b h = simp (le-leb (i + 1) (length file) l, b)

stands : (file rest : List ℕ) (i : ℕ) (c : Command) → i + size c ≤ length file
    → get_or file i 0 ≡ get_or (bytes_of c ++ rest) 0 0 → ((k : ℕ) → get_or file (i + k) 0 ≡ get_or (bytes_of c ++ rest) k 0)
    → command_at file i ≡ Some c
unfolding command_of added_command
stands file rest i (Tags n) l b h = simp (le-leb (i + 1) (length file) (omega arith), b, le-leb (i + 2) (length file) l, h 1)
stands file rest i (TypeBlock g s) l b h =
    simp (le-leb (i + 1) (length file) (omega arith), b, le-leb (i + 3) (length file) l, h 1, h 2)
stands file rest i (Final q) l b h = simp (le-leb (i + 1) (length file) (omega arith), b, le-leb (i + 2) (length file) l, h 1)
stands file rest i (Step p j q) l b h =
    simp (le-leb (i + 1) (length file) (omega arith), b, le-leb (i + 4) (length file) l, h 1, h 2, h 3)
stands file rest i (Root a) l b h = simp (le-leb (i + 1) (length file) (omega arith), b, le-leb (i + 2) (length file) l, h 1)
stands file rest i Nil l b h = simp (le-leb (i + 1) (length file) l, b)
stands file rest i Done l b h = simp (le-leb (i + 1) (length file) l, b)
stands file rest i (Expression x) l b h = stands_part file rest i x l b h

-- Each command is read back from its bytes, whatever stands before and after them.
pub read_back : (before rest : List ℕ) (c : Command) → {file : List ℕ} → file ≡ before ++ (bytes_of c ++ rest)
    → command_at file (length before) ≡ Some c
read_back before rest c {file} e =
    let i = length before in
    let own : (k : ℕ) → get_or file (i + k) 0 ≡ get_or (bytes_of c ++ rest) k 0 = λ k. rw e (get_or-append-add before (bytes_of c ++ rest) k 0) in
    let l : length file ≡ i + (size c + length rest) = rw (e, length-append, length-append) in
    let same : i + 0 ≡ i = omega arith in
    stands file rest i c (omega arith) (rw same at (own 0)) own
