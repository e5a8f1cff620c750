-- A command that stands at a place of a file has its bytes there.
use mathlib.Core.Path.{◌≡◌, refl, ap, subst, ◌∙◌}
use mathlib.Core.Bool.{cond}
use Rattle.std.specs.Prelude.{Option, Some, None}
use mathlib.Core.List.{List, [], ◌∷◌, ◌++◌}
use Prim.Native.Nat.{ℕ, zero, suc, ◌+◌, ◌≤◌, ◌<◌}
use native.Mathlib.Omega.{arith}
use lib.Dec.{eqb, leb, leb→le, eqb→eq}
use lib.ListN.{length, get_or, drop}
use Rattle.sdtd.specs.Numbered.{tag_no, type_no}
use Rattle.sdtd.proofs.Basics.{cond_either}
use Rattle.command.specs.Command.{bytes_of, size, added_command, command_of, command_at}
use Rattle.command.specs.declared.Command.{Command}
use Rattle.command.specs.declared.Command.TheVariants.{Tags, TypeBlock, Final, Step, Root, Nil, Done, Expression}
use Rattle.command.specs.declared.Part.TheVariants.{OpenBracket, CloseBracket, Use, Or, Repeat, End}

-- the list from a place inside it on
pub drop_more : {A : Type 0} (l : List A) (i : ℕ) (d : A) → i < length l → drop i l ≡ get_or l i d ∷ drop (i + 1) l
drop_more [] i d l = absurd (omega arith)
drop_more (x ∷ xs) zero d l = refl
drop_more (x ∷ xs) (suc i) d l =
    let e : suc i + 1 ≡ suc (i + 1) = omega arith in
    rw e (drop_more xs i d (omega arith))

-- the bytes of the command, if there is one, stand from the place i on
abbrev OwnBytes : List ℕ → ℕ → Option Command → Type 0
OwnBytes file i None = Unit
OwnBytes file i (Some c) = drop i file ≡ bytes_of c ++ drop (i + size c) file

record BytesAt (file : List ℕ) (i : ℕ) (k : Option Command) : Type 0 where
  bytes : OwnBytes file i k

module _ (file : List ℕ) (i : ℕ) where
  none : BytesAt file i None
  none = record { bytes = tt }

  -- the bytes of one to four
  one : i + 1 ≤ length file → drop i file ≡ get_or file i 0 ∷ drop (i + 1) file
  one l = drop_more file i 0 (omega arith)

  next : (k : ℕ) → i + (k + 1) ≤ length file → drop (i + k) file ≡ get_or file (i + k) 0 ∷ drop (i + (k + 1)) file
  next k l = let e : i + k + 1 ≡ i + (k + 1) = omega arith in rw (← e) (drop_more file (i + k) 0 (omega arith))

  module _ (b : ℕ) (first : get_or file i 0 ≡ b) where
    of_one : i + 1 ≤ length file → drop i file ≡ b ∷ drop (i + 1) file
    of_one l = one l ∙ ap (λ (n : ℕ). n ∷ drop (i + 1) file) first

    of_two : i + 2 ≤ length file → drop i file ≡ b ∷ get_or file (i + 1) 0 ∷ drop (i + 2) file
    of_two l = of_one (omega arith) ∙ ap (λ (x : List ℕ). b ∷ x) (next 1 (omega arith))

    of_three : i + 3 ≤ length file → drop i file ≡ b ∷ get_or file (i + 1) 0 ∷ get_or file (i + 2) 0 ∷ drop (i + 3) file
    of_three l = of_two (omega arith) ∙ ap (λ (x : List ℕ). b ∷ get_or file (i + 1) 0 ∷ x) (next 2 (omega arith))

    of_four : i + 4 ≤ length file
        → drop i file ≡ b ∷ get_or file (i + 1) 0 ∷ get_or file (i + 2) 0 ∷ get_or file (i + 3) 0 ∷ drop (i + 4) file
    of_four l = of_three (omega arith) ∙ ap (λ (x : List ℕ). b ∷ get_or file (i + 1) 0 ∷ get_or file (i + 2) 0 ∷ x) (next 3 (omega arith))

  whole : (c : Command) → (i + size c ≤ length file → drop i file ≡ bytes_of c ++ drop (i + size c) file)
      → BytesAt file i (cond (leb (i + size c) (length file)) (Some c) None)
  whole c h =
      cond_either (BytesAt file i) (leb (i + size c) (length file)) (λ t. record { bytes = h (leb→le (i + size c) (length file) t) }) (λ n. none)

  by_byte : (b : ℕ) {c d : Option Command} → (get_or file i 0 ≡ b → BytesAt file i c) → BytesAt file i d → BytesAt file i (cond (eqb (get_or file i 0) b) c d)
  by_byte b f r = cond_either (BytesAt file i) (eqb (get_or file i 0) b) (λ t. f (eqb→eq (get_or file i 0) b t)) (λ n. r)

  of_added : BytesAt file i (added_command file i (get_or file i 0))
  unfolding added_command
  of_added =
      by_byte 0x15 (λ e. whole Nil (of_one 0x15 e))
      (by_byte 0x30 (λ e. whole (Expression OpenBracket) (of_one 0x30 e))
      (by_byte 0x31 (λ e. whole (Expression CloseBracket) (of_one 0x31 e))
      (by_byte 0x32 (λ e. whole (Expression (Use (type_no (get_or file (i + 1) 0)))) (of_two 0x32 e))
      (by_byte 0x33 (λ e. whole (Expression Or) (of_one 0x33 e))
      (by_byte 0x34 (λ e. whole (Expression Repeat) (of_one 0x34 e))
      (by_byte 0x3f (λ e. whole (Expression End) (of_one 0x3f e)) none))))))

  of_command : BytesAt file i (command_of file i (get_or file i 0))
  unfolding command_of
  of_command =
      by_byte 0x10 (λ e. whole (Tags (get_or file (i + 1) 0)) (of_two 0x10 e))
      (by_byte 0x11 (λ e. whole (TypeBlock (tag_no (get_or file (i + 1) 0)) (get_or file (i + 2) 0)) (of_three 0x11 e))
      (by_byte 0x12 (λ e. whole (Final (get_or file (i + 1) 0)) (of_two 0x12 e))
      (by_byte 0x13 (λ e. whole (Step (get_or file (i + 1) 0) (type_no (get_or file (i + 2) 0)) (get_or file (i + 3) 0)) (of_four 0x13 e))
      (by_byte 0x14 (λ e. whole (Root (type_no (get_or file (i + 1) 0))) (of_two 0x14 e))
      (by_byte 0x1f (λ e. whole Done (of_one 0x1f e)) of_added)))))

-- What is left of the file from a command's place on begins with the command's bytes.
pub command_bytes : (file : List ℕ) (i : ℕ) {c : Command} → command_at file i ≡ Some c → drop i file ≡ bytes_of c ++ drop (i + size c) file
command_bytes file i e =
    (subst (BytesAt file i) e (cond_either (BytesAt file i) (leb (i + 1) (length file)) (λ t. of_command file i) (λ n. none file i))).bytes
