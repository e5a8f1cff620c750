-- The commands, by what the parsers ask about them.
use mathlib.Core.Path.{◌≡◌, refl, sym}
use mathlib.Core.Bool.{Bool, true, false, true≢false}
use mathlib.Core.List.{List, [], ◌∷◌}
use Prim.Native.Nat.{ℕ, suc, ◌+◌, ◌≤◌}
use native.Mathlib.Omega.{arith}
use borrow.Author.Tests.{lt-ltb, lt-leb, ne_eqb}
use lib.ListN.{length}
use Rattle.command.specs.Command.{command_at, part_size}
use Rattle.std.specs.Prelude.{Option, Some, None}
use Rattle.command.proofs.CommandLaws.{command_in_file}
use Rattle.command.specs.declared.Command.{Command}
use Rattle.command.specs.declared.Command.TheVariants.{Tags, TypeBlock, Final, Step, Root, Nil, Done, Expression}
use Rattle.command.specs.declared.Part.{Part}
use Rattle.command.specs.declared.Part.TheVariants.{OpenBracket, CloseBracket, Use, Or, Repeat, End}
use Rattle.sdtd.specs.declared.TypeNo.{TypeNo}
use Rattle.expression.specs.Content.{Level, Name, failed_inside}
use Rattle.expression.specs.Parsing.{beginning, dividing, repeating, ending, so_far}

never : {A : Type 0} → false ≡ true → A
never e = absurd (true≢false (sym e))

-- a command of an expression ends inside the file
pub part_inside : (file : List ℕ) (i : ℕ) (x : Part) → command_at file i ≡ Some (Expression x) → i + part_size x ≤ length file
part_inside file i x e = command_in_file file i e

-- a command that is 33, or 34
pub is_or_lem : (c : Option Command) → dividing c ≡ true → c ≡ Some (Expression Or)
is_or_lem (Some (Tags n)) e = never e
is_or_lem (Some (TypeBlock g s)) e = never e
is_or_lem (Some (Final q)) e = never e
is_or_lem (Some (Step p j q)) e = never e
is_or_lem (Some (Root a)) e = never e
is_or_lem (Some Nil) e = never e
is_or_lem (Some Done) e = never e
is_or_lem (Some (Expression OpenBracket)) e = never e
is_or_lem (Some (Expression CloseBracket)) e = never e
is_or_lem (Some (Expression (Use j))) e = never e
is_or_lem (Some (Expression Or)) e = refl
is_or_lem (Some (Expression Repeat)) e = never e
is_or_lem (Some (Expression End)) e = never e
is_or_lem None e = never e

pub is_repeat_lem : (c : Option Command) → repeating c ≡ true → c ≡ Some (Expression Repeat)
is_repeat_lem (Some (Tags n)) e = never e
is_repeat_lem (Some (TypeBlock g s)) e = never e
is_repeat_lem (Some (Final q)) e = never e
is_repeat_lem (Some (Step p j q)) e = never e
is_repeat_lem (Some (Root a)) e = never e
is_repeat_lem (Some Nil) e = never e
is_repeat_lem (Some Done) e = never e
is_repeat_lem (Some (Expression OpenBracket)) e = never e
is_repeat_lem (Some (Expression CloseBracket)) e = never e
is_repeat_lem (Some (Expression (Use j))) e = never e
is_repeat_lem (Some (Expression Or)) e = never e
is_repeat_lem (Some (Expression Repeat)) e = refl
is_repeat_lem (Some (Expression End)) e = never e
is_repeat_lem None e = never e

-- a command that begins no factor
pub begins_none : (c : Option Command) → ((j : TypeNo) → ¬ (c ≡ Some (Expression (Use j)))) → ¬ (c ≡ Some (Expression OpenBracket))
    → beginning c ≡ false
begins_none None n m = refl
begins_none (Some (Tags k)) n m = refl
begins_none (Some (TypeBlock g s)) n m = refl
begins_none (Some (Final q)) n m = refl
begins_none (Some (Step p j q)) n m = refl
begins_none (Some (Root a)) n m = refl
begins_none (Some Nil) n m = refl
begins_none (Some Done) n m = refl
begins_none (Some (Expression OpenBracket)) n m = absurd (m refl)
begins_none (Some (Expression CloseBracket)) n m = refl
begins_none (Some (Expression (Use j))) n m = absurd (n j refl)
begins_none (Some (Expression Or)) n m = refl
begins_none (Some (Expression Repeat)) n m = refl
begins_none (Some (Expression End)) n m = refl

-- a command that closes a bracket, or ends the expression
pub is_close : (c : Option Command) → ending true c ≡ 0 → c ≡ Some (Expression CloseBracket)
is_close (Some (Tags n)) e = absurd (omega arith)
is_close (Some (TypeBlock g s)) e = absurd (omega arith)
is_close (Some (Final q)) e = absurd (omega arith)
is_close (Some (Step p j q)) e = absurd (omega arith)
is_close (Some (Root a)) e = absurd (omega arith)
is_close (Some Nil) e = absurd (omega arith)
is_close (Some Done) e = absurd (omega arith)
is_close (Some (Expression OpenBracket)) e = absurd (omega arith)
is_close (Some (Expression CloseBracket)) e = refl
is_close (Some (Expression (Use j))) e = absurd (omega arith)
is_close (Some (Expression Or)) e = absurd (omega arith)
is_close (Some (Expression Repeat)) e = absurd (omega arith)
is_close (Some (Expression End)) e = absurd (omega arith)
is_close None e = absurd (omega arith)

pub is_end : (c : Option Command) → ending false c ≡ 0 → c ≡ Some (Expression End)
is_end (Some (Tags n)) e = absurd (omega arith)
is_end (Some (TypeBlock g s)) e = absurd (omega arith)
is_end (Some (Final q)) e = absurd (omega arith)
is_end (Some (Step p j q)) e = absurd (omega arith)
is_end (Some (Root a)) e = absurd (omega arith)
is_end (Some Nil) e = absurd (omega arith)
is_end (Some Done) e = absurd (omega arith)
is_end (Some (Expression OpenBracket)) e = absurd (omega arith)
is_end (Some (Expression CloseBracket)) e = absurd (omega arith)
is_end (Some (Expression (Use j))) e = absurd (omega arith)
is_end (Some (Expression Or)) e = absurd (omega arith)
is_end (Some (Expression Repeat)) e = absurd (omega arith)
is_end (Some (Expression End)) e = refl
is_end None e = absurd (omega arith)

-- Where a choice ends, the questions are those that `ending` asks: no factor begins, no 33 follows, and no 34 that could.
abbrev pub ends_inside : List Level → Bool
ends_inside [] = false
ends_inside (l ∷ ls) = true

pub ending_is : (around : List Level) (l : Level) (names : List Name) (again : Bool) (c : Option Command) → beginning c ≡ false → dividing c ≡ false
    → (again ≡ true → repeating c ≡ false) → failed_inside (so_far around l names again) c ≡ ending (ends_inside around) c
ending_is around l names again (Some (Tags n)) o d r = refl
ending_is around l names again (Some (TypeBlock g s)) o d r = refl
ending_is around l names again (Some (Final q)) o d r = refl
ending_is around l names again (Some (Step p j q)) o d r = refl
ending_is around l names again (Some (Root a)) o d r = refl
ending_is around l names again (Some Nil) o d r = refl
ending_is around l names again (Some Done) o d r = refl
ending_is around l names again (Some (Expression OpenBracket)) o d r = never (sym o)
ending_is [] l names again (Some (Expression CloseBracket)) o d r = refl
ending_is (a ∷ as') l names again (Some (Expression CloseBracket)) o d r = rw (lt-ltb 0 (suc (length as')) (omega arith))
ending_is around l names again (Some (Expression (Use j))) o d r = never (sym o)
ending_is around l names again (Some (Expression Or)) o d r = never (sym d)
ending_is around l names true (Some (Expression Repeat)) o d r = never (sym (r refl))
ending_is around l names false (Some (Expression Repeat)) o d r = refl
ending_is [] l names again (Some (Expression End)) o d r = refl
ending_is (a ∷ as') l names again (Some (Expression End)) o d r = rw (ne_eqb (suc (length as')) 0 (λ e. omega arith))
ending_is around l names again None o d r = refl

-- past the end stands none
pub command_past : (file : List ℕ) (i : ℕ) → length file ≤ i → command_at file i ≡ None
command_past file i l = rw (lt-leb (i + 1) (length file) (omega arith))
