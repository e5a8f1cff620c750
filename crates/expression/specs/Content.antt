-- An expression in a file: its commands, the questions of each, and what they state.
use Rattle.std.specs.Prelude.{Bool, true, false, cond, Option, Some, None, is_some, List, [], ◌∷◌, reverse, ℕ, zero, suc, ◌+◌, eqb, ltb, length}
use Rattle.sdtd.specs.Limits.{most_types}
use Rattle.command.specs.Asked.{first_no}
use Rattle.command.specs.Cases.{on_expression}
use Rattle.command.specs.Command.{command_at, part_size}
use Rattle.command.specs.declared.Command.{Command}
use Rattle.command.specs.declared.Part.{Part}
use Rattle.command.specs.declared.Part.TheVariants.{OpenBracket, CloseBracket, Use, Or, Repeat, End}
use Rattle.expression.specs.Limits.{most_uses, most_brackets}
use Rattle.expression.specs.Expression.{Expression, empty_word, single, sequence, choice, repeat}

-- a choice as far as it is read: its sequences before the last 33, and the factors since, the last first
pub record Level : Type 0 where
  pub sequences : List Expression
  pub factors : List Expression

abbrev pub no_level : Level
no_level = record { sequences = []; factors = [] }

-- "A sequence is zero or more factors."
abbrev pub sequence_of : List Expression → Expression
sequence_of [] = empty_word
sequence_of (f ∷ fs) = sequence (sequence_of fs) f

-- "A choice is one or more sequences with 33 between them."
abbrev pub choice_from : List Expression → Expression → Expression
choice_from [] e = e
choice_from (s ∷ ss) e = choice (choice_from ss s) e

abbrev pub choice_of : Level → Expression
choice_of l = choice_from l.sequences (sequence_of l.factors)

-- the type that a command names, and the command's place
pub record Name : Type 0 where
  pub type : ℕ
  pub place : ℕ

-- What is read of an expression: the choices around each open bracket, the innermost first; the choice inside; what its 32s name, the last
-- first; and whether the command before ends a factor, so that a 34 can follow.
pub record SoFar : Type 0 where
  pub around : List Level
  pub level : Level
  pub names : List Name
  pub repeatable : Bool

abbrev pub nothing_so_far : SoFar
nothing_so_far = record { around = []; level = no_level; names = []; repeatable = false }

-- "The type has a STEP's range."
abbrev pub part_in_range : Part → Bool
part_in_range OpenBracket = true
part_in_range CloseBracket = true
part_in_range (Use j) = ltb j.0 most_types
part_in_range Or = true
part_in_range Repeat = true
part_in_range End = true

-- "21 for one of these commands that cannot follow there": 31 and 3F by the brackets open, 34 by the command before
abbrev pub can_follow : SoFar → Part → Bool
can_follow r OpenBracket = true
can_follow r CloseBracket = ltb 0 (length r.around)
can_follow r (Use j) = true
can_follow r Or = true
can_follow r Repeat = r.repeatable
can_follow r End = eqb (length r.around) 0

-- "22 for more than 31 uses of 32"
abbrev pub within_uses : SoFar → Part → Bool
within_uses r OpenBracket = true
within_uses r CloseBracket = true
within_uses r (Use j) = ltb (length r.names) most_uses
within_uses r Or = true
within_uses r Repeat = true
within_uses r End = true

-- "23 for brackets deeper than 16"
abbrev pub within_brackets : SoFar → Part → Bool
within_brackets r OpenBracket = ltb (length r.around) most_brackets
within_brackets r CloseBracket = true
within_brackets r (Use j) = true
within_brackets r Or = true
within_brackets r Repeat = true
within_brackets r End = true

-- what a command of an expression gives; any other, or none, gives what stands beside
abbrev pub on_part : {A : Type 0} → (Part → A) → A → Option Command → A
on_part f x None = x
on_part f x (Some c) = on_expression f x c

-- The questions of a command inside an expression, in order. "Any other command inside an expression [..] gets 3." "Right after the range
-- question come 21 [..], 22 [..] and 23 [..], each at the expression command in question."
abbrev pub questions_inside : SoFar → Option Command → List (ℕ × Bool)
questions_inside r c =
    (2, is_some c) ∷ (3, on_part (λ x. true) false c) ∷ (4, on_part part_in_range true c) ∷ (21, on_part (can_follow r) true c)
    ∷ (22, on_part (within_uses r) true c) ∷ (23, on_part (within_brackets r) true c) ∷ []

-- the number of the first that it fails; 0 where it passes them all
abbrev pub failed_inside : SoFar → Option Command → ℕ
failed_inside r c = first_no (questions_inside r c)

-- one factor more; "one 34 after it repeats it zero or more times"
abbrev pub with_factor : Expression → Level → Level
with_factor e l = record { sequences = l.sequences; factors = e ∷ l.factors }

abbrev pub last_repeated : List Expression → List Expression
last_repeated [] = []
last_repeated (f ∷ fs) = repeat f ∷ fs

-- where the bracket is closed, the choice inside is a factor of the choice around it
abbrev pub closed : List Level → SoFar → SoFar
closed [] r = r
closed (l ∷ ls) r = record { around = ls; level = with_factor (choice_of r.level) l; names = r.names; repeatable = true }

-- what is read after the command at the place i
unfoldable pub after_part : SoFar → ℕ → Part → SoFar
after_part r i OpenBracket = record { around = r.level ∷ r.around; level = no_level; names = r.names; repeatable = false }
after_part r i CloseBracket = closed r.around r
after_part r i (Use j) =
    record {
      around = r.around;
      level = with_factor (single j.0) r.level;
      names = record { type = j.0; place = i } ∷ r.names;
      repeatable = true;
    }
after_part r i Or =
    record {
      around = r.around;
      level = record { sequences = sequence_of r.level.factors ∷ r.level.sequences; factors = [] };
      names = r.names;
      repeatable = false;
    }
after_part r i Repeat =
    record {
      around = r.around;
      level = record { sequences = r.level.sequences; factors = last_repeated r.level.factors };
      names = r.names;
      repeatable = false;
    }
after_part r i End = r

-- What becomes of an expression: a refusal with its number and place; or the expression, what its 32s name in order, and the place of its 3F.
pub data Content : Type 0 where
  broken : ℕ → ℕ → Content
  whole : Expression → List Name → ℕ → Content

-- "3F ends the expression."
abbrev pub is_end : Part → Bool
is_end OpenBracket = false
is_end CloseBracket = false
is_end (Use j) = false
is_end Or = false
is_end Repeat = false
is_end End = true

-- The expression's commands from the place i on, after what is read so far; `fuel` is more than the bytes left (so its first clause is never
-- reached). What stands beside in `rest` is never reached either: a command that is none of an expression's fails a question.
unfoldable pub content_from : ℕ → List ℕ → ℕ → SoFar → Content
content_from zero file i r = broken 2 i
content_from (suc fuel) file i r =
    let c = command_at file i in
    let n = failed_inside r c in
    let ended = whole (choice_of r.level) (reverse r.names) i in
    let rest = on_part (λ x. content_from fuel file (i + part_size x) (after_part r i x)) ended c in
    cond (eqb n 0) (cond (on_part is_end false c) ended rest) (broken n i)

-- the expression that begins at the place i
unfoldable pub content_at : List ℕ → ℕ → Content
content_at file i = content_from (suc (length file)) file i nothing_so_far
