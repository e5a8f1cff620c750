-- Sample expressions in bytes: what they state, or their refusal.
use mathlib.Core.Path.{◌≡◌, refl}
use mathlib.Core.List.{List, [], ◌∷◌}
use Prim.Native.Nat.{ℕ}
use Rattle.command.specs.Command.{command_of, added_command}
use Rattle.expression.specs.Expression.{Expression, empty_word, single, sequence, choice, repeat}
use Rattle.expression.specs.Content.{Name, Content, broken, whole, content_from, content_at, after_part}

-- the bytes of a file that begins with an expression, and what becomes of it
pub record Sample : Type 0 where
  pub bytes : List ℕ
  pub becomes : Content

abbrev sample : List ℕ → Content → Sample
sample bytes becomes = record { bytes = bytes; becomes = becomes }

abbrev name : ℕ → ℕ → Name
name j i = record { type = j; place = i }

-- one factor alone in a sequence
abbrev alone : Expression → Expression
alone e = sequence empty_word e

-- "`a? (b | c)*`", with the types 1, 2 and 3; nothing but the 3F; two empty sequences; the end of the file, in a command and behind one; a
-- type of 64; 34 twice, and with nothing to repeat; 31 with no bracket open, 3F with one open; a STEP, and one that is cut; NIL
-- before the 3F
pub samples : List Sample
samples =
    sample (0x30 ∷ 0x32 ∷ 1 ∷ 0x33 ∷ 0x31 ∷ 0x30 ∷ 0x32 ∷ 2 ∷ 0x33 ∷ 0x32 ∷ 3 ∷ 0x31 ∷ 0x34 ∷ 0x3f ∷ [])
    (whole (sequence (alone (choice (alone (single 1)) empty_word)) (repeat (choice (alone (single 2)) (alone (single 3)))))
    (name 1 1 ∷ name 2 6 ∷ name 3 9 ∷ [])
    13)
    ∷ sample (0x3f ∷ []) (whole empty_word [] 0)
    ∷ sample (0x33 ∷ 0x3f ∷ 0x1f ∷ []) (whole (choice empty_word empty_word) [] 1)
    ∷ sample (0x32 ∷ []) (broken 2 0)
    ∷ sample (0x32 ∷ 1 ∷ []) (broken 2 2)
    ∷ sample (0x32 ∷ 64 ∷ 0x3f ∷ []) (broken 4 0)
    ∷ sample (0x32 ∷ 1 ∷ 0x34 ∷ 0x34 ∷ 0x3f ∷ []) (broken 21 3)
    ∷ sample (0x30 ∷ 0x34 ∷ 0x31 ∷ 0x3f ∷ []) (broken 21 1)
    ∷ sample (0x31 ∷ 0x3f ∷ []) (broken 21 0)
    ∷ sample (0x30 ∷ 0x3f ∷ []) (broken 21 1)
    ∷ sample (0x13 ∷ 0 ∷ 1 ∷ 0 ∷ 0x3f ∷ []) (broken 3 0)
    ∷ sample (0x13 ∷ 0 ∷ []) (broken 2 0)
    ∷ sample (0x32 ∷ 1 ∷ 0x15 ∷ 0x3f ∷ []) (broken 3 2)
    ∷ []

abbrev pub BecomeSo : List Sample → Type 0
BecomeSo [] = Unit
BecomeSo (s ∷ ss) = (content_at s.bytes 0 ≡ s.becomes) × BecomeSo ss

pub samples_become : BecomeSo samples
unfolding samples content_at content_from after_part command_of added_command
samples_become = (refl, (refl, (refl, (refl, (refl, (refl, (refl, (refl, (refl, (refl, (refl, (refl, (refl, tt)))))))))))))
