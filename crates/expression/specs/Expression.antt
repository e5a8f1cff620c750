-- Expressions and their words, by the ordinary definition.
use Rattle.std.specs.Prelude.{List, [], ◌∷◌, ◌++◌, ℕ}

-- The empty word; one type; one expression after another; one of two; one repeated zero or more times.
pub data Expression : Type 0 where
  empty_word : Expression
  single : ℕ → Expression
  sequence : Expression → Expression → Expression
  choice : Expression → Expression → Expression
  repeat : Expression → Expression

-- The list of types w is a word of the expression.
pub data Denotes : Expression → List ℕ → Type 0 where
  of_empty : Denotes empty_word []
  of_single : (j : ℕ) → Denotes (single j) (j ∷ [])
  of_sequence : {e f : Expression} {v w : List ℕ} → Denotes e v → Denotes f w → Denotes (sequence e f) (v ++ w)
  of_first : {e f : Expression} {w : List ℕ} → Denotes e w → Denotes (choice e f) w
  of_second : {e f : Expression} {w : List ℕ} → Denotes f w → Denotes (choice e f) w
  of_none : {e : Expression} → Denotes (repeat e) []
  of_more : {e : Expression} {v w : List ℕ} → Denotes e v → Denotes (repeat e) w → Denotes (repeat e) (v ++ w)
