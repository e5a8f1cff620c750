-- What automaton an expression becomes.
use Rattle.std.specs.Prelude.{◌≡◌, ◌↔◌, ◌⊎◌, ℕ, zero, suc, ◌+◌, ◌<◌, pred, get_or}
use mathlib.Core.List.{List, [], ◌∷◌, ◌++◌, Memᴰ}
use Rattle.sdtd.specs.Lists.{Rising}
use Rattle.sdtd.specs.Schema.{Step, Block, Word}
use Rattle.expression.specs.Expression.{Expression, empty_word, single, sequence, choice, repeat, Denotes}

-- the types that its uses of 32 name, in order
abbrev pub named : Expression → List ℕ
named empty_word = []
named (single j) = j ∷ []
named (sequence e f) = named e ++ named f
named (choice e f) = named e ++ named f
named (repeat e) = named e

-- the number of its uses
abbrev pub uses : Expression → ℕ
uses empty_word = 0
uses (single j) = 1
uses (sequence e f) = uses e + uses f
uses (choice e f) = uses e + uses f
uses (repeat e) = uses e

-- the type of the use number q, from 1 on
abbrev pub type_of_use : Expression → ℕ → ℕ
type_of_use e q = get_or (named e) (pred q) 0

-- the expression with each use's own number, from n on, in place of its type
abbrev pub numbered : ℕ → Expression → Expression
numbered n empty_word = empty_word
numbered n (single j) = single n
numbered n (sequence e f) = sequence (numbered n e) (numbered (n + uses e) f)
numbered n (choice e f) = choice (numbered n e) (numbered (n + uses e) f)
numbered n (repeat e) = repeat (numbered n e)

-- the list of uses is a word of the expression
abbrev pub UseWord : Expression → List ℕ → Type 0
UseWord e w = Denotes (numbered 1 e) w

-- the use q can come first
pub record ComesFirst (e : Expression) (q : ℕ) : Type 0 where
  pub rest : List ℕ
  pub word : UseWord e (q ∷ rest)

-- it can come last
pub record ComesLast (e : Expression) (q : ℕ) : Type 0 where
  pub before : List ℕ
  pub word : UseWord e (before ++ (q ∷ []))

-- it can directly follow the use p
pub record Follows (e : Expression) (p q : ℕ) : Type 0 where
  pub before : List ℕ
  pub rest : List ℕ
  pub word : UseWord e (before ++ (p ∷ q ∷ rest))

-- "with a step to a use from each use that it can directly follow, and from 0 if it can come first"
abbrev pub StepTo : Expression → ℕ → ℕ → Type 0
StepTo e zero q = ComesFirst e q
StepTo e (suc p) q = Follows e (suc p) q

-- "a use accepts if it can come last, and 0 if the empty word is one"
abbrev pub Ends : Expression → ℕ → Type 0
Ends e zero = Denotes e []
Ends e (suc q) = ComesLast e (suc q)

-- the step s comes before t: by from, type, to
abbrev pub Before : Step → Step → Type 0
Before s t =
    (s.from < t.from)
    ⊎ ((s.from ≡ t.from) × ((s.by < t.by) ⊎ ((s.by ≡ t.by) × (s.to < t.to))))

-- "It becomes an automaton whose words are exactly the expression's: state 0, then one state for each 32 in order, with a step to a use from
-- each use that it can directly follow, and from 0 if it can come first; a use accepts if it can come last, and 0 if the empty word is one."
-- Its steps rise by from, type, to.
pub record AutomatonOf (e : Expression) (b : Block) : Type 0 where
  pub words : (w : List ℕ) → Word b w ↔ Denotes e w
  pub states : b.states ≡ suc (uses e)
  pub steps : (s : Step) → Memᴰ s b.steps ↔ ((s.by ≡ type_of_use e s.to) × StepTo e s.from s.to)
  pub accepting : (q : ℕ) → Memᴰ q b.accepting ↔ Ends e q
  pub steps_rise : Rising Before b.steps
  pub accepting_rise : Rising ◌<◌ b.accepting
