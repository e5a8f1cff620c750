-- The automaton of an expression, computed: by tests of what can come first, last and next. `AutomatonOf` says what it is
-- (`automaton_of`).
use Rattle.std.specs.Prelude.{Bool, true, false, cond, ◌&&◌, ◌||◌, List, [], ◌∷◌, ℕ, zero, suc, ◌+◌, eqb}
use Rattle.sdtd.specs.Limits.{most_types}
use Rattle.sdtd.specs.Lists.{of_each}
use Rattle.sdtd.specs.Schema.{Step, step, Block}
use Rattle.expression.specs.Expression.{Expression, empty_word, single, sequence, choice, repeat}
use Rattle.expression.specs.Automaton.{uses, type_of_use}

-- the empty word is one of its words
abbrev pub nullable : Expression → Bool
nullable empty_word = true
nullable (single j) = false
nullable (sequence e f) = nullable e && nullable f
nullable (choice e f) = nullable e || nullable f
nullable (repeat e) = true

-- with its uses numbered from n on: the use q can come first, can come last, can directly follow the use p
abbrev pub first : ℕ → Expression → ℕ → Bool
first n empty_word q = false
first n (single j) q = eqb q n
first n (sequence e f) q = first n e q || (nullable e && first (n + uses e) f q)
first n (choice e f) q = first n e q || first (n + uses e) f q
first n (repeat e) q = first n e q

abbrev pub last : ℕ → Expression → ℕ → Bool
last n empty_word q = false
last n (single j) q = eqb q n
last n (sequence e f) q = last (n + uses e) f q || (nullable f && last n e q)
last n (choice e f) q = last n e q || last (n + uses e) f q
last n (repeat e) q = last n e q

abbrev pub follow : ℕ → Expression → ℕ → ℕ → Bool
follow n empty_word p q = false
follow n (single j) p q = false
follow n (sequence e f) p q = (follow n e p q || follow (n + uses e) f p q) || (last n e p && first (n + uses e) f q)
follow n (choice e f) p q = follow n e p q || follow (n + uses e) f p q
follow n (repeat e) p q = follow n e p q || (last n e p && first n e q)

-- there is a step from the state p to the use q; the state q accepts
abbrev pub leads : Expression → ℕ → ℕ → Bool
leads e zero q = first 1 e q
leads e (suc p) q = follow 1 e (suc p) q

abbrev pub accepts : Expression → ℕ → Bool
accepts e zero = nullable e
accepts e (suc q) = last 1 e (suc q)

-- the steps from the state p by the type j, and all steps from p
abbrev pub steps_by : Expression → ℕ → ℕ → List Step
steps_by e p j = of_each (λ q. cond (eqb (type_of_use e q) j && leads e p q) (step p j q ∷ []) []) 1 (uses e)

abbrev pub steps_from : Expression → ℕ → List Step
steps_from e p = of_each (steps_by e p) 0 most_types

abbrev pub all_steps : Expression → List Step
all_steps e = of_each (steps_from e) 0 (suc (uses e))

-- the automaton, for a type of the tag, nillable or not
abbrev pub automaton : ℕ → Bool → Expression → Block
automaton tag nillable e =
    record {
      tag = tag;
      nillable = nillable;
      states = suc (uses e);
      accepting = of_each (λ q. cond (accepts e q) (q ∷ []) []) 0 (suc (uses e));
      steps = all_steps e;
    }
