-- What the private steps over an expression's automaton compute: its steps laid into the tables by from, type, to; and what its 32s name.
use Rattle.std.specs.Prelude.{◌≡◌, false, cond, ◌&&◌, List, [], ◌∷◌, map, ℕ, zero, suc, ◌+◌, ◌%◌, ◌^◌, ◌≤◌, ◌<◌, min, eqb, length, get_or}
use Rattle.sdtd.specs.Limits.{most_types, most_states, most_steps}
use Rattle.sdtd.specs.Schema.{Step, step}
use Rattle.schema.specs.States.{member}
use Rattle.schema.specs.Putting.{put_all}
use Rattle.sdtd.specs.Lists.{of_each}
use Rattle.expression.specs.Content.{Name}
use Rattle.commands.specs.declared.builder.Builder.{Builder}

-- what f gives of each member of the set that is below k, rising
abbrev pub of_members : {A : Type 0} → ℕ → (ℕ → List A) → ℕ → List A
of_members k f x = of_each (λ q. cond (member q x) (f q) []) 0 k

-- The uses of the set x, each in the set of its type; the types that are not in m have none.
pub record Grouped (x : ℕ) (types sets : List ℕ) (m : ℕ) : Type 0 where
  pub long : length sets ≡ most_types
  pub below : m < 2 ^ most_types
  pub each : (j q : ℕ) → member q (get_or sets j 0) ≡ (member q x && eqb (get_or types q 0 % most_types) j)
  pub others : (j : ℕ) → member j m ≡ false → get_or sets j 0 ≡ 0

-- the steps from p by the type j to the uses in the set; those from p to the uses in the set, by types; and those from the first states
abbrev pub laid_by : ℕ → ℕ → ℕ → List Step
laid_by p j x = of_members most_states (λ q. step p j q ∷ []) x

abbrev pub laid_from : List ℕ → ℕ → ℕ → List Step
laid_from types p x = of_each (λ j. of_each (λ q. cond (member q x && eqb (get_or types q 0 % most_types) j) (step p j q ∷ []) []) 0 most_states) 0 most_types

abbrev pub laid_steps : List ℕ → List ℕ → ℕ → List Step
laid_steps next types uses = of_each (λ p. laid_from types p (get_or next p 0)) 0 (suc uses)

-- Numbers are put into a table for steps, t, from the place n on, as long as they fit; r is the place behind them, or one past the last.
pub record PutAs (xs : List ℕ) (n : ℕ) (t t' : List ℕ) (r : ℕ) : Type 0 where
  pub count : r ≡ min (n + length xs) (most_steps + 1)
  pub put : n + length xs ≤ most_steps → t' ≡ put_all xs n t

-- Steps are put so into the three tables of what is built, behind its steps; the rest stays.
pub record LaidAs (xs : List Step) (s s' : Builder) : Type 0 where
  pub sources : PutAs (map (λ (x : Step). x.from) xs) s.steps s.schema.from s'.schema.from s'.steps
  pub types : PutAs (map (λ (x : Step). x.by) xs) s.steps s.schema.by s'.schema.by s'.steps
  pub targets : PutAs (map (λ (x : Step). x.to) xs) s.steps s.schema.to s'.schema.to s'.steps
  pub others : s' ≡ record s { steps = s'.steps; schema = record (s.schema) { from = s'.schema.from; by = s'.schema.by; to = s'.schema.to } }

-- what the n uses from s on name, by the tables of their types and places
unfoldable pub names_from : List ℕ → List ℕ → ℕ → ℕ → List Name
names_from types places s zero = []
names_from types places s (suc n) = record { type = get_or types s 0; place = get_or places s 0 } ∷ names_from types places (suc s) n
