-- What the private rounds of trimming compute, step by step.
use Rattle.std.specs.Prelude.{Bool, cond, ◌&&◌, true, false, ◌≡◌, ◌↔◌, ℕ, zero, suc, ◌+◌, ◌-◌, ◌%◌, ◌<◌, T, ltb, get_or, set, take, replicate}
use mathlib.Core.List.{List, [], ◌∷◌, ◌++◌, map, Memᴰ}
use Rattle.sdtd.specs.Limits.{most_types, most_states}
use Rattle.sdtd.specs.Schema.{Step}
use Rattle.schema.specs.States.{member, insert, no_states, only_start}
use Rattle.schema.specs.Value.{up_from, offset}
use Rattle.schema.specs.Ways.{bears_in}
use Rattle.schema.specs.declared.reach.Queued.{Queued}

-- a step by a tree-bearing type with its state `to` in the set adds its state `from`
unfoldable pub spread_step : List ℕ → Step → ℕ → ℕ
spread_step ways s x = cond (bears_in ways (s.by % most_types) && member s.to x) (insert s.from x) x

unfoldable pub spread_set : List ℕ → List Step → ℕ → ℕ
spread_set ways [] x = x
spread_set ways (s ∷ ss) x = spread_set ways ss (spread_step ways s x)

-- the round, n times
unfoldable pub iterate : {A : Type 0} → (A → A) → ℕ → A → A
iterate round zero t = t
iterate round (suc n) t = iterate round n (round t)

-- the steps gone over as often as there are states; once more would add nothing
unfoldable pub settle_set : List ℕ → List Step → ℕ → ℕ
settle_set ways ss x = iterate (spread_set ways ss) most_states x

-- one round over n types from the type a on, whose steps begin at the place s; `part s k` are the k steps from the place s on, and
-- `tells sets` is the table that tells in which ways types bear a tree
unfoldable pub spread_all : List ℕ → (ℕ → ℕ → List Step) → (List ℕ → List ℕ) → ℕ → ℕ → ℕ → List ℕ → List ℕ
spread_all steps part tells a s zero sets = sets
spread_all steps part tells a s (suc n) sets =
    spread_all steps part tells (suc a) (s + get_or steps a 0) n
    (set sets a (settle_set (tells sets) (part s (get_or steps a 0)) (get_or sets a 0)))

-- The table after some rounds, which one round more does not change.
pub record Settled {A : Type 0} (round : List A → List A) (first last : List A) : Type 0 where
  pub rounds : ℕ
  pub after : last ≡ iterate round rounds first
  pub settled : round last ≡ last

-- the steps of the type a, if it is one of the types
abbrev pub steps_in : List ℕ → (ℕ → ℕ → List Step) → ℕ → ℕ → List Step
steps_in steps part types a = cond (ltb a types) (part (offset steps a) (get_or steps a 0)) (part 0 0)

-- the table has the place of the first step of each of the types
abbrev pub Starts : List ℕ → ℕ → List ℕ → Type 0
Starts steps types table = (a : ℕ) → a < types → get_or table a 0 ≡ offset steps a

-- the step goes from a state that children reach, by a tree-bearing type, to a live state
abbrev pub reaches : List ℕ → ℕ → ℕ → Step → Bool
reaches ways forward live s = member s.from forward && bears_in ways (s.by % most_types) && member s.to live

-- a marked type is reached, and the type of each such step of a reached type
pub data Reaching (own : ℕ → List Step) (ways forward live : List ℕ) (marked : List Bool) : ℕ → Type 0 where
  first : {a : ℕ} → a < most_types → T (get_or marked a false) → Reaching own ways forward live marked a
  next :
      {a : ℕ} (s : Step) → Reaching own ways forward live marked a → Memᴰ s (own a)
      → T (reaches ways (get_or forward a 0) (get_or live a 0) s) → Reaching own ways forward live marked (s.by % most_types)

-- the table has exactly those types
abbrev pub ReachedFrom : (ℕ → List Step) → List ℕ → List ℕ → List ℕ → List Bool → List Bool → Type 0
ReachedFrom own ways forward live marked table = (a : ℕ) → T (get_or table a false) ↔ Reaching own ways forward live marked a

-- which types are reached, and the queue with the count of its entries
abbrev pub queued : List Bool → List ℕ → ℕ → Queued
queued reached queue count = record { reached = reached; queue = queue; count = count }

-- the type b joins the queue, unless it is reached already or the queue is full
unfoldable pub join_type : ℕ → Queued → Queued
join_type b m =
    cond (get_or m.reached b false) m
    (cond (ltb m.count most_types) (queued (set m.reached b true) (set m.queue m.count b) (m.count + 1)) m)

-- of the n types from the type a on, those that are marked join, one after another
unfoldable pub join_marked : List Bool → ℕ → ℕ → Queued → Queued
join_marked marked a zero m = m
join_marked marked a (suc n) m = join_marked marked (suc a) n (cond (get_or marked a false) (join_type a m) m)

-- the steps of a type, one after another: each that reaches its type has it join
unfoldable pub reach_steps : List ℕ → ℕ → ℕ → List Step → Queued → Queued
reach_steps ways forward live [] m = m
reach_steps ways forward live (s ∷ ss) m =
    reach_steps ways forward live ss (cond (reaches ways forward live s) (join_type (s.by % most_types) m) m)

-- the first n entries, and nothing in the others
unfoldable pub first_sets : ℕ → List ℕ → List ℕ
first_sets n sets = take n sets ++ replicate (most_types - n) no_states

-- only state 0, for each type
abbrev pub start_states : List ℕ
start_states = replicate most_types only_start

-- the type is marked, if it is below `most_types`
unfoldable pub mark_type : ℕ → List Bool → List Bool
mark_type a table = cond (ltb a most_types) (set table a true) table

-- the number of a type's ways, by whether it bears a tree opened plainly and whether it is nillable
abbrev pub ways_of : Bool → Bool → ℕ
ways_of plainly nillable = cond nillable (cond plainly 2 3) (cond plainly 1 0)

-- in which ways each of the types bears a tree, by a table of their live states; 0 for the others
unfoldable pub ways_by : List Bool → ℕ → List ℕ → List ℕ
ways_by nillable types live =
    map (λ a. ways_of (member 0 (get_or live a 0)) (get_or nillable a false)) (up_from 0 types) ++ replicate (most_types - types) 0
