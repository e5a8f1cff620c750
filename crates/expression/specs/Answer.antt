-- What the call on an expression answers.
use Rattle.std.specs.Prelude.{◌≡◌, ◌⊎◌, ◌≤◌, Result, Ok, Bool, cond, List, map, ℕ, zero, suc, replicate}
use Rattle.sdtd.specs.Limits.{most_states}
use Rattle.sdtd.specs.Answer.{refused_at, verdict_of}
use Rattle.sdtd.specs.declared.Refusal.{Refusal}
use Rattle.schema.specs.States.{insert, no_states}
use Rattle.schema.specs.Value.{up_from}
use Rattle.schema.specs.Putting.{put_all}
use Rattle.expression.specs.Expression.{Expression}
use Rattle.expression.specs.Automaton.{uses}
use Rattle.expression.specs.Tests.{leads, accepts}
use Rattle.expression.specs.Content.{Name, Content, broken, whole}
use Rattle.expression.specs.declared.content.Automaton.{Automaton}

-- the states below n that pass the test, as a set
unfoldable pub set_of : (ℕ → Bool) → ℕ → ℕ
set_of t zero = no_states
set_of t (suc n) = cond (t n) (insert n (set_of t n)) (set_of t n)

-- a table of zeros; one with numbers for the uses, from 1 on
abbrev pub empty : List ℕ
empty = replicate most_states 0

abbrev pub of_uses : List ℕ → List ℕ
of_uses xs = put_all xs 1 empty

-- the automaton of an expression that ends at the place p: its accepting states; of each state the uses that its steps lead to; and of each
-- use, from 1 on, the type that it names and the place of its 32
abbrev pub automaton_read : Expression → List Name → ℕ → Automaton
automaton_read e names p =
    record {
      end = p;
      uses = uses e;
      accepting = record { 0 = set_of (accepts e) most_states };
      next = map (λ q. set_of (leads e q) most_states) (up_from 0 most_states);
      types = of_uses (map (λ (x : Name). x.type) names);
      places = of_uses (map (λ (x : Name). x.place) names);
    }

-- the number of a refusal inside an expression
abbrev pub NumberInside : ℕ → Type 0
NumberInside n = (2 ≤ n) × ((n ≤ 4) ⊎ ((21 ≤ n) × (n ≤ 23)))

-- What the call on an expression answers, by what becomes of it.
abbrev pub ContentMeans : Content → Result Automaton Refusal → Type 0
ContentMeans (broken n p) r = verdict_of r ≡ refused_at n p
ContentMeans (whole e names p) r = r ≡ Ok (automaton_read e names p)
