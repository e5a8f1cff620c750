-- What the private steps over the commands compute: what is built after each command, and what is read from it.
use Rattle.std.specs.Prelude.{◌≡◌, Option, Some, None, Result, Bool, true, false, cond, ◌&&◌, ◌||◌, List, [], ◌∷◌, map, ℕ, suc, ◌+◌, ◌-◌, ◌%◌, ◌≤◌, min, max, eqb, ltb, length, get_or, set, replicate, take, drop}
use Rattle.std.specs.List.{fold}
use Rattle.sdtd.specs.Answer.{Ordered, ask, fine, refused_at, verdict_of}
use Rattle.sdtd.specs.declared.Refusal.{Refusal}
use Rattle.sdtd.specs.Limits.{most_types, most_roots, most_steps}
use Rattle.sdtd.specs.Schema.{Step as StepOf}
use Rattle.schema.specs.States.{insert}
use Rattle.schema.specs.Value.{steps_of, roots_of}
use Rattle.schema.specs.Putting.{put_all}
use Rattle.schema.specs.declared.value.Schema.{Schema}
use Rattle.command.specs.Cases.{on_step, on_root, on_nil}
use Rattle.command.specs.declared.Command.{Command}
use Rattle.command.specs.declared.Command.TheVariants.{Tags, TypeBlock, Final, Step, Root, Nil, Done, Expression}
use Rattle.expression.specs.Content.{Name}
use Rattle.expression.specs.declared.content.Automaton.{Automaton}
use Rattle.commands.specs.Questions.{failed}
use Rattle.commands.specs.File.{same_step, has_root}
use Rattle.commands.specs.Value.{no_schema}
use Rattle.commands.specs.Laying.{laid_steps, names_from}
use Rattle.commands.specs.declared.builder.Builder.{Builder}
use Rattle.commands.specs.declared.phase.Phase.TheVariants.{BeforeTags, BeforeTypes, InBlock, InExpression, AfterExpression, AfterRoot, AfterDone}
use Rattle.commands.specs.declared.questions.Seen.{Seen}

-- before the first command of a file of n bytes
abbrev pub nothing_built : ℕ → Builder
nothing_built n = record { schema = no_schema; phase = BeforeTags; steps = 0; places = replicate most_types n; bound = 0 }

-- the place of the block that the file is in
abbrev pub last_type : ℕ → ℕ
last_type types = (types % most_types + (most_types - 1)) % most_types

-- found already, or one of the steps is p, j, q
abbrev pub found_in : ℕ → ℕ → ℕ → Bool → List StepOf → Bool
found_in p j q found xs = fold (λ found x. found || same_step p j q x) found xs

-- one of the steps of the block that the file is in, which are the last, is p, j, q
abbrev pub step_given : Builder → ℕ → ℕ → ℕ → Bool
step_given s p j q =
    let v = s.schema in
    let n = get_or v.steps (last_type v.types) 0 in
    let i = s.steps - n in
    found_in p j q false (steps_of v.from v.by v.to i (min n (most_steps - i)))

-- the type a is one of the first n roots of the table, if it is below `most_types`
abbrev pub root_among : List ℕ → ℕ → ℕ → Bool
root_among root n a = ltb a most_types && has_root a (roots_of root n)

-- the command is a STEP or a NIL that the block that the file is in has, or a ROOT that the file has
abbrev pub given : Builder → Command → Bool
given s c =
    let v = s.schema in
    let a = last_type v.types in
    on_step (step_given s) false c
    || (on_root (root_among v.root v.roots) false c || on_nil (get_or v.nillable a false) false c)

-- what is seen of the file where the command is asked
abbrev pub seen_by : Builder → Command → Seen
seen_by s c =
    let v = s.schema in
    let a = last_type v.types in
    record {
      phase = s.phase;
      tags = v.tags;
      types = v.types;
      roots = v.roots;
      steps = s.steps;
      states = get_or v.states a 0;
      accepting = record { 0 = get_or v.accepting a 0 };
      given = given s c;
    }

-- the number of the first question that the command fails
abbrev pub failed_by : Builder → Command → ℕ
failed_by s c = failed (seen_by s c) c

-- one type more, of this tag and state count
abbrev pub type_added : Builder → ℕ → ℕ → Builder
type_added s g k =
    let v = s.schema in
    let a = v.types % most_types in
    record s {
      schema = record v { types = a + 1; tag = set v.tag a g; states = set v.states a k };
      phase = cond (eqb k 0) InExpression InBlock;
    }

-- one accepting state more of the block that the file is in
abbrev pub with_accepting : Schema → ℕ → ℕ → Schema
with_accepting v a q = record v { accepting = set v.accepting a (insert q (get_or v.accepting a 0)) }

-- one step more of the block that the file is in
abbrev pub step_added : Builder → ℕ → ℕ → ℕ → Builder
step_added s p j q =
    let v = s.schema in
    let a = last_type v.types in
    let n = s.steps % most_steps in
    record s {
      schema =
          record v {
            steps = set v.steps a (get_or v.steps a 0 % most_steps + 1);
            from = set v.from n p;
            by = set v.by n j;
            to = set v.to n q;
          };
      steps = n + 1;
    }

-- one root more, behind the others
abbrev pub with_root : Schema → ℕ → Schema
with_root v a = let n = v.roots % most_roots in record v { roots = n + 1; root = set v.root n a }

-- the places, and the bound above each type named, where a STEP or 32 at the place i names the type a
abbrev pub place_named : ℕ → ℕ → List ℕ → List ℕ
place_named a i l = set l (a % most_types) (min (get_or l (a % most_types) 0) i)

abbrev pub bound_named : ℕ → ℕ → ℕ
bound_named a bound = max bound (a % most_types + 1)

abbrev pub named : Builder → ℕ → ℕ → Builder
named s a i = record s { places = place_named a i s.places; bound = bound_named a s.bound }

-- what is built after the command at the place i that passed its questions
unfoldable pub built : Builder → ℕ → Command → Builder
built s i (Tags n) = record s { schema = record (s.schema) { tags = n }; phase = BeforeTypes }
built s i (TypeBlock g k) = type_added s g.0 k
built s i (Final q) = record s { schema = with_accepting s.schema (last_type s.schema.types) q }
built s i (Step p j q) = named (step_added s p j.0 q) j.0 i
built s i (Root a) = record s { schema = with_root s.schema a.0; phase = AfterRoot }
built s i Nil = record s { schema = record (s.schema) { nillable = set s.schema.nillable (last_type s.schema.types) true } }
built s i Done = record s { phase = AfterDone }
built s i (Expression x) = s

-- the places and the bound after the names of an expression
unfoldable pub places_with : List Name → List ℕ → List ℕ
places_with [] l = l
places_with (x ∷ xs) l = places_with xs (place_named x.type x.place l)

unfoldable pub bound_with : List Name → ℕ → ℕ
bound_with [] bound = bound
bound_with (x ∷ xs) bound = bound_with xs (bound_named x.type bound)

-- the steps put into the tables from the place n on
abbrev pub with_steps : Schema → ℕ → List StepOf → Schema
with_steps v n xs =
    record v {
      from = put_all (map (λ (x : StepOf). x.from) xs) n v.from;
      by = put_all (map (λ (x : StepOf). x.by) xs) n v.by;
      to = put_all (map (λ (x : StepOf). x.to) xs) n v.to;
    }

-- the state count, the accepting states and the number of steps of the type a
abbrev pub with_parts : Schema → ℕ → ℕ → ℕ → ℕ → Schema
with_parts v a states accepting count =
    record v { states = set v.states a states; accepting = set v.accepting a accepting; steps = set v.steps a count }

-- what is built after an expression of so many states, with these accepting states, these steps and these names
abbrev pub built_with : Builder → ℕ → ℕ → List StepOf → List Name → Builder
built_with s states accepting steps names =
    let v = s.schema in
    record {
      schema = with_steps (with_parts v (last_type v.types) states accepting (length steps)) s.steps steps;
      phase = AfterExpression;
      steps = s.steps + length steps;
      places = places_with names s.places;
      bound = bound_with names s.bound;
    }

-- by its automaton
abbrev pub built_by : Builder → Automaton → Builder
built_by s a =
    built_with s (suc a.uses) a.accepting.0 (laid_steps a.next a.types a.uses) (names_from a.types a.places 1 a.uses)

-- the least place at which a type that was not given is named, in a file of n bytes, if there is one
abbrev pub unknown : Builder → ℕ → Option ℕ
unknown s n =
    let first = fold (λ first place. min first place) n (take (s.bound - s.schema.types) (drop s.schema.types s.places)) in
    cond (ltb first n) (Some first) None

-- the names of an expression are added; the rest stays
abbrev pub all_named : Builder → List Name → Builder
all_named s names = record s { places = places_with names s.places; bound = bound_with names s.bound }

-- "Its steps count toward the 1,024 (5, at the 3F)": an expression is added, if its steps fit
abbrev pub Added : Builder → Builder → Automaton → Result Unit Refusal → Type 0
Added s s' a r =
    let n = s.steps + length (laid_steps a.next a.types a.uses) in
    Ordered (ask (refused_at 5 a.end) (n ≤ most_steps) ∷ []) (λ b. (b ≡ fine) × (s' ≡ built_by s a)) (verdict_of r)
