-- What the private steps of the parsers compute. No public promise cites it.
use Rattle.std.specs.Prelude.{◌≡◌, Bool, true, false, cond, Option, Some, None, Result, Ok, Err, OnOk, ◌&&◌, ◌||◌, List, [], ◌∷◌, ◌++◌, map, ℕ, suc, ◌+◌, ◌≤◌, ◌<◌, ltb, length, replicate, get_or, set}
use Rattle.std.specs.Int.Bits.{bit_or}
use Rattle.sdtd.specs.Limits.{most_types, most_states}
use Rattle.sdtd.specs.Answer.{question_number}
use Rattle.sdtd.specs.declared.Refusal.{Refusal}
use Rattle.sdtd.specs.declared.Refused.TheVariants.{OutOfRange, TooManyUses}
use Rattle.schema.specs.States.{member, insert, no_states}
use Rattle.command.specs.Cases.{on_expression}
use Rattle.command.specs.Command.{command_at}
use Rattle.command.specs.declared.Command.{Command}
use Rattle.command.specs.declared.Command.TheVariants.{Expression as AnExpression}
use Rattle.command.specs.declared.Part.{Part}
use Rattle.command.specs.declared.Part.TheVariants.{OpenBracket, CloseBracket, Use, Or, Repeat, End}
use Rattle.expression.specs.Automaton.{uses}
use Rattle.expression.specs.Content.{Level, no_level, sequence_of, choice_of, Name, SoFar, with_factor, on_part, Content, broken, content_from}
use Rattle.expression.specs.Expression.{Expression}
use Rattle.expression.specs.Limits.{most_uses}
use Rattle.expression.specs.Tests.{nullable, first, last, follow}
use Rattle.expression.specs.declared.parsed.Parsed.{Parsed}
use Rattle.expression.specs.declared.parts.Factor.{Factor}
use Rattle.expression.specs.declared.parts.Factor.TheVariants.{OneType, Bracket}
use Rattle.expression.specs.declared.tables.Tables.{Tables}

-- it begins a factor
abbrev pub is_first : Part → Bool
is_first OpenBracket = true
is_first CloseBracket = false
is_first (Use j) = true
is_first Or = false
is_first Repeat = false
is_first End = false

abbrev pub beginning : Option Command → Bool
beginning c = on_part is_first false c

-- what it begins, if it begins a factor
abbrev pub Opens : Option Command → Option Factor → Type 0
Opens c None = beginning c ≡ false
Opens c (Some (OneType j)) = c ≡ Some (AnExpression (Use j))
Opens c (Some Bracket) = c ≡ Some (AnExpression OpenBracket)

-- it is 33; it is 34
abbrev pub is_or : Part → Bool
is_or OpenBracket = false
is_or CloseBracket = false
is_or (Use j) = false
is_or Or = true
is_or Repeat = false
is_or End = false

abbrev pub dividing : Option Command → Bool
dividing c = on_part is_or false c

abbrev pub is_repeat : Part → Bool
is_repeat OpenBracket = false
is_repeat CloseBracket = false
is_repeat (Use j) = false
is_repeat Or = false
is_repeat Repeat = true
is_repeat End = false

abbrev pub repeating : Option Command → Bool
repeating c = on_part is_repeat false c

-- the number that it gets where a choice ends
abbrev pub part_ending : Bool → Part → ℕ
part_ending inside OpenBracket = 21
part_ending inside CloseBracket = cond inside 0 21
part_ending inside (Use j) = 21
part_ending inside Or = 21
part_ending inside Repeat = 21
part_ending inside End = cond inside 21 0

abbrev pub ending : Bool → Option Command → ℕ
ending inside None = 2
ending inside (Some c) = on_expression (part_ending inside) 3 c

-- what holds of what is parsed, or of the refusal's number and place
abbrev pub Outcome : {A : Type 0} → (A → Type 0) → (ℕ → ℕ → Type 0) → Result A Refusal → Type 0
Outcome P Q (Ok x) = P x
Outcome P Q (Err e) = Q (question_number e.why) e.place

abbrev pub Ends : {A : Type 0} → Bool → Option Command → ℕ → Result A Refusal → Type 0
Ends inside c at r = Outcome (λ x. ending inside c ≡ 0) (λ n p. (n ≡ ending inside c) × (p ≡ at)) r

-- what is read, by its parts
abbrev pub level_of : List Expression → List Expression → Level
level_of ss fs = record { sequences = ss; factors = fs }

abbrev pub so_far : List Level → Level → List Name → Bool → SoFar
so_far around level names again = record { around = around; level = level; names = names; repeatable = again }

-- the content, from the place i on
unfoldable pub scan : List ℕ → ℕ → SoFar → Content
scan file i r = content_from (suc (length file)) file i r

-- numbers put into a table from the place n on, the last first
unfoldable pub put_back : ℕ → List ℕ → List ℕ → List ℕ
put_back n [] t = t
put_back n (x ∷ xs) t = set (put_back n xs t) (n + length xs) x

abbrev pub tables : List ℕ → List ℕ → List ℕ → Tables
tables next types places = record { next = next; types = types; places = places }

-- with no use
abbrev pub no_tables : Tables
no_tables = let zeros : List ℕ = replicate most_states 0 in tables zeros zeros zeros

abbrev pub parsed : ℕ → ℕ → Bool → ℕ → ℕ → Parsed
parsed at uses nullable first last =
    record { at = at; first = record { 0 = first }; last = record { 0 = last }; uses = uses; nullable = nullable }

-- the set, where the part is nullable with what lies beyond it
abbrev pub beyond : Bool → ℕ → ℕ → ℕ
beyond b x y = cond b (bit_or x y) x

-- one more factor; one of two; the choice in a bracket; a factor with its 34
abbrev pub then_by : Parsed → Parsed → Parsed
then_by x y =
    parsed y.at y.uses (x.nullable && y.nullable) (beyond x.nullable x.first.0 y.first.0) (beyond y.nullable y.last.0 x.last.0)

abbrev pub or_by : Parsed → Parsed → Parsed
or_by x y = parsed y.at y.uses (x.nullable || y.nullable) (bit_or x.first.0 y.first.0) (bit_or x.last.0 y.last.0)

abbrev pub closed_by : Parsed → Parsed
closed_by x = parsed (x.at + 1) x.uses x.nullable x.first.0 x.last.0

abbrev pub again_by : Parsed → Parsed
again_by x = parsed (x.at + 1) x.uses true x.first.0 x.last.0

-- the row of each state of `last` has the states of `first` too; the others are as before
pub record Linked (last first : ℕ) (t t' : Tables) : Type 0 where
  pub each : (p q : ℕ) → member q (get_or t'.next p 0) ≡ (member q (get_or t.next p 0) || (member p last && member q first))
  pub types : t'.types ≡ t.types
  pub places : t'.places ≡ t.places

-- What is parsed is the expression e, its uses numbered from n on, and `names` is what they name, the last first.
pub record ReadAs (n : ℕ) (e : Expression) (names : List Name) (t t' : Tables) (x : Parsed) : Type 0 where
  pub count : suc x.uses ≡ n + uses e
  pub named : length names ≡ uses e
  pub empties : x.nullable ≡ nullable e
  pub firsts : (q : ℕ) → member q x.first.0 ≡ first n e q
  pub lasts : (q : ℕ) → member q x.last.0 ≡ last n e q
  pub follows : (p q : ℕ) → member q (get_or t'.next p 0) ≡ (member q (get_or t.next p 0) || follow n e p q)
  pub types_put : t'.types ≡ put_back n (map (λ x. x.type) names) t.types
  pub places_put : t'.places ≡ put_back n (map (λ x. x.place) names) t.places

-- a 34 that could follow does not
abbrev pub NoRepeat : List ℕ → Bool → ℕ → Type 0
NoRepeat file again i = again ≡ true → repeating (command_at file i) ≡ false

-- The factor e is read from the place i on, with `depth` brackets open and u uses before.
pub record Item (file : List ℕ) (i depth u : ℕ) (e : Expression) (names : List Name) (again : Bool) (t t' : Tables) (x : Parsed) : Type 0 where
  pub read : ReadAs (suc u) e names t t' x
  pub begins : i < length file
  pub moves : i < x.at
  pub scans : (around : List Level) (l : Level) (before : List Name) (b : Bool) → length around ≡ depth → length before ≡ u
      → scan file i (so_far around l before b) ≡ scan file x.at (so_far around (with_factor e l) (names ++ before) again)

pub record FactorTaken (file : List ℕ) (i depth u : ℕ) (t t' : Tables) (x : Parsed) : Type 0 where
  pub item : Expression
  pub names : List Name
  pub again : Bool
  pub taken : Item file i depth u item names again t t' x
  pub no_repeat : NoRepeat file again x.at

-- whatever is read before, the content is refused
abbrev pub FactorRefused : List ℕ → ℕ → ℕ → ℕ → ℕ → ℕ → Type 0
FactorRefused file i depth u n p =
    (around : List Level) (l : Level) (before : List Name) (b : Bool) → length around ≡ depth → length before ≡ u
    → scan file i (so_far around l before b) ≡ broken n p

-- a factor, or that none begins at the place
abbrev pub FactorRead : List ℕ → ℕ → ℕ → ℕ → Tables → Tables → Option Parsed → Type 0
FactorRead file i depth u t t' None = (beginning (command_at file i) ≡ false) × (t' ≡ t)
FactorRead file i depth u t t' (Some x) = FactorTaken file i depth u t t' x

abbrev pub FactorSays : List ℕ → ℕ → ℕ → ℕ → Tables → Tables → Result (Option Parsed) Refusal → Type 0
FactorSays file i depth u t t' r = Outcome (FactorRead file i depth u t t') (FactorRefused file i depth u) r

-- The factors of a sequence.
pub record SequenceTaken (file : List ℕ) (i depth u : ℕ) (t t' : Tables) (x : Parsed) : Type 0 where
  pub items : List Expression
  pub names : List Name
  pub again : Bool
  pub onward : i ≤ x.at
  pub read : ReadAs (suc u) (sequence_of items) names t t' x
  pub no_repeat : NoRepeat file again x.at
  pub scans : (around : List Level) (ss : List Expression) (before : List Name) → length around ≡ depth → length before ≡ u
      → scan file i (so_far around (level_of ss []) before false) ≡ scan file x.at (so_far around (level_of ss items) (names ++ before) again)

pub record SequenceWhole (file : List ℕ) (i depth u : ℕ) (t t' : Tables) (x : Parsed) : Type 0 where
  pub taken : SequenceTaken file i depth u t t' x
  pub opens_not : beginning (command_at file x.at) ≡ false

abbrev pub SequenceRefused : List ℕ → ℕ → ℕ → ℕ → ℕ → ℕ → Type 0
SequenceRefused file i depth u n p =
    (around : List Level) (ss : List Expression) (before : List Name) → length around ≡ depth → length before ≡ u
    → scan file i (so_far around (level_of ss []) before false) ≡ broken n p

abbrev pub SequenceSays : List ℕ → ℕ → ℕ → ℕ → Tables → Tables → Result Parsed Refusal → Type 0
SequenceSays file i depth u t t' r = Outcome (SequenceWhole file i depth u t t') (SequenceRefused file i depth u) r

-- The sequences of a choice.
pub record ChoiceTaken (file : List ℕ) (i depth u : ℕ) (t t' : Tables) (x : Parsed) : Type 0 where
  pub level : Level
  pub names : List Name
  pub again : Bool
  pub onward : i ≤ x.at
  pub read : ReadAs (suc u) (choice_of level) names t t' x
  pub no_repeat : NoRepeat file again x.at
  pub opens_not : beginning (command_at file x.at) ≡ false
  pub scans : (around : List Level) (before : List Name) → length around ≡ depth → length before ≡ u
      → scan file i (so_far around no_level before false) ≡ scan file x.at (so_far around level (names ++ before) again)

pub record ChoiceWhole (file : List ℕ) (i depth u : ℕ) (t t' : Tables) (x : Parsed) : Type 0 where
  pub taken : ChoiceTaken file i depth u t t' x
  pub divides_not : dividing (command_at file x.at) ≡ false

abbrev pub ChoiceRefused : List ℕ → ℕ → ℕ → ℕ → ℕ → ℕ → Type 0
ChoiceRefused file i depth u n p =
    (around : List Level) (before : List Name) → length around ≡ depth → length before ≡ u
    → scan file i (so_far around no_level before false) ≡ broken n p

-- where the next sequence of a choice begins: at its beginning, with nothing read, or behind a 33
pub data NextSequence (file : List ℕ) (i depth u : ℕ) (t t' : Tables) (x : Parsed) (from : ℕ) : Type 0 where
  begins_choice : x ≡ parsed i u false 0 0 → t' ≡ t → from ≡ i → NextSequence file i depth u t t' x from
  behind_33 : ChoiceTaken file i depth u t t' x → command_at file x.at ≡ Some (AnExpression Or) → from ≡ x.at + 1
      → NextSequence file i depth u t t' x from

abbrev pub ChoiceSays : List ℕ → ℕ → ℕ → ℕ → Tables → Tables → Result Parsed Refusal → Type 0
ChoiceSays file i depth u t t' r = Outcome (ChoiceWhole file i depth u t t') (ChoiceRefused file i depth u) r

-- one use, by its type and the number of uses before
abbrev pub use_parsed : ℕ → ℕ → Parsed
use_parsed at u = parsed (at + 2) (u + 1) false (insert (u + 1) no_states) (insert (u + 1) no_states)

abbrev pub one_use : ℕ → ℕ → ℕ → Result Parsed Refusal
one_use at j u =
    cond (ltb j most_types)
    (cond (ltb u most_uses) (Ok (use_parsed at u)) (Err (record { why = TooManyUses; place = at })))
    (Err (record { why = OutOfRange; place = at }))

abbrev pub UseSays : ℕ → ℕ → ℕ → Tables → Tables → Result Parsed Refusal → Type 0
UseSays at j u t t' r = (r ≡ one_use at j u) × OnOk r (t' ≡ tables t.next (set t.types (u + 1) j) (set t.places (u + 1) at))

-- the choice in a bracket, judged by the command behind it
abbrev pub BracketSays : Option Command → Parsed → Result Parsed Refusal → Type 0
BracketSays c x (Ok y) = (ending true c ≡ 0) × (y ≡ closed_by x)
BracketSays c x (Err e) = (question_number e.why ≡ ending true c) × (e.place ≡ x.at)

-- a factor, and its 34 if the command behind it is one
pub data RepeatSays (file : List ℕ) (x : Parsed) (t t' : Tables) (y : Parsed) : Type 0 where
  repeats_it : repeating (command_at file x.at) ≡ true → y ≡ again_by x → Linked x.last.0 x.first.0 t t' → RepeatSays file x t t' y
  stays_so : repeating (command_at file x.at) ≡ false → y ≡ x → t' ≡ t → RepeatSays file x t t' y
