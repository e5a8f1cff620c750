-- Sample expressions: the automaton of each, listed by hand; lists that are words of it, and lists that are not.
use mathlib.Core.Path.{◌≡◌, refl}
use mathlib.Core.Bool.{false, not}
use mathlib.Core.List.{List, [], ◌∷◌, Memᴰ}
use Prim.Native.Nat.{ℕ, suc}
use lib.Dec.{T, ltb}
use Rattle.sdtd.specs.Limits.{most_types}
use Rattle.sdtd.specs.Schema.{Step, step, Block}
use Rattle.sdtd.proofs.Basics.{◌&◌}
use Rattle.sdtd.proofs.Tests.{Means, means_iff, not_means, lt_means, every, every_means}
use Rattle.sdtd.proofs.Decide.{acceptsb, accepts_means}
use Rattle.expression.specs.Expression.{Expression, empty_word, single, sequence, choice, repeat, Denotes}
use Rattle.expression.specs.Automaton.{named, uses}
use Rattle.sdtd.specs.Lists.{of_each}
use Rattle.expression.specs.Tests.{automaton}
use Rattle.expression.proofs.AutomatonLaws.{automaton_of}

pub record Sample : Type 0 where
  pub content : Expression
  pub accepting : List ℕ
  pub steps : List Step
  pub words : List (List ℕ)
  pub no_words : List (List ℕ)

abbrev pub listed : Sample → Block
listed s = record { tag = 0; nillable = false; states = suc (uses s.content); accepting = s.accepting; steps = s.steps }

-- the expression becomes this automaton; these lists are words of it, and these are not
pub record Holds (s : Sample) : Type 0 where
  pub becomes : automaton 0 false s.content ≡ listed s
  pub words : (w : List ℕ) → Memᴰ w s.words → Denotes s.content w
  pub no_words : (w : List ℕ) → Memᴰ w s.no_words → ¬ Denotes s.content w

abbrev pub HoldAll : List Sample → Type 0
HoldAll [] = Unit
HoldAll (s ∷ ss) = Holds s × HoldAll ss

-- a? (b | c)*, the types a, b, c being 1, 2, 3
abbrev optional : Sample
optional =
    record {
      content = sequence (choice empty_word (single 1)) (repeat (choice (single 2) (single 3)));
      accepting = 0 ∷ 1 ∷ 2 ∷ 3 ∷ [];
      steps =
          step 0 1 1 ∷ step 0 2 2 ∷ step 0 3 3 ∷ step 1 2 2 ∷ step 1 3 3 ∷ step 2 2 2 ∷ step 2 3 3 ∷ step 3 2 2 ∷ step 3 3 3 ∷ [];
      words = [] ∷ (1 ∷ []) ∷ (3 ∷ 2 ∷ []) ∷ (1 ∷ 2 ∷ 2 ∷ 3 ∷ []) ∷ [];
      no_words = (1 ∷ 1 ∷ []) ∷ (2 ∷ 1 ∷ []) ∷ (4 ∷ []) ∷ [];
    }

-- nothing
abbrev nothing : Sample
nothing = record { content = empty_word; accepting = 0 ∷ []; steps = []; words = [] ∷ []; no_words = (0 ∷ []) ∷ [] }

-- the steps stand by their types: 5 | 2
abbrev by_type : Sample
by_type =
    record {
      content = choice (single 5) (single 2);
      accepting = 1 ∷ 2 ∷ [];
      steps = step 0 2 2 ∷ step 0 5 1 ∷ [];
      words = (5 ∷ []) ∷ (2 ∷ []) ∷ [];
      no_words = [] ∷ (5 ∷ 2 ∷ []) ∷ [];
    }

-- one type used twice: (0 0)*
abbrev evenly : Sample
evenly =
    record {
      content = repeat (sequence (single 0) (single 0));
      accepting = 0 ∷ 2 ∷ [];
      steps = step 0 0 1 ∷ step 1 0 2 ∷ step 2 0 1 ∷ [];
      words = [] ∷ (0 ∷ 0 ∷ []) ∷ (0 ∷ 0 ∷ 0 ∷ 0 ∷ []) ∷ [];
      no_words = (0 ∷ []) ∷ (0 ∷ 0 ∷ 0 ∷ []) ∷ [];
    }

-- two steps by one type from one state: 0 | 0 1
abbrev two_ways : Sample
two_ways =
    record {
      content = choice (single 0) (sequence (single 0) (single 1));
      accepting = 1 ∷ 3 ∷ [];
      steps = step 0 0 1 ∷ step 0 0 2 ∷ step 2 1 3 ∷ [];
      words = (0 ∷ []) ∷ (0 ∷ 1 ∷ []) ∷ [];
      no_words = [] ∷ (1 ∷ []) ∷ (0 ∷ 0 ∷ []) ∷ [];
    }

-- repetitions inside one: (0* 63*)*
abbrev nested : Sample
nested =
    record {
      content = repeat (sequence (repeat (single 0)) (repeat (single 63)));
      accepting = 0 ∷ 1 ∷ 2 ∷ [];
      steps = step 0 0 1 ∷ step 0 63 2 ∷ step 1 0 1 ∷ step 1 63 2 ∷ step 2 0 1 ∷ step 2 63 2 ∷ [];
      words = [] ∷ (63 ∷ 0 ∷ 0 ∷ 63 ∷ []) ∷ [];
      no_words = (1 ∷ []) ∷ (0 ∷ 62 ∷ []) ∷ [];
    }

abbrev pub samples : List Sample
samples = optional ∷ nothing ∷ by_type ∷ evenly ∷ two_ways ∷ nested ∷ []

-- a list is a word exactly if the automaton accepts it
word_means : (e : Expression) → T (every (λ j. ltb j most_types) (named e)) → (w : List ℕ) → Means (acceptsb (automaton 0 false e) w) (Denotes e w)
word_means e few w =
    let a = (automaton_of 0 false e ((every_means (λ j. lt_means j most_types) (named e)).says few)).words w in
    means_iff (accepts_means (automaton 0 false e) w) (a.1, a.0)

-- what is to be computed of a sample
holds : (s : Sample) → automaton 0 false s.content ≡ listed s → T (every (λ j. ltb j most_types) (named s.content))
    → T (every (acceptsb (automaton 0 false s.content)) s.words)
    → T (every (λ w. not (acceptsb (automaton 0 false s.content) w)) s.no_words) → Holds s
holds s b few words no_words =
    let m = word_means s.content few in
    record {
      becomes = b;
      words = (every_means m s.words).says words;
      no_words = (every_means (λ w. not_means (m w)) s.no_words).says no_words;
    }

pub samples_hold : HoldAll samples
unfolding of_each
samples_hold =
    holds optional refl tt tt tt
    & holds nothing refl tt tt tt
    & holds by_type refl tt tt tt
    & holds evenly refl tt tt tt
    & holds two_ways refl tt tt tt
    & holds nested refl tt tt tt
    & tt
