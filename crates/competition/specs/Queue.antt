-- What the private search answers. Of one type: a queue of pairs found, each from an earlier one, in the order of those, with rivals at the
-- last and none before; or a set of pairs that is closed and has no rivals.
use Rattle.std.specs.Prelude.{◌≡◌, Bool, true, false, List, ℕ, ◌<◌, ◌≤◌, T, get_or, Option, Some, None}
use Rattle.sdtd.specs.Limits.{most_types, most_pairs}
use Rattle.sdtd.specs.Schema.{Schema}
use Rattle.sdtd.specs.Competition.{pair_number, Competition}
use Rattle.competition.specs.Rows.{Leading}
use Rattle.competition.specs.Found.{found_at, Linked}
use Rattle.competition.specs.Rivals.{AreRivals}
use Rattle.competition.specs.Search.{Written}
use Rattle.competition.specs.declared.queue.Found.{Found}
use Rattle.competition.specs.declared.search.Pair.{Pair}
use Rattle.competition.specs.declared.search.Competing.{Competing}

-- The search of a type goes by its rows, one for each state.

-- the pair of the queue that x was found from leads to x
abbrev pub LedTo : (ℕ → List ℕ) → List Found → Found → Type 0
LedTo rows queue x =
    Leading (rows (found_at queue x.parent).first) (rows (found_at queue x.parent).second) x.by.0 x.first x.second

-- a pair of the queue before the place `end` has the pair number n
pub record Placed (queue : List Found) (end n : ℕ) : Type 0 where
  pub place : ℕ
  pub place_below : place < end
  pub is : pair_number (found_at queue place).first (found_at queue place).second ≡ n

-- all pairs that the pair p, q leads to stand in the queue before the place `end`
abbrev pub LeadsBefore : (ℕ → List ℕ) → List Found → ℕ → ℕ → ℕ → Type 0
LeadsBefore rows queue end p q = (j p' q' : ℕ) → Leading (rows p) (rows q) j p' q' → Placed queue end (pair_number p' q')

-- The pairs up to the place `at`: the first is the pair 0, 0; to each further one an earlier one leads, its parent, and all that the pairs
-- before its parent lead to stands before the further one.
pub record Trail (rows : ℕ → List ℕ) (queue : List Found) (at : ℕ) : Type 0 where
  pub place_below : at < most_pairs
  pub first : ((found_at queue 0).first ≡ 0) × ((found_at queue 0).second ≡ 0)
  pub linked : Linked queue at
  pub led : (i : ℕ) → 0 < i → i ≤ at → LedTo rows queue (found_at queue i)
  pub in_order : (i : ℕ) → 0 < i → i ≤ at → (h : ℕ) → h < (found_at queue i).parent
      → LeadsBefore rows queue i (found_at queue h).first (found_at queue h).second

-- the pair p, q has no rivals
abbrev pub NoRivals : (ℕ → List ℕ) → ℕ → ℕ → Type 0
NoRivals rows p q = (j k : ℕ) → ¬ AreRivals (rows p) (rows q) j k

-- a set of pairs, by their numbers, that has the pair 0, 0, is closed, and has no rivals
pub record ClosedPairs (rows : ℕ → List ℕ) (reached : List Bool) : Type 0 where
  pub first : T (get_or reached (pair_number 0 0) false)
  pub closed : (p q j p' q' : ℕ) → T (get_or reached (pair_number p q) false) → Leading (rows p) (rows q) j p' q'
      → T (get_or reached (pair_number p' q') false)
  pub no_rivals : (p q : ℕ) → T (get_or reached (pair_number p q) false) → NoRivals rows p q

-- a trail to the first pair of the queue that has rivals
pub record TrailToRivals (rows : ℕ → List ℕ) (queue : List Found) (at j k : ℕ) : Type 0 where
  pub trail : Trail rows queue at
  pub rivals : AreRivals (rows (found_at queue at).first) (rows (found_at queue at).second) j k
  pub none_before : (i : ℕ) → i < at → NoRivals rows (found_at queue i).first (found_at queue i).second

abbrev pub PairMeans : (ℕ → List ℕ) → List Found → Option Pair → Type 0
PairMeans rows queue (Some p) = TrailToRivals rows queue p.at p.rivals.first.0 p.rivals.second.0
PairMeans rows queue None = (reached : List Bool) × ClosedPairs rows reached

-- two types compete in the type a, which the table marks as used, by its rows and the queue
pub record CompetingIn (rows : ℕ → List ℕ) (used : List Bool) (a : ℕ) (queue : List Found) (at j k : ℕ) : Type 0 where
  pub used_there : T (get_or used a false)
  pub to_rivals : TrailToRivals rows queue at j k

-- no two types compete in the type a, if it is marked, by its rows
abbrev pub RestrainedIn : (ℕ → List ℕ) → List Bool → ℕ → Type 0
RestrainedIn rows used a = T (get_or used a false) → (reached : List Bool) × ClosedPairs rows reached

abbrev pub SearchedAt : (ℕ → List ℕ) → List Bool → ℕ → List Found → Option Pair → Type 0
SearchedAt rows used a queue (Some p) = CompetingIn rows used a queue p.at p.rivals.first.0 p.rivals.second.0
SearchedAt rows used a queue None = RestrainedIn rows used a

-- the smallest type in which two compete, by the table of those used and the rows of each type; or none
abbrev pub CompetingMeans : (ℕ → ℕ → List ℕ) → List Bool → List Found → Option Competing → Type 0
CompetingMeans rows used queue (Some x) =
    CompetingIn (rows x.of.0) used x.of.0 queue x.pair.at x.pair.rivals.first.0 x.pair.rivals.second.0
    × ((c : ℕ) → c < x.of.0 → RestrainedIn (rows c) used c)
CompetingMeans rows used queue None = (c : ℕ) → c < most_types → RestrainedIn (rows c) used c

-- the whole search: two types compete, and the buffer has a witness; or there is no competition, and the buffer is as it was
abbrev pub CompetesMeans : Schema → List ℕ → List ℕ → Bool → Type 0
CompetesMeans S was is true = Written S was is
CompetesMeans S was is false = (¬ Competition S) × (is ≡ was)
