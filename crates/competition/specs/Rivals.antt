-- What the private search for rival steps at a pair of states answers.
use Rattle.std.specs.Prelude.{◌≡◌, Bool, ◌&&◌, ◌||◌, ◌≢◌, List, ℕ, T, Contains, Option, Some, None}
use Rattle.sdtd.specs.Tree.{plain, nil}
use Rattle.sdtd.specs.declared.TypeNo.{TypeNo}
use Rattle.schema.specs.Ways.{opens_by}
use Rattle.schema.specs.Rows.{by_in, tag_in, ways_in}
use Rattle.competition.specs.declared.rivals.Rivals.{Rivals}

-- two numbers of ways have a kind in common
abbrev pub open_alike : ℕ → ℕ → Bool
open_alike w v = (opens_by nil w && opens_by nil v) || (opens_by plain w && opens_by plain v)

-- f is by another type of e's tag, where both bear trees opened alike
pub record IsOther (e f : ℕ) : Type 0 where
  pub one_tag : tag_in f ≡ tag_in e
  pub different : by_in f ≢ by_in e
  pub alike : T (open_alike (ways_in e) (ways_in f))

-- k is another type of e's tag, where both bear trees opened alike, by an entry of the row
pub record IsRival (row : List ℕ) (e k : ℕ) : Type 0 where
  pub entry : ℕ
  pub stands : Contains row entry
  pub by : by_in entry ≡ k
  pub other : IsOther e entry

abbrev pub RivalMeans : List ℕ → ℕ → Option TypeNo → Type 0
RivalMeans row e (Some k) = IsRival row e k.0
RivalMeans row e None = (k : ℕ) → ¬ IsRival row e k

-- an entry of the left row is by j, and k is its rival in the right row
pub record AreRivals (left right : List ℕ) (j k : ℕ) : Type 0 where
  pub entry : ℕ
  pub stands : Contains left entry
  pub by : by_in entry ≡ j
  pub rival : IsRival right entry k

abbrev pub RivalsMean : List ℕ → List ℕ → Option Rivals → Type 0
RivalsMean left right (Some r) = AreRivals left right r.first.0 r.second.0
RivalsMean left right None = (j k : ℕ) → ¬ AreRivals left right j k
