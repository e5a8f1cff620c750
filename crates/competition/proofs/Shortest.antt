-- The search of one type is breadth first: the word to the first pair that has rivals is a shortest after which two types compete.
use mathlib.Core.Path.{ap}
use mathlib.Core.List.{List}
use Prim.Native.Nat.{ℕ, zero, suc, ◌≤◌, ◌<◌}
use native.Mathlib.Decide.{dec_lt}
use native.Mathlib.Omega.{arith}
use lib.ListN.{length}
use Rattle.sdtd.specs.Schema.{Schema, WithinLimits}
use Rattle.sdtd.specs.Trim.{Live}
use Rattle.sdtd.specs.Competition.{CompeteIn, pair_number}
use Rattle.sdtd.proofs.Fixpoint.{PairOfLength, CountedClosed, counted_complete}
use Rattle.sdtd.proofs.Pairs.{pair_swap_number, pair_either}
use Rattle.sdtd.proofs.Rivals.{rivals_in}
use Rattle.schema.specs.Rows.{RowsMean}
use Rattle.schema.specs.Trimming.{WaysExactly}
use Rattle.schema.specs.Rows.{row_of}
use Rattle.competition.specs.Found.{found_at, word_to}
use Rattle.competition.specs.declared.queue.Found.{Found}
use Rattle.competition.specs.Queue.{Placed, LeadsBefore, NoRivals, Trail, TrailToRivals}
use Rattle.competition.proofs.Words.{word_first, back}
use Rattle.competition.proofs.Queues.{leading_swap, none_swap}
use Rattle.competition.proofs.Compete.{from_live, counts, counts_leading, steps_rivals}

-- how many types the word to the place i has
abbrev word_length : List Found → ℕ → ℕ
word_length queue i = length (word_to i queue i)

later : (queue : List Found) (n i : ℕ) → n < word_length queue i → 0 < i
later queue n zero l = absurd (omega (arith, ap length (word_first queue 0)))
later queue n (suc i) l = omega arith

-- The search of the type a goes by the rows of the schema, where a table tells in which ways types bear a tree.
module _
    {S : Schema} (within : WithinLimits S) (ways : List ℕ) (exact : WaysExactly S ways) {entries begins : List ℕ}
    (rows : RowsMean S entries begins) (a : ℕ) where
  abbrev row_at : ℕ → List ℕ
  row_at p = row_of entries begins a p

  module _ {queue : List Found} {at : ℕ} (t : Trail row_at queue at) where
    -- a pair of live states p and q stands before each place whose word has more than n types
    abbrev ReachedBefore : ℕ → ℕ → ℕ → Type 0
    ReachedBefore n p q =
        (i : ℕ) → i ≤ at → n < word_length queue i → Live S a p → Live S a q → Placed queue i (pair_number p q)

    before_swap : (end p q : ℕ) → LeadsBefore row_at queue end p q → LeadsBefore row_at queue end q p
    before_swap end p q f j p' q' l = rw (pair_swap_number p' q') (f j q' p' (leading_swap l))

    -- all that a pair before the parent of the place i leads to stands before i
    before_closed : CountedClosed S a ReachedBefore
    before_closed =
        record {
          start = λ i h l lp lq. record { place = 0; place_below = later queue 0 i l; is = rw (t.first.0, t.first.1) };
          step = λ n p q j p' q' before m k b i h l lp lq.
              let pos = later queue (suc n) i l in
              let r = back queue at t.linked i pos h in
              let c = counts m b lp in
              let d = counts k b lq in
              let x = before (found_at queue i).parent (omega (arith, r.earlier)) (omega (arith, r.shorter)) (from_live c) (from_live d) in
              let e : Found = found_at queue x.place in
              pair_either {P = LeadsBefore row_at queue i} (before_swap i) e.first e.second p q x.is
              (t.in_order i pos h x.place x.place_below) j p' q' (counts_leading within ways exact rows a c d);
        }

  -- two types that compete in a do so after a word that is no shorter than that to the first pair with rivals
  pub trail_shortest : {queue : List Found} {at j k : ℕ} → TrailToRivals row_at queue at j k → (other : CompeteIn S a)
      → length (word_to at queue at) ≤ length other.word
  trail_shortest {queue} {at} r other =
      elim (dec_lt (length other.word) (word_length queue at)) [ yes l ↦ absurd (shorter l) | no n ↦ omega arith ]
    where
      n : ℕ
      n = length other.word

      shorter : n < word_length queue at → ⊥
      shorter l =
          let s = rivals_in (PairOfLength S a n) other (λ p q x e. record { pair = x; long = ap length e }) in
          let x = steps_rivals within ways exact rows a s.rivals s.different in
          let b = counted_complete (before_closed r.trail) n s.p s.q s.pair at (omega arith) l x.1 x.2 in
          let e : Found = found_at queue b.place in
          pair_either {P = NoRivals row_at} (none_swap row_at) e.first e.second s.p s.q b.is
          (r.none_before b.place b.place_below) s.j s.k x.0
