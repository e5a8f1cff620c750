-- What the search of one type after another means for a schema in which no two roots compete.
use mathlib.Core.Path.{◌≡◌, refl}
use mathlib.Core.Logic.{◌↔◌}
use mathlib.Core.Bool.{false}
use mathlib.Core.List.{List, ◌++◌}
use Prim.Native.Nat.{ℕ, ◌+◌, ◌≤◌, ◌<◌, min, max}
use native.Mathlib.Decide.{dec_lt}
use native.Mathlib.Omega.{arith}
use lib.Dec.{T}
use lib.ListN.{length, get_or, drop}
use Rattle.sdtd.specs.Limits.{most_types}
use Rattle.sdtd.specs.Schema.{WithinLimits}
use Rattle.sdtd.specs.Trim.{Useful}
use Rattle.sdtd.specs.Competition.{Compete, CompeteIn, CompeteOutside, Competition, of_roots, in_type, witness_bytes, by_types}
use Rattle.sdtd.proofs.Ambiguity.{useful_used}
use Rattle.sdtd.proofs.Trimming.{used_useful}
use Rattle.schema.specs.Value.{meaning}
use Rattle.schema.specs.Rows.{RowsMean}
use Rattle.schema.specs.Trimming.{Exact, used_in}
use Rattle.schema.specs.Rows.{row_of}
use Rattle.competition.specs.Found.{word_to}
use Rattle.competition.specs.declared.queue.Found.{Found}
use Rattle.competition.specs.Queue.{CompetingIn, RestrainedIn}
use Rattle.competition.specs.Search.{Written}
use Rattle.competition.specs.Witness.{word_place}
use Rattle.schema.specs.declared.value.Schema.{Schema}
use Rattle.schema.specs.declared.tables.Trimming.{Trimming}
use Rattle.schema.proofs.UsedTables.{used_exactly}
use Rattle.competition.proofs.Compete.{CompeteEither, trail_competes, closed_restrained, outside_restrained}
use Rattle.competition.proofs.Shortest.{trail_shortest}

module _
    (v : Schema) (t : Trimming) (entries begins : List ℕ) (within : WithinLimits (meaning v)) (exact : Exact (meaning v) t)
    (rows : RowsMean (meaning v) entries begins) (apart : ¬ CompeteOutside (meaning v)) where
  -- nothing was found in the type a
  abbrev NoneFound : ℕ → Type 0
  NoneFound a = RestrainedIn (row_of entries begins a) (used_in t) a

  -- the tables say which types are useful
  useful : (a : ℕ) → T (get_or (used_in t) a false) ↔ Useful (meaning v) a
  useful a =
      let tells = used_exactly t within exact a in
      (λ u. used_useful (tells.0 u), λ u. tells.1 (useful_used u))

  -- no two types compete in a type whose search found nothing
  restrained : (a : ℕ) → NoneFound a → ¬ CompeteIn (meaning v) a
  restrained a r k =
      let c = k.compete in
      closed_restrained within t.ways exact.ways rows a (r ((useful a).1 (c.reached, c.bears))).1 k

  -- the search found nothing in any type
  pub none_compete : ((a : ℕ) → a < most_types → NoneFound a) → ¬ Competition (meaning v)
  none_compete r (of_roots o) = apart o
  none_compete r (in_type {a = a} k) = by_type (dec_lt a most_types)
    where
      by_type : Dec (a < most_types) → ⊥
      by_type (yes l) = restrained a (r a l) k
      by_type (no n) = outside_restrained (omega (arith, within.types_most)) k

  -- the smaller and the larger of the two types compete
  smaller_first : {a j k : ℕ} {w : List ℕ} → CompeteEither (meaning v) a w j k → Compete (meaning v) a w (min j k) (max j k)
  smaller_first {a} {j} {k} {w} c = by_order (dec_lt j k)
    where
      by_order : Dec (j < k) → Compete (meaning v) a w (min j k) (max j k)
      by_order (yes l) =
          let e : min j k ≡ j = omega arith in
          let f : max j k ≡ k = omega arith in
          rw (e, f) (c.rising l)
      by_order (no n) =
          let e : min j k ≡ k = omega arith in
          let f : max j k ≡ j = omega arith in
          rw (e, f) (c.falling (omega (arith, c.different)))

  -- The search found rivals in the type a, and nothing in any smaller type.
  module _ (a at j k : ℕ) (queue : List Found) (found : CompetingIn (row_of entries begins a) (used_in t) a queue at j k)
      (smaller : (c : ℕ) → c < a → NoneFound c) where
    competing : CompeteEither (meaning v) a (word_to at queue at) j k
    competing = trail_competes within t.ways exact.ways rows a ((useful a).0 found.used_there) found.to_rivals

    smallest : (c : ℕ) → CompeteIn (meaning v) c → a ≤ c
    smallest c x = by_order (dec_lt c a)
      where
        by_order : Dec (c < a) → a ≤ c
        by_order (yes l) = absurd (restrained c (smaller c l) x)
        by_order (no n) = omega arith

    pub competing_written : (was is : List ℕ)
        → is ≡ witness_bytes a (min j k) (max j k) (word_to at queue at) ++ drop (word_place + length (word_to at queue at)) was
        → Written (meaning v) was is
    competing_written was is e =
        let w = word_to at queue at in
        let n : word_place + length w ≡ length (witness_bytes a (min j k) (max j k) w) = omega arith in
        record {
          bytes = witness_bytes a (min j k) (max j k) w;
          witness =
              by_types apart (record {
                type = a;
                first = min j k;
                second = max j k;
                word = w;
                compete = smaller_first competing;
                smallest = smallest;
                shortest = trail_shortest within t.ways exact.ways rows a found.to_rivals;
                short = competing.short;
                written = refl;
              });
          filled = rw n at e;
        }
