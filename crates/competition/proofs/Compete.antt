-- What the search of one type means for the schema.
use mathlib.Core.Path.{◌≡◌, sym, ap, subst, ◌∙◌}
use mathlib.Core.Logic.{◌≢◌}
use mathlib.Core.Bool.{Bool, false, ◌||◌}
use mathlib.Core.List.Memᴰ
use mathlib.Core.List.{List, [], ◌∷◌, ◌++◌, Memᴰ}
use Prim.Native.Nat.{ℕ, zero, suc, ◌≤◌, ◌<◌}
use native.Mathlib.Omega.{arith}
use lib.Dec.{T}
use lib.ListN.{length, get_or, length-append, get_or-eq_default}
use Rattle.std.specs.List.{Contains}
use Rattle.sdtd.specs.Limits.{most_states, most_word}
use Rattle.sdtd.specs.Schema.{Step, Schema, no_block, block_of, tag_of, step, Leads, stay, go, WithinLimits}
use Rattle.sdtd.specs.Trim.{Bears, none, both, AllBear, Live, Useful}
use Rattle.sdtd.specs.Competition.{OpenedAlike, Compete, CompeteIn, pair_number}
use Rattle.sdtd.proofs.Automata.{all_append, leads_append}
use Rattle.sdtd.proofs.Bearing.{alike, shared}
use Rattle.sdtd.proofs.Fixpoint.{bears_live, live_closed, PairClosed}
use Rattle.sdtd.proofs.Rivals.{RivalSteps, rivals_compete, no_rivals}
use Rattle.competition.specs.Rivals.{open_alike}
use Rattle.schema.specs.Rows.{Counts, to_in, ways_in, RowsMean}
use Rattle.sdtd.specs.Tree.{plain, nil}
use Rattle.schema.specs.Ways.{opens_by}
use Rattle.schema.specs.Trimming.{WaysExactly}
use Rattle.schema.proofs.WaysLaws.{bears_in_lem}
use Rattle.schema.specs.Rows.{row_of}
use Rattle.competition.specs.Rows.{Leading}
use Rattle.competition.specs.Found.{found_at, word_to}
use Rattle.competition.specs.Rivals.{AreRivals}
use Rattle.competition.specs.Queue.{Trail, ClosedPairs, TrailToRivals}
use Rattle.competition.specs.declared.queue.Found.{Found}
use Rattle.schema.proofs.RowLaws.{Reads, Says, row_says, row_has}
use Rattle.competition.proofs.RowLaws.{in_row, row_contains}
use Rattle.competition.proofs.WaysLaws.{common, has_common}
use Rattle.competition.proofs.Words.{word_first, word_more}
use Rattle.competition.proofs.Queues.{rivals_swap}

-- the types of w bear trees and lead from the start state of a both to p and to q
pub record WordTo (S : Schema) (a : ℕ) (w : List ℕ) (p q : ℕ) : Type 0 where
  pub left : Leads (block_of S a) 0 w p
  pub right : Leads (block_of S a) 0 w q
  pub bear : AllBear S w

-- j and k compete in a after w, the smaller first, and w is short enough for a witness
pub record CompeteEither (S : Schema) (a : ℕ) (w : List ℕ) (j k : ℕ) : Type 0 where
  pub different : j ≢ k
  pub rising : j < k → Compete S a w j k
  pub falling : k < j → Compete S a w k j
  pub short : length w ≤ most_word

-- a step by a tree-bearing type to a live state counts
pub counts :
    {S : Schema} {a p j p' : ℕ} → Memᴰ (step p j p') (block_of S a).steps → Bears S j → Live S a p' → Counts S a (step p j p')
counts m b l = record { given = m; bears = b; live = l }

-- a step that counts leads from a live state
pub from_live : {S : Schema} {a : ℕ} {s : Step} → Counts S a s → Live S a s.from
from_live {a = a} {s} c = live_closed.step a s c.given (bears_live.0 c.bears) c.live

-- The search of the type a goes by the rows of the schema, where a table tells in which ways types bear a tree.
module _
    {S : Schema} (within : WithinLimits S) (ways : List ℕ) (exact : WaysExactly S ways) {entries begins : List ℕ}
    (rows : RowsMean S entries begins) (a : ℕ) where
  abbrev row_at : ℕ → List ℕ
  row_at p = row_of entries begins a p

  -- an entry of a row is a step that counts
  entry_says : (p e : ℕ) → p < most_states → Contains (row_at p) e → Says S a p e
  entry_says p e l s = row_says within rows a p e l (in_row entries begins a p s)

  -- the entry of a step, in its state's row
  record HasEntry (s : Step) : Type 0 where
    entry : ℕ
    stands : Contains (row_at s.from) entry
    reads : Reads s.from s.to s.by (tag_of S s.by) (get_or ways s.by 0) entry

  -- it is not 0, since its type bears a tree in some way
  some_entry : {s : Step} → Counts S a s → (e : ℕ) → ways_in e ≡ get_or ways s.by 0 → 0 < e
  some_entry {s} c zero q =
      absurd (subst (λ (w : ℕ). T (opens_by plain w || opens_by nil w)) (sym q) ((bears_in_lem S ways exact s.by).1 c.bears))
  some_entry c (suc e) q = omega arith

  has_entry : {s : Step} → Counts S a s → HasEntry s
  has_entry {s} c =
      let h = row_has within rows c (exact s.by) in
      record { entry = h.0; stands = row_contains entries begins a s.from (some_entry c h.0 h.2.ways_is) h.1; reads = h.2 }

  -- two entries by which a type leads on are steps that count
  leading_counts : {p q j p' q' : ℕ} → p < most_states → q < most_states → Leading (row_at p) (row_at q) j p' q'
      → Counts S a (step p j p') × Counts S a (step q j q')
  leading_counts {p} {q} lp lq l =
      let o = l.other in (
        rw (l.by, o.first) at (entry_says p l.entry lp l.stands).counts,
        rw (o.one_type ∙ l.by, o.second) at (entry_says q o.entry lq o.stands).counts,
      )

  -- a way by one word goes on with two steps by one type
  word_on : {p q j p' q' : ℕ} {w : List ℕ} → WordTo S a w p q → Counts S a (step p j p') × Counts S a (step q j q')
      → WordTo S a (w ++ (j ∷ [])) p' q'
  word_on r c =
      record {
        left = leads_append r.left (go c.0.given stay);
        right = leads_append r.right (go c.1.given stay);
        bear = all_append r.bear (both c.0.bears none);
      }

  module _ {queue : List Found} {at : ℕ} (t : Trail row_at queue at) where
    -- the two states of a pair of the trail are below 32
    pub inside : (i : ℕ) → i ≤ at → ((found_at queue i).first < most_states) × ((found_at queue i).second < most_states)
    inside zero h = (omega (arith, t.first), omega (arith, t.first))
    inside (suc i) h = let o = (t.led (suc i) (omega arith) h).other in (omega (arith, o.first), omega (arith, o.second))

    -- the word w leads to the pair at the place i and has at most i types
    abbrev Way : ℕ → List ℕ → Type 0
    Way i w = WordTo S a w (found_at queue i).first (found_at queue i).second × (length w ≤ i)

    way_first : Way 0 []
    way_first = (rw (t.first.0, t.first.1) (record { left = stay; right = stay; bear = none }), omega arith)

    earlier : (i : ℕ) → 0 < i → i ≤ at
        → ((found_at queue (found_at queue i).parent).first < most_states) × ((found_at queue (found_at queue i).parent).second < most_states)
    earlier i l h = inside (found_at queue i).parent (omega (arith, t.linked i l h))

    way_later : (i : ℕ) (w : List ℕ) → 0 < i → i ≤ at → Way (found_at queue i).parent w → Way i (w ++ ((found_at queue i).by.0 ∷ []))
    way_later i w l h r = (
      word_on r.0 (leading_counts (earlier i l h).0 (earlier i l h).1 (t.led i l h)),
      simp length-append (omega (arith, t.linked i l h, r.1)),
    )

    way : (fuel i : ℕ) → i ≤ fuel → i ≤ at → Way i (word_to fuel queue i)
    way zero zero l h = rw (word_first queue 0) way_first
    way zero (suc i) l h = absurd (omega arith)
    way (suc fuel) zero l h = rw (word_first queue (suc fuel)) way_first
    way (suc fuel) (suc i) l h =
        let e : Found = found_at queue (suc i) in
        let before : e.parent < suc i = t.linked (suc i) (omega arith) h in
        let r = way fuel e.parent (omega arith) (omega arith) in
        rw (word_more queue fuel i) (way_later (suc i) (word_to fuel queue e.parent) (omega arith) h r)

    -- the word to the last entry leads to both its states
    pub trail_word : WordTo S a (word_to at queue at) (found_at queue at).first (found_at queue at).second
    trail_word = (way at at (omega arith) (omega arith)).0

    pub trail_short : length (word_to at queue at) ≤ at
    trail_short = (way at at (omega arith) (omega arith)).1

  -- rivals are rival steps by different types
  rivals_steps :
      {p q j k : ℕ} → p < most_states → q < most_states → AreRivals (row_at p) (row_at q) j k → RivalSteps S a p q j k
  rivals_steps {p} {q} {j} {k} lp lq r =
      let o = r.rival in
      let x = entry_says p r.entry lp r.stands in
      let y = entry_says q o.entry lq o.stands in
      let cj : Counts S a (step p j (to_in r.entry)) = rw r.by at x.counts in
      let ck : Counts S a (step q k (to_in o.entry)) = rw o.by at y.counts in
      let c = common (ways_in r.entry) (ways_in o.entry) o.other.alike in
      record {
        next_j = to_in r.entry;
        next_k = to_in o.entry;
        step_j = cj.given;
        step_k = ck.given;
        one_tag = ap (tag_of S) (sym r.by) ∙ sym x.tag ∙ sym o.other.one_tag ∙ y.tag ∙ ap (tag_of S) o.by;
        alike = rw (r.by, o.by) at (alike c.kind ((x.ways.exact c.kind).0 c.first) ((y.ways.exact c.kind).0 c.second));
        bears_j = cj.bears;
        bears_k = ck.bears;
        live_j = cj.live;
        live_k = ck.live;
      }

  -- steps by one type that count are entries by which it leads on
  pub counts_leading :
      {p q j p' q' : ℕ} → Counts S a (step p j p') → Counts S a (step q j q') → Leading (row_at p) (row_at q) j p' q'
  counts_leading c e =
      let x = has_entry c in
      let y = has_entry e in
      record {
        entry = x.entry;
        stands = x.stands;
        by = x.reads.by_is;
        other =
            record {
              entry = y.entry;
              stands = y.stands;
              one_type = y.reads.by_is ∙ sym x.reads.by_is;
              first = x.reads.to_is;
              second = y.reads.to_is;
            };
      }

  -- the numbers of types that bear trees opened alike have a kind in common
  open_alike_lem : {j k : ℕ} → OpenedAlike S j k → T (open_alike (get_or ways j 0) (get_or ways k 0))
  open_alike_lem {j} {k} o =
      let s = shared o in
      has_common (get_or ways j 0) (get_or ways k 0) s.kind (((exact j).exact s.kind).1 s.bears_j) (((exact k).exact s.kind).1 s.bears_k)

  -- rival steps by different types are rivals, and leave live states
  pub steps_rivals : {p q j k : ℕ} → RivalSteps S a p q j k → j ≢ k
      → AreRivals (row_at p) (row_at q) j k × Live S a p × Live S a q
  steps_rivals s different =
      let c = counts s.step_j s.bears_j s.live_j in
      let e = counts s.step_k s.bears_k s.live_k in
      let x = has_entry c in
      let y = has_entry e in (
        record {
          entry = x.entry;
          stands = x.stands;
          by = x.reads.by_is;
          rival =
              record {
                entry = y.entry;
                stands = y.stands;
                by = y.reads.by_is;
                other =
                    record {
                      one_tag = y.reads.tag_is ∙ sym s.one_tag ∙ sym x.reads.tag_is;
                      different = λ same. different (sym x.reads.by_is ∙ sym same ∙ y.reads.by_is);
                      alike = rw (x.reads.ways_is, y.reads.ways_is) (open_alike_lem s.alike);
                    };
              };
        },
        from_live c,
        from_live e,
      )

  -- a trail to rivals ends in types that compete after its word
  pub trail_competes : {queue : List Found} {at j k : ℕ} → Useful S a → TrailToRivals row_at queue at j k
      → CompeteEither S a (word_to at queue at) j k
  trail_competes {queue} {at} {j} {k} u r =
      let lp : (found_at queue at).first < most_states = (inside r.trail at (omega arith)).0 in
      let lq : (found_at queue at).second < most_states = (inside r.trail at (omega arith)).1 in
      let w = trail_word r.trail in
      let x = r.rivals in
      record {
        different = λ e. x.rival.other.different (x.rival.by ∙ sym e ∙ sym x.by);
        rising = rivals_compete u.0 u.1 w.left w.right w.bear (rivals_steps lp lq x);
        falling = rivals_compete u.0 u.1 w.right w.left w.bear (rivals_steps lq lp (rivals_swap x));
        short = omega (arith, trail_short r.trail, r.trail.place_below);
      }

  -- where a closed set of pairs has no rivals, no types compete
  pub closed_restrained : {reached : List Bool} → ClosedPairs row_at reached → ¬ CompeteIn S a
  closed_restrained {reached} d = no_rivals {P = LivePair} closed free
    where
      -- the number of the pair is in the set, where both states are live
      LivePair : ℕ → ℕ → Type 0
      LivePair p q = Live S a p → Live S a q → T (get_or reached (pair_number p q) false)

      closed_step : {p q j p' q' : ℕ} → LivePair p q → Counts S a (step p j p') → Counts S a (step q j q')
          → T (get_or reached (pair_number p' q') false)
      closed_step {p} {q} {j} {p'} {q'} h c e = d.closed p q j p' q' (h (from_live c) (from_live e)) (counts_leading c e)

      closed : PairClosed S a LivePair
      closed =
          record {
            start = λ l k. d.first;
            step = λ p q j p' q' h m n b l k. closed_step h (counts m b l) (counts n b k);
          }

      free : (p q j k : ℕ) → LivePair p q → RivalSteps S a p q j k → ¬ (j ≢ k)
      free p q j k h s different =
          let r = steps_rivals s different in
          d.no_rivals p q (h r.1 r.2) j k r.0

-- no types compete in a number that is no type
pub outside_restrained : {S : Schema} {a : ℕ} → length S.blocks ≤ a → ¬ CompeteIn S a
outside_restrained {S} {a} l c =
    let end = c.compete.goes_on_j.word.accepting in
    Memᴰ.not-nil (rw (get_or-eq_default S.blocks no_block l) at end)
