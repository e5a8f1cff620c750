-- The loop of the pair search: its invariant, and what holds at its end.
use mathlib.Core.Path.{◌≡◌, refl, sym, ◌∙◌}
use mathlib.Core.Logic.{⊎_elim}
use mathlib.Core.Bool.{Bool, true, false}
use mathlib.Core.List.{List}
use Prim.Native.Nat.{ℕ, zero, suc, ◌<◌, ◌≤◌}
use native.Mathlib.Decide.{dec_lt}
use native.Mathlib.Omega.{arith}
use lib.Dec.{T}
use lib.ListN.{length, get_or, set, replicate, length-set, length-replicate}
use lib.Seq.{get_or-set_same}
use Rattle.sdtd.specs.Limits.{most_pairs}
use Rattle.sdtd.specs.Competition.{pair_number}
use Rattle.sdtd.proofs.Pairs.{pair_swap_number, pair_either}
use Rattle.sdtd.proofs.Rounds.{count, count_set}
use Rattle.schema.specs.Rows.{ways_in}
use Rattle.competition.specs.Rows.{Leading}
use Rattle.competition.specs.Found.{start, started}
use Rattle.competition.specs.Marks.{Marks, marks, mark_rows}
use Rattle.competition.specs.declared.queue.Found.{Found}
use Rattle.competition.specs.declared.queue.Queue.{Queue}
use Rattle.competition.specs.Rivals.{AreRivals}
use Rattle.competition.specs.Queue.{Placed, NoRivals, ClosedPairs, TrailToRivals}
use Rattle.competition.proofs.WaysLaws.{alike_swap}
use Rattle.competition.proofs.Kept.{IsMarked, entry_at, entry_number, EntryLeads, Kept, set_marked}
use Rattle.competition.proofs.MarkGrowth.{Grows, Led, step_grows}

-- only the pair 0, 0, found from nothing
abbrev pub first_marks : List Bool → Queue → Marks
first_marks none queue = marks (set none 0 true) (started queue)

-- all that the pair p, q leads to is marked, and it has no rivals
pub record Done (rows : ℕ → List ℕ) (m : Marks) (p q : ℕ) : Type 0 where
  pub closed : (j p' q' : ℕ) → Leading (rows p) (rows q) j p' q' → IsMarked m (pair_number p' q')
  pub no_rivals : NoRivals rows p q

-- the pairs of the entries before the place `at` are done
pub record SearchInv (rows : ℕ → List ℕ) (at : ℕ) (m : Marks) : Type 0 where
  pub kept : Kept rows m
  pub before : at ≤ m.queue.count
  pub done : (i : ℕ) → i < at → Done rows m (entry_at m i).first (entry_at m i).second

-- at the start no pair is marked
no_mark : (n k : ℕ) → T (get_or (replicate n false) k false) → ⊥
no_mark zero k t = t
no_mark (suc n) zero t = t
no_mark (suc n) (suc k) t = no_mark n k t

none_counted : (n : ℕ) → count (replicate n false) ≡ 0
none_counted zero = refl
none_counted (suc n) = none_counted n

first_unmarked : (n : ℕ) → get_or (replicate n false) 0 false ≡ false
first_unmarked zero = refl
first_unmarked (suc n) = refl

-- then the pair 0, 0 is the only one
module _ (rows : ℕ → List ℕ) (n : ℕ) (full : n ≡ most_pairs) (queue : Queue) (sized : length queue.found ≡ most_pairs) where
  first_entry : get_or (set queue.found 0 start) 0 start ≡ start
  first_entry = get_or-set_same queue.found 0 start start (omega arith)

  first_counted : count (set (replicate n false) 0 true) ≡ 1
  first_counted =
      omega (
        arith,
        count_set (replicate n false) 0 (omega (arith, length-replicate n false)) (first_unmarked n),
        none_counted n,
      )

  first_marked : (i : ℕ) → i < 1 → IsMarked (first_marks (replicate n false) queue) (entry_number (get_or (set queue.found 0 start) i start))
  first_marked zero h =
      rw (first_entry, get_or-set_same (replicate n false) 0 true false (omega (arith, length-replicate n false))) tt
  first_marked (suc i) h = absurd (omega arith)

  first_placed : (k : ℕ) → IsMarked (first_marks (replicate n false) queue) k → Placed (set queue.found 0 start) 1 k
  first_placed k t =
      ⊎_elim
      (λ e. record { place = 0; place_below = omega arith; is = rw first_entry (sym e) })
      (λ u. absurd (no_mark n k u))
      (set_marked (replicate n false) 0 k t)

  first_kept : Kept rows (first_marks (replicate n false) queue)
  first_kept =
      record {
        reached_length = simp (length-set, length-replicate) full;
        queue_length = simp length-set sized;
        counted = first_counted;
        some = omega arith;
        most = omega arith;
        first = first_entry;
        marked = first_marked;
        placed = first_placed;
        linked = λ i p h. absurd (omega arith);
        led = λ i p h. absurd (omega arith);
        in_order = λ i p h. absurd (omega arith);
      }

-- of a pair the states change places
pub leading_swap : {left right : List ℕ} {j p q : ℕ} → Leading left right j p q → Leading right left j q p
leading_swap l =
    let o = l.other in
    record {
      entry = o.entry;
      stands = o.stands;
      by = o.one_type ∙ l.by;
      other = record { entry = l.entry; stands = l.stands; one_type = sym o.one_type; first = o.second; second = o.first };
    }

pub rivals_swap : {left right : List ℕ} {j k : ℕ} → AreRivals left right j k → AreRivals right left k j
rivals_swap r =
    let o = r.rival in
    record {
      entry = o.entry;
      stands = o.stands;
      by = o.by;
      rival =
          record {
            entry = r.entry;
            stands = r.stands;
            by = r.by;
            other =
                record {
                  one_tag = sym o.other.one_tag;
                  different = λ e. o.other.different (sym e);
                  alike = alike_swap (ways_in r.entry) (ways_in o.entry) o.other.alike;
                };
          };
    }

pub none_swap :
    (rows : ℕ → List ℕ) (p q : ℕ) → NoRivals rows p q → NoRivals rows q p
none_swap rows p q none j k r = none k j (rivals_swap r)

module _ {rows : ℕ → List ℕ} where
  pub search_first : (queue : Queue) → length queue.found ≡ most_pairs
      → SearchInv rows 0 (first_marks (replicate most_pairs false) queue)
  search_first queue h =
      record { kept = first_kept rows most_pairs refl queue h; before = omega arith; done = λ i l. absurd (omega arith) }

  -- a pair that is done stays done
  done_grows : {at : ℕ} {e : Found} {m m' : Marks} {New : ℕ → ℕ → Type 0} {p q : ℕ} → Grows rows at e m m' New
      → Done rows m p q → Done rows m' p q
  done_grows g d =
      record { closed = λ j p' q' l. g.marks (pair_number p' q') (d.closed j p' q' l); no_rivals = d.no_rivals }

  done_swap : {m : Marks} {p q : ℕ} → Done rows m p q → Done rows m q p
  done_swap {p = p} {q} d =
      record {
        closed = λ j p' q' l. rw (pair_swap_number p' q') (d.closed j q' p' (leading_swap l));
        no_rivals = none_swap rows p q d.no_rivals;
      }

  module _ {at : ℕ} {m : Marks} (inv : SearchInv rows at m) where
    -- the rows of the two states of the pair at the place `at`
    abbrev left : List ℕ
    left = rows (entry_at m at).first

    abbrev right : List ℕ
    right = rows (entry_at m at).second

    -- once its step is taken, the pair at the place `at` is done too
    now_done : {m' : Marks} → Grows rows at (entry_at m at) m m' (Led rows at (entry_at m at))
        → NoRivals rows (entry_at m at).first (entry_at m at).second
        → (i : ℕ) → i < suc at → Done rows m' (entry_at m' i).first (entry_at m' i).second
    now_done g none i h =
        elim (dec_lt i at) [
          | yes l ↦ rw (g.stay i (omega (arith, inv.before))) (done_grows g (inv.done i l))
          | no l ↦
              let last : i ≡ at = omega arith in
              rw (last, g.ready.here) (record { closed = λ j p q l. g.new p q (j, l); no_rivals = none })
        ]

    -- all that the entries before the place `at` lead to stands in the queue
    earlier_placed : (h : ℕ) → h < at → EntryLeads rows m m.queue.count h
    earlier_placed h l j p q x = inv.kept.placed (pair_number p q) ((inv.done h l).closed j p q x)

    pub search_next : at < m.queue.count → NoRivals rows (entry_at m at).first (entry_at m at).second
        → SearchInv rows (suc at) (mark_rows left right at m)
    search_next queued none =
        let g =
        step_grows rows at (entry_at m at) m (record { kept = inv.kept; queued = queued; here = refl; earlier_placed = earlier_placed }) in
        record { kept = g.ready.kept; before = g.ready.queued; done = now_done g none }

    -- at the end each marked pair is done
    done_marked : m.queue.count ≤ at → (p q : ℕ) → IsMarked m (pair_number p q) → Done rows m p q
    done_marked h p q t =
        let r = inv.kept.placed (pair_number p q) t in
        let e : Found = entry_at m r.place in
        pair_either {P = Done rows m} (λ x y. done_swap) e.first e.second p q r.is
        (inv.done r.place (omega (arith, r.place_below)))

    pub search_done : m.queue.count ≤ at → ClosedPairs rows m.reached
    search_done h =
        record {
          first = rw inv.kept.first at (inv.kept.marked 0 inv.kept.some);
          closed = λ p q j p' q' t l. (done_marked h p q t).closed j p' q' l;
          no_rivals = λ p q t. (done_marked h p q t).no_rivals;
        }

    pub search_rivals : {j k : ℕ} → at < m.queue.count → AreRivals left right j k → TrailToRivals rows m.queue.found at j k
    search_rivals h r =
        record {
          trail =
              record {
                place_below = omega (arith, inv.kept.most);
                first = (rw inv.kept.first, rw inv.kept.first);
                linked = λ i p l. inv.kept.linked i p (omega arith);
                led = λ i p l. inv.kept.led i p (omega arith);
                in_order = λ i p l. inv.kept.in_order i p (omega arith);
              };
          rivals = r;
          none_before = λ i l. (inv.done i l).no_rivals;
        }
