-- The queue of the pair search: what holds of its entries and marks, and that a pair joins it keeping that.
use mathlib.Core.Path.{◌≡◌, refl, sym, subst}
use mathlib.Core.Logic.{◌⊎◌, inl, inr, ⊎_elim}
use mathlib.Core.Bool.{Bool, true, false}
use mathlib.Core.List.{List, [], ◌∷◌}
use Prim.Native.Nat.{ℕ, zero, suc, ◌+◌, ◌<◌, ◌≤◌}
use native.Mathlib.Decide.{dec_lt}
use native.Mathlib.Omega.{arith}
use lib.Dec.{T}
use lib.ListN.{length, get_or, set, length-set}
use lib.Seq.{get_or-set_same, get_or-set_other}
use Rattle.sdtd.specs.Limits.{most_pairs}
use Rattle.sdtd.specs.Competition.{pair_number}
use Rattle.sdtd.proofs.Rounds.{count, count-le, count_set}
use Rattle.competition.specs.Found.{start, found_at}
use Rattle.competition.specs.Found.{joined as queue_joined}
use Rattle.competition.specs.Marks.{Marks, marks}
use Rattle.competition.specs.declared.queue.Found.{Found}
use Rattle.competition.specs.Queue.{LedTo, Placed, LeadsBefore}

-- the pair with the number n is marked
abbrev pub IsMarked : Marks → ℕ → Type 0
IsMarked m n = T (get_or m.reached n false)

-- the entry at a place, and the number of an entry's pair
abbrev pub entry_at : Marks → ℕ → Found
entry_at m i = found_at m.queue.found i

abbrev pub entry_number : Found → ℕ
entry_number e = pair_number e.first e.second

-- all pairs that the entry at the place h leads to stand in the queue before the place `end`
abbrev pub EntryLeads : (ℕ → List ℕ) → Marks → ℕ → ℕ → Type 0
EntryLeads rows m end h = LeadsBefore rows m.queue.found end (entry_at m h).first (entry_at m h).second

-- The marked numbers are those of the entries, each number once; the first entry is the pair 0, 0, and each other was found from an
-- earlier one, in the order of those.
pub record Kept (rows : ℕ → List ℕ) (m : Marks) : Type 0 where
  pub reached_length : length m.reached ≡ most_pairs
  pub queue_length : length m.queue.found ≡ most_pairs
  pub counted : count m.reached ≡ m.queue.count
  pub some : 0 < m.queue.count
  pub most : m.queue.count ≤ most_pairs
  pub first : entry_at m 0 ≡ start
  pub marked : (i : ℕ) → i < m.queue.count → IsMarked m (entry_number (entry_at m i))
  pub placed : (n : ℕ) → IsMarked m n → Placed m.queue.found m.queue.count n
  pub linked : (i : ℕ) → 0 < i → i < m.queue.count → (entry_at m i).parent < i
  pub led : (i : ℕ) → 0 < i → i < m.queue.count → LedTo rows m.queue.found (entry_at m i)
  pub in_order : (i : ℕ) → 0 < i → i < m.queue.count → (h : ℕ) → h < (entry_at m i).parent → EntryLeads rows m i h

-- a mark set leaves the others as they were
pub set_marks : (l : List Bool) (n k : ℕ) → T (get_or l k false) → T (get_or (set l n true) k false)
set_marks [] n k t = t
set_marks (b ∷ l) zero zero t = tt
set_marks (b ∷ l) zero (suc k) t = t
set_marks (b ∷ l) (suc n) zero t = t
set_marks (b ∷ l) (suc n) (suc k) t = set_marks l n k t

pub set_marked : (l : List Bool) (n k : ℕ) → T (get_or (set l n true) k false) → (k ≡ n) ⊎ T (get_or l k false)
set_marked [] n k t = inr t
set_marked (b ∷ l) zero zero t = inl refl
set_marked (b ∷ l) zero (suc k) t = inr t
set_marked (b ∷ l) (suc n) zero t = inr t
set_marked (b ∷ l) (suc n) (suc k) t = ⊎_elim (λ e. inl (omega arith)) (λ u. inr u) (set_marked l n k t)

-- the marks with one more pair, that of the number n and the entry e
abbrev pub joined : Marks → ℕ → Found → Marks
joined m n e = marks (set m.reached n true) (queue_joined m.queue e)

module _ {rows : ℕ → List ℕ} {m : Marks} (kept : Kept rows m) (n : ℕ) (e : Found) (is : entry_number e ≡ n)
    (below : n < most_pairs) (new : get_or m.reached n false ≡ false) where
  pub room : m.queue.count < most_pairs
  room =
      omega (
        arith,
        count-le (set m.reached n true),
        length-set m.reached n true,
        count_set m.reached n (omega (arith, kept.reached_length)) new,
        kept.reached_length,
        kept.counted,
      )

  pub old_entry : (i : ℕ) → i < m.queue.count → entry_at (joined m n e) i ≡ entry_at m i
  old_entry i h = get_or-set_other m.queue.found m.queue.count i e start (omega arith)

  new_entry : entry_at (joined m n e) m.queue.count ≡ e
  new_entry = get_or-set_same m.queue.found m.queue.count e start (omega (arith, room, kept.queue_length))

  pub new_mark : IsMarked (joined m n e) n
  new_mark = rw (get_or-set_same m.reached n true false (omega (arith, kept.reached_length))) tt

  -- what holds of the entries so far and of the new one holds of all
  each : (P : ℕ → Found → Type 0) → ((i : ℕ) → i < m.queue.count → P i (entry_at m i)) → P m.queue.count e
      → (i : ℕ) → i < m.queue.count + 1 → P i (entry_at (joined m n e) i)
  each P olds ne i h =
      elim (dec_lt i m.queue.count) [
        | yes l ↦ subst (P i) (sym (old_entry i l)) (olds i l)
        | no l ↦
            let is_last : m.queue.count ≡ i = omega arith in
            subst (λ (j : ℕ). P j (entry_at (joined m n e) j)) is_last (subst (P m.queue.count) (sym new_entry) ne)
      ]

  -- what stands in the queue stays there
  still_placed : {end to k : ℕ} → end ≤ m.queue.count → end ≤ to → Placed m.queue.found end k → Placed (joined m n e).queue.found to k
  still_placed h l r =
      record {
        place = r.place;
        place_below = omega (arith, r.place_below);
        is = rw (old_entry r.place (omega (arith, r.place_below))) r.is;
      }

  pub still_leads : {end to h : ℕ} → end ≤ m.queue.count → end ≤ to → h < m.queue.count → EntryLeads rows m end h
      → EntryLeads rows (joined m n e) to h
  still_leads {h = h} l k b f = rw (old_entry h b) (λ j p q x. still_placed l k (f j p q x))

  join_placed : (k : ℕ) → IsMarked (joined m n e) k → Placed (joined m n e).queue.found (m.queue.count + 1) k
  join_placed k t =
      ⊎_elim
      (λ same. record { place = m.queue.count; place_below = omega arith; is = rw new_entry (rw same is) })
      (λ u. still_placed (omega arith) (omega arith) (kept.placed k u))
      (set_marked m.reached n k t)

  module _ (parent : e.parent < m.queue.count) (new_led : LedTo rows m.queue.found e)
      (new_order : (h : ℕ) → h < e.parent → EntryLeads rows m m.queue.count h) where
    join_led : (i : ℕ) → i < m.queue.count + 1 → 0 < i → LedTo rows (joined m n e).queue.found (entry_at (joined m n e) i)
    join_led =
        each
        (λ i x. 0 < i → LedTo rows (joined m n e).queue.found x)
        (λ i h p. still (entry_at m i) (omega (arith, kept.linked i p h)) (kept.led i p h))
        (λ p. still e parent new_led)
      where
        still : (x : Found) → x.parent < m.queue.count → LedTo rows m.queue.found x
            → LedTo rows (joined m n e).queue.found x
        still x h f = rw (old_entry x.parent h) f

    join_order : (i : ℕ) → i < m.queue.count + 1 → 0 < i → (h : ℕ) → h < (entry_at (joined m n e) i).parent
        → EntryLeads rows (joined m n e) i h
    join_order =
        each
        (λ i x. 0 < i → (h : ℕ) → h < x.parent → EntryLeads rows (joined m n e) i h)
        (λ i l p h b.
        still_leads (omega arith) (omega arith) (omega (arith, kept.linked i p l)) (kept.in_order i p l h b))
        (λ p h b. still_leads (omega arith) (omega arith) (omega (arith, parent)) (new_order h b))

    pub join_kept : Kept rows (joined m n e)
    join_kept =
        record {
          reached_length = simp length-set kept.reached_length;
          queue_length = simp length-set kept.queue_length;
          counted = omega (arith, count_set m.reached n (omega (arith, kept.reached_length)) new, kept.counted);
          some = omega arith;
          most = omega (arith, room);
          first = rw (old_entry 0 kept.some) kept.first;
          marked =
              each
              (λ i x. IsMarked (joined m n e) (entry_number x))
              (λ i h. set_marks m.reached n (entry_number (entry_at m i)) (kept.marked i h))
              (rw is new_mark);
          placed = join_placed;
          linked = λ i p h. each (λ j x. 0 < j → x.parent < j) (λ j l z. kept.linked j z l) (λ z. parent) i h p;
          led = λ i p h. join_led i h p;
          in_order = λ i p h. join_order i h p;
        }
