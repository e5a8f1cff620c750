-- Each call keeps a reading inside the limits.
use Rattle.sdtd.specs.Answer.{refused}
use mathlib.Core.Path.{◌≡◌, sym, subst, ◌∙◌}
use mathlib.Core.Logic.{◌⊎◌, inl, inr}
use mathlib.Core.List.{List}
use Prim.Native.Nat.{ℕ, zero, suc, pred, ◌≤◌, ◌<◌}
use native.Mathlib.Decide.{ℕ_discrete}
use native.Mathlib.Omega.{arith}
use lib.Dec.{T}
use lib.ListN.{length, get_or, set, length-set}
use lib.Seq.{get_or-set_same, get_or-set_other}
use Rattle.sdtd.specs.Limits.{most_levels}
use Rattle.sdtd.specs.Schema.{Schema as Meaning}
use Rattle.sdtd.specs.Schema.{block_of}
use Rattle.sdtd.specs.Tree.{Kind, plain, nil}
use Rattle.sdtd.specs.Document.{Event, opening, closing, finish}
use Rattle.sdtd.specs.Trim.{Live}
use Rattle.sdtd.proofs.Bearing.{by_bears}
use Rattle.sdtd.proofs.Within.{bears_within, live_within, block_within}
use Rattle.schema.specs.States.{member}
use Rattle.schema.proofs.Bits.{member_none, member_start}
use Rattle.reading.specs.declared.value.Reading.{Reading}
use Rattle.reading.specs.Levels.{inner_type, LevelWithin, Within}
use Rattle.reading.specs.Questions.{gives, first_set, sets_after, closed, after_finish, OpeningTaken, CallMeans, Next}
use Rattle.reading.proofs.Keeping.{Sized, opened_sized, closed_sized}

-- a reading inside the limits, whose two lists have `most_levels` levels
abbrev Kept : Meaning → Reading → Type 0
Kept S r = Within S r × (length r.types ≡ most_levels) × (length r.sets ≡ most_levels)

-- a level by numbers equal to its own
same_level : {S : Meaning} {a b set set' : ℕ} → b ≡ a → set' ≡ set → LevelWithin S a set → LevelWithin S b set'
same_level e f k = rw (e, f) k

-- the levels after an opening, by the new one and the one that it stands in
levels_kept : {S : Meaning} (κ : Kind) (types sets : List ℕ) (n j kept : ℕ) → n < length types → n < length sets → LevelWithin S j (first_set κ)
    → ((m : ℕ) → suc m ≡ n → LevelWithin S (get_or types m 0) kept)
    → ((m : ℕ) → m < n → LevelWithin S (get_or types m 0) (get_or sets m 0))
    → (m : ℕ) → m < suc n → LevelWithin S (get_or (set types n j) m 0) (get_or (sets_after κ sets n kept) m 0)
levels_kept κ types sets zero j kept ht hs new inner old m h =
    let e : m ≡ 0 = omega arith in
    rw e (same_level (get_or-set_same types 0 j 0 ht) (get_or-set_same sets 0 (first_set κ) 0 hs) new)
levels_kept κ types sets (suc n) j kept ht hs new inner old m h =
    let long : suc n < length (set sets n kept) = rw length-set hs in
    elim (ℕ_discrete m (suc n)) [
      | yes e ↦ rw e (same_level (get_or-set_same types (suc n) j 0 ht) (get_or-set_same (set sets n kept) (suc n) (first_set κ) 0 long) new)
      | no d ↦
          let other = get_or-set_other (set sets n kept) (suc n) m (first_set κ) 0 d in
          let type = get_or-set_other types (suc n) m j 0 d in
          elim (ℕ_discrete m n) [
            | yes e ↦ same_level type (other ∙ rw e (get_or-set_same sets n kept 0 (omega arith))) (inner m (omega arith))
            | no f ↦ same_level type (other ∙ get_or-set_other sets n m kept 0 f) (old m (omega arith))
          ]
    ]

pred_below : (n m : ℕ) → m < pred n → m < n
pred_below zero m h = h
pred_below (suc n) m h = omega arith

-- the states of a new element's set are below the count
first_below : (κ : Kind) (q : ℕ) {n : ℕ} → 1 ≤ n → T (member q (first_set κ)) → q < n
first_below plain q l m = omega (arith, (member_start q).0 m)
first_below nil q l m = absurd (member_none q m)

module _ {S : Meaning} {r : Reading} (k : Kept S r) where
  sized : Sized r
  sized = record { depth = k.0.reading.depth; types = k.1; sets = k.2 }

  opening_kept : {κ : Kind} {g : ℕ} {n : Next} → r.depth < most_levels → OpeningTaken S r κ g n → Kept S n.reading
  opening_kept {κ} {g} {n} h t =
      let b = bears_within k.0.schema (by_bears κ t.can_open.bears) in
      let new : LevelWithin S t.type (first_set κ) =
      record { type = b.0; states = λ q m. first_below κ q b.1.states_least m } in
      let inner : (m : ℕ) → suc m ≡ r.depth → LevelWithin S (get_or r.types m 0) t.kept =
      λ m e.
      record {
        type = (k.0.reading.levels m (omega arith)).type;
        states = λ q i. rw (← (innermost m e)) (below m e q ((t.keeps (omega arith) q).0 i).live);
      } in
      let after = opened_sized κ t.type t.kept h sized in
      subst (λ (m : Next). Kept S m.reading) (sym t.next) (
        record {
          schema = k.0.schema;
          reading =
              record {
                depth = after.depth;
                levels = levels_kept κ r.types r.sets r.depth t.type t.kept (omega (arith, k.1)) (omega (arith, k.2)) new inner k.0.reading.levels;
              };
        },
        after.types,
        after.sets,
      )
    where
      innermost : (m : ℕ) → suc m ≡ r.depth → inner_type r ≡ get_or r.types m 0
      innermost m e = rw (← e)

      below : (m : ℕ) → suc m ≡ r.depth → (q : ℕ) → Live S (inner_type r) q → q < (block_of S (inner_type r)).states
      below m e q l = live_within (block_within k.0.schema (rw (innermost m e) (k.0.reading.levels m (omega arith)).type)) l

  closing_kept : Kept S (closed r)
  closing_kept =
      let after = closed_sized sized in (
        record { schema = k.0.schema; reading = record { depth = after.depth; levels = λ m h. k.0.reading.levels m (pred_below r.depth m h) } },
        k.1,
        k.2,
      )

  ended_kept : Kept S (after_finish r)
  ended_kept = (record { schema = k.0.schema; reading = record { depth = k.0.reading.depth; levels = k.0.reading.levels } }, k.1, k.2)

  -- a question that is answered no leaves the reading
  asked : {i : ℕ} {P R : Type 0} {n : Next} → (P → R → Kept S n.reading) → ((¬ P) × (n ≡ gives (refused i) r)) ⊎ (P × R)
      → Kept S n.reading
  asked next (inl o) = subst (λ (m : Next). Kept S m.reading) (sym o.1) k
  asked next (inr o) = next o.0 o.1

-- by an equal answer
by_equal : {S : Meaning} {m n : Next} → Kept S m.reading → n ≡ m → Kept S n.reading
by_equal {S} h e = subst (λ (m : Next). Kept S m.reading) (sym e) h

-- Whatever call is made, a reading inside the limits stays inside.
pub within_kept : (S : Meaning) (r : Reading) (x : Event) (n : Next) → Within S r → length r.types ≡ most_levels → length r.sets ≡ 64
    → CallMeans S r x n → Within S n.reading × (length n.reading.types ≡ most_levels) × (length n.reading.sets ≡ most_levels)
within_kept S r (opening κ g) n w t s =
    let k : Kept S r = (w, t, s) in
    asked k (λ a. asked k (λ b. asked k (λ c. asked k (λ d. asked k (λ e. opening_kept k e)))))
within_kept S r (closing g) n w t s =
    let k : Kept S r = (w, t, s) in
    asked k (λ a. asked k (λ b. asked k (λ c. asked k (λ d. asked k (λ e. asked k (λ f. by_equal (closing_kept k)))))))
within_kept S r finish n w t s =
    let k : Kept S r = (w, t, s) in
    asked k (λ a. asked k (λ b. asked k (λ c. by_equal (ended_kept k))))
