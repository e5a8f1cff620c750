-- Every type of a schema has an exact table of the pairs of its states that one word over tree-bearing types leads to.
use mathlib.Core.Path.{◌≡◌, refl, sym, subst₂}
use mathlib.Core.Logic.{◌↔◌, ◌⊎◌, inl, inr}
use mathlib.Core.List.Memᴰ
use mathlib.Core.List.{List, ◌∷◌, map, Memᴰ}
use Prim.Native.Nat.{ℕ}
use Rattle.sdtd.specs.Schema.{Step, step, Schema, block_of}
use Rattle.sdtd.specs.Trim.{Bears}
use Rattle.sdtd.proofs.Fixpoint.{Forward, PairReached, PairClosed, pair_closed, pair_exact, forward_pair}
use Rattle.sdtd.proofs.Tests.{Means, means_iff, Decision, decision, eq_means, and_means, or_means, Found, any_means}
use Rattle.sdtd.proofs.Saturate.{built_sound, Saturated, saturate}
use Rattle.sdtd.proofs.Occurring.{crossed, in_crossed}
use Rattle.sdtd.proofs.Decide.{in_table, In, in_means}
use Rattle.sdtd.proofs.LiveStates.{live_table}

-- Two steps of the type a by one tree-bearing type lead to p' and q' from a pair of states with P.
pub record PairStep (S : Schema) (a : ℕ) (P : ℕ → ℕ → Type 0) (p' q' : ℕ) : Type 0 where
  pub p : ℕ
  pub q : ℕ
  pub by : ℕ
  pub before : P p q
  pub left : Memᴰ (step p by p') (block_of S a).steps
  pub right : Memᴰ (step q by q') (block_of S a).steps
  pub bears : Bears S by

module _ (S : Schema) (a : ℕ) {P : ℕ → ℕ → Type 0} (d : (p q : ℕ) → Decision (P p q)) (p' q' : ℕ) where
  -- the steps s and u are such
  abbrev LeadTo : Step → Step → Type 0
  LeadTo s u = ((s.by ≡ u.by) × Bears S s.by) × (P s.from u.from × ((p' ≡ s.to) × (q' ≡ u.to)))

  lead_to : (s u : Step) → Decision (LeadTo s u)
  lead_to s u =
      let by_one = and_means (eq_means s.by u.by) ((live_table S).1.bears s.by) in
      let enter = and_means (eq_means p' s.to) (eq_means q' u.to) in
      decision (and_means by_one (and_means (d s.from u.from).1 enter))

  found_steps : PairStep S a P p' q' ↔ Found (λ s. Found (LeadTo s) (block_of S a).steps) (block_of S a).steps
  found_steps = (
    λ r.
        record {
          member = step r.p r.by p';
          given = r.left;
          holds = record { member = step r.q r.by q'; given = r.right; holds = ((refl, r.bears), (r.before, (refl, refl))) };
        },
    λ f.
        let s = f.member in
        let u = f.holds.member in
        let by_one = f.holds.holds.0 in
        let enter = f.holds.holds.1.1 in
        record {
          p = s.from;
          q = u.from;
          by = s.by;
          before = f.holds.holds.1.0;
          left = Memᴰ.cast (λ i. step s.from s.by (enter.0 i)) f.given;
          right = Memᴰ.cast (λ i. step u.from (by_one.0 i) (enter.1 i)) f.holds.given;
          bears = by_one.1;
        },
  )

  -- where P is decided, so is that
  pub pair_step : Decision (PairStep S a P p' q')
  pair_step =
      let steps = (block_of S a).steps in
      decision (means_iff (any_means (λ s. any_means (λ u. (lead_to s u).1) steps) steps) found_steps)

-- the pair e is that of the start state twice, or such steps lead to it from a pair of the table
abbrev Derives : Schema → ℕ → List (ℕ × ℕ) → ℕ × ℕ → Type 0
Derives S a t e = ((e.0 ≡ 0) × (e.1 ≡ 0)) ⊎ PairStep S a (In t) e.0 e.1

derives : (S : Schema) (a : ℕ) (t : List (ℕ × ℕ)) (e : ℕ × ℕ) → Decision (Derives S a t e)
derives S a t e =
    let start = and_means (eq_means e.0 0) (eq_means e.1 0) in
    decision (or_means start (pair_step S a (λ p q. decision (in_means t p q)) e.0 e.1).1)

-- the pairs of states that steps enter, and that of the start state twice
abbrev entered : List Step → List (ℕ × ℕ)
entered steps = (0, 0) ∷ crossed (map (λ s. s.to) steps) (map (λ s. s.to) steps)

-- what is derived from reached pairs is reached
derived_reached : (S : Schema) (a : ℕ) (t : List (ℕ × ℕ)) (e : ℕ × ℕ)
    → ((f : ℕ × ℕ) → Memᴰ f t → PairReached S a f.0 f.1) → Derives S a t e → PairReached S a e.0 e.1
derived_reached S a t e below (inl h) = subst₂ (PairReached S a) (sym h.0) (sym h.1) pair_closed.start
derived_reached S a t e below (inr r) =
    pair_closed.step r.p r.q r.by e.0 e.1 (below (r.p, r.q) r.before) r.left r.right r.bears

module _ (S : Schema) (a : ℕ) (r : Saturated (λ t e. (derives S a t e).0) (entered (block_of S a).steps)) where
  closed : PairClosed S a (In r.table)
  closed =
      let m = derives S a r.table in
      record {
        start = r.closed (0, 0) (Memᴰ.head refl) ((m (0, 0)).1.passes (inl (refl, refl)));
        step = λ p q j p' q' h k l b.
            r.closed (p', q') (Memᴰ.tail (in_crossed (Memᴰ.map (λ s. s.to) k) (Memᴰ.map (λ s. s.to) l)))
            ((m (p', q')).1.passes (inr (record { p = p; q = q; by = j; before = h; left = k; right = l; bears = b })));
      }

  sound : (p q : ℕ) → In r.table p q → PairReached S a p q
  sound p q =
      built_sound (λ e. PairReached S a e.0 e.1)
      (λ t e below d. derived_reached S a t e below ((derives S a t e).1.says d)) r.built (p, q)

pub pair_table : (S : Schema) (a : ℕ) → (t : List (ℕ × ℕ)) × ((p q : ℕ) → Means (in_table t p q) (PairReached S a p q))
pair_table S a =
    let r = saturate (λ t e. (derives S a t e).0) (entered (block_of S a).steps) in
    (r.table, λ p q. means_iff (in_means r.table p q) (pair_exact (closed S a r) (sound S a r) p q))

-- so it is decided which states words over tree-bearing types lead to
pub forward_decided : (S : Schema) (a p : ℕ) → Decision (Forward S a p)
forward_decided S a p = decision (means_iff ((pair_table S a).1 p p) forward_pair)
