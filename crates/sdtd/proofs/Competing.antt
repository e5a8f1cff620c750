-- It is decided in which types two types compete, so whether there is competition in a schema at all.
use mathlib.Core.Path.{◌≡◌}
use mathlib.Core.Logic.{◌↔◌, ◌⊎◌, inl, inr, ⊎_elim, ◌≢◌}
use Prim.Native.Nat.{ℕ}
use Rattle.sdtd.specs.Schema.{Step, step, Schema, block_of, tag_of}
use Rattle.sdtd.specs.Trim.{Bears, Live, Useful}
use Rattle.sdtd.specs.Competition.{OpenedAlike, CompeteIn, CompeteOutside, Competition, of_roots, in_type}
use Rattle.sdtd.proofs.Rivals.{RivalsIn, compete_in_exact}
use Rattle.sdtd.proofs.Tests.{means_iff, Decision, decision, decided, eq_means, and_means, or_means, not_means, Found, any_means}
use Rattle.sdtd.proofs.Tests.{memb_means}
use Rattle.sdtd.proofs.Decide.{alike_means}
use Rattle.sdtd.proofs.Roots.{rival_roots_means}
use Rattle.sdtd.proofs.LiveStates.{live_table}
use Rattle.sdtd.proofs.StatePairs.{pair_table}
use Rattle.sdtd.proofs.ReachedTypes.{reached_table, useful_decided}

module _ (S : Schema) (a : ℕ) {P : ℕ → ℕ → Type 0} (d : (p q : ℕ) → Decision (P p q)) where
  -- the steps leave a pair of states with P, by different tree-bearing types of one tag, opened alike, for live states
  abbrev AreRivals : Step → Step → Type 0
  AreRivals s u =
      (P s.from u.from × (s.by ≢ u.by))
      × (((tag_of S s.by ≡ tag_of S u.by) × OpenedAlike S s.by u.by) × ((Bears S s.by × Bears S u.by) × (Live S a s.to × Live S a u.to)))

  are_rivals : (s u : Step) → Decision (AreRivals s u)
  are_rivals s u =
      let x = (live_table S).1 in
      let different = and_means (d s.from u.from).1 (not_means (eq_means s.by u.by)) in
      let bear = and_means (x.bears s.by) (x.bears u.by) in
      let live = and_means (x.live a s.to) (x.live a u.to) in
      let one_tag = and_means (eq_means (tag_of S s.by) (tag_of S u.by)) (alike_means x s.by u.by) in
      decision (and_means different (and_means one_tag (and_means bear live)))

  -- two steps of a useful type are rivals
  abbrev RivalPair : Type 0
  RivalPair = Useful S a × Found (λ s. Found (AreRivals s) (block_of S a).steps) (block_of S a).steps

  rival_pair : RivalsIn S a P ↔ RivalPair
  rival_pair = (
    λ r.
        let v = r.rivals in (
          r.useful,
          record {
            member = step r.p r.j v.next_j;
            given = v.step_j;
            holds =
                record {
                  member = step r.q r.k v.next_k;
                  given = v.step_k;
                  holds = ((r.pair, r.different), ((v.one_tag, v.alike), ((v.bears_j, v.bears_k), (v.live_j, v.live_k))));
                };
          },
        ),
    λ p.
        let s = p.1.member in
        let f = p.1.holds in
        let u = f.member in
        let h = f.holds.1 in
        record {
          useful = p.0;
          p = s.from;
          q = u.from;
          j = s.by;
          k = u.by;
          pair = f.holds.0.0;
          rivals =
              record {
                next_j = s.to;
                next_k = u.to;
                step_j = p.1.given;
                step_k = f.given;
                one_tag = h.0.0;
                alike = h.0.1;
                bears_j = h.1.0.0;
                bears_k = h.1.0.1;
                live_j = h.1.1.0;
                live_k = h.1.1.1;
              };
          different = f.holds.0.1;
        },
  )

  -- where P is decided, so is it whether a pair with P has rival steps by different types
  pub rivals_decided : Decision (RivalsIn S a P)
  rivals_decided =
      let steps = (block_of S a).steps in
      let found = any_means (λ s. any_means (λ u. (are_rivals s u).1) steps) steps in
      decision (means_iff (and_means (useful_decided S a).1 found) rival_pair)

competes : (S : Schema) (a : ℕ) → Decision (CompeteIn S a)
competes S a = decision (means_iff (rivals_decided S a (λ p q. decision ((pair_table S a).1 p q))).1 compete_in_exact)

pub compete_decided : (S : Schema) (a : ℕ) → CompeteIn S a ⊎ (¬ CompeteIn S a)
compete_decided S a = decided (competes S a).1

pub outside_decided : (S : Schema) → CompeteOutside S ⊎ (¬ CompeteOutside S)
outside_decided S = decided (rival_roots_means (live_table S).1)

-- a type in which two compete is reached, so it is in the table of those
competition_found : (S : Schema) → Competition S ↔ (CompeteOutside S ⊎ Found (CompeteIn S) (reached_table S).0)
competition_found S = (there, back)
  where
    there : Competition S → CompeteOutside S ⊎ Found (CompeteIn S) (reached_table S).0
    there (of_roots o) = inl o
    there (in_type {a = a} c) =
        let t = reached_table S in
        inr (record { member = a; given = (memb_means a t.0).says ((t.1 a).passes c.compete.reached); holds = c })

    back : CompeteOutside S ⊎ Found (CompeteIn S) (reached_table S).0 → Competition S
    back (inl o) = of_roots o
    back (inr f) = in_type f.holds

pub competition_decided : (S : Schema) → Competition S ⊎ (¬ Competition S)
competition_decided S =
    let in_types = any_means (λ a. (competes S a).1) (reached_table S).0 in
    decided (means_iff (or_means (rival_roots_means (live_table S).1) in_types) (competition_found S))

pub restrained_decided : (S : Schema) → Dec (¬ Competition S)
restrained_decided S = ⊎_elim (λ c. no (λ n. n c)) (λ n. yes n) (competition_decided S)
