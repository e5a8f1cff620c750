-- Each question of a call is decided by a test, for any schema and any reading.
use mathlib.Core.Path.{◌≡◌, refl, sym, subst}
use mathlib.Core.Logic.{◌↔◌}
use mathlib.Core.List.Memᴰ
use mathlib.Core.List.{List, map, ◌++◌}
use Prim.Native.Nat.{ℕ}
use native.Mathlib.Decide.{dec_lt}
use native.Mathlib.Omega.{arith}
use lib.Dec.{T}
use lib.ListN.{length, get_or}
use Rattle.sdtd.specs.Limits.{most_levels}
use Rattle.sdtd.specs.Schema.{Step, Schema, block_of, tag_of}
use Rattle.sdtd.specs.Tree.{Kind}
use Rattle.sdtd.specs.Trim.{Live}
use Rattle.sdtd.proofs.Tests.{means_iff, Decision, decision, itself, eq_means, lt_means, le_means, true_means, false_means}
use Rattle.sdtd.proofs.Tests.{and_means, or_means, if_means, below_decided, Found, any_means, memb_means}
use Rattle.sdtd.proofs.Within.{limits_means}
use Rattle.sdtd.proofs.LiveStates.{live_table}
use Rattle.schema.specs.States.{member, no_states}
use Rattle.reading.specs.declared.value.Reading.{Reading}
use Rattle.reading.specs.Levels.{inner_type, inner_set, LevelWithin, LevelsWithin, Within}
use Rattle.reading.specs.Questions.{LeadsTo, CanOpen, Ends, Complete, RootOver}
use Rattle.reading.proofs.StateSets.{member_under}

-- 10
level_decided : (S : Schema) (a set : ℕ) → Decision (LevelWithin S a set)
level_decided S a set =
    let states = below_decided (λ q. decision (if_means (itself (member q set)) (lt_means q (block_of S a).states))) set in
    decision
    (means_iff (and_means (lt_means a (length S.blocks)) states.1) (
      λ w. (w.type, λ q l. w.states q),
      λ p. record { type = p.0; states = λ q m. p.1 q (member_under q set m) m },
    ))

levels_decided : (S : Schema) (r : Reading) → Decision (LevelsWithin S r)
levels_decided S r =
    let levels = below_decided (λ n. level_decided S (get_or r.types n 0) (get_or r.sets n no_states)) r.depth in
    decision
    (means_iff (and_means (le_means r.depth most_levels) levels.1) (
      λ w. (w.depth, w.levels),
      λ p. record { depth = p.0; levels = p.1 },
    ))

pub within_decided : (S : Schema) (r : Reading) → Decision (Within S r)
within_decided S r =
    decision
    (means_iff (and_means (limits_means S) (levels_decided S r).1) (
      λ w. (w.schema, w.reading),
      λ p. record { schema = p.0; reading = p.1 },
    ))

module _ (S : Schema) (r : Reading) where
  -- the step is by j to q, from the innermost set to a live state
  abbrev StepLeads : ℕ → ℕ → Step → Type 0
  StepLeads j q s = (T (member s.from (inner_set r)) × Live S (inner_type r) s.to) × ((s.by ≡ j) × (s.to ≡ q))

  steps_lead : (j q : ℕ) → LeadsTo S r j q ↔ Found (StepLeads j q) (block_of S (inner_type r)).steps
  steps_lead j q = (
    λ x.
        record { member = record { from = x.from; by = j; to = q }; given = x.step; holds = ((x.kept, x.live), (refl, refl)) },
    λ f.
        let h = f.holds in
        record {
          from = f.member.from;
          kept = h.0.0;
          step = Memᴰ.cast (λ i. record { from = f.member.from; by = sym h.1.0 i; to = sym h.1.1 i }) f.given;
          live = subst (Live S (inner_type r)) h.1.1 h.0.1;
        },
  )

  pub leads_decided : (j q : ℕ) → Decision (LeadsTo S r j q)
  leads_decided j q =
      let found = any_means
      (λ (s : Step).
      and_means
      (and_means (itself (member s.from (inner_set r))) ((live_table S).1.live (inner_type r) s.to))
      (and_means (eq_means s.by j) (eq_means s.to q)))
      (block_of S (inner_type r)).steps in
      decision (means_iff found (steps_lead j q))

  some_lead : (j : ℕ) → ((q : ℕ) × LeadsTo S r j q) ↔ Found (λ s. LeadsTo S r j s.to) (block_of S (inner_type r)).steps
  some_lead j = (
    λ p. record { member = record { from = p.1.from; by = j; to = p.0 }; given = p.1.step; holds = p.1 },
    λ f. (f.member.to, f.holds),
  )

  -- 13
  pub open_decided : (κ : Kind) (g j : ℕ) → Decision (CanOpen S r κ g j)
  open_decided κ g j =
      let leads = means_iff (any_means (λ s. (leads_decided j s.to).1) (block_of S (inner_type r)).steps) (some_lead j) in
      let inside = if_means (lt_means 0 r.depth) leads in
      let outside = if_means (eq_means r.depth 0) (and_means (memb_means j S.roots) (false_means r.rooted)) in
      let own = and_means ((live_table S).1.opens κ j) (eq_means (tag_of S j) g) in
      decision
      (means_iff (and_means own (and_means inside outside)) (
        λ c. ((c.bears, c.tag), (c.some_open, c.none_open)),
        λ p. record { bears = p.0.0; tag = p.0.1; some_open = p.1.0; none_open = p.1.1 },
      ))

  -- a type that can be opened is a root type or stands on a step of the innermost block
  abbrev on_steps : List ℕ
  on_steps = map (λ (s : Step). s.by) (block_of S (inner_type r)).steps

  abbrev candidates : List ℕ
  candidates = S.roots ++ on_steps

  candidate : (κ : Kind) (g : ℕ) → ((j : ℕ) × CanOpen S r κ g j) ↔ Found (CanOpen S r κ g) candidates
  candidate κ g = (
    λ p.
        record {
          member = p.0;
          given = elim (dec_lt 0 r.depth) [
            | yes l ↦ Memᴰ.append_right S.roots (Memᴰ.map (λ (s : Step). s.by) (p.1.some_open l).1.step)
            | no l ↦ Memᴰ.append_left on_steps (p.1.none_open (omega arith)).0
          ];
          holds = p.1;
        },
    λ f. (f.member, f.holds),
  )

  pub some_open_decided : (κ : Kind) (g : ℕ) → Decision ((j : ℕ) × CanOpen S r κ g j)
  some_open_decided κ g = decision (means_iff (any_means (λ j. (open_decided κ g j).1) candidates) (candidate κ g))

  -- 17
  ends_decided : Decision (Ends S r)
  ends_decided =
      decision
      (means_iff (any_means (λ q. itself (member q (inner_set r))) (block_of S (inner_type r)).accepting) (
        λ x. record { member = x.state; given = x.accepting; holds = x.kept },
        λ f. record { state = f.member; kept = f.holds; accepting = f.given },
      ))

  pub complete_decided : Decision (Complete S r)
  complete_decided =
      let empty = and_means (itself (block_of S (inner_type r)).nillable) (eq_means (inner_set r) no_states) in
      decision (or_means empty ends_decided.1)

-- 18
pub over_decided : (r : Reading) → Decision (RootOver r)
over_decided r =
    decision
    (means_iff (and_means (true_means r.rooted) (eq_means r.depth 0)) (
      λ x. (x.opened, x.closed),
      λ p. record { opened = p.0; closed = p.1 },
    ))
