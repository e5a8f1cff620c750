-- Every schema has an exact table of its reached types, so its useful types are decided, and it has a trimmed schema.
use mathlib.Core.Path.{◌≡◌, refl, sym, subst}
use mathlib.Core.Logic.{◌⊎◌, inl, inr}
use mathlib.Core.List.Memᴰ
use mathlib.Core.List.{List, ◌++◌, map, Memᴰ}
use Prim.Native.Nat.{ℕ}
use Rattle.sdtd.specs.Schema.{Step, Block, Schema, block_of}
use Rattle.sdtd.specs.Tree.{IsRoot}
use Rattle.sdtd.specs.Trim.{Bears, Live, Reached, Useful, Trimmed, TypeTests, trimmed_by_tests}
use Rattle.sdtd.proofs.Fixpoint.{Forward, ReachedClosed, reached_closed, reached_exact}
use Rattle.sdtd.proofs.Tests.{Means, means_iff, Decision, decision, eq_means, and_means, or_means, Found, any_means}
use Rattle.sdtd.proofs.Tests.{memb, memb_means}
use Rattle.sdtd.proofs.Trimmer.{tests_trim}
use Rattle.sdtd.proofs.Saturate.{built_sound, Saturated, saturate}
use Rattle.sdtd.proofs.Occurring.{gather, gathered}
use Rattle.sdtd.proofs.Decide.{in_table, bears_in}
use Rattle.sdtd.proofs.LiveStates.{live_table}
use Rattle.sdtd.proofs.StatePairs.{forward_decided}

-- the step of the type a is one by j in a word over tree-bearing types
abbrev StandsIn : Schema → ℕ → ℕ → Step → Type 0
StandsIn S j a s = ((j ≡ s.by) × Bears S s.by) × (Forward S a s.from × Live S a s.to)

stands_in : (S : Schema) (j a : ℕ) (s : Step) → Decision (StandsIn S j a s)
stands_in S j a s =
    let x = (live_table S).1 in
    let by_bearing = and_means (eq_means j s.by) (x.bears s.by) in
    decision (and_means by_bearing (and_means (forward_decided S a s.from).1 (x.live a s.to)))

-- j is a root type, or a type of the table has such a step
abbrev Derives : Schema → List ℕ → ℕ → Type 0
Derives S t j = IsRoot S j ⊎ Found (λ a. Found (StandsIn S j a) (block_of S a).steps) t

derives : (S : Schema) (t : List ℕ) (j : ℕ) → Decision (Derives S t j)
derives S t j =
    decision (or_means (memb_means j S.roots) (any_means (λ a. any_means (λ s. (stands_in S j a s).1) (block_of S a).steps) t))

abbrev step_types : ℕ → Block → List ℕ
step_types a b = map (λ s. s.by) b.steps

-- the root types, and the types of all steps
abbrev occurring_types : Schema → List ℕ
occurring_types S = S.roots ++ gather step_types S.blocks

-- what is derived from reached types is reached
derived_reached : (S : Schema) (t : List ℕ) (j : ℕ) → ((a : ℕ) → Memᴰ a t → Reached S a) → Derives S t j → Reached S j
derived_reached S t j below (inl e) = reached_closed.root j e
derived_reached S t j below (inr f) =
    let a = f.member in
    let g = f.holds in
    let b = g.holds.0 in
    let l = g.holds.1 in
    subst (Reached S) (sym b.0) (reached_closed.step a g.member (below a f.given) g.given l.0 b.1 l.1)

module _ (S : Schema) (r : Saturated (λ t j. (derives S t j).0) (occurring_types S)) where
  closed : ReachedClosed S (λ a. Memᴰ a r.table)
  closed =
      let m = derives S r.table in
      record {
        root = λ a e. r.closed a (Memᴰ.append_left (gather step_types S.blocks) e) ((m a).1.passes (inl e));
        step = λ a s h k f b l.
            r.closed s.by
            (Memᴰ.append_right S.roots (gathered step_types (λ n. refl) S.blocks a (Memᴰ.map (λ s. s.by) k)))
            ((m s.by).1.passes (inr (record {
              member = a;
              given = h;
              holds = record { member = s; given = k; holds = ((refl, b), (f, l)) };
            })));
      }

  sound : (a : ℕ) → Memᴰ a r.table → Reached S a
  sound = built_sound (Reached S) (λ t j below d. derived_reached S t j below ((derives S t j).1.says d)) r.built

pub reached_table : (S : Schema) → (t : List ℕ) × ((a : ℕ) → Means (memb a t) (Reached S a))
reached_table S =
    let r = saturate (λ t j. (derives S t j).0) (occurring_types S) in
    (r.table, λ a. means_iff (memb_means a r.table) (reached_exact (closed S r) (sound S r) a))

pub useful_decided : (S : Schema) (a : ℕ) → Decision (Useful S a)
useful_decided S a = decision (and_means ((reached_table S).1 a) ((live_table S).1.bears a))

-- so every schema has a trimmed one
pub trimmed_exists : (S : Schema) → (S' : Schema) × Trimmed S S'
trimmed_exists S =
    let r = reached_table S in
    let l = live_table S in
    let t : TypeTests = record { reached = λ a. memb a r.0; bears = bears_in S l.0; live = in_table l.0 } in
    (trimmed_by_tests t S, tests_trim (record { reached = r.1; bears = l.1.bears; live = l.1.live }))
