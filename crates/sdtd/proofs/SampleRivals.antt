-- Which types compete in the type 0 of the fourth and of the sixth sample's schema, and after which words.
use mathlib.Core.Path.{◌≡◌, refl, sym, ap, subst}
use mathlib.Core.Logic.{◌⊎◌, inl, inr, ⊎_elim}
use mathlib.Core.List.Memᴰ
use mathlib.Core.List.{List, [], ◌∷◌, ◌++◌, Memᴰ}
use Prim.Native.Nat.{ℕ, suc, ◌≤◌, ◌<◌}
use native.Mathlib.Omega.{arith}
use lib.Dec.{lit≤}
use lib.ListN.{length}
use Rattle.sdtd.specs.Schema.{Step, block_of, Leads}
use Rattle.sdtd.specs.Competition.{Compete}
use Rattle.sdtd.specs.Samples.{schema_choice, schema_two_ways}
use Rattle.sdtd.proofs.Automata.{first_step}

-- the property of each step of the list
abbrev EachStep : (Step → Type 0) → List Step → Type 0
EachStep P [] = Unit
EachStep P (s ∷ ss) = P s × EachStep P ss

each_step : (P : Step → Type 0) {s : Step} (ss : List Step) → EachStep P ss → Memᴰ s ss → P s
each_step P [] e m = absurd (Memᴰ.not-nil m)
each_step P (t ∷ ss) e m = ⊎_elim (λ q. subst P (sym q) e.0) (each_step P ss e.1) (Memᴰ.cases_cons m)

-- the fourth's steps
choice_step : {p j q : ℕ} → Memᴰ (record { from = p; by = j; to = q }) (block_of schema_choice 0).steps
    → (p ≡ 0) × (q ≡ 1) × (1 ≤ j) × (j ≤ 2)
choice_step m =
    each_step (λ s. (s.from ≡ 0) × (s.to ≡ 1) × (1 ≤ s.by) × (s.by ≤ 2)) (block_of schema_choice 0).steps
    ((refl, refl, lit≤ tt, lit≤ tt), ((refl, refl, lit≤ tt, lit≤ tt), tt)) m

-- a way that is not empty starts at state 0
choice_from : {p r : ℕ} (w : List ℕ) (j : ℕ) (u : List ℕ) → Leads (block_of schema_choice 0) p (w ++ (j ∷ u)) r → p ≡ 0
choice_from [] j u l = (choice_step (first_step l).step).0
choice_from (x ∷ w) j u l = (choice_step (first_step l).step).0

choice_way : {r : ℕ} (w : List ℕ) (j : ℕ) (u : List ℕ) → Leads (block_of schema_choice 0) 0 (w ++ (j ∷ u)) r → (w ≡ []) × (1 ≤ j) × (j ≤ 2)
choice_way [] j u l = let k = choice_step (first_step l).step in (refl, k.2, k.3)
choice_way (x ∷ w) j u l =
    let s = first_step l in
    absurd (omega (arith, (choice_step s.step).1, choice_from w j u s.back))

pub choice_only : (w : List ℕ) (j k : ℕ) → Compete schema_choice 0 w j k → (w ≡ []) × (j ≡ 1) × (k ≡ 2)
choice_only w j k c =
    let m = choice_way w j c.goes_on_j.rest c.goes_on_j.word.leads in
    let n = choice_way w k c.goes_on_k.rest c.goes_on_k.word.leads in
    (m.0, omega (arith, c.order), omega (arith, c.order))

-- the sixth's steps: by type 1 from state 0 to 1 or 2, and by the type after the state from there to 3
abbrev WaysStep : ℕ → ℕ → ℕ → Type 0
WaysStep p j q = ((p ≡ 0) × (j ≡ 1) × (1 ≤ q) × (q ≤ 2)) ⊎ ((1 ≤ p) × (p ≤ 2) × (j ≡ suc p) × (q ≡ 3))

ways_step : {p j q : ℕ} → Memᴰ (record { from = p; by = j; to = q }) (block_of schema_two_ways 0).steps → WaysStep p j q
ways_step m =
    each_step (λ s. WaysStep s.from s.by s.to) (block_of schema_two_ways 0).steps (
      inl (refl, refl, lit≤ tt, lit≤ tt),
      (inl (refl, refl, lit≤ tt, lit≤ tt), (inr (lit≤ tt, lit≤ tt, refl, refl), (inr (lit≤ tt, lit≤ tt, refl, refl), tt))),
    ) m

ways_from : {p r : ℕ} (w : List ℕ) (j : ℕ) (u : List ℕ) → Leads (block_of schema_two_ways 0) p (w ++ (j ∷ u)) r → p ≤ 2
ways_from [] j u l = ⊎_elim (λ k. omega arith) (λ k. omega arith) (ways_step (first_step l).step)
ways_from (x ∷ w) j u l = ⊎_elim (λ k. omega arith) (λ k. omega arith) (ways_step (first_step l).step)

-- after its first type the way is at state 1 or 2
ways_next : {p r : ℕ} (w : List ℕ) (j : ℕ) (u : List ℕ) → 1 ≤ p → Leads (block_of schema_two_ways 0) p (w ++ (j ∷ u)) r
    → (w ≡ []) × (2 ≤ j) × (j ≤ 3)
ways_next [] j u h l = ⊎_elim (λ k. absurd (omega arith)) (λ k. (refl, omega arith, omega arith)) (ways_step (first_step l).step)
ways_next (x ∷ w) j u h l =
    let s = first_step l in
    let below = ways_from w j u s.back in
    ⊎_elim (λ k. absurd (omega arith)) (λ k. absurd (omega arith)) (ways_step s.step)

abbrev WaysWay : List ℕ → ℕ → Type 0
WaysWay w j = ((w ≡ []) × (j ≡ 1)) ⊎ ((w ≡ 1 ∷ []) × (2 ≤ j) × (j ≤ 3))

ways_way : {r : ℕ} (w : List ℕ) (j : ℕ) (u : List ℕ) → Leads (block_of schema_two_ways 0) 0 (w ++ (j ∷ u)) r → WaysWay w j
ways_way [] j u l = ⊎_elim (λ k. inl (refl, k.1)) (λ k. absurd (omega arith)) (ways_step (first_step l).step)
ways_way (x ∷ w) j u l =
    let s = first_step l in
    ⊎_elim (λ k. let n = ways_next w j u k.2 s.back in inr (λ i. k.1 i ∷ n.0 i, n.1, n.2)) (λ k. absurd (omega arith))
    (ways_step s.step)

pub ways_only : (w : List ℕ) (j k : ℕ) → Compete schema_two_ways 0 w j k → (w ≡ 1 ∷ []) × (j ≡ 2) × (k ≡ 3)
ways_only w j k c =
    both c.order (ways_way w j c.goes_on_j.rest c.goes_on_j.word.leads)
    (ways_way w k c.goes_on_k.rest c.goes_on_k.word.leads)
  where
    both : {w : List ℕ} {j k : ℕ} → j < k → WaysWay w j → WaysWay w k → (w ≡ 1 ∷ []) × (j ≡ 2) × (k ≡ 3)
    both h (inl m) (inl n) = absurd (omega arith)
    both h (inl m) (inr n) = absurd (omega (arith, ap length m.0, ap length n.0))
    both h (inr m) (inl n) = absurd (omega arith)
    both h (inr m) (inr n) = (m.0, omega arith, omega arith)
