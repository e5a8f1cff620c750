-- Laws of the rounds of trimming: what is left of a round, what a round keeps and adds, and that rounds end.
use mathlib.Core.Path.{◌≡◌, refl, sym, ap, ◌∙◌}
use mathlib.Core.Logic.{◌≢◌}
use mathlib.Core.List.{List, ◌∷◌, ◌++◌, append_assoc}
use Prim.Native.Nat.{ℕ, zero, suc, ◌+◌, ◌-◌, ◌^◌, ◌≤◌, ◌<◌}
use native.Mathlib.Numerals.{add-one}
use native.Mathlib.Decide.{ℕ_discrete}
use native.Mathlib.Omega.{arith}
use lib.ListN.{length, get_or, set, take, replicate}
use lib.Seq.{take-suc, set_at, length-take-le}
use Rattle.sdtd.specs.Limits.{most_types, most_states}
use Rattle.sdtd.specs.Schema.{Step}
use Rattle.schema.specs.Value.{steps_of, step_at, offset}
use Rattle.schema.specs.Spread.{spread_set, settle_set, iterate, Settled, start_states}
use Rattle.schema.proofs.Bits.{absent, absent_all, absent_falls, absent_in, absent_in_falls}
use Rattle.schema.proofs.Values.{steps_cons, offset_step, offset_up}
use Rattle.schema.proofs.SpreadLaws.{set_grown, Sets, Growth}

-- the steps left are the one at i and those after it
pub steps_left : (from by to : List ℕ) (i end : ℕ) → i < end
    → steps_of from by to i (end - i) ≡ step_at from by to i ∷ steps_of from by to (i + 1) (end - (i + 1))
steps_left from by to i end l =
    let e : end - i ≡ suc (end - (i + 1)) = omega arith in
    rw (e, steps_cons, add-one i)

-- the place of the next type's first step, also past the end of the counts
pub offset_more : (steps : List ℕ) (a s : ℕ) → s ≡ offset steps a → s + get_or steps a 0 ≡ offset steps (a + 1)
offset_more steps a s e = rw (add-one, offset_step, e)

-- the steps of a type lie before the end of all
pub steps_fit : (steps : List ℕ) (a types : ℕ) → a < types → offset steps a + get_or steps a 0 ≤ offset steps types
steps_fit steps a types l = omega (arith, offset_step steps a, offset_up steps (suc a) types l)

-- one more entry of xs in front of the filler
pub fill_next : {A : Type 0} (xs : List A) (i n : ℕ) (d e : A) → i < length xs → i < n
    → set (take i xs ++ replicate (n - i) d) i (get_or xs i e) ≡ take (i + 1) xs ++ replicate (n - (i + 1)) d
fill_next xs i n d e l m =
    let q : n - i ≡ suc (n - (i + 1)) = omega arith in
    let t : length (take i xs) ≡ i = length-take-le i xs (omega arith) in
    rw (q, set_at _ _ _ _ i t, add-one i, take-suc xs i e l, append_assoc)

start_below : (n a : ℕ) → get_or (replicate n 1) a 0 < 2 ^ most_states
start_below zero a = omega arith
start_below (suc n) zero = omega arith
start_below (suc n) (suc a) = start_below n a

pub start_sets : Sets start_states
start_sets = record { long = refl; below = start_below most_types }

-- a table that grew and is not the same has fewer states absent
pub growth_falls : (t u : List ℕ) → Sets t → Growth t u → u ≢ t → absent_in u < absent_in t
growth_falls t u h g d =
    absent_in_falls t u (h.long ∙ sym g.sets.long) h.below g.sets.below g.more (λ e. d (sym e))

iterate_more : {A : Type 0} (round : A → A) (n : ℕ) (t : A) → round (iterate round n t) ≡ iterate round (suc n) t
unfolding iterate
iterate_more round zero t = refl
iterate_more round (suc n) t = iterate_more round n (round t)

iterate_still : {A : Type 0} (round : A → A) (n : ℕ) (t : A) → round t ≡ t → iterate round n t ≡ t
unfolding iterate
iterate_still round zero t e = refl
iterate_still round (suc n) t e = ap (iterate round n) e ∙ iterate_still round n t e

-- one set: the steps of its type gone over until they add nothing
module _ (bears : List ℕ) (ss : List Step) where
  -- where they add a state, one less is absent
  set_falls : (x : ℕ) → x < 2 ^ most_states → spread_set bears ss x ≢ x → absent (spread_set bears ss x) < absent x
  set_falls x b d =
      let g = set_grown bears ss x b in
      absent_falls x (spread_set bears ss x) b g.below g.grown (λ e. d (sym e))

  -- gone over n times they add nothing, where no more than n states are absent
  again_settles : (n x : ℕ) → x < 2 ^ most_states → absent x ≤ n
      → spread_set bears ss (iterate (spread_set bears ss) n x) ≡ iterate (spread_set bears ss) n x
  unfolding iterate
  again_settles zero x b l =
      elim (ℕ_discrete (spread_set bears ss x) x) [ yes e ↦ e | no d ↦ absurd (omega (arith, set_falls x b d)) ]
  again_settles (suc n) x b l =
      elim (ℕ_discrete (spread_set bears ss x) x) [
        | yes e ↦ rw (e, iterate_still (spread_set bears ss) n x e) e
        | no d ↦ again_settles n (spread_set bears ss x) (set_grown bears ss x b).below (omega (arith, set_falls x b d))
      ]

  -- a turn of the loop, that it ends, and where it is left
  pub settle_first : (x y : ℕ) → x < 2 ^ most_states → y ≡ spread_set bears ss x → settle_set bears ss y ≡ settle_set bears ss x
  unfolding settle_set iterate
  settle_first x y b e =
      ap (iterate (spread_set bears ss) most_states) e ∙ sym (iterate_more (spread_set bears ss) most_states x)
      ∙ again_settles most_states x b (absent_all x)

  pub settle_less : (x y : ℕ) → x < 2 ^ most_states → y ≡ spread_set bears ss x → y ≢ x → absent y < absent x
  settle_less x y b e d = rw e (set_falls x b (λ q. d (e ∙ q)))

  pub settle_last : (x y : ℕ) → y ≡ spread_set bears ss x → y ≡ x → settle_set bears ss x ≡ x
  unfolding settle_set
  settle_last x y e q = iterate_still (spread_set bears ss) most_states x (sym e ∙ q)

-- A loop over rounds: a good table, after some rounds.
pub record Turn {A : Type 0} (Good : List A → Type 0) (round : List A → List A) (first last : List A) : Type 0 where
  pub good : Good last
  pub rounds : ℕ
  pub after : last ≡ iterate round rounds first

module _ {A : Type 0} (Good : List A → Type 0) (round : List A → List A) where
  -- where the loop begins, where a turn ends, and where the loop is left
  pub turn_first : (t : List A) → Good t → Turn Good round t t
  unfolding iterate
  turn_first t h = record { good = h; rounds = zero; after = refl }

  pub turn_again : ((t : List A) → Good t → Good (round t)) → (first t u : List A) → u ≡ round t → Turn Good round first t
      → Turn Good round first u
  turn_again keeps first t u e h =
      record {
        good = rw e (keeps t h.good);
        rounds = suc h.rounds;
        after = e ∙ ap round h.after ∙ iterate_more round h.rounds first;
      }

  -- where a round that changes a good table brings its measure down, the loop ends
  pub turn_less : (μ : List A → ℕ) → ((t : List A) → Good t → round t ≢ t → μ (round t) < μ t) → (first t u : List A) → u ≡ round t
      → Turn Good round first t → u ≢ t → μ u < μ t
  turn_less μ falls first t u e h d = rw e (falls t h.good (λ q. d (e ∙ q)))

  pub turn_last : (first t u : List A) → u ≡ round t → Turn Good round first t → u ≡ t → Settled round first u
  turn_last first t u e h q = record { rounds = h.rounds; after = q ∙ h.after; settled = ap round q ∙ sym e }
