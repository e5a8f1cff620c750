-- The uses that steps from a state lead to, grouped by their types, give the automaton's steps by from, type, to.
use mathlib.Core.Path.{◌≡◌, refl, sym, ap, ◌∙◌}
use mathlib.Core.Logic.{◌↔◌, ◌⊎◌, inl, inr, ⊎_elim}
use mathlib.Core.Bool.{Bool, true, false, cond, ◌&&◌, ◌||◌, and_comm}
use mathlib.Core.List.{List, [], ◌∷◌, append-nil}
use Prim.Native.Nat.{ℕ, zero, suc, ◌+◌, ◌-◌, ◌%◌, ◌^◌, ◌≤◌, ◌<◌}
use native.Mathlib.Decide.{ℕ_discrete}
use native.Mathlib.Nat.{div_self}
use native.Mathlib.Omega.{arith}
use borrow.Author.Tests.{eq-eqb, ne_eqb}
use lib.Bits.{bit_or}
use lib.Dec.{T, eqb}
use lib.ListN.{length, get_or, set}
use lib.Pow.{pow_pos}
use lib.Seq.{get_or-set_same, get_or-set_other}
use Rattle.sdtd.specs.Limits.{most_types, most_states}
use Rattle.sdtd.specs.Schema.{Step, step}
use Rattle.sdtd.proofs.Basics.{is_false, same_test, not_both}
use Rattle.sdtd.proofs.Tests.{itself, eq_means, or_means}
use Rattle.schema.specs.States.{member, insert}
use Rattle.schema.proofs.Bits.{member-insert}
use Rattle.expression.specs.Expression.{Expression as Exp}
use Rattle.expression.specs.Automaton.{uses, type_of_use}
use Rattle.sdtd.specs.Lists.{of_each}
use Rattle.expression.specs.Tests.{leads, steps_by, steps_from, all_steps}
use Rattle.expression.specs.Answer.{set_of}
use Rattle.schema.proofs.LowestState.{without_own, without_other}
use Rattle.expression.proofs.SetLaws.{listed, member_or}
use Rattle.expression.proofs.TestLaws.{leads_below}
use Rattle.expression.proofs.TestSets.{member_set}
use Rattle.commands.specs.Laying.{Grouped, of_members, laid_by, laid_from, laid_steps}
use Rattle.sdtd.proofs.EachLaws.{each_last, each_same}
use Rattle.commands.proofs.LayingLaws.{members_none}

-- one use more in the set of its type
use_more : (t : List ℕ) (i s j q : ℕ) → i < length t → get_or t i 0 < 2 ^ most_states → s < most_states
    → T (member q (get_or (set t i (insert s (get_or t i 0))) j 0)) ↔ (T (member q (get_or t j 0)) ⊎ ((q ≡ s) × (i ≡ j)))
use_more t i s j q l b m = elim (ℕ_discrete i j) [
  | yes e ↦
      let r = member-insert s q (get_or t i 0) b in
      let f = get_or-set_same t i (insert s (get_or t i 0)) 0 l in
      rw (← e) (rw f (
        λ h. ⊎_elim inl (λ p. inr (p.0, refl)) (r.0 h),
        λ h. r.1 (⊎_elim inl (λ p. inr (p.0, m)) h),
      ))
  | no d ↦
      rw (get_or-set_other t i j (insert s (get_or t i 0)) 0 (λ e. d (sym e)))
      (inl, λ h. ⊎_elim (λ k. k) (λ p. absurd (d p.1)) h)
]

-- the use s is put into the set of its type, and taken out of those that are left
module _ (types sets : List ℕ) (s : ℕ) (left : List ℕ) (long : length sets ≡ most_types) (below : (k : ℕ) → get_or sets k 0 < 2 ^ most_states)
    (few : s < most_states) where
  abbrev own : ℕ
  own = get_or types s 0 % most_types

  more : (j q : ℕ) → T (member q (get_or (set sets own (insert s (get_or sets own 0))) j 0)) ↔ (T (member q (get_or sets j 0)) ⊎ ((q ≡ s) × (own ≡ j)))
  more j q = use_more sets own s j q (omega arith) (below own) few

  pub group_turn : (j q : ℕ)
      → (member q (get_or (set sets own (insert s (get_or sets own 0))) j 0) || (listed q left && eqb (get_or types q 0 % most_types) j))
      ≡ (member q (get_or sets j 0) || (listed q (s ∷ left) && eqb (get_or types q 0 % most_types) j))
  group_turn j q = elim (ℕ_discrete q s) [
    | yes e ↦
        let m = or_means (itself (member s (get_or sets j 0))) (eq_means own j) in
        let grown : member s (get_or (set sets own (insert s (get_or sets own 0))) j 0) ≡ (member s (get_or sets j 0) || eqb own j) =
        same_test _ _ (λ h. m.passes (⊎_elim inl (λ p. inr p.1) ((more j s).0 h)))
        (λ h. (more j s).1 (⊎_elim inl (λ d. inr (refl, d)) (m.says h))) in
        rw (e, eq-eqb s s refl, grown) (once (member s (get_or sets j 0)) (eqb own j) (listed s left))
    | no d ↦
        let same : member q (get_or (set sets own (insert s (get_or sets own 0))) j 0) ≡ member q (get_or sets j 0) =
        same_test _ _ (λ h. ⊎_elim (λ k. k) (λ p. absurd (d p.0)) ((more j q).0 h)) (λ h. (more j q).1 (inl h)) in
        rw (ne_eqb q s d, same)
  ]
    where
      once : (a b c : Bool) → ((a || b) || (c && b)) ≡ (a || b)
      once true b c = refl
      once false true true = refl
      once false true false = refl
      once false false true = refl
      once false false false = refl

-- .. and its type is noted
pub named_turn : (sets : List ℕ) (i v m : ℕ) → ((j : ℕ) → member j m ≡ false → get_or sets j 0 ≡ 0) → (j : ℕ) → member j (bit_or m (2 ^ i)) ≡ false
    → get_or (set sets i v) j 0 ≡ 0
named_turn sets i v m h j e =
    let out = neither (member j m) (member j (2 ^ i)) (sym (member_or j m (2 ^ i)) ∙ e) in
    elim (ℕ_discrete j i) [
      | yes d ↦
          let one : member i (2 ^ i) ≡ true = rw (div_self (pow_pos i)) refl in
          absurd (not_both one (rw d at out.1))
      | no d ↦ get_or-set_other sets i j v 0 d ∙ h j out.0
    ]
  where
    neither : (a b : Bool) → (a || b) ≡ false → (a ≡ false) × (b ≡ false)
    neither true b e = absurd (not_both refl e)
    neither false b e = (refl, e)

-- the groups of the types that were noted have all steps
pub grouped_laid : (x p : ℕ) (types sets : List ℕ) (m : ℕ) → Grouped x types sets m
    → of_members most_types (λ j. laid_by p j (get_or sets j 0)) m ≡ laid_from types p x
grouped_laid x p types sets m g =
    each_same _ _ 0 most_types
    (λ j a b. all_of (member j m) (laid_by p j (get_or sets j 0)) (λ e. rw (g.others j e) (members_none most_states (λ q. step p j q ∷ [])))
    ∙ each_same _ _ 0 most_states (λ q c d. ap (λ (t : Bool). cond t (step p j q ∷ []) []) (g.each j q)))
  where
    all_of : (b : Bool) (l : List Step) → (b ≡ false → l ≡ []) → cond b l [] ≡ l
    all_of true l h = refl
    all_of false l h = sym (h refl)

-- the type i is done with: its set is empty, and it is taken out of those that are left
module _ (sets : List ℕ) (i x : ℕ) (l : i < length sets) (here : T (member i x)) where
  pub left_same : (was : List ℕ) → ((j : ℕ) → T (member j x) → get_or sets j 0 ≡ get_or was j 0) → (j : ℕ) → T (member j (x - 2 ^ i))
      → get_or (set sets i 0) j 0 ≡ get_or was j 0
  left_same was h j m = elim (ℕ_discrete j i) [
    | yes e ↦ absurd (rw (e, without_own i x here) at m)
    | no d ↦ get_or-set_other sets i j 0 0 d ∙ h j (rw (without_other i x here j d) at m)
  ]

  pub done_empty : ((j : ℕ) → member j x ≡ false → get_or sets j 0 ≡ 0) → (j : ℕ) → member j (x - 2 ^ i) ≡ false → get_or (set sets i 0) j 0 ≡ 0
  done_empty h j m = elim (ℕ_discrete j i) [
    | yes e ↦ rw e (get_or-set_same sets i 0 0 l)
    | no d ↦ get_or-set_other sets i j 0 0 d ∙ h j (sym (without_other i x here j d) ∙ m)
  ]

-- nothing is made of the numbers past the first n
each_short : {A : Type 0} (f : ℕ → List A) (s n d : ℕ) → ((q : ℕ) → s + n ≤ q → f q ≡ []) → of_each f s (n + d) ≡ of_each f s n
each_short f s n zero h = let e : n + 0 ≡ n = omega arith in rw e
each_short f s n (suc d) h =
    let e : n + suc d ≡ suc (n + d) = omega arith in
    rw e (each_last f s (n + d) ∙ rw (h (s + (n + d)) (omega arith)) (append-nil (of_each f s (n + d)) ∙ each_short f s n d h))

-- .. nor of 0
each_inside : {A : Type 0} (f : ℕ → List A) (n m : ℕ) → n < m → f 0 ≡ [] → ((q : ℕ) → 1 + n ≤ q → f q ≡ []) → of_each f 0 m ≡ of_each f 1 n
unfolding of_each
each_inside f n zero l z h = absurd (omega arith)
each_inside f n (suc m) l z h = let e : m ≡ n + (m - n) = omega arith in rw z (ap (of_each f 1) e ∙ each_short f 1 n (m - n) h)

module _ (e : Exp) (types : List ℕ) (few : uses e < most_states)
    (told : (q : ℕ) → 1 ≤ q → q < 1 + uses e → get_or types q 0 % most_types ≡ type_of_use e q) where
  member-leads : (p q : ℕ) → member q (set_of (leads e p) most_states) ≡ leads e p q
  member-leads p q =
      let m = member_set (leads e p) most_states q (omega arith) in
      same_test _ _ (λ h. (m.0 h).0) (λ h. m.1 (h, omega (arith, leads_below e p q h)))

  -- by one type
  laid_by_lem : (p j : ℕ)
      → of_each (λ q. cond (member q (set_of (leads e p) most_states) && eqb (get_or types q 0 % most_types) j) (step p j q ∷ []) []) 0 most_states
      ≡ steps_by e p j
  laid_by_lem p j =
      let f : ℕ → List Step = λ q. cond (leads e p q && eqb (get_or types q 0 % most_types) j) (step p j q ∷ []) [] in
      let out : (q : ℕ) → ¬ T (leads e p q) → f q ≡ [] = λ q n. rw (is_false (leads e p q) n) in
      each_same _ f 0 most_states (λ q a b. rw (member-leads p q))
      ∙ each_inside f (uses e) most_states few (out 0 (λ h. omega (arith, leads_below e p 0 h))) (λ q l. out q (λ h. omega (arith, leads_below e p q h)))
      ∙ each_same f _ 1 (uses e) (λ q a b. rw (told q a b) (ap (λ (t : Bool). cond t (step p j q ∷ []) []) (and_comm (leads e p q) (eqb (type_of_use e q) j))))

  -- all steps, by the sets that each state leads to
  pub laid_all : (next : List ℕ) → ((p : ℕ) → p < most_states → get_or next p 0 ≡ set_of (leads e p) most_states) → laid_steps next types (uses e) ≡ all_steps e
  laid_all next h =
      each_same _ (steps_from e) 0 (suc (uses e))
      (λ p a b. ap (laid_from types p) (h p (omega arith)) ∙ each_same _ (steps_by e p) 0 most_types (λ j c d. laid_by_lem p j))
