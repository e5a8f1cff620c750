-- Laws of numbers put into a table one after another, and of what is made of the members of a set.
use mathlib.Core.Path.{◌≡◌, refl, sym, ap, ◌∙◌}
use mathlib.Core.Bool.{Bool, true, false, cond}
use mathlib.Core.List.{List, [], ◌∷◌, ◌++◌, map, map-append}
use Prim.Native.Nat.{ℕ, zero, suc, ◌+◌, ◌-◌, ◌^◌, ◌≤◌, ◌<◌}
use native.Mathlib.Decide.{ℕ_discrete}
use native.Mathlib.Numerals.{add-one}
use native.Mathlib.Omega.{arith}
use lib.Bits.{bit_and}
use lib.Count.{count_trailing_zeros}
use lib.ListN.{length, length-append, get_or, set}
use Rattle.sdtd.specs.Limits.{most_states, most_steps}
use Rattle.sdtd.specs.Schema.{Step, step}
use Rattle.sdtd.proofs.Basics.{is_true}
use Rattle.schema.specs.States.{member, members, members_below}
use Rattle.schema.specs.Putting.{put_all}
use Rattle.schema.proofs.PuttingLaws.{put_append}
use Rattle.sdtd.specs.Lists.{of_each}
use Rattle.sdtd.proofs.EachLaws.{each_none, each_last, each_same}
use Rattle.schema.proofs.LowestState.{smallest_member, none_smaller, smallest_out, without_own, without_other}
use Rattle.expression.proofs.SetLaws.{member_zero}
use Rattle.commands.specs.declared.builder.Builder.{Builder}
use Rattle.commands.specs.Laying.{of_members, laid_by, PutAs, LaidAs, names_from}
use Rattle.commands.specs.Building.{places_with, bound_with, named, all_named}

-- nothing is put
pub put_nothing : {n : ℕ} {t : List ℕ} → n ≤ most_steps + 1 → PutAs [] n t t n
unfolding put_all
put_nothing l = record { count = omega arith; put = λ h. refl }

-- numbers, and more behind them
pub put_both : (xs ys : List ℕ) {n : ℕ} {t t' t'' : List ℕ} {r r' : ℕ} → PutAs xs n t t' r → PutAs ys r t' t'' r'
    → PutAs (xs ++ ys) n t t'' r'
put_both xs ys {n} {t} {t'} {t''} {r} {r'} h k =
    let c = h.count in
    let d = k.count in
    let l = length-append xs ys in
    record {
      count = omega arith;
      put = λ fits.
          let e : r ≡ n + length xs = omega arith in
          k.put (omega arith) ∙ rw (e, h.put (omega arith)) (sym (put_append xs ys n t));
    }

-- one number
pub put_one : (x n : ℕ) (t : List ℕ) → n < most_steps → PutAs (x ∷ []) n t (set t n x) (n + 1)
unfolding put_all
put_one x n t l = record { count = omega arith; put = λ h. refl }

-- one that is past the last place
pub put_past_all : (x n : ℕ) {t : List ℕ} → most_steps ≤ n → PutAs (x ∷ []) n t t (most_steps + 1)
put_past_all x n l = record { count = omega arith; put = λ h. absurd (omega arith) }

-- of steps
pub laid_nothing : (s : Builder) → s.steps ≤ most_steps + 1 → LaidAs [] s s
laid_nothing s l = record { sources = put_nothing l; types = put_nothing l; targets = put_nothing l; others = refl }

pub laid_both : (xs ys : List Step) {s s' s'' : Builder} → LaidAs xs s s' → LaidAs ys s' s'' → LaidAs (xs ++ ys) s s''
laid_both xs ys {s} {s'} {s''} h k =
    record {
      sources = rw (map-append (λ (x : Step). x.from) xs ys) (put_both _ _ h.sources k.sources);
      types = rw (map-append (λ (x : Step). x.by) xs ys) (put_both _ _ h.types k.types);
      targets = rw (map-append (λ (x : Step). x.to) xs ys) (put_both _ _ h.targets k.targets);
      others =
          k.others
          ∙ ap (λ (r : Builder). record r { steps = s''.steps; schema = record (r.schema) { from = s''.schema.from; by = s''.schema.by; to = s''.schema.to } })
          h.others;
    }

-- the number of steps is at most one past the last
pub laid_most : (xs : List Step) {s s' : Builder} → LaidAs xs s s' → s'.steps ≤ most_steps + 1
laid_most xs h = omega (arith, h.sources.count)

-- what is made of the first number of which anything is made, and of the others
each_first : {A : Type 0} (f g : ℕ → List A) (p s n : ℕ) → s ≤ p → p < s + n → ((q : ℕ) → q < p → f q ≡ []) → g p ≡ []
    → ((q : ℕ) → ¬ (q ≡ p) → g q ≡ f q) → of_each f s n ≡ f p ++ of_each g s n
unfolding of_each
each_first f g p s zero a b none own other = absurd (omega arith)
each_first f g p s (suc n) a b none own other = elim (ℕ_discrete s p) [
  | yes e ↦ rw (e, own) (ap (λ (l : List _). f p ++ l) (each_same f g (suc p) n (λ q l m. sym (other q (omega arith)))))
  | no d ↦ rw (other s d, none s (omega arith)) (each_first f g p (suc s) n (omega arith) (omega arith) none own other)
]

-- the empty set has no members
pub members_none : {A : Type 0} (k : ℕ) (f : ℕ → List A) → of_members k f 0 ≡ []
members_none k f = each_none (λ q. cond (member q 0) (f q) []) (λ q. rw (member_zero q)) 0 k

-- the smallest member comes first, then the others
pub members_next : {A : Type 0} (k : ℕ) (f : ℕ → List A) (x : ℕ) → 0 < x → x < 2 ^ k
    → of_members k f x ≡ f (count_trailing_zeros k x) ++ of_members k f (bit_and x (x - 1))
members_next k f x l b =
    let p = count_trailing_zeros k x in
    let s = smallest_member k x l b in
    let own : cond (member p x) (f p) [] ≡ f p = rw (is_true (member p x) s.1) in
    let out : cond (member p (x - 2 ^ p)) (f p) [] ≡ [] = rw (without_own p x s.1) in
    rw (smallest_out k x l b)
    (each_first (λ q. cond (member q x) (f q) []) (λ q. cond (member q (x - 2 ^ p)) (f q) []) p 0 k (omega arith) (omega (arith, s.0))
    (λ q m. rw (none_smaller k x l b q m)) out (λ q n. rw (without_other p x s.1 q n))
    ∙ ap (λ (h : List _). h ++ of_members k f (x - 2 ^ p)) own)

-- the steps to the members of a set, one after another
laid_below : (p j x n : ℕ) → of_members n (λ q. step p j q ∷ []) x ≡ map (step p j) (members_below n x)
unfolding of_each members_below
laid_below p j x zero = refl
laid_below p j x (suc n) =
    let k : 0 + n ≡ n = omega arith in
    each_last (λ q. cond (member q x) (step p j q ∷ []) []) 0 n
    ∙ rw (k, laid_below p j x n, map-append)
    (ap (λ (l : List Step). map (step p j) (members_below n x) ++ l) (own (member n x)))
  where
    own : (b : Bool) → cond b (step p j n ∷ []) [] ≡ map (step p j) (cond b (n ∷ []) [])
    own true = refl
    own false = refl

pub laid_members : (p j x : ℕ) → laid_by p j x ≡ map (step p j) (members x)
laid_members p j x = laid_below p j x most_states

-- one use, and those after it
module _ (n q : ℕ) (more : q ≤ n) where
  left : n + 1 - q ≡ suc (n + 1 - (q + 1))
  left = omega arith

  pub names_next : (types given : List ℕ) (s : Builder)
      → all_named (named s (get_or types q 0) (get_or given q 0)) (names_from types given (q + 1) (n + 1 - (q + 1)))
      ≡ all_named s (names_from types given q (n + 1 - q))
  unfolding places_with bound_with names_from
  names_next types given s = rw (left, add-one q)
