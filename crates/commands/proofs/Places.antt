-- The table of places holds, of each type, the place of the first STEP or 32 that names it: the least, since places rise along the file. So
-- the least place of the types not given is the first place that names no given type.
use mathlib.Core.Path.{◌≡◌, refl, ap, ◌∙◌}
use mathlib.Core.Logic.{◌≢◌}
use mathlib.Core.List.{List, [], ◌∷◌, ◌++◌, reverse_aux, append-nil, cons≢nil}
use Prim.Native.Nat.{ℕ, zero, suc, ◌+◌, ◌-◌, ◌%◌, ◌≤◌, ◌<◌, min}
use native.Mathlib.Decide.{dec_lt}
use native.Mathlib.Nat.{suc-add}
use native.Mathlib.Omega.{arith}
use borrow.Author.Tests.{lt-ltb, le-ltb}
use lib.ListN.{length, get_or, take, drop, set, length-set, replicate, length-replicate, get_or-replicate}
use lib.Seq.{get_or-set_same, get_or-set_other}
use Rattle.std.specs.List.{fold}
use Rattle.sdtd.specs.Limits.{most_types}
use Rattle.command.specs.declared.Command.{Command}
use Rattle.command.specs.declared.Command.TheVariants.{Tags, TypeBlock, Final, Step, Root, Nil, Done, Expression}
use Rattle.expression.specs.Content.{Name}
use Rattle.expression.proofs.WholeContents.{Rise, rise_most, TypesBelow}
use Rattle.commands.specs.File.{Stated, after, unknown_in}
use Rattle.commands.specs.Building.{place_named, bound_named, built, places_with, bound_with}
use Rattle.commands.specs.declared.builder.Builder.{Builder}
use Rattle.commands.proofs.Passing.{Passed}
use Rattle.commands.proofs.CommandBytes.{drop_more}

-- the least of `none` and the places of the n types from k on
unfoldable pub least_from : List ℕ → ℕ → ℕ → ℕ → ℕ
least_from places none k zero = none
least_from places none k (suc n) = min (get_or places k 0) (least_from places none (suc k) n)

-- `least_from` is at most `none`
pub least_most : (l : List ℕ) (none k n : ℕ) → least_from l none k n ≤ none
unfolding least_from
least_most l none k zero = omega arith
least_most l none k (suc n) = omega (arith, least_most l none (suc k) n)

-- with an earlier place beside them
least_beside : (l : List ℕ) (none p k n : ℕ) → least_from l (min none p) k n ≡ min p (least_from l none k n)
unfolding least_from
least_beside l none p k zero = omega arith
least_beside l none p k (suc n) = omega (arith, least_beside l none p (suc k) n)

-- the same by going over those places
pub least_folded : (l : List ℕ) (none k n : ℕ) → k + n ≤ length l → fold (λ least place. min least place) none (take n (drop k l)) ≡ least_from l none k n
unfolding least_from
least_folded l none k zero h = refl
least_folded l none k (suc n) h =
    let next : drop k l ≡ get_or l k 0 ∷ drop (k + 1) l = drop_more l k 0 (omega arith) in
    let s : k + 1 ≡ suc k = omega arith in
    rw (next, s) (least_folded l (min none (get_or l k 0)) (suc k) n (omega arith) ∙ least_beside l none (get_or l k 0) (suc k) n)

module _ (l : List ℕ) (none : ℕ) where
  -- where every place is `none`, so is the least
  least_none : (k n : ℕ) → ((b : ℕ) → k ≤ b → b < k + n → get_or l b 0 ≡ none) → least_from l none k n ≡ none
  unfolding least_from
  least_none k zero h = refl
  least_none k (suc n) h =
      rw (h k (omega arith) (omega arith), least_none (suc k) n (λ b least most. h b (omega arith) (omega arith))) (omega arith)

  -- and m such types more make no difference
  least_more : (k n m : ℕ) → least_from l none (k + n) m ≡ none → least_from l none k (n + m) ≡ least_from l none k n
  unfolding least_from
  least_more k zero m h =
      let e : k + 0 ≡ k = omega arith in
      let z : 0 + m ≡ m = omega arith in
      rw z (rw e at h)
  least_more k (suc n) m h =
      let e : k + suc n ≡ suc k + n = omega arith in
      rw suc-add (ap (min (get_or l k 0)) (least_more (suc k) n m (rw e at h)))

module _ (l : List ℕ) (none j v : ℕ) where
  -- a place of a type below k makes no difference from k on
  least_below : (k n : ℕ) → j < k → least_from (set l j v) none k n ≡ least_from l none k n
  unfolding least_from
  least_below k zero b = refl
  least_below k (suc n) b = rw (get_or-set_other l j k v 0 (omega arith), least_below (suc k) n (omega arith))

-- the place i, where it is earlier, of a type among those from k on
module _ (l : List ℕ) (none j i : ℕ) (in_table : j < length l) where
  least_named : (k n : ℕ) → k ≤ j → j < k + n
      → least_from (set l j (min (get_or l j 0) i)) none k n ≡ min (least_from l none k n) i
  unfolding least_from
  least_named k zero a b = absurd (omega arith)
  least_named k (suc n) a b = elim (dec_lt k j) [
    | yes c ↦ rw (get_or-set_other l j k (min (get_or l j 0) i) 0 (omega arith), least_named (suc k) n (omega arith) (omega arith)) (omega arith)
    | no c ↦
        let e : k ≡ j = omega arith in
        let v = min (get_or l j 0) i in
        rw (e, get_or-set_same l j v 0 in_table, least_below l none j v (suc j) n (omega arith)) (omega arith)
  ]

-- p is the first of the places and lies before i; where there is none, p is `none`
abbrev FirstIs : ℕ → ℕ → List ℕ → ℕ → Type 0
FirstIs none i [] p = p ≡ none
FirstIs none i (u ∷ us) p = (p ≡ u) × (u < i)

first_later : (none : ℕ) {i m : ℕ} (us : List ℕ) (p : ℕ) → i ≤ m → FirstIs none i us p → FirstIs none m us p
first_later none [] p l h = h
first_later none (u ∷ us) p l h = (h.0, omega arith)

-- one place more, i, behind them
first_more : {none i m : ℕ} (us : List ℕ) (p : ℕ) → i < none → i < m → FirstIs none i us p → FirstIs none m (us ++ (i ∷ [])) (min p i)
first_more [] p l b h = (omega arith, b)
first_more (u ∷ us) p l b h = (omega arith, omega arith)

-- From each type k on, the least place in the table is the first before the place i that names such a type. None names a type from the bound
-- on.
pub record PlacesHold (ns : List Name) (none i : ℕ) (places : List ℕ) (bound : ℕ) : Type 0 where
  pub sized : length places ≡ most_types
  pub bound_most : bound ≤ most_types
  pub past : (k : ℕ) → bound ≤ k → k < most_types → get_or places k 0 ≡ none
  pub first : (k : ℕ) → FirstIs none i (unknown_in k ns) (least_from places none k (most_types - k))

pub first_places : (none : ℕ) → PlacesHold [] none 0 (replicate most_types none) 0
first_places none =
    let empty : (b : ℕ) → b < most_types → get_or (replicate most_types none) b 0 ≡ none = λ b l. get_or-replicate most_types b none 0 l in
    record {
      sized = length-replicate most_types none;
      bound_most = omega arith;
      past = λ k least. empty k;
      first = λ k. least_none (replicate most_types none) none k (most_types - k) (λ b least most. empty b (omega arith));
    }

module _ {ns : List Name} {none i : ℕ} {places : List ℕ} {bound : ℕ} (h : PlacesHold ns none i places bound) where
  -- a command that names nothing
  pub same_places : {m : ℕ} → i ≤ m → PlacesHold ns none m places bound
  same_places l =
      record {
        sized = h.sized;
        bound_most = h.bound_most;
        past = h.past;
        first = λ k. first_later none (unknown_in k ns) _ l (h.first k);
      }

  -- one that names the type j at the place x
  pub name_places : {m : ℕ} (j x : ℕ) → j < most_types → i ≤ x → x < none → x < m
      → PlacesHold (record { type = j; place = x } ∷ ns) none m (place_named j x places) (bound_named j bound)
  name_places j x l a b before =
      let n : j % most_types ≡ j = omega arith in
      let v = min (get_or places j 0) x in
      rw n
      (record {
        sized = rw length-set h.sized;
        bound_most = omega (arith, h.bound_most);
        past = λ k least most. get_or-set_other places j k v 0 (omega arith) ∙ h.past k (omega arith) most;
        first = λ k.
            elim (dec_lt j k) [
              | yes c ↦
                  rw (lt-ltb j k c, append-nil (unknown_in k ns), least_below places none j v k (most_types - k) c)
                  (first_later none (unknown_in k ns) _ (omega arith) (h.first k))
              | no c ↦
                  let r = least_named places none j x (omega (arith, h.sized)) k (most_types - k) (omega arith) (omega arith) in
                  rw (le-ltb j k (omega arith), r) (first_more (unknown_in k ns) _ b before (first_later none (unknown_in k ns) _ a (h.first k)))
            ];
      })

-- after a command at the place i that passed its questions
pub built_places : (g : Stated) {none i m : ℕ} (s : Builder) → PlacesHold g.names none i s.places s.bound → i < m → i < none
    → (c : Command) → Passed g c → PlacesHold (after g i c).names none m (built s i c).places (built s i c).bound
unfolding after built
built_places g s h l b (Tags n) p = same_places h (omega arith)
built_places g s h l b (TypeBlock t k) p = same_places h (omega arith)
built_places g s h l b (Final q) p = same_places h (omega arith)
built_places g {i = i} s h l b (Step x j y) p = name_places h j.0 i p.4 (omega arith) b l
built_places g s h l b (Root a) p = same_places h (omega arith)
built_places g s h l b Nil p = same_places h (omega arith)
built_places g s h l b Done p = same_places h (omega arith)
built_places g s h l b (Expression x) p = absurd p

-- after the names of an expression that begins at the place i and ends at the place p
pub places_with_lem : (ns : List Name) {xs : List Name} {none : ℕ} (i p : ℕ) {places : List ℕ} {bound : ℕ} → PlacesHold xs none i places bound
    → Rise i ns p → TypesBelow ns → p < none → PlacesHold (reverse_aux ns xs) none (p + 1) (places_with ns places) (bound_with ns bound)
unfolding places_with bound_with
places_with_lem [] i p h r t l = same_places h (omega arith)
places_with_lem (x ∷ ns) i p h r t l =
    let m = rise_most (suc x.place) ns p r.1 in
    places_with_lem ns (suc x.place) p (name_places h x.type x.place t.0 r.0 (omega arith) (omega arith)) r.1 t.1 l

-- The least place of the types from k on and below the bound: a place before `none` is the first that names a type from k on, and
-- otherwise there is none.
module _ {ns : List Name} {none i : ℕ} {places : List ℕ} {bound : ℕ} (h : PlacesHold ns none i places bound) (k : ℕ) {p : ℕ}
    (least : p ≡ least_from places none k (bound - k)) where
  least_first : FirstIs none i (unknown_in k ns) p
  least_first =
      let n = bound - k in
      let m = most_types - k - n in
      let e : most_types - k ≡ n + m = omega (arith, h.bound_most) in
      let empty = least_none places none (k + n) m (λ b least most. h.past b (omega arith) (omega arith)) in
      rw least (rw (e, least_more places none k n m empty) at (h.first k))

  pub first_named : p < none → (unknown_in k ns ≢ []) × (p ≡ get_or (unknown_in k ns) 0 0)
  first_named l = go (unknown_in k ns) least_first
    where
      go : (us : List ℕ) → FirstIs none i us p → (us ≢ []) × (p ≡ get_or us 0 0)
      go [] e = absurd (omega arith)
      go (u ∷ us) e = (cons≢nil, e.0)

  pub none_named : i ≤ none → none ≤ p → unknown_in k ns ≡ []
  none_named b l = go (unknown_in k ns) least_first
    where
      go : (us : List ℕ) → FirstIs none i us p → us ≡ []
      go [] e = refl
      go (u ∷ us) e = absurd (omega arith)
