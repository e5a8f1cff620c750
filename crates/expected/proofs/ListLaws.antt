-- The openings that flags list: how the list grows, how long it is, what is on it, and that it rises.
use mathlib.Core.Path.{◌≡◌, refl, sym, ap, subst, ◌∙◌}
use mathlib.Core.Logic.{◌↔◌, inl, inr, ⊎_elim}
use mathlib.Core.Bool.{Bool, true, false}
use mathlib.Core.List.Memᴰ
use mathlib.Core.List.{List, [], ◌∷◌, ◌++◌, map, map-append, append-nil, append_assoc, Memᴰ}
use Prim.Native.Nat.{ℕ, zero, suc, ◌+◌, ◌-◌, ◌*◌, ◌≤◌, ◌<◌}
use native.Mathlib.Decide.{dec_lt}
use native.Mathlib.Omega.{arith}
use lib.Dec.{T}
use lib.ListN.{length, get_or, set, length-append, length-map, get_or-eq_default}
use lib.Seq.{set_at}
use Rattle.sdtd.specs.Limits.{most_tags}
use Rattle.sdtd.specs.Lists.{of_each, Rising}
use Rattle.sdtd.specs.Tree.{Kind, plain, nil}
use Rattle.sdtd.proofs.EachLaws.{each_last, mem-of_each, mem-cond, Sorted, sorted_of_each, sorted_cond, sorted_rising}
use Rattle.expected.specs.Expected.{Listed, Before, most_openings, padded, as_nil}
use Rattle.expected.specs.Listing.{listed, listed_if, listed_of, listed_below, listed_by, flags_in, listing, with_opening}

-- one entry more, in front of the filler
module _ {A B : Type 0} (f : A → B) (d : B) (n : ℕ) (xs : List A) (y : A) (l : length xs < n) where
  padded_more : set (padded n d (map f xs)) (length xs) (f y) ≡ padded n d (map f (xs ++ (y ∷ [])))
  padded_more =
      let long : length (map f xs) ≡ length xs = length-map xs f in
      let more : length (map f xs ++ (f y ∷ [])) ≡ length xs + 1 = length-append (map f xs) (f y ∷ []) ∙ ap (λ (k : ℕ). k + 1) long in
      let q : n - length xs ≡ suc (n - (length xs + 1)) = omega arith in
      rw (map-append f xs (y ∷ []), more, long, q, set_at (map f xs) _ _ (f y) (length xs) long, append_assoc)

-- one opening more, if the flag says so
pub listing_more : (xs : List Listed) (on : Bool) (κ : Kind) (g : ℕ) → length xs < most_openings
    → with_opening (listing xs) on g (as_nil κ) ≡ listing (xs ++ listed_if on κ g)
listing_more xs true κ g l =
    λ i.
    record {
      count = sym (length-append xs (listed κ g ∷ [])) i;
      tags = padded_more (λ (x : Listed). x.tag) 0 most_openings xs (listed κ g) l i;
      nils = padded_more (λ (x : Listed). as_nil x.kind) false most_openings xs (listed κ g) l i;
    }
listing_more xs false κ g l = rw (append-nil xs)

-- at most one opening of a kind
pub if_most : (xs : List Listed) (on : Bool) (κ : Kind) (g : ℕ) → length (xs ++ listed_if on κ g) ≤ length xs + 1
if_most xs true κ g = rw (length-append xs (listed κ g ∷ [])) (omega arith)
if_most xs false κ g = rw (append-nil xs) (omega arith)

module _ (on : Kind → ℕ → Bool) where
  -- the openings of one tag more
  pub below_more : (n : ℕ) → (listed_below on n ++ listed_if (on plain n) plain n) ++ listed_if (on nil n) nil n ≡ listed_below on (suc n)
  below_more n =
      let z : 0 + n ≡ n = omega arith in
      append_assoc (listed_below on n) _ _ ∙ sym (rw z at (each_last (listed_of on) 0 n))

  -- at most two for each tag
  pub below_most : (n : ℕ) → length (listed_below on n) ≤ 2 * n
  unfolding of_each
  below_most zero = omega arith
  below_most (suc n) =
      let xs = listed_below on n in
      let first = if_most xs (on plain n) plain n in
      let second = if_most (xs ++ listed_if (on plain n) plain n) (on nil n) nil n in
      rw (← below_more n) (omega (arith, first, second, below_most n))

  -- the openings of a tag: exactly what the flags say
  of_flags : (κ : Kind) (g n : ℕ) → Memᴰ (listed κ g) (listed_of on n) → T (on κ n) × (g ≡ n)
  of_flags κ g n m =
      ⊎_elim (λ k. by_kind plain ((mem-cond (on plain n) (listed κ g) (listed plain n)).0 k))
      (λ k. by_kind nil ((mem-cond (on nil n) (listed κ g) (listed nil n)).0 k)) (Memᴰ.append_cases _ m)
    where
      by_kind : (ν : Kind) → T (on ν n) × (listed κ g ≡ listed ν n) → T (on κ n) × (g ≡ n)
      by_kind ν (t, e) = (subst (λ (k : Kind). T (on k n)) (sym (ap (λ (x : Listed). x.kind) e)) t, ap (λ (x : Listed). x.tag) e)

  by_flags : (κ : Kind) (g : ℕ) → T (on κ g) → Memᴰ (listed κ g) (listed_of on g)
  by_flags plain g t =
      Memᴰ.append_left (listed_if (on nil g) nil g) ((mem-cond (on plain g) (listed plain g) (listed plain g)).1 (t, refl))
  by_flags nil g t =
      Memᴰ.append_right (listed_if (on plain g) plain g) ((mem-cond (on nil g) (listed nil g) (listed nil g)).1 (t, refl))

  -- what is on the list: exactly what they say, where they say nothing of any other number than a tag's
  pub listed_exactly : ((κ : Kind) (g : ℕ) → T (on κ g) → g < most_tags) → (κ : Kind) (g : ℕ)
      → Memᴰ (listed κ g) (listed_by on) ↔ T (on κ g)
  listed_exactly below κ g =
      let all = mem-of_each (listed_of on) 0 most_tags (listed κ g) in (
        λ m.
            let o = all.0 m in
            let (t, e) = of_flags κ g o.at o.given in
            rw e t,
        λ t. all.1 (record { at = g; least = omega arith; below = below κ g t; given = by_flags κ g t }),
      )

  -- plain before nil
  tag_sorted : (a b : Bool) (g : ℕ) → Sorted Before (listed_if a plain g ++ listed_if b nil g)
  tag_sorted true true g = (
    λ y m.
        let e = Memᴰ.eq_of_singleton m in
        inr (sym (ap (λ (x : Listed). x.tag) e), refl, ap (λ (x : Listed). x.kind) e),
    sorted_cond Before true (listed nil g),
  )
  tag_sorted true false g = sorted_cond Before true (listed plain g)
  tag_sorted false b g = sorted_cond Before b (listed nil g)

  of_its_tag : (n : ℕ) (x : Listed) → Memᴰ x (listed_of on n) → x.tag ≡ n
  of_its_tag n x m = (of_flags x.kind x.tag n m).1

  -- rising by tag
  pub listed_rises : Rising Before (listed_by on)
  listed_rises =
      sorted_rising Before (listed_by on)
      (sorted_of_each Before (listed_of on) (λ g. tag_sorted (on plain g) (on nil g) g)
      (λ g h x y l m k. inl (omega (arith, of_its_tag g x m, of_its_tag h y k))) 0 most_tags)

flag_below : (flags : List Bool) (g : ℕ) → length flags ≡ most_tags → T (get_or flags g false) → g < most_tags
flag_below flags g k t =
    elim (dec_lt g most_tags) [
      | yes l ↦ l
      | no l ↦ absurd (subst T (get_or-eq_default flags false (omega arith)) t)
    ]

-- tables of `most_tags` flags say nothing of any other number
pub flags_below : (opens nils : List Bool) → length opens ≡ most_tags → length nils ≡ most_tags → (κ : Kind) (g : ℕ)
    → T (flags_in opens nils κ g) → g < most_tags
flags_below opens nils k l plain g t = flag_below opens g k t
flags_below opens nils k l nil g t = flag_below nils g l t
