-- What is parsed, by the parts of the expression: nothing, one use, one factor more, one of two, a repeat.
use mathlib.Core.Path.{◌≡◌, refl, sym, ap, ap₂, ◌∙◌}
use mathlib.Core.Bool.{Bool, true, false, ◌&&◌, ◌||◌, or-false}
use mathlib.Core.List.{List, [], ◌∷◌, ◌++◌, map, map-append}
use Prim.Native.Nat.{ℕ, suc, ◌+◌, ◌<◌}
use native.Mathlib.Omega.{arith}
use lib.ListN.{length, get_or, set, length-append, length-map}
use Rattle.sdtd.specs.Limits.{most_states}
use Rattle.schema.specs.States.{member, insert, no_states}
use Rattle.expression.specs.Automaton.{uses}
use Rattle.expression.specs.Content.{Name}
use Rattle.expression.specs.Expression.{Expression, empty_word, single, sequence, choice, repeat}
use Rattle.expression.specs.Tests.{first, last, follow}
use Rattle.expression.specs.Parsing.{put_back, tables, parsed, use_parsed, then_by, or_by, closed_by, again_by, Linked, ReadAs}
use Rattle.expression.specs.declared.parsed.Parsed.{Parsed}
use Rattle.expression.specs.declared.tables.Tables.{Tables}
use Rattle.expression.proofs.SetLaws.{member_zero, member_or, member-beyond, member_own}

-- what is put into a table in two parts
put_back-append : (n : ℕ) (xs ys t : List ℕ) → put_back n (xs ++ ys) t ≡ put_back (n + length ys) xs (put_back n ys t)
unfolding put_back
put_back-append n [] ys t = refl
put_back-append n (x ∷ xs) ys t =
    ap₂ (λ (l : List ℕ) (k : ℕ). set l k x) (put_back-append n xs ys t) (omega (arith, length-append xs ys))

put_more : (f : Name → ℕ) (n m : ℕ) (names more : List Name) (t t₁ t₂ : List ℕ) → m ≡ n + length names
    → t₁ ≡ put_back n (map f names) t → t₂ ≡ put_back m (map f more) t₁ → t₂ ≡ put_back n (map f (more ++ names)) t
put_more f n m names more t t₁ t₂ e a b =
    b ∙ ap₂ (λ (k : ℕ) (l : List ℕ). put_back k (map f more) l) (e ∙ ap (λ (k : ℕ). n + k) (sym (length-map names f))) a
    ∙ sym (ap (λ (l : List ℕ). put_back n l t) (map-append f more names) ∙ put_back-append n (map f more) (map f names) t)

-- or, with the second part in two
or_more : (m a b : Bool) → ((m || a) || b) ≡ (m || (a || b))
or_more true a b = refl
or_more false a b = refl

or_most : (m a b c : Bool) → (((m || a) || b) || c) ≡ (m || ((a || b) || c))
or_most true a b c = refl
or_most false a b c = refl

pub read_none : (u at : ℕ) (t : Tables) → ReadAs (suc u) empty_word [] t t (parsed at u true 0 0)
unfolding put_back
read_none u at t =
    record {
      count = omega arith;
      named = refl;
      empties = refl;
      firsts = member_zero;
      lasts = member_zero;
      follows = λ p q. sym (or-false _);
      types_put = refl;
      places_put = refl;
    }

abbrev pub own_name : ℕ → ℕ → Name
own_name j i = record { type = j; place = i }

pub read_one : (u j i : ℕ) (t : Tables) → suc u < most_states
    → ReadAs (suc u) (single j) (own_name j i ∷ []) t (tables t.next (set t.types (u + 1) j) (set t.places (u + 1) i)) (use_parsed i u)
unfolding put_back
read_one u j i t l =
    let e : u + 1 ≡ suc u = omega arith in
    let z : u + 1 ≡ suc u + 0 = omega arith in
    let own : (q : ℕ) → member q (insert (u + 1) no_states) ≡ first (suc u) (single j) q = λ q. rw e (member_own (suc u) q l) in
    record {
      count = omega arith;
      named = refl;
      empties = refl;
      firsts = own;
      lasts = own;
      follows = λ p q. sym (or-false _);
      types_put = ap (λ (k : ℕ). set t.types k j) z;
      places_put = ap (λ (k : ℕ). set t.places k i) z;
    }

module _ (n : ℕ) (e f : Expression) (names more : List Name) (t t₁ t₂ : Tables) (x y : Parsed) (r : ReadAs n e names t t₁ x)
    (s : ReadAs (suc x.uses) f more t₁ t₂ y) where
  behind : suc x.uses ≡ n + length names
  behind = omega (arith, r.count, r.named)

  firsts_behind : (q : ℕ) → member q y.first.0 ≡ first (n + uses e) f q
  firsts_behind q = s.firsts q ∙ ap (λ (k : ℕ). first k f q) r.count

  lasts_behind : (q : ℕ) → member q y.last.0 ≡ last (n + uses e) f q
  lasts_behind q = s.lasts q ∙ ap (λ (k : ℕ). last k f q) r.count

  follows_both : (p q : ℕ) → member q (get_or t₂.next p 0)
      ≡ ((member q (get_or t.next p 0) || follow n e p q) || follow (n + uses e) f p q)
  follows_both p q =
      s.follows p q ∙ ap₂ (λ (a b : Bool). a || b) (r.follows p q) (ap (λ (k : ℕ). follow k f p q) r.count)

  -- one factor more, linked with what comes before
  pub read_then : (t₃ : Tables) → Linked x.last.0 y.first.0 t₂ t₃ → ReadAs n (sequence e f) (more ++ names) t t₃ (then_by x y)
  read_then t₃ k =
      record {
        count = omega (arith, r.count, s.count);
        named = omega (arith, length-append more names, r.named, s.named);
        empties = ap₂ (λ (a b : Bool). a && b) r.empties s.empties;
        firsts = λ q. member-beyond x.nullable q x.first.0 y.first.0
            ∙ ap₂ (λ (a b : Bool). a || b) (r.firsts q) (ap₂ (λ (a b : Bool). a && b) r.empties (firsts_behind q));
        lasts = λ q. member-beyond y.nullable q y.last.0 x.last.0
            ∙ ap₂ (λ (a b : Bool). a || b) (lasts_behind q) (ap₂ (λ (a b : Bool). a && b) s.empties (r.lasts q));
        follows = λ p q. k.each p q
            ∙ ap₂ (λ (a b : Bool). a || b) (follows_both p q) (ap₂ (λ (a b : Bool). a && b) (r.lasts p) (firsts_behind q))
            ∙ or_most (member q (get_or t.next p 0)) (follow n e p q) (follow (n + uses e) f p q) (last n e p && first (n + uses e) f q);
        types_put = k.types ∙ put_more (λ c. c.type) n (suc x.uses) names more _ _ _ behind r.types_put s.types_put;
        places_put = k.places ∙ put_more (λ c. c.place) n (suc x.uses) names more _ _ _ behind r.places_put s.places_put;
      }

  -- one of two
  pub read_or : ReadAs n (choice e f) (more ++ names) t t₂ (or_by x y)
  read_or =
      record {
        count = omega (arith, r.count, s.count);
        named = omega (arith, length-append more names, r.named, s.named);
        empties = ap₂ (λ (a b : Bool). a || b) r.empties s.empties;
        firsts = λ q. member_or q x.first.0 y.first.0 ∙ ap₂ (λ (a b : Bool). a || b) (r.firsts q) (firsts_behind q);
        lasts = λ q. member_or q x.last.0 y.last.0 ∙ ap₂ (λ (a b : Bool). a || b) (r.lasts q) (lasts_behind q);
        follows = λ p q. follows_both p q ∙ or_more (member q (get_or t.next p 0)) (follow n e p q) (follow (n + uses e) f p q);
        types_put = put_more (λ c. c.type) n (suc x.uses) names more _ _ _ behind r.types_put s.types_put;
        places_put = put_more (λ c. c.place) n (suc x.uses) names more _ _ _ behind r.places_put s.places_put;
      }

module _ (n : ℕ) (e : Expression) (names : List Name) (t t₁ : Tables) (x : Parsed) (r : ReadAs n e names t t₁ x) where
  -- the bracket around a choice
  pub read_closed : ReadAs n e names t t₁ (closed_by x)
  read_closed =
      record {
        count = r.count;
        named = r.named;
        empties = r.empties;
        firsts = r.firsts;
        lasts = r.lasts;
        follows = r.follows;
        types_put = r.types_put;
        places_put = r.places_put;
      }

  -- a repeat, linked with itself
  pub read_again : (t₂ : Tables) → Linked x.last.0 x.first.0 t₁ t₂ → ReadAs n (repeat e) names t t₂ (again_by x)
  read_again t₂ k =
      record {
        count = r.count;
        named = r.named;
        empties = refl;
        firsts = r.firsts;
        lasts = r.lasts;
        follows = λ p q. k.each p q
            ∙ ap₂ (λ (a b : Bool). a || b) (r.follows p q) (ap₂ (λ (a b : Bool). a && b) (r.lasts p) (r.firsts q))
            ∙ or_more (member q (get_or t.next p 0)) (follow n e p q) (last n e p && first n e q);
        types_put = k.types ∙ r.types_put;
        places_put = k.places ∙ r.places_put;
      }
