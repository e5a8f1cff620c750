-- The table of roots: what it holds of the roots so far, the last first, and whether a type is one of them.
use mathlib.Core.Path.{◌≡◌, refl, sym, ap, ◌∙◌}
use mathlib.Core.Bool.{or-false, Bool, true, false, ◌&&◌, ◌||◌, or_comm, or_assoc}
use mathlib.Core.List.{List, [], ◌∷◌, ◌++◌, reverse, reverse-cons, Memᴰ}
use Prim.Native.Nat.{ℕ, ◌+◌, ◌<◌}
use native.Mathlib.Omega.{arith}
use borrow.Author.Tests.{lt-ltb, eq-eqb}
use lib.Dec.{T, eqb, ltb, eqb→eq}
use lib.ListN.{length, get_or, set, replicate}
use Rattle.sdtd.specs.Limits.{most_types, most_roots}
use Rattle.sdtd.proofs.Basics.{same_test}
use Rattle.schema.specs.Value.{up_from, roots_of}
use Rattle.schema.specs.Trimming.{MarksExactly}
use Rattle.schema.proofs.Values.{up_last}
use Rattle.commands.specs.File.{has_root}
use Rattle.commands.specs.Building.{root_among}
use Rattle.commands.proofs.Standing.{StandsIn, Standing, none_stands, set_stands}

-- the test says whether the type is one of them
pub has_says : (a : ℕ) (xs : List ℕ) → T (has_root a xs) → Memᴰ a xs
has_says a [] t = absurd t
has_says a (x ∷ xs) t = either (has_says a xs) (eqb x a) refl t
  where
    either : (T (has_root a xs) → Memᴰ a xs) → (b : Bool) → eqb x a ≡ b → T (b || has_root a xs) → Memᴰ a (x ∷ xs)
    either later true e t = Memᴰ.head (sym (eqb→eq x a (rw e tt)))
    either later false e t = Memᴰ.tail (later t)

pub has_passes : (a : ℕ) (xs : List ℕ) → Memᴰ a xs → T (has_root a xs)
has_passes a (x ∷ xs) (Memᴰ.head e) = rw (eq-eqb x a (sym e)) tt
has_passes a (x ∷ xs) (Memᴰ.tail m) = later (eqb x a) (has_passes a xs m)
  where
    later : (b : Bool) → T (has_root a xs) → T (b || has_root a xs)
    later true t = tt
    later false t = t
has_passes a [] m = elim m [ ]

-- whether one of a list passes a test is the same from its end
module _ {A : Type 0} (test : A → Bool) (some : List A → Bool) (none : some [] ≡ false) (next : (x : A) (xs : List A) → some (x ∷ xs) ≡ (test x || some xs)) where
  some_append : (xs ys : List A) → some (xs ++ ys) ≡ (some xs || some ys)
  some_append [] ys = rw none
  some_append (x ∷ xs) ys =
      next x (xs ++ ys) ∙ rw (some_append xs ys, next x xs) (sym (or_assoc (test x) (some xs) (some ys)))

  pub some_reverse : (xs : List A) → some (reverse xs) ≡ some xs
  some_reverse [] = refl
  some_reverse (x ∷ xs) =
      ap some (reverse-cons x xs) ∙ some_append (reverse xs) (x ∷ [])
      ∙ rw (some_reverse xs, next x xs, next x [], none, or-false) (or_comm (some xs) (test x))

-- the answer by a table that marks exactly the roots
pub marked_given : (table : List ℕ) (n a : ℕ) (marked : List Bool) → MarksExactly (roots_of table n) marked → a < most_types
    → get_or marked a false ≡ root_among table n a
marked_given table n a marked marks l =
    let roots = roots_of table n in
    rw (lt-ltb a most_types l)
    (same_test (get_or marked a false) (has_root a roots) (λ t. has_passes a roots ((marks a).0 t).1) (λ t. (marks a).1 (l, has_says a roots t)))

-- The table holds the roots, each of them below the limit, and past them 0.
pub record RootTable (table roots : List ℕ) : Type 0 where
  pub standing : Standing 0 most_roots table roots
  pub below : (a : ℕ) → Memᴰ a roots → a < most_types

-- the first entries of the table are the roots in file order
roots_held : (table roots : List ℕ) → StandsIn 0 table roots → roots_of table (length roots) ≡ reverse roots
unfolding roots_of up_from
roots_held table [] h = refl
roots_held table (a ∷ rs) h =
    let e : 0 + length rs ≡ length rs = omega arith in
    up_last (λ i. get_or table i 0) 0 (length rs)
    ∙ rw e (λ i. roots_held table rs h.1 i ++ (h.0 i ∷ []))
    ∙ sym (reverse-cons a rs)

module _ {table roots : List ℕ} (t : RootTable table roots) where
  pub roots_back : roots_of table (length roots) ≡ reverse roots
  roots_back = roots_held table roots t.standing.holds

  -- a type is found in the table exactly where it is one of the roots
  pub given_back : (a : ℕ) → root_among table (length roots) a ≡ has_root a roots
  given_back a = rw (roots_back, some_reverse (λ x. eqb x a) (has_root a) refl (λ x xs. refl) roots) (inside (has_root a roots) refl)
    where
      inside : (b : Bool) → has_root a roots ≡ b → (ltb a most_types && b) ≡ b
      inside true e = rw (lt-ltb a most_types (t.below a (has_says a roots (rw e tt))))
      inside false e = none (ltb a most_types)
        where
          none : (b : Bool) → (b && false) ≡ false
          none true = refl
          none false = refl

  -- one root more
  pub root_more : (a : ℕ) → length roots < most_roots → a < most_types → RootTable (set table (length roots) a) (a ∷ roots)
  root_more a few l =
      let h = t.standing in
      record { standing = set_stands table roots a h.long few h.holds (λ i k. h.empty i (omega arith)); below = own }
    where
      own : (b : ℕ) → Memᴰ b (a ∷ roots) → b < most_types
      own b (Memᴰ.head e) = rw e l
      own b (Memᴰ.tail m) = t.below b m

-- no roots
pub no_roots : RootTable (replicate most_roots 0) []
no_roots = record { standing = none_stands 0 most_roots; below = λ a m. absurd (has_passes a [] m) }
