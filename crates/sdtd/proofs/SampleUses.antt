-- Which types of the samples' schemas a valid document uses, by words that show it.
use mathlib.Core.Path.{sym, subst}
use mathlib.Core.Logic.{⊎_elim}
use mathlib.Core.Bool.{Bool, true, ◌&&◌}
use mathlib.Core.List.Memᴰ
use mathlib.Core.List.{List, [], ◌∷◌, ◌++◌, Memᴰ}
use Prim.Native.Nat.{ℕ, zero, suc, ◌<◌}
use native.Mathlib.Decide.{ℕ_discrete}
use native.Mathlib.Omega.{arith}
use lib.Dec.{T}
use Rattle.sdtd.specs.Schema.{Schema, block_of}
use Rattle.sdtd.specs.Trim.{Reached, root, child, Used}
use Rattle.sdtd.specs.Reduced.{EveryTypeUsed}
use Rattle.sdtd.specs.Samples.{schema_r, schema_choice, schema_no_d, schema_two_ways, schema_two_types, schema_last_but_one, schema_optional, schema_racks}
use Rattle.sdtd.proofs.Basics.{and_parts}
use Rattle.sdtd.proofs.Tests.{every, memb, memb_means}
use Rattle.sdtd.proofs.Decide.{LiveTable, bears_in, LiveExact, acceptsb, accepts_means}
use Rattle.sdtd.proofs.Trimming.{used_useful}
use Rattle.sdtd.proofs.Ambiguity.{useful_used}
use Rattle.sdtd.proofs.SampleSchemas.{all_bear, exact_r, exact_choice, exact_no_d, exact_two_ways, exact_two_types, exact_last_but_one, exact_optional}
use Rattle.sdtd.proofs.SampleSchemas.{exact_racks}

-- words, each of a type that is a root or stands in a word before it: the types that stand there
abbrev standing : List ℕ → List (ℕ × List ℕ) → List ℕ
standing r [] = r
standing r (x ∷ xs) = standing (x.1 ++ r) xs

abbrev words_pass : Schema → LiveTable → List ℕ → List (ℕ × List ℕ) → Bool
words_pass S L r [] = true
words_pass S L r (x ∷ xs) =
    memb x.0 r && (acceptsb (block_of S x.0) x.1 && every (bears_in S L) x.1) && words_pass S L (x.1 ++ r) xs

-- .. and each number below n passes
abbrev each_below : (ℕ → Bool) → ℕ → Bool
each_below f zero = true
each_below f (suc n) = each_below f n && f n

each_below_lem : (f : ℕ → Bool) (n : ℕ) → T (each_below f n) → (a : ℕ) → a < n → T (f a)
each_below_lem f zero t a l = absurd (omega arith)
each_below_lem f (suc n) t a l =
    let r = and_parts (each_below f n) (f n) t in
    elim (ℕ_discrete a n) [ yes e ↦ subst (λ (b : ℕ). T (f b)) (sym e) r.1 | no e ↦ each_below_lem f n r.0 a (omega arith) ]

module _ {S : Schema} {L : LiveTable} (x : LiveExact S L) where
  standing_reached : (r : List ℕ) → ((a : ℕ) → Memᴰ a r → Reached S a) → (xs : List (ℕ × List ℕ)) → T (words_pass S L r xs)
      → (a : ℕ) → Memᴰ a (standing r xs) → Reached S a
  standing_reached r known [] t a m = known a m
  standing_reached r known ((p, w) ∷ xs) t a m =
      let s = and_parts (memb p r && (acceptsb (block_of S p) w && every (bears_in S L) w)) (words_pass S L (w ++ r) xs) t in
      let h = and_parts (memb p r) (acceptsb (block_of S p) w && every (bears_in S L) w) s.0 in
      let k = and_parts (acceptsb (block_of S p) w) (every (bears_in S L) w) h.1 in
      let parent = known p ((memb_means p r).says h.0) in
      standing_reached (w ++ r)
      (λ b n. ⊎_elim (λ i. child parent ((accepts_means (block_of S p) w).says k.0) (all_bear x w k.1) i) (known b) (Memᴰ.append_cases w n))
      xs s.1 a m

  -- the words show that the first n types are used
  used_below : (words : List (ℕ × List ℕ)) (n : ℕ)
      → T (words_pass S L S.roots words && each_below (λ a. memb a (standing S.roots words) && bears_in S L a) n)
      → (a : ℕ) → a < n → Used S a
  used_below words n t a l =
      let all = standing S.roots words in
      let test : ℕ → Bool = λ b. memb b all && bears_in S L b in
      let s = and_parts (words_pass S L S.roots words) (each_below test n) t in
      let k = and_parts (memb a all) (bears_in S L a) (each_below_lem test n s.1 a l) in
      useful_used (standing_reached S.roots (λ b m. root m) words s.0 a ((memb_means a all).says k.0), (x.bears a).says k.1)

-- each type of these is used
pub every_used_r : EveryTypeUsed schema_r
every_used_r = used_below exact_r ((0, 1 ∷ 2 ∷ 3 ∷ []) ∷ []) 4 tt

pub every_used_choice : EveryTypeUsed schema_choice
every_used_choice = used_below exact_choice ((0, 1 ∷ []) ∷ (0, 2 ∷ []) ∷ (1, 3 ∷ []) ∷ (2, 4 ∷ []) ∷ []) 5 tt

pub every_used_two_ways : EveryTypeUsed schema_two_ways
every_used_two_ways = used_below exact_two_ways ((0, 1 ∷ 2 ∷ []) ∷ (0, 1 ∷ 3 ∷ []) ∷ []) 4 tt

pub every_used_two_types : EveryTypeUsed schema_two_types
every_used_two_types = used_below exact_two_types ((0, 1 ∷ 2 ∷ []) ∷ (0, 1 ∷ 3 ∷ []) ∷ []) 4 tt

pub every_used_last_but_one : EveryTypeUsed schema_last_but_one
every_used_last_but_one = used_below exact_last_but_one ((0, 1 ∷ 2 ∷ []) ∷ []) 3 tt

pub every_used_optional : EveryTypeUsed schema_optional
every_used_optional = used_below exact_optional ((0, 1 ∷ 2 ∷ 3 ∷ 4 ∷ 3 ∷ []) ∷ []) 5 tt

pub every_used_racks : EveryTypeUsed schema_racks
every_used_racks = used_below exact_racks ((0, 1 ∷ []) ∷ (1, 2 ∷ []) ∷ []) 3 tt

-- without d, the type b2 is the first that is not used: it bears no tree
pub before_b2 : (a : ℕ) → a < 2 → Used schema_no_d a
before_b2 = used_below exact_no_d ((0, 1 ∷ []) ∷ []) 2 tt

pub b2_unused : ¬ Used schema_no_d 2
b2_unused u = (exact_no_d.bears 2).passes (used_useful u).1
