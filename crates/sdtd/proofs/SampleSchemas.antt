-- The schemas of the samples: which are accepted, which types or roots compete in the others, and which bears no tree.
use mathlib.Core.Path.{◌≡◌, refl, ap}
use mathlib.Core.Bool.{Bool, not, ◌&&◌}
use mathlib.Core.List.Memᴰ
use mathlib.Core.List.{List, [], ◌∷◌, ◌++◌}
use Prim.Native.Nat.{ℕ, ◌≤◌, ◌<◌}
use native.Mathlib.Omega.{arith}
use lib.ListN.{length}
use lib.Dec.{T, lit<, lit≤}
use Rattle.sdtd.specs.Limits.{most_word}
use Rattle.sdtd.specs.Schema.{Schema, block_of, tag_of, WithinLimits}
use Rattle.sdtd.specs.Tree.{plain, IsRoot}
use Rattle.sdtd.specs.Trim.{SomeRootBears, AllBear, none, both, root}
use Rattle.sdtd.specs.Competition.{GoesOn, Compete, CompeteIn, CompeteOutside, Competition, of_roots, in_type, witness_bytes}
use Rattle.sdtd.specs.Competition.{no_parent, by_roots, by_types}
use Rattle.sdtd.specs.Competition.{Accepted}
use Rattle.sdtd.specs.Samples.{schema_r, schema_choice, schema_no_d, schema_two_ways, schema_two_types, schema_last_but_one}
use Rattle.sdtd.specs.Samples.{schema_optional, schema_endless, schema_nested, schema_lists, schema_one_tag, schema_treeless}
use Rattle.sdtd.specs.Samples.{schema_racks, schema_by_kind, schema_both_nil, schema_roots_by_kind, schema_roots_both_nil}
use Rattle.sdtd.specs.Samples.{witness_choice, witness_two_ways, witness_one_tag}
use Rattle.sdtd.specs.Samples.{refuses_8, refuses_9, Holds}
use Rattle.sdtd.proofs.Bearing.{by_bears, shared, word_bears}
use Rattle.sdtd.proofs.Tests.{Means, itself, and_means, not_means, every}
use Rattle.sdtd.proofs.Within.{limits_check, limits_means}
use Rattle.sdtd.proofs.Decide.{LiveTable, bears_in, LiveExact, live_check_lem, alike_in, alike_means, acceptsb, accepts_means}
use Rattle.sdtd.proofs.Decide.{restrained, restrained_check}
use Rattle.sdtd.proofs.Roots.{some_root_bears, some_root_bears_means, rival_roots, rival_roots_means}
use Rattle.sdtd.proofs.SampleRivals.{ways_only}

-- inside the limits, a root type bears a tree, and no two roots compete
abbrev roots_pass : Schema → LiveTable → Bool
roots_pass S L = limits_check S && some_root_bears S L && not (rival_roots S L)

abbrev RootsPass : Schema → Type 0
RootsPass S = (WithinLimits S × SomeRootBears S) × (¬ CompeteOutside S)

roots_pass_lem : {S : Schema} {L : LiveTable} → LiveExact S L → Means (roots_pass S L) (RootsPass S)
roots_pass_lem {S} x = and_means (and_means (limits_means S) (some_root_bears_means x)) (not_means (rival_roots_means x))

-- .. and the certificate of pairs passes
accepted : {S : Schema} {L : LiveTable} → LiveExact S L → (pairs : List (List (ℕ × ℕ))) → T (roots_pass S L && restrained S L pairs) → Accepted S
accepted {S} {L} x pairs t =
    let r = (and_means (roots_pass_lem x) (itself (restrained S L pairs))).says t in
    record { within = r.0.0.0; bears = r.0.0.1; no_competition = none r.0.1 (restrained_check x pairs r.1) }
  where
    none : ¬ CompeteOutside S → ((a : ℕ) → ¬ CompeteIn S a) → ¬ Competition S
    none outside inside (of_roots o) = outside o
    none outside inside (in_type {a = a} c) = inside a c

abbrev pub live_r : LiveTable
live_r = (0, 0) ∷ (0, 1) ∷ (1, 0) ∷ (2, 0) ∷ (3, 0) ∷ []

pub exact_r : LiveExact schema_r live_r
exact_r = live_check_lem schema_r live_r tt

pub accepted_r : Accepted schema_r
accepted_r = accepted exact_r (((1, 1) ∷ []) ∷ []) tt

abbrev pub live_no_d : LiveTable
live_no_d = (0, 0) ∷ (0, 1) ∷ (1, 0) ∷ (1, 1) ∷ (2, 1) ∷ (3, 0) ∷ []

pub exact_no_d : LiveExact schema_no_d live_no_d
exact_no_d = live_check_lem schema_no_d live_no_d tt

pub accepted_no_d : Accepted schema_no_d
accepted_no_d = accepted exact_no_d (((1, 1) ∷ []) ∷ ((1, 1) ∷ []) ∷ []) tt

abbrev pub live_two_types : LiveTable
live_two_types = (0, 0) ∷ (0, 1) ∷ (0, 2) ∷ (1, 0) ∷ (2, 0) ∷ (3, 0) ∷ []

pub exact_two_types : LiveExact schema_two_types live_two_types
exact_two_types = live_check_lem schema_two_types live_two_types tt

pub accepted_two_types : Accepted schema_two_types
accepted_two_types = accepted exact_two_types (((1, 1) ∷ (2, 2) ∷ []) ∷ []) tt

abbrev pub live_last_but_one : LiveTable
live_last_but_one = (0, 0) ∷ (0, 1) ∷ (0, 2) ∷ (1, 0) ∷ (2, 0) ∷ []

pub exact_last_but_one : LiveExact schema_last_but_one live_last_but_one
exact_last_but_one = live_check_lem schema_last_but_one live_last_but_one tt

pub accepted_last_but_one : Accepted schema_last_but_one
accepted_last_but_one =
    accepted exact_last_but_one (((0, 1) ∷ (1, 0) ∷ (1, 1) ∷ (0, 2) ∷ (2, 0) ∷ (1, 2) ∷ (2, 1) ∷ (2, 2) ∷ []) ∷ []) tt

abbrev pub live_optional : LiveTable
live_optional = (0, 0) ∷ (0, 1) ∷ (0, 2) ∷ (0, 3) ∷ (0, 4) ∷ (1, 0) ∷ (2, 0) ∷ (3, 0) ∷ (4, 0) ∷ []

pub exact_optional : LiveExact schema_optional live_optional
exact_optional = live_check_lem schema_optional live_optional tt

pub accepted_optional : Accepted schema_optional
accepted_optional = accepted exact_optional (((1, 1) ∷ (2, 2) ∷ (3, 3) ∷ (4, 4) ∷ []) ∷ []) tt

pub all_bear : {S : Schema} {L : LiveTable} → LiveExact S L → (w : List ℕ) → T (every (bears_in S L) w) → AllBear S w
all_bear x [] t = none
all_bear {S} {L} x (j ∷ w) t =
    let r = (and_means (x.bears j) (itself (every (bears_in S L) w))).says t in
    both r.0 (all_bear x w r.1)

-- the types of w, j and u are a word of the type a over tree-bearing types
abbrev goes_on : Schema → LiveTable → ℕ → List ℕ → ℕ → List ℕ → Bool
goes_on S L a w j u = acceptsb (block_of S a) (w ++ (j ∷ u)) && every (bears_in S L) (w ++ (j ∷ u))

goes_on_by_test : {S : Schema} {L : LiveTable} → LiveExact S L → (a : ℕ) (w : List ℕ) (j : ℕ) (u : List ℕ) → T (goes_on S L a w j u) → GoesOn S a w j
goes_on_by_test {S} {L} x a w j u t =
    let r = (and_means (accepts_means (block_of S a) (w ++ (j ∷ u))) (itself (every (bears_in S L) (w ++ (j ∷ u))))).says t in
    record { rest = u; word = r.0; bear = all_bear x (w ++ (j ∷ u)) r.1 }

-- no two roots compete, j and k compete in the type 0, which is a root type, after w, before u and v, and no types compete in it after a
-- shorter word
root_witness : {S : Schema} {L : LiveTable} → LiveExact S L → (j k : ℕ) (w u v : List ℕ)
    → IsRoot S 0 → j < k → tag_of S j ≡ tag_of S k → length w ≤ most_word
    → ((other : List ℕ) (m n : ℕ) → Compete S 0 other m n → length w ≤ length other)
    → T ((roots_pass S L && alike_in S L j k) && (goes_on S L 0 w j u && goes_on S L 0 w k v))
    → Holds (refuses_9 S (witness_bytes 0 j k w))
root_witness {S} {L} x j k w u v is_root order one_tag short least t =
    let goes = and_means (itself (goes_on S L 0 w j u)) (itself (goes_on S L 0 w k v)) in
    let r = (and_means (and_means (roots_pass_lem x) (alike_means x j k)) goes).says t in
    let passed = r.0.0 in
    let goes_j = goes_on_by_test x 0 w j u r.1.0 in (
      passed.0.0,
      passed.0.1,
      by_types passed.1 (record {
        type = 0;
        first = j;
        second = k;
        word = w;
        compete =
            record {
              reached = root is_root;
              bears = by_bears plain (word_bears 0 goes_j.word goes_j.bear);
              order = order;
              one_tag = one_tag;
              alike = r.0.1;
              goes_on_j = goes_j;
              goes_on_k = goes_on_by_test x 0 w k v r.1.1;
            };
        smallest = λ a c. omega arith;
        shortest = λ other. omega (arith, least other.word other.first other.second other.compete);
        short = short;
        written = refl;
      }),
    )

abbrev pub live_choice : LiveTable
live_choice = (0, 0) ∷ (0, 1) ∷ (1, 0) ∷ (1, 1) ∷ (2, 0) ∷ (2, 1) ∷ (3, 0) ∷ (4, 0) ∷ []

pub exact_choice : LiveExact schema_choice live_choice
exact_choice = live_check_lem schema_choice live_choice tt

pub refused_choice : Holds (refuses_9 schema_choice witness_choice)
refused_choice =
    root_witness exact_choice
    1 2 [] [] [] (Memᴰ.head refl) (lit< tt) refl (lit≤ tt) (λ v m n c. omega arith) tt

abbrev pub live_two_ways : LiveTable
live_two_ways = (0, 0) ∷ (0, 1) ∷ (0, 2) ∷ (0, 3) ∷ (1, 0) ∷ (2, 0) ∷ (3, 0) ∷ []

pub exact_two_ways : LiveExact schema_two_ways live_two_ways
exact_two_ways = live_check_lem schema_two_ways live_two_ways tt

pub refused_two_ways : Holds (refuses_9 schema_two_ways witness_two_ways)
refused_two_ways =
    root_witness exact_two_ways
    2 3 (1 ∷ []) [] [] (Memᴰ.head refl) (lit< tt) refl (lit≤ tt) (λ v m n c. omega (arith, ap length (ways_only v m n c).0)) tt

pub bears_none_endless : Holds (refuses_8 schema_endless)
bears_none_endless = ((limits_means schema_endless).says tt, λ b. (some_root_bears_means (live_check_lem schema_endless ((0, 1) ∷ []) tt)).passes b)

pub exact_nested : LiveExact schema_nested ((0, 0) ∷ [])
exact_nested = live_check_lem schema_nested ((0, 0) ∷ []) tt

pub accepted_nested : Accepted schema_nested
accepted_nested = accepted exact_nested [] tt

abbrev pub live_lists : LiveTable
live_lists = (0, 0) ∷ (1, 0) ∷ (2, 0) ∷ (3, 0) ∷ []

pub exact_lists : LiveExact schema_lists live_lists
exact_lists = live_check_lem schema_lists live_lists tt

pub accepted_lists : Accepted schema_lists
accepted_lists = accepted exact_lists [] tt

pub exact_treeless : LiveExact schema_treeless ((1, 0) ∷ (2, 0) ∷ (3, 0) ∷ [])
exact_treeless = live_check_lem schema_treeless ((1, 0) ∷ (2, 0) ∷ (3, 0) ∷ []) tt

pub accepted_treeless : Accepted schema_treeless
accepted_treeless = accepted exact_treeless [] tt

-- the roots j and k compete
outside_witness : {S : Schema} {L : LiveTable} → LiveExact S L → (j k : ℕ) → IsRoot S j → IsRoot S k → j < k → tag_of S j ≡ tag_of S k
    → T (limits_check S && alike_in S L j k) → Holds (refuses_9 S (witness_bytes no_parent j k []))
outside_witness {S} {L} x j k is_root_j is_root_k order one_tag t =
    let r = (and_means (limits_means S) (alike_means x j k)).says t in
    let s = shared r.1 in (
      r.0,
      record { type = j; is_root = is_root_j; bears = by_bears s.kind s.bears_j },
      by_roots (record {
        first = j;
        second = k;
        compete = record { order = order; one_tag = one_tag; is_root_j = is_root_j; is_root_k = is_root_k; alike = r.1 };
        written = refl;
      }),
    )

pub refused_one_tag : Holds (refuses_9 schema_one_tag witness_one_tag)
refused_one_tag =
    outside_witness (live_check_lem schema_one_tag live_lists tt) 0 1
    (Memᴰ.head refl) (Memᴰ.tail (Memᴰ.head refl)) (lit< tt) refl tt

abbrev pub live_racks : LiveTable
live_racks = (0, 0) ∷ (1, 0) ∷ (1, 1) ∷ (2, 0) ∷ []

pub exact_racks : LiveExact schema_racks live_racks
exact_racks = live_check_lem schema_racks live_racks tt

pub accepted_racks : Accepted schema_racks
accepted_racks = accepted exact_racks ([] ∷ ((1, 1) ∷ []) ∷ []) tt

pub exact_by_kind : LiveExact schema_by_kind ((0, 0) ∷ (2, 0) ∷ [])
exact_by_kind = live_check_lem schema_by_kind ((0, 0) ∷ (2, 0) ∷ []) tt

pub accepted_by_kind : Accepted schema_by_kind
accepted_by_kind = accepted exact_by_kind [] tt

pub refused_both_nil : Holds (refuses_9 schema_both_nil witness_choice)
refused_both_nil =
    root_witness (live_check_lem schema_both_nil ((0, 0) ∷ (2, 0) ∷ []) tt)
    1 2 [] [] [] (Memᴰ.head refl) (lit< tt) refl (lit≤ tt) (λ v m n c. omega arith) tt

pub exact_roots_by_kind : LiveExact schema_roots_by_kind ((1, 0) ∷ [])
exact_roots_by_kind = live_check_lem schema_roots_by_kind ((1, 0) ∷ []) tt

pub accepted_roots_by_kind : Accepted schema_roots_by_kind
accepted_roots_by_kind = accepted exact_roots_by_kind [] tt

pub refused_roots_both_nil : Holds (refuses_9 schema_roots_both_nil witness_one_tag)
refused_roots_both_nil =
    outside_witness (live_check_lem schema_roots_both_nil ((1, 0) ∷ []) tt) 0 1
    (Memᴰ.head refl) (Memᴰ.tail (Memᴰ.head refl)) (lit< tt) refl tt
