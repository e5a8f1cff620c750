-- It is decided, by a table of tree-bearing types, whether a root type bears a tree and whether two roots compete.
use mathlib.Core.Path.{◌≡◌}
use mathlib.Core.Logic.{◌↔◌}
use mathlib.Core.Bool.{Bool, ◌&&◌}
use Prim.Native.Nat.{ℕ, ◌<◌}
use lib.Dec.{ltb, eqb}
use Rattle.sdtd.specs.Schema.{Schema, tag_of}
use Rattle.sdtd.specs.Trim.{SomeRootBears}
use Rattle.sdtd.specs.Competition.{OpenedAlike, CompeteOutside}
use Rattle.sdtd.proofs.Tests.{Means, means_iff, eq_means, lt_means, and_means, Found, any, any_means}
use Rattle.sdtd.proofs.Decide.{LiveTable, bears_in, LiveExact, alike_in, alike_means}

-- by the table, a root type bears a tree
abbrev pub some_root_bears : Schema → LiveTable → Bool
some_root_bears S L = any (bears_in S L) S.roots

pub some_root_bears_means : {S : Schema} {L : LiveTable} → LiveExact S L → Means (some_root_bears S L) (SomeRootBears S)
some_root_bears_means {S} x =
    means_iff (any_means x.bears S.roots) (
      λ r. record { member = r.type; given = r.is_root; holds = r.bears },
      λ f. record { type = f.member; is_root = f.given; bears = f.holds },
    )

-- j and k are in this order, of one tag, and bear trees opened alike
abbrev RivalsOf : Schema → ℕ → ℕ → Type 0
RivalsOf S j k = ((j < k) × (tag_of S j ≡ tag_of S k)) × OpenedAlike S j k

-- two root types are so
abbrev RivalRoots : Schema → Type 0
RivalRoots S = Found (λ j. Found (RivalsOf S j) S.roots) S.roots

rival_roots_lem : (S : Schema) → CompeteOutside S ↔ RivalRoots S
rival_roots_lem S = (
  λ o.
      let c = o.compete in
      record {
        member = o.first;
        given = c.is_root_j;
        holds = record { member = o.second; given = c.is_root_k; holds = ((c.order, c.one_tag), c.alike) };
      },
  λ f.
      let g = f.holds in
      let h = g.holds in
      record {
        first = f.member;
        second = g.member;
        compete =
            record {
              order = h.0.0;
              one_tag = h.0.1;
              is_root_j = f.given;
              is_root_k = g.given;
              alike = h.1;
            };
      },
)

abbrev rivals_of : Schema → LiveTable → ℕ → ℕ → Bool
rivals_of S L j k = (ltb j k && eqb (tag_of S j) (tag_of S k)) && alike_in S L j k

rivals_of_means : {S : Schema} {L : LiveTable} → LiveExact S L → (j k : ℕ) → Means (rivals_of S L j k) (RivalsOf S j k)
rivals_of_means {S} x j k =
    and_means (and_means (lt_means j k) (eq_means (tag_of S j) (tag_of S k))) (alike_means x j k)

-- by the table, two roots compete
abbrev pub rival_roots : Schema → LiveTable → Bool
rival_roots S L = any (λ j. any (rivals_of S L j) S.roots) S.roots

pub rival_roots_means : {S : Schema} {L : LiveTable} → LiveExact S L → Means (rival_roots S L) (CompeteOutside S)
rival_roots_means {S} x = means_iff (any_means (λ j. any_means (rivals_of_means x j) S.roots) S.roots) (rival_roots_lem S)
