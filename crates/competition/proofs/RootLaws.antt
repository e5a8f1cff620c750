-- What the table of roots says of the schema: which roots bear a tree and how, and whether two of them compete.
use mathlib.Core.Path.{◌≡◌, refl, sym, ap, ◌∙◌}
use mathlib.Core.Logic.{◌↔◌, ⊎_elim, inl, inr}
use mathlib.Core.Bool.{Bool, true, false, cond}
use mathlib.Core.List.{List, [], ◌++◌}
use Prim.Native.Nat.{ℕ, ◌≤◌, ◌<◌}
use native.Mathlib.Decide.{dec_lt}
use native.Mathlib.Nat.{zero-add}
use native.Mathlib.Omega.{arith}
use lib.Dec.{T}
use lib.ListN.{length, get_or, drop, length-map, get_or-eq_default}
use Rattle.sdtd.specs.Limits.{most_types}
use Rattle.sdtd.specs.Schema.{WithinLimits, tag_of}
use Rattle.sdtd.specs.Schema.{Schema as Meaning}
use Rattle.sdtd.specs.Tree.{Kind, plain, nil, IsRoot}
use Rattle.sdtd.specs.Trim.{Bears, BearsBy, SomeRootBears}
use Rattle.sdtd.specs.Competition.{RootsCompete, witness_bytes, no_parent, by_roots}
use Rattle.sdtd.proofs.Tests.{itself, or_means}
use Rattle.sdtd.proofs.Bearing.{by_bears, nil_bears, bears_either, alike, shared}
use Rattle.sdtd.proofs.Within.{root_below}
use Rattle.schema.specs.Value.{up_from, roots_of, meaning}
use Rattle.schema.specs.Ways.{opens_by, bears_in}
use Rattle.schema.specs.Trimming.{MarksExactly, Exact}
use Rattle.schema.specs.declared.value.Schema.{Schema}
use Rattle.schema.specs.declared.tables.Trimming.{Trimming}
use Rattle.schema.proofs.Values.{up_count, map_up, types_count, tag_of_lem}
use Rattle.schema.proofs.TablesExact.{roots_marked}
use Rattle.competition.specs.Witness.{word_place}
use Rattle.competition.specs.Roots.{ways_of_roots, OpensExactly, SomeOpens, OpeningRivals, RootsCompeteMeans}
use Rattle.competition.proofs.WaysLaws.{common, has_common}

-- the table of the roots' ways, an entry for each type
module _ (roots : List Bool) (ways : List ℕ) where
  abbrev of_root : ℕ → ℕ
  of_root a = cond (get_or roots a false) (get_or ways a 0) 0

  pub ways_long : length (ways_of_roots roots ways) ≡ most_types
  ways_long = length-map (up_from 0 most_types) of_root ∙ up_count 0 most_types

  pub ways_at : (a : ℕ) → a < most_types → get_or (ways_of_roots roots ways) a 0 ≡ of_root a
  ways_at a l = map_up of_root 0 0 most_types a l ∙ ap of_root (zero-add a)

-- 0 has no kind
no_kind : (κ : Kind) → T (opens_by κ 0) → ⊥
no_kind plain t = t
no_kind nil t = t

root_opens : (κ : Kind) (b : Bool) (w : ℕ) → T (opens_by κ (cond b w 0)) ↔ (T b × T (opens_by κ w))
root_opens κ true w = (λ t. (tt, t), λ p. p.1)
root_opens κ false w = (λ t. absurd (no_kind κ t), λ p. absurd p.0)

-- the table says exactly which types open a document and how
pub opens_exactly : (v : Schema) (t : Trimming) (roots : List Bool) → WithinLimits (meaning v) → Exact (meaning v) t
    → MarksExactly (roots_of v.root v.roots) roots → OpensExactly (meaning v) (ways_of_roots roots t.ways)
opens_exactly v t roots within exact marks κ a = by_type (dec_lt a most_types)
  where
    by_type : Dec (a < most_types) → T (opens_by κ (get_or (ways_of_roots roots t.ways) a 0)) ↔ (IsRoot (meaning v) a × BearsBy (meaning v) κ a)
    by_type (yes l) =
        let is_root = roots_marked v roots within marks a in
        let bears = (exact.ways a).exact κ in
        let opens = root_opens κ (get_or roots a false) (get_or t.ways a 0) in
        rw (ways_at roots t.ways a l) (
          λ m. let p = opens.0 m in (is_root.0 p.0, bears.0 p.1),
          λ p. opens.1 (is_root.1 p.0, bears.1 p.1),
        )
    by_type (no n) =
        let past : length (ways_of_roots roots t.ways) ≤ a = rw (ways_long roots t.ways) (omega arith) in
        rw (get_or-eq_default (ways_of_roots roots t.ways) 0 past) (λ m. absurd (no_kind κ m), λ p. absurd (n (root_below within p.0)))

-- a type opens a document exactly if it is a root and bears a tree
opens_bears : {S : Meaning} (opening : List ℕ) → OpensExactly S opening → (a : ℕ) → T (bears_in opening a) ↔ (IsRoot S a × Bears S a)
opens_bears {S} opening opens a =
    let w = get_or opening a 0 in
    let o = or_means (itself (opens_by plain w)) (itself (opens_by nil w)) in (
      λ t. ⊎_elim (so plain) (so nil) (o.says t),
      λ p. o.passes
          (⊎_elim (λ b. inl ((opens plain a).1 (p.0, b))) (λ n. inr ((opens nil a).1 (p.0, nil_bears.1 n))) (bears_either.0 p.1)),
    )
  where
    so : (κ : Kind) → T (opens_by κ (get_or opening a 0)) → IsRoot S a × Bears S a
    so κ t = let p = (opens κ a).0 t in (p.0, by_bears κ p.1)

pub some_opens : {S : Meaning} (opening : List ℕ) → WithinLimits S → OpensExactly S opening → SomeOpens opening ↔ SomeRootBears S
some_opens opening within opens = (
  λ m. let p = (opens_bears opening opens m.type).0 m.opens in record { type = m.type; is_root = p.0; bears = p.1 },
  λ r.
      record {
        type = r.type;
        type_below = root_below within r.is_root;
        opens = (opens_bears opening opens r.type).1 (r.is_root, r.bears);
      },
)

module _ (v : Schema) (opening : List ℕ) (within : WithinLimits (meaning v)) (opens : OpensExactly (meaning v) opening) where
  root_tag : (a : ℕ) → IsRoot (meaning v) a → tag_of (meaning v) a ≡ get_or v.tag a 0
  root_tag a r = tag_of_lem v a (omega (arith, within.roots a r, types_count v))

  -- two types of one tag that open a document alike are roots that compete, and the other way round
  opening_compete : (j k : ℕ) → OpeningRivals opening v.tag j k ↔ RootsCompete (meaning v) j k
  opening_compete j k = (
    λ r.
        let c = common (get_or opening j 0) (get_or opening k 0) r.alike in
        let x = (opens c.kind j).0 c.first in
        let y = (opens c.kind k).0 c.second in
        record {
          order = r.order;
          one_tag = root_tag j x.0 ∙ r.one_tag ∙ sym (root_tag k y.0);
          is_root_j = x.0;
          is_root_k = y.0;
          alike = alike c.kind x.1 y.1;
        },
    λ c.
        let s = shared c.alike in
        record {
          order = c.order;
          second_below = root_below within c.is_root_k;
          one_tag = sym (root_tag j c.is_root_j) ∙ c.one_tag ∙ root_tag k c.is_root_k;
          alike =
              has_common (get_or opening j 0) (get_or opening k 0) s.kind
              ((opens s.kind j).1 (c.is_root_j, s.bears_j))
              ((opens s.kind k).1 (c.is_root_k, s.bears_k));
        },
  )

  pub rivals_found : (j k : ℕ) → OpeningRivals opening v.tag j k → (was is : List ℕ)
      → is ≡ witness_bytes no_parent j k [] ++ drop word_place was → RootsCompeteMeans (meaning v) was is true
  rivals_found j k r was is e =
      let c = (opening_compete j k).0 r in
      record {
        compete = (λ t. record { first = j; second = k; compete = c }, λ o. tt);
        written = λ t.
            record {
              bytes = witness_bytes no_parent j k [];
              witness = by_roots (record { first = j; second = k; compete = c; written = refl });
              filled = e;
            };
        unchanged = λ n. absurd (n tt);
      }

  pub no_rivals_found : ((j k : ℕ) → ¬ OpeningRivals opening v.tag j k) → (was : List ℕ) → RootsCompeteMeans (meaning v) was was false
  no_rivals_found none was =
      record {
        compete = (λ f. absurd f, λ o. absurd (none o.first o.second ((opening_compete o.first o.second).1 o.compete)));
        written = λ f. absurd f;
        unchanged = λ n. refl;
      }
