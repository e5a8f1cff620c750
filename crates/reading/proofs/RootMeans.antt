-- With no element open: what opens under a tag is what a call may open. And the heads, a type at a time and then a root at a time.
use mathlib.Core.Path.{◌≡◌, refl, sym, ap, subst, ◌∙◌}
use mathlib.Core.Bool.{Bool, true, false, cond}
use mathlib.Core.Logic.{◌↔◌, ◌≢◌}
use mathlib.Core.List.{List}
use Prim.Native.Nat.{ℕ, zero, suc, ◌+◌, ◌-◌, ◌*◌, ◌%◌, ◌≤◌, ◌<◌}
use native.Mathlib.Decide.{dec_lt, ℕ_discrete}
use native.Mathlib.Numerals.{add-one}
use native.Mathlib.Omega.{arith}
use borrow.Author.Tests.{ne_eqb, lt-ltb, le-ltb}
use lib.Dec.{T, eqb, ltb}
use lib.ListN.{length, get_or, set, replicate, length-set}
use lib.Seq.{get_or-set_same, get_or-set_other}
use Rattle.sdtd.specs.Limits.{most_tags, most_types}
use Rattle.sdtd.specs.Schema.{Schema as Meaning}
use Rattle.sdtd.specs.Schema.{WithinLimits}
use Rattle.sdtd.specs.Tree.{Kind, plain, nil, IsRoot}
use Rattle.sdtd.specs.Trim.{BearsBy}
use Rattle.sdtd.proofs.Basics.{not_both}
use Rattle.sdtd.proofs.Questions.{plain_not_nil}
use Rattle.schema.specs.States.{no_states}
use Rattle.schema.specs.Value.{meaning}
use Rattle.schema.specs.Trimming.{WaysExactly}
use Rattle.schema.specs.declared.value.Schema.{Schema}
use Rattle.schema.proofs.Values.{same_everywhere, types_count, tag_of_lem}
use Rattle.schema.proofs.RootLaws.{AtRoot, roots_mem, roots_count, root_in}
use Rattle.schema.proofs.LimitLaws.{within_room}
use Rattle.reading.specs.declared.value.Reading.{Reading}
use Rattle.std.specs.Prelude.{None}
use Rattle.reading.specs.Questions.{CanOpen}
use Rattle.reading.specs.Coming.{of_type, opens_in}
use Rattle.reading.specs.Heads.{head_tag, head_accepting, head_nillable, head_root, set_head, opens_under, with_root, add_root, add_roots, RootsFit}
use Rattle.reading.specs.Steps.{coming_first}
use Rattle.reading.specs.Heads.{RootOf, OpensMeans, HeadsMean}
use Rattle.reading.proofs.LevelLaws.{tag_below}
use Rattle.reading.proofs.HeadLaws.{head_long, head_elsewhere, head_tag_lem, head_accepting_lem, head_nillable_lem}
use Rattle.reading.proofs.ComingMeans.{ComingMeans}

module _ (S : Meaning) (r : Reading) (outside : r.depth ≡ 0) (κ : Kind) (g : ℕ) where
  -- a call may open exactly the root types of the tag that bear a tree opened so, where no root came before
  root_of : {j : ℕ} → CanOpen S r κ g j → RootOf S κ g j
  root_of o = record { root = (o.none_open outside).0; bears = o.bears; tag = o.tag }

  can_open : {j : ℕ} → r.rooted ≡ false → RootOf S κ g j → CanOpen S r κ g j
  can_open f w = record { bears = w.bears; tag = w.tag; some_open = λ d. absurd (omega arith); none_open = λ z. (w.root, f) }

  unrooted : r.rooted ≡ false → (b : Bool) (j : ℕ) → OpensMeans S κ g (cond b None (of_type j no_states))
      → ComingMeans S r κ g (cond b None (of_type j no_states))
  unrooted f true j m = λ k o. m k (root_of o)
  unrooted f false j m =
      record {
        can_open = can_open f m.0;
        smallest = λ k o. m.1 k (root_of o);
        kept_below = omega arith;
        keeps = λ d. absurd (omega arith);
      }

  -- with no element open, the heads say what a call asks for
  pub root_means : (heads : List ℕ) → OpensMeans S κ g (opens_under heads κ g) → ComingMeans S r κ g (coming_first heads r.rooted κ g)
  root_means heads m = by_rooted r.rooted refl
    where
      by_rooted : (b : Bool) → r.rooted ≡ b → ComingMeans S r κ g (cond b None (opens_under heads κ g))
      by_rooted true e = λ j o. not_both e (o.none_open outside).1
      by_rooted false e = unrooted e (eqb (get_or heads (head_root κ g) 0) 0) ((get_or heads (head_root κ g) 0 - 1) % most_types) m

-- two kinds are the same or not
kind_discrete : (κ ν : Kind) → Dec (κ ≡ ν)
kind_discrete plain plain = yes refl
kind_discrete plain nil = no plain_not_nil
kind_discrete nil plain = no (λ e. plain_not_nil (sym e))
kind_discrete nil nil = yes refl

-- the number under the tag g means the smallest of the first i roots of the table that have the tag and bear a tree opened so, or that there is
-- none
abbrev FirstMeans : Schema → ℕ → Kind → ℕ → ℕ → Type 0
FirstMeans v i κ g zero = (j : ℕ) → AtRoot v.root i j → ¬ RootOf (meaning v) κ g j
FirstMeans v i κ g (suc a) =
    (a < most_types) × RootOf (meaning v) κ g a × ((k : ℕ) → AtRoot v.root i k → RootOf (meaning v) κ g k → a ≤ k)

-- how many numbers the heads have
abbrev heads_long : ℕ
heads_long = 3 * most_types + 2 * most_tags

-- a count for each kind of opening
abbrev pub counts : ℕ → ℕ → Kind → ℕ
counts plainly nils plain = plainly
counts plainly nils nil = nils

-- the heads, with the numbers of the types below n, and with what opens so by the first roots, as many as are counted for the kind
pub record HeadsBelow (v : Schema) (n : ℕ) (i : Kind → ℕ) (heads : List ℕ) : Type 0 where
  pub long : length heads ≡ heads_long
  pub tag : (a : ℕ) → a < n → get_or heads (head_tag a) 0 ≡ get_or v.tag a 0
  pub nillable : (a : ℕ) → a < n → get_or heads (head_nillable a) 0 ≡ cond (get_or v.nillable a false) 1 0
  pub accepting : (a : ℕ) → a < n → get_or heads (head_accepting a) 0 ≡ get_or v.accepting a 0
  pub opens : (κ : Kind) (g : ℕ) → g < most_tags → FirstMeans v (i κ) κ g (get_or heads (head_root κ g) 0)

pub heads_none : (v : Schema) → HeadsBelow v 0 (counts 0 0) (replicate heads_long 0)
heads_none v =
    record {
      long = refl;
      tag = λ a l. absurd (omega arith);
      nillable = λ a l. absurd (omega arith);
      accepting = λ a l. absurd (omega arith);
      opens = λ κ g l. rw (same_everywhere {A = ℕ} 0 heads_long (head_root κ g)) (none κ g);
    }
  where
    none : (κ : Kind) (g : ℕ) → FirstMeans v (counts 0 0 κ) κ g 0
    none plain g = λ j p. absurd (omega (arith, p.most))
    none nil g = λ j p. absurd (omega (arith, p.most))

-- the numbers of the tags stand between the first two of each type and the third ones
root_place : (κ : Kind) (g : ℕ) → g < most_tags → (2 * most_types ≤ head_root κ g) × (head_root κ g < 2 * most_types + 2 * most_tags)
root_place plain g l = (omega arith, omega arith)
root_place nil g l = (omega arith, omega arith)

-- those of two kinds and tags are apart
roots_apart : (κ ν : Kind) (g h : ℕ) → g < most_tags → h < most_tags → head_root κ g ≡ head_root ν h → (κ ≡ ν) × (g ≡ h)
roots_apart plain plain g h l m e = (refl, omega arith)
roots_apart plain nil g h l m e = absurd (omega arith)
roots_apart nil plain g h l m e = absurd (omega arith)
roots_apart nil nil g h l m e = (refl, omega arith)

-- the type a, with its numbers
module _ (v : Schema) (within : WithinLimits (meaning v)) (a : ℕ) (type : a < v.types) (heads : List ℕ) where
  most : a < most_types
  most = omega (arith, type, (within_room v within).types)

  abbrev g : ℕ
  g = get_or v.tag a 0

  abbrev nillable : Bool
  nillable = get_or v.nillable a false

  abbrev laid : List ℕ
  laid = set_head heads a g nillable (get_or v.accepting a 0)

  abbrev accepting : ℕ
  accepting = get_or v.accepting a 0

  pub heads_laid : {i : Kind → ℕ} → HeadsBelow v a i heads → HeadsBelow v (suc a) i laid
  heads_laid w =
      let room : head_nillable a < length heads = omega (arith, most, w.long) in
      let elsewhere = head_elsewhere heads a g nillable accepting in
      record {
        long = head_long heads a g nillable accepting ∙ w.long;
        tag =
            λ b l. elim (ℕ_discrete b a) [
              | yes e ↦ rw (e, head_tag_lem heads a g nillable accepting most room)
              | no n ↦ elsewhere (head_tag b) (λ e. n (omega arith)) (λ e. omega arith) (λ e. omega (arith, most)) ∙ w.tag b (omega arith)
            ];
        nillable =
            λ b l. elim (ℕ_discrete b a) [
              | yes e ↦ rw (e, head_nillable_lem heads a g nillable accepting most room)
              | no n ↦
                  elsewhere (head_nillable b) (λ e. omega (arith, most)) (λ e. omega (arith, most)) (λ e. n (omega arith)) ∙ w.nillable b (omega arith)
            ];
        accepting =
            λ b l. elim (ℕ_discrete b a) [
              | yes e ↦ rw (e, head_accepting_lem heads a g nillable accepting most room)
              | no n ↦ elsewhere (head_accepting b) (λ e. omega arith) (λ e. n (omega arith)) (λ e. omega (arith, most)) ∙ w.accepting b (omega arith)
            ];
        opens =
            λ κ h l.
            let between = root_place κ h l in
            rw (elsewhere (head_root κ h) (λ e. omega (arith, most, between.0)) (λ e. omega (arith, most, between.0)) (λ e. omega (arith, between.1)))
            (w.opens κ h l);
      }

-- the first roots of a schema inside the limits are types
pub root_type : (v : Schema) → WithinLimits (meaning v) → (i : ℕ) → i < v.roots → get_or v.root i 0 < v.types
unfolding meaning
root_type v within i l = rw types_count at (within.roots (get_or v.root i 0) (root_in v.root v.roots i l))

pub roots_fit : (v : Schema) → WithinLimits (meaning v) → RootsFit v.root v.roots v.tag
unfolding meaning
roots_fit v within =
    record {
      count = omega (arith, roots_count v.root v.roots, within.roots_most);
      type = λ i l. omega (arith, root_type v within i l, (within_room v within).types);
      tag_below = λ i l. tag_below v within (get_or v.root i 0) (root_type v within i l);
    }

-- The root at the place i of the table, for one kind of opening.
module _ (v : Schema) (within : WithinLimits (meaning v)) (κ : Kind) (i : ℕ) (root : i < v.roots) where
  abbrev a : ℕ
  a = get_or v.root i 0

  abbrev h : ℕ
  h = get_or v.tag a 0

  a_type : a < v.types
  a_type = root_type v within i root

  a_most : a < most_types
  a_most = (roots_fit v within).type i root

  a_root : IsRoot (meaning v) a
  unfolding meaning
  a_root = root_in v.root v.roots i root

  -- what holds of each root before it, and of it, holds of each of one more
  each_next : (P : ℕ → Type 0) → ((k : ℕ) → AtRoot v.root i k → P k) → P a → (k : ℕ) → AtRoot v.root (suc i) k → P k
  each_next P before there k p =
      elim (dec_lt p.place i) [
        | yes l ↦ before k (record { place = p.place; least = omega arith; most = omega arith; is = p.is })
        | no l ↦
            let e : p.place ≡ i = omega (arith, p.most) in
            let f : k ≡ a = rw e at p.is in
            rw f there
      ]

  -- it does not open under the tag g
  one_more : (g n : ℕ) → ¬ RootOf (meaning v) κ g a → FirstMeans v i κ g n → FirstMeans v (suc i) κ g n
  one_more g zero not w = each_next (λ j. ¬ RootOf (meaning v) κ g j) w not
  one_more g (suc b) not w = (w.0, w.1, each_next (λ k. RootOf (meaning v) κ g k → b ≤ k) w.2 (λ o. absurd (not o)))

  -- it may open under its own
  module _ (o : RootOf (meaning v) κ h a) where
    here : ((k : ℕ) → AtRoot v.root i k → RootOf (meaning v) κ h k → a ≤ k) → FirstMeans v (suc i) κ h (a + 1)
    here before = rw add-one (a_most, o, each_next (λ k. RootOf (meaning v) κ h k → a ≤ k) before (λ p. omega arith))

    with_root_lem : (n : ℕ) → FirstMeans v i κ h n → FirstMeans v (suc i) κ h (with_root n a)
    unfolding with_root
    with_root_lem zero w = here (λ k p r. absurd (w k p r))
    with_root_lem (suc b) w =
        elim (dec_lt (a + 1) (suc b)) [
          | yes l ↦ rw (ne_eqb (suc b) 0 (λ e. omega arith), lt-ltb (a + 1) (suc b) l) (here (λ k p r. omega (arith, w.2 k p r)))
          | no l ↦
              rw (ne_eqb (suc b) 0 (λ e. omega arith), le-ltb (a + 1) (suc b) (omega arith))
              (w.0, w.1, each_next (λ k. RootOf (meaning v) κ h k → b ≤ k) w.2 (λ r. omega arith))
        ]

  -- the tag of the type
  h_below : h < most_tags
  h_below = (roots_fit v within).tag_below i root

  module _ {n : ℕ} {heads : List ℕ} (c : Kind → ℕ) (seen : c κ ≡ i) (w : HeadsBelow v n c heads) (n_most : n ≤ most_types) where
    abbrev put : ℕ
    put = with_root (get_or heads (head_root κ h) 0) a

    abbrev added : List ℕ
    added = set heads (head_root κ h) put

    -- at other places it says the same
    elsewhere : (m : ℕ) → m ≢ head_root κ h → get_or added m 0 ≡ get_or heads m 0
    elsewhere m d = get_or-set_other heads (head_root κ h) m put 0 d

    not_other : (g : ℕ) → g ≢ h → ¬ RootOf (meaning v) κ g a
    not_other g d o = d (sym o.tag ∙ tag_of_lem v a a_type)

    -- what stands under the tag g for the kind itself
    before : (g : ℕ) → g < most_tags → FirstMeans v i κ g (get_or heads (head_root κ g) 0)
    before g l = subst (λ (k : ℕ). FirstMeans v k κ g (get_or heads (head_root κ g) 0)) seen (w.opens κ g l)

    opens_now : RootOf (meaning v) κ h a → (g : ℕ) → g < most_tags → FirstMeans v (suc i) κ g (get_or added (head_root κ g) 0)
    opens_now o g l =
        elim (ℕ_discrete g h) [
          | yes e ↦
              let inside = (root_place κ h h_below).1 in
              let there : get_or added (head_root κ h) 0 ≡ put = get_or-set_same heads (head_root κ h) put 0 (omega (arith, w.long)) in
              rw (e, there) (with_root_lem o (get_or heads (head_root κ h) 0) (before h h_below))
          | no d ↦
              rw (elsewhere (head_root κ g) (λ q. d (roots_apart κ κ g h l h_below q).1))
              (one_more g (get_or heads (head_root κ g) 0) (not_other g d) (before g l))
        ]

    pub root_added : (ways : List ℕ) → WaysExactly (meaning v) ways
        → (d : Kind → ℕ) → d κ ≡ suc i → ((ν : Kind) → ν ≢ κ → d ν ≡ c ν) → HeadsBelow v n d (add_root heads v.tag ways κ a)
    unfolding add_root
    root_added ways table d next others = by (opens_in κ ways a) ((table a).exact κ)
      where
        -- the kind itself, and the other
        each : (heads' : List ℕ) → ((g : ℕ) → g < most_tags → FirstMeans v (suc i) κ g (get_or heads' (head_root κ g) 0))
            → ((ν : Kind) (g : ℕ) → g < most_tags → ν ≢ κ → get_or heads' (head_root ν g) 0 ≡ get_or heads (head_root ν g) 0)
            → (ν : Kind) (g : ℕ) → g < most_tags → FirstMeans v (d ν) ν g (get_or heads' (head_root ν g) 0)
        each heads' own same ν g l =
            elim (kind_discrete ν κ) [
              | yes e ↦ rw (e, next) (own g l)
              | no f ↦ rw (others ν f, same ν g l f) (w.opens ν g l)
            ]

        by : (b : Bool) → (T b ↔ BearsBy (meaning v) κ a) → HeadsBelow v n d (cond b added heads)
        by false tells =
            record {
              long = w.long;
              tag = w.tag;
              nillable = w.nillable;
              accepting = w.accepting;
              opens = each heads (λ g l. one_more g (get_or heads (head_root κ g) 0) (λ o. tells.1 o.bears) (before g l)) (λ ν g l f. refl);
            }
        by true tells =
            let between = root_place κ h h_below in
            record {
              long = length-set heads (head_root κ h) put ∙ w.long;
              tag = λ b l. elsewhere (head_tag b) (λ e. omega (arith, n_most, between.0)) ∙ w.tag b l;
              nillable = λ b l. elsewhere (head_nillable b) (λ e. omega (arith, between.1)) ∙ w.nillable b l;
              accepting = λ b l. elsewhere (head_accepting b) (λ e. omega (arith, n_most, between.0)) ∙ w.accepting b l;
              opens =
                  each added (opens_now (record { root = a_root; bears = tells.0 tt; tag = tag_of_lem v a a_type }))
                  (λ ν g l f. elsewhere (head_root ν g) (λ q. f (roots_apart ν κ g h l h_below q).0));
            }

-- a root after another
module _ (v : Schema) (within : WithinLimits (meaning v)) (ways : List ℕ) (table : WaysExactly (meaning v) ways) {n : ℕ} (n_most : n ≤ most_types)
    {heads : List ℕ} where
  -- plainly, and then as nil
  pub heads_plain : HeadsBelow v n (counts 0 0) heads → (i : ℕ) → i ≤ v.roots
      → HeadsBelow v n (counts i 0) (add_roots heads v.tag ways plain v.root i)
  unfolding add_roots
  heads_plain w zero l = w
  heads_plain w (suc i) l =
      root_added v within plain i (omega arith) (counts i 0) refl (heads_plain w i (omega arith)) n_most ways table (counts (suc i) 0) refl
      (elim [ plain ↦ λ f. absurd (f refl) | nil ↦ λ f. refl ])

  pub heads_nil : {m : ℕ} → HeadsBelow v n (counts m 0) heads → (i : ℕ) → i ≤ v.roots
      → HeadsBelow v n (counts m i) (add_roots heads v.tag ways nil v.root i)
  unfolding add_roots
  heads_nil w zero l = w
  heads_nil {m} w (suc i) l =
      root_added v within nil i (omega arith) (counts m i) refl (heads_nil w i (omega arith)) n_most ways table (counts m (suc i)) refl
      (elim [ plain ↦ λ f. refl | nil ↦ λ f. absurd (f refl) ])

-- what is read of a type's flag
flag_in : (b : Bool) → ltb 0 (cond b 1 0) ≡ b
flag_in true = refl
flag_in false = refl

-- by all types and all roots
pub heads_all : (v : Schema) → WithinLimits (meaning v) → (heads : List ℕ) → HeadsBelow v v.types (counts v.roots v.roots) heads
    → HeadsMean v heads
unfolding meaning
heads_all v within heads w =
    record {
      tag = λ a l. let below = tag_below v within a l in rw (w.tag a l) (omega arith);
      nillable = λ a l. ap (ltb 0) (w.nillable a l) ∙ flag_in (get_or v.nillable a false);
      accepting = w.accepting;
      opens = λ κ g l. all κ g (get_or heads (head_root κ g) 0) (by κ g l);
    }
  where
    by : (κ : Kind) (g : ℕ) → g < most_tags → FirstMeans v v.roots κ g (get_or heads (head_root κ g) 0)
    by plain g l = w.opens plain g l
    by nil g l = w.opens nil g l

    all : (κ : Kind) (g n : ℕ) → FirstMeans v v.roots κ g n
        → OpensMeans (meaning v) κ g (cond (eqb n 0) None (of_type ((n - 1) % most_types) no_states))
    all κ g zero m = λ j o. m j ((roots_mem v.root v.roots j).0 o.root) o
    all κ g (suc a) m =
        let type_is : (suc a - 1) % most_types ≡ a = omega (arith, m.0) in
        rw (ne_eqb (suc a) 0 (λ e. omega arith), type_is) (m.1, λ k o. m.2 k ((roots_mem v.root v.roots k).0 o.root) o)
