-- The table of heads, which the private steps look at: where each number stands, what is read there, and what it means.
use Rattle.std.specs.Prelude.{◌≡◌, Bool, false, cond, List, ℕ, zero, suc, ◌+◌, ◌-◌, ◌*◌, ◌%◌, ◌≤◌, ◌<◌, eqb, ltb, get_or, set, Some, None}
use Rattle.sdtd.specs.Limits.{most_tags, most_types, most_roots}
use Rattle.sdtd.specs.Schema.{Schema as Meaning}
use Rattle.sdtd.specs.Schema.{tag_of}
use Rattle.sdtd.specs.Tree.{Kind, plain, nil, IsRoot}
use Rattle.sdtd.specs.Trim.{BearsBy}
use Rattle.schema.specs.States.{no_states}
use Rattle.schema.specs.Value.{meaning}
use Rattle.schema.specs.declared.value.Schema.{Schema}
use Rattle.reading.specs.Coming.{Coming, of_type, opens_in}

-- the numbers of the type a: its tag, its accepting states, and 1 if it is nillable
abbrev pub head_tag : ℕ → ℕ
head_tag a = 2 * a

abbrev pub head_accepting : ℕ → ℕ
head_accepting a = 2 * a + 1

abbrev pub head_nillable : ℕ → ℕ
head_nillable a = 2 * most_types + 2 * most_tags + a

-- the numbers of the tag g, one for each kind of opening: 0, or one more than the root type that opens under it so
abbrev pub head_root : Kind → ℕ → ℕ
head_root plain g = 2 * most_types + g
head_root nil g = 2 * most_types + most_tags + g

-- what is read of the type a
abbrev pub tag_of_head : List ℕ → ℕ → ℕ
tag_of_head heads a = get_or heads (head_tag a) 0 % most_tags

abbrev pub nillable_of_head : List ℕ → ℕ → Bool
nillable_of_head heads a = ltb 0 (get_or heads (head_nillable a) 0)

abbrev pub accepting_of_head : List ℕ → ℕ → ℕ
accepting_of_head heads a = get_or heads (head_accepting a) 0

-- the type a, with its tag, whether it is nillable, and its accepting states
unfoldable pub set_head : List ℕ → ℕ → ℕ → Bool → ℕ → List ℕ
set_head heads a tag nillable accepting =
    set (set (set heads (head_tag a) tag) (head_accepting a) accepting) (head_nillable a) (cond nillable 1 0)

-- what opens under the tag g at the outermost level: a root has no states to keep
abbrev pub opens_under : List ℕ → Kind → ℕ → Coming
opens_under heads κ g =
    cond (eqb (get_or heads (head_root κ g) 0) 0) None (of_type ((get_or heads (head_root κ g) 0 - 1) % most_types) no_states)

-- what stands under a tag once the root type a is seen: the smaller one, if there is one already
unfoldable pub with_root : ℕ → ℕ → ℕ
with_root n a = cond (eqb n 0) (a + 1) (cond (ltb (a + 1) n) (a + 1) n)

-- the root type a opens under its tag so, if it bears a tree opened so and no smaller one does
unfoldable pub add_root : List ℕ → List ℕ → List ℕ → Kind → ℕ → List ℕ
add_root heads tag ways κ a =
    cond (opens_in κ ways a) (set heads (head_root κ (get_or tag a 0)) (with_root (get_or heads (head_root κ (get_or tag a 0)) 0) a)) heads

-- so do the first n types of the table of roots
unfoldable pub add_roots : List ℕ → List ℕ → List ℕ → Kind → List ℕ → ℕ → List ℕ
add_roots heads tag ways κ root zero = heads
add_roots heads tag ways κ root (suc i) = add_root (add_roots heads tag ways κ root i) tag ways κ (get_or root i 0)

-- the table has n roots, which are types, and each type's tag is one
pub record RootsFit (root : List ℕ) (n : ℕ) (tag : List ℕ) : Type 0 where
  pub count : n ≤ most_roots
  pub type : (i : ℕ) → i < n → get_or root i 0 < most_types
  pub tag_below : (i : ℕ) → i < n → get_or tag (get_or root i 0) 0 < most_tags

-- a root type of the tag g that bears a tree opened so
pub record RootOf (S : Meaning) (κ : Kind) (g j : ℕ) : Type 0 where
  pub root : IsRoot S j
  pub bears : BearsBy S κ j
  pub tag : tag_of S j ≡ g

-- the smallest of them, or that there is none
abbrev pub OpensMeans : Meaning → Kind → ℕ → Coming → Type 0
OpensMeans S κ g None = (j : ℕ) → ¬ RootOf S κ g j
OpensMeans S κ g (Some c) = RootOf S κ g c.0.0 × ((k : ℕ) → RootOf S κ g k → c.0.0 ≤ k)

-- what the heads say of each type, and what opens under each tag
pub record HeadsMean (v : Schema) (heads : List ℕ) : Type 0 where
  pub tag : (a : ℕ) → a < v.types → tag_of_head heads a ≡ get_or v.tag a 0
  pub nillable : (a : ℕ) → a < v.types → nillable_of_head heads a ≡ get_or v.nillable a false
  pub accepting : (a : ℕ) → a < v.types → accepting_of_head heads a ≡ get_or v.accepting a 0
  pub opens : (κ : Kind) (g : ℕ) → g < most_tags → OpensMeans (meaning v) κ g (opens_under heads κ g)
