-- The openings of the tags below g are listed.
use mathlib.Core.Path.{◌≡◌, refl, ◌∙◌}
use mathlib.Core.Bool.{Bool, true, false}
use mathlib.Core.List.{List, ◌++◌}
use Prim.Native.Nat.{ℕ, ◌+◌, ◌<◌}
use native.Mathlib.Numerals.{add-one}
use native.Mathlib.Omega.{arith}
use lib.ListN.{length}
use Rattle.sdtd.specs.Limits.{most_tags}
use Rattle.sdtd.specs.Lists.{of_each}
use Rattle.sdtd.specs.Tree.{Kind, plain, nil}
use Rattle.expected.specs.declared.list.Listing.{Listing}
use Rattle.expected.specs.Expected.{Listed, most_openings}
use Rattle.expected.specs.Listing.{listed_if, listed_below, flags_in, listing, with_opening}
use Rattle.expected.proofs.ListLaws.{listing_more, if_most, below_more, below_most}
use Rattle.expected.proofs.list.list_openings.Goals as goal

-- a turn of the loop, at the tag g: the plain opening is listed, and then the one as nil
module _ (on : Kind → ℕ → Bool) (g : ℕ) (l : g < most_tags) {list : Listing} (was : list ≡ listing (listed_below on g)) where
  abbrev listed_plain : List Listed
  listed_plain = listed_below on g ++ listed_if (on plain g) plain g

  long : length listed_plain < most_openings
  long = omega (arith, below_most on g, if_most (listed_below on g) (on plain g) plain g)

  room : list.count < most_openings
  room = rw was (omega (arith, below_most on g))

  module _ {first : Listing} (d : first ≡ with_opening list (on plain g) g false) where
    after_plain : first ≡ listing listed_plain
    after_plain = d ∙ rw was (listing_more (listed_below on g) (on plain g) plain g (omega (arith, below_most on g)))

    more_room : first.count < most_openings
    more_room = rw after_plain long

    after_nil : {second : Listing} → second ≡ with_opening first (on nil g) g true → second ≡ listing (listed_below on (g + 1))
    after_nil e = e ∙ rw (after_plain, add-one g, ← below_more on g) (listing_more listed_plain (on nil g) nil g long)

pub loop-g-init : goal.loop-g-init
unfolding of_each
loop-g-init c = refl

pub add-requires : goal.add-requires
add-requires c = room (flags_in c.args.opens.now c.args.nils.now) c.loop-g.g (omega arith) c.loop-g.invariant

pub add-requires-in-loop-g : goal.add-requires-in-loop-g
add-requires-in-loop-g c =
    more_room (flags_in c.args.opens.now c.args.nils.now) c.loop-g.g (omega arith) c.loop-g.invariant c.add.ensures

pub loop-g-preserved : goal.loop-g-preserved
loop-g-preserved c =
    after_nil (flags_in c.args.opens.now c.args.nils.now) c.loop-g.g (omega arith) c.loop-g.invariant c.add.ensures c.add-in-loop-g.ensures
