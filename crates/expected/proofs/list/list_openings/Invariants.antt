-- The openings of the tags below g are listed.
use mathlib.Core.Path.{◌≡◌}
use Rattle.expected.specs.Listing.{listed_below, flags_in, listing}
use Rattle.expected.proofs.list.list_openings.Given as goal

abbrev pub invariant-loop-g : goal.invariant-loop-g
invariant-loop-g l = l.list ≡ listing (listed_below (flags_in l.opens l.nils) l.g)
