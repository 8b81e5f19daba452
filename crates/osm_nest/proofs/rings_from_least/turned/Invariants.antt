-- The rings passed are turned, and the others as they were.
use Rattle.osm_nest.proofs.Listing.{AreTurnedUpTo}
use Rattle.osm_nest.proofs.rings_from_least.turned.Given as goal

abbrev pub invariant-loop-place : goal.invariant-loop-place
invariant-loop-place l = AreTurnedUpTo l.fn.rings.items l.place l.rings.items
