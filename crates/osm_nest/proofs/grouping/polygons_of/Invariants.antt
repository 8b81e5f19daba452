-- The rings passed are parted.
use Rattle.osm_nest.proofs.Parting.{AreParted}
use Rattle.osm_nest.proofs.grouping.polygons_of.Given as goal

abbrev pub invariant-loop-ring : goal.invariant-loop-ring
invariant-loop-ring l = AreParted l.enclosers l.yielded l.outers.items l.under.items
