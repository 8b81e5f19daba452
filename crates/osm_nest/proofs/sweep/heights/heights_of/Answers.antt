-- Both ends of an edge are in the world.
use Rattle.std.proofs.Common.{subst, sym}
use Rattle.osm_geom.specs.Point.{IsInWorld}
use Rattle.osm_nest.proofs.WholeHeights.{lower_in, upper_in}
use Rattle.osm_nest.proofs.sweep.heights.heights_of.Goals as goal

pub first_height-requires : goal.first_height-requires
first_height-requires c = subst IsInWorld (sym c.lower_end.ensures) (lower_in c.args.edge.now)

pub first_height-requires-2 : goal.first_height-requires-2
first_height-requires-2 c = subst IsInWorld (sym c.upper_end.ensures) (upper_in c.args.edge.now)
