use Rattle.osm_sides.proofs.DirectionLists.{directions_one}
use Rattle.osm_sides.proofs.laws.directions_are_one.Goals as goal

pub returns : goal.returns
returns c = directions_one
