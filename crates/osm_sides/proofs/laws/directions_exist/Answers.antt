use Rattle.osm_sides.proofs.DirectionLists.{directions_exist}
use Rattle.osm_sides.proofs.laws.directions_exist.Goals as goal

pub returns : goal.returns
returns c = directions_exist
