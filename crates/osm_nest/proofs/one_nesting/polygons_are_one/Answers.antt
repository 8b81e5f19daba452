use Rattle.osm_nest.proofs.one_nesting.polygons_are_one.Goals as goal
use Rattle.osm_nest.proofs.NestedOne.{polygons-one}

pub returns : goal.returns
returns c = polygons-one
