use Rattle.osm_nest.proofs.valid_polygons.nested_polygons_are_valid.Goals as goal
use Rattle.osm_nest.proofs.ValidPolygons.NestedValid.{are_valid, nested_valid}

pub returns-clause-at : goal.returns-clause-at
returns-clause-at c = λ es sd rs a nested n. nested_valid es sd rs a nested n

pub returns-clause-valid : goal.returns-clause-valid
returns-clause-valid c = λ es sd rs a nested n. are_valid es sd rs a nested n
