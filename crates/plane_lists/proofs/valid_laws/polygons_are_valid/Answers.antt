use Rattle.plane_lists.proofs.valid_laws.polygons_are_valid.Goals as goal
use Rattle.plane_lists.proofs.Valid.ValidPolygons.{boundary_alone, valid_polygons}

pub returns-clause-valid : goal.returns-clause-valid
returns-clause-valid c = λ es sd rs l gs a. valid_polygons es sd rs l gs a

pub returns-clause-needed : goal.returns-clause-needed
returns-clause-needed c = boundary_alone
