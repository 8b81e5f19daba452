-- The laws of the plane, for the multiplied list.
use Rattle.plane_lists.proofs.NestingKit.{next_leaves, next_one, next_there}
use Rattle.osm_geom.specs.InPlane.Multiple.{whole_edges}
use Rattle.osm_rings.proofs.laws.successors_are_one_to_one.Goals as goal

pub returns-clause-exists : goal.returns-clause-exists
returns-clause-exists c = λ es sd. next_there (whole_edges es) sd

pub returns-clause-leaves : goal.returns-clause-leaves
returns-clause-leaves c = λ es sd. next_leaves (whole_edges es) sd

pub returns-clause-one_to_one : goal.returns-clause-one_to_one
returns-clause-one_to_one c = λ es sd. next_one (whole_edges es) sd
