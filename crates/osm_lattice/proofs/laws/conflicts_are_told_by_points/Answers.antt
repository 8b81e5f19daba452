use Rattle.osm_lattice.proofs.ToldByPoints.{clear_is_ends_alone, crossing_is_one_point, overlap_is_many_points}
use Rattle.osm_lattice.proofs.laws.conflicts_are_told_by_points.Goals as goal

pub returns-clause-crossing : goal.returns-clause-crossing
returns-clause-crossing c = crossing_is_one_point

pub returns-clause-overlap : goal.returns-clause-overlap
returns-clause-overlap c = overlap_is_many_points

pub returns-clause-clear : goal.returns-clause-clear
returns-clause-clear c = clear_is_ends_alone
