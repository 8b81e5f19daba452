use Rattle.osm_sides.proofs.DirectedSides.{directed_is_sided}
use Rattle.osm_sides.proofs.PlaneEdges.{plane_edges}
use Rattle.osm_sides.proofs.WholeSegments.{directed_is_whole}
use Rattle.osm_sides.proofs.laws.directing_is_sided.Goals as goal

pub returns-clause-whole : goal.returns-clause-whole
returns-clause-whole c = directed_is_whole

pub returns-clause-sided : goal.returns-clause-sided
returns-clause-sided c = directed_is_sided

pub returns-clause-plane : goal.returns-clause-plane
returns-clause-plane c = λ segs edges d. plane_edges segs segs edges d.firsts d.lasts
