-- None of the edges passed leaves the point.
use Rattle.osm_rings.specs.Apart.{NoneLeavesBefore}
use Rattle.osm_rings.proofs.few.walks.place_leaving.Given as goal

abbrev pub invariant-loop-place : goal.invariant-loop-place
invariant-loop-place l = NoneLeavesBefore l.edges l.p l.place
