-- The nearest of the edges passed.
use Rattle.std.proofs.Common.{take}
use Rattle.osm_nest.specs.Beside.{IsNearestRight}
use Rattle.osm_nest.proofs.few.search.nearest_right.Given as goal

abbrev pub invariant-loop-edge : goal.invariant-loop-edge
invariant-loop-edge l = IsNearestRight l.anchor (take l.edge-index l.edges) l.nearest
