use Rattle.std.proofs.Common.{◌++◌}
use Rattle.osm_nest.proofs.RingEdges.{AreSlopingUpTo}
use Rattle.osm_nest.proofs.sweep.ring_edges.sloping_edges.Given as goal

abbrev pub invariant-loop-place : goal.invariant-loop-place
invariant-loop-place l = AreSlopingUpTo l.rings l.place (l.up.items ++ l.down.items)
