use Rattle.std.proofs.Common.{◌++◌}
use Rattle.osm_nest.specs.SweptEdges.{AreRingEdges}
use Rattle.osm_nest.proofs.sweep.ring_edges.push_ring.Given as goal

abbrev pub invariant-loop-edge : goal.invariant-loop-edge
invariant-loop-edge l = AreRingEdges l.place l.edge-index l.ring (l.initial.up.items ++ l.initial.down.items) (l.up.items ++ l.down.items)
