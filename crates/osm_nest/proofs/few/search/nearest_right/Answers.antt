-- The nearer of what was found and the next edge.
use Rattle.osm_nest.proofs.Nearest.{found-right, nearest-step}
use Rattle.osm_nest.proofs.few.search.nearest_right.Goals as goal

pub nearer_edge-nearest-requires-clause-found : goal.nearer_edge-nearest-requires-clause-found
nearer_edge-nearest-requires-clause-found c = found-right c.args.anchor.now c.args.edges.now c.loop-edge.edge-index c.loop-edge.nearest c.loop-edge.invariant

pub loop-edge-preserved : goal.loop-edge-preserved
loop-edge-preserved c =
    nearest-step c.args.anchor.now c.args.edges.now c.loop-edge.edge-index c.loop-edge.nearest c.nearer_edge-nearest.result c.edge-item.result c.loop-edge-test.true c.edge-item.is c.nearer_edge-nearest.ensures c.loop-edge.invariant
