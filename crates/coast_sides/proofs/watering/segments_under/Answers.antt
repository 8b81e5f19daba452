-- One more edge.
use Rattle.osm_geom.specs.declared.edge.Edge.{Edge}
use Rattle.coast_sides.specs.Water.{segment_of_carrier}
use Rattle.coast_sides.proofs.ListSteps.{given_step}
use Rattle.coast_sides.proofs.watering.segments_under.Goals as goal

pub loop-edge-preserved : goal.loop-edge-preserved
loop-edge-preserved c = given_step (λ (e : Edge). segment_of_carrier e.carrier) c.args.edges.now c.loop-edge.edge-index c.edge-item.result _ _ c.loop-edge-test.true c.edge-item.is c.loop-edge.invariant c.in_ok-add_segment.ensures
