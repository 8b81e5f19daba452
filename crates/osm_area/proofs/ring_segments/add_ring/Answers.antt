-- One more edge.
use Rattle.osm_geom.specs.declared.edge.Edge.{Edge}
use Rattle.osm_area.specs.Roles.{carries}
use Rattle.osm_area.proofs.RoleSteps.{any_step}
use Rattle.osm_area.proofs.ring_segments.add_ring.Goals as goal

pub loop-edge-preserved : goal.loop-edge-preserved
loop-edge-preserved c = λ s. any_step (λ (e : Edge). carries s e.carrier) c.args.ring.now c.as_slice-edge-items.result.now c.loop-edge.edge-index c.edge-item.result _ _ _ c.as_slice-edge-items.ensures.edges c.loop-edge-test.true c.edge-item.is (c.loop-edge.invariant s) (c.in_ok-add_edge.ensures s)
