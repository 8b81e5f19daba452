-- One more polygon.
use Rattle.osm_area.proofs.RoleSteps.{outer_step}
use Rattle.osm_area.proofs.ring_segments.outer_segments.Goals as goal

pub loop-polygon-preserved : goal.loop-polygon-preserved
loop-polygon-preserved c = λ s. outer_step c.args.polygons.now c.loop-polygon.polygon-index c.polygon-item.result s _ _ c.loop-polygon-test.true c.polygon-item.is (c.loop-polygon.invariant s) (c.in_ok-add_ring.ensures s)
