-- One more polygon.
use Rattle.std.proofs.Common.{◌∙◌, ◌||◌, ap}
use Rattle.osm_area.specs.RoleKinds.{has_segment}
use Rattle.osm_area.specs.Roles.{is_in_rings}
use Rattle.osm_area.proofs.RoleSteps.{inner_step}
use Rattle.osm_area.proofs.ring_segments.inner_segments.Goals as goal

pub loop-polygon-preserved : goal.loop-polygon-preserved
loop-polygon-preserved c = λ s.
    inner_step c.args.polygons.now c.loop-polygon.polygon-index c.polygon-item.result s _ _ c.loop-polygon-test.true c.polygon-item.is (c.loop-polygon.invariant s)
    (c.in_ok-add_rings.ensures s ∙ ap (λ rs. has_segment c.loop-polygon.segs.items s || is_in_rings rs s) c.as_slice.ensures)
