-- One more ring.
use Rattle.std.proofs.Common.{refl}
use Rattle.std.specs.List.{list_any}
use Rattle.osm_geom.specs.declared.edge.Edge.{Edge}
use Rattle.osm_area.specs.Roles.{carries}
use Rattle.osm_area.proofs.RoleSteps.{any_step}
use Rattle.osm_area.proofs.ring_segments.add_rings.Goals as goal

pub loop-ring-preserved : goal.loop-ring-preserved
loop-ring-preserved c = λ s. any_step (list_any (λ (e : Edge). carries s e.carrier)) c.args.rings.now c.args.rings.now c.loop-ring.ring-index c.ring-item.result _ _ _ refl c.loop-ring-test.true c.ring-item.is (c.loop-ring.invariant s) (c.in_ok-add_ring.ensures s)
