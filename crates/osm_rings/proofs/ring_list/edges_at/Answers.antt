-- One more edge.
use Rattle.std.proofs.Common.{◌∙◌}
use Rattle.osm_rings.proofs.Placed.{placed-more}
use Rattle.osm_rings.proofs.ring_list.edges_at.Goals as goal

pub loop-place-preserved : goal.loop-place-preserved
loop-place-preserved c = c.in_ok-push.ensures.items ∙ placed-more c.args.edges.now c.args.places.now c.loop-place.place-index c.loop-place.found.items c.index-edges-place.result c.loop-place-test.true c.loop-place.invariant c.index-edges-place.is (c.requires c.loop-place.place-index 0 c.loop-place-test.true)
