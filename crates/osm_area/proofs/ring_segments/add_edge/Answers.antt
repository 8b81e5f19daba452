-- The segment of the edge is there now.
use Rattle.osm_area.proofs.RoleSteps.{one-segment}
use Rattle.osm_area.proofs.ring_segments.add_edge.Goals as goal

pub returns-in_ok-push : goal.returns-in_ok-push
returns-in_ok-push c = λ s. one-segment c.args.segs.now.items c.in-OfSeg.seg s c.push.new.self.items c.args.edge.now.carrier c.in_ok-push.ensures.items c.in-OfSeg.is
