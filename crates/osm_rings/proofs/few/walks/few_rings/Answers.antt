-- The walks of few edges are rings.
use Rattle.osm_rings.proofs.ClosedWalks.{walks-along}
use Rattle.osm_rings.proofs.few.walks.few_rings.Goals as goal

pub rings_along-requires : goal.rings_along-requires
rings_along-requires c = walks-along c.args.edges.now c.requires _ _ c.in-Some.ensures.are
