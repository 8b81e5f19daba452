-- The least of the starts passed and the next one.
use Rattle.std.proofs.Common.{arith}
use Rattle.osm_rings.proofs.LeastStarts.{least-more}
use Rattle.osm_rings.proofs.ring.least_start.Goals as goal

pub loop-place-preserved : goal.loop-place-preserved
loop-place-preserved c = least-more c.args.edges.now c.loop-place.place c.loop-place.least c.lesser_start-least.result (omega arith) c.loop-place.invariant c.lesser_start-least.ensures
