-- One more ring.
use Rattle.std.proofs.Common.{arith, length, refl, ◌≡◌}
use Rattle.osm_nest.proofs.Listing.{placed-more}
use Rattle.osm_nest.proofs.rings_from_least.placed.Goals as goal

pub loop-ring-preserved : goal.loop-ring-preserved
loop-ring-preserved c = placed-more c.loop-ring.yielded c.in-Some.ring c.loop-ring.placed.items c.push.new.self.items _ c.in_ok-push.ensures.items (let e : c.len-place.result ≡ length c.loop-ring.placed.items = omega arith in e) refl c.loop-ring.invariant
