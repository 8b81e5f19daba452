-- One more chain.
use Rattle.std.proofs.Common.{◌≡◌, if◌then◌else◌, Some, rules}
use Rattle.orbits.specs.Orbits.{after}
use Rattle.coast_join.specs.Closings.{is_open}
use Rattle.coast_join.proofs.Following.{next_more}
use Rattle.coast_join.proofs.ring_making.next_chains.Goals as goal

pub loop-place-preserved : goal.loop-place-preserved
loop-place-preserved c =
    let links = c.args.links.now in
    let place = c.loop-place.place in
    let chain = c.index-chains-place.result in
    let goes : c.goes_on.result ≡ (if is_open chain then after links place else Some place) = search rules in
    next_more links c.args.chains.now place c.loop-place.next.items c.push.new.self.items chain c.goes_on.result c.loop-place-test.true c.index-chains-place.is goes c.in_ok-push.ensures.items c.loop-place.invariant
