use Rattle.std.proofs.Common.{length, ◌+◌}
use Rattle.coast_split.proofs.Walks.{added-step}
use Rattle.coast_split.proofs.halves.push_links_from.Goals as goal

pub loop-place-preserved : goal.loop-place-preserved
loop-place-preserved c =
    added-step c.args.cut c.args.side (length c.args.rest.now + 1) c.args.first c.args.rest.now c.loop-place.place c.args.edges.now c.loop-place.edges c.push_link.new.edges c.loop-place.before c.index-rest-place.result
    c.loop-place.invariant.0 c.loop-place.invariant.1 c.index-rest-place.is c.loop-place-test.true c.in_ok-push_link.ensures c.requires.rest_ends
