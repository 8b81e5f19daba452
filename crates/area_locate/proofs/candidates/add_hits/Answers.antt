-- One more place.
use Rattle.std.proofs.Common.{arith}
use Rattle.area_locate.proofs.AddedHits.{one_more_place_added}
use Rattle.area_locate.proofs.candidates.add_hits.Goals as goal

pub loop-k-preserved : goal.loop-k-preserved
loop-k-preserved c =
    let inside = c.requires.inside c.loop-k.k 0 c.loop-k-test.true in let long = c.loop-k.invariant.0 in
    one_more_place_added c.args.of c.args.hits.now c.loop-k.hits c.args.near.now c.args.places.now c.loop-k.k c.add_hit.new.hits _ _ c.loop-k.invariant.0 c.loop-k.invariant.1 c.loop-k-test.true c.requires.all
    (omega (arith, inside, long)) c.in_ok-add_hit.ensures
