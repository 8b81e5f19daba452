use Rattle.osm_segments.proofs.LaterSegments.{all_found, one_more}
use Rattle.osm_segments.proofs.few.pairs.push_all_pairs.Goals as goal

pub returns : goal.returns
returns c = all_found c.loop-rest.pairs.items c.loop-rest.rest.now _ c.in_default.len_below c.loop-rest.invariant

pub loop-rest-preserved : goal.loop-rest-preserved
loop-rest-preserved c =
    one_more c.loop-rest.rest.now c.first-item.result c.loop-rest.pairs.items c.push_conflicts.new.pairs.items _ c.in-len1-up.len_at_least c.first-item.is c.in_ok-push_conflicts.ensures c.loop-rest.invariant
