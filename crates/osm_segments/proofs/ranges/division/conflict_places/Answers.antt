use Rattle.osm_segments.proofs.ToldPlaces.{places_are}
use Rattle.osm_segments.proofs.ranges.division.conflict_places.Goals as goal

pub returns : goal.returns
returns c =
    places_are c.conflicts_are_symmetric.ensures c.args.segs.now c.requires c.new-told.result.items c.settle_list.new.told.items c.each_once.result.items c.new-told.ensures.items
    c.in_ok-settle_list.ensures.grown c.in_ok-settle_list.ensures.told c.each_once.ensures.kept c.each_once.ensures.known c.each_once.ensures.rising c.counts_determine.ensures
