use Rattle.osm_segments.proofs.ToldPlaces.{places_are}
use Rattle.osm_segments.proofs.sweep.trying.conflict_places.Goals as goal

pub returns : goal.returns
returns c =
    places_are c.conflicts_are_symmetric.ensures c.args.segs.now c.requires.rising c.new-told.result.items c.settle_few.new.told.items c.each_once.result.items c.new-told.ensures.items
    c.in_ok-settle_few.ensures.grown c.in_ok-settle_few.ensures.told c.each_once.ensures.kept c.each_once.ensures.known c.each_once.ensures.rising c.counts_determine.ensures
