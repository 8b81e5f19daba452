use Rattle.std.proofs.Common.{ap, ◌∙◌}
use Rattle.std.specs.List.{filter_map}
use Rattle.std.proofs.lemmas.Result.{IfOk-weaker}
use Rattle.osm_segments.specs.Pairs.{conflicts_of}
use Rattle.osm_segments.specs.Places.{pair_at}
use Rattle.osm_segments.proofs.ToldPlaces.{kept_items}
use Rattle.osm_segments.proofs.pairs.conflicts_along.Goals as goal

pub returns : goal.returns
returns c =
    IfOk-weaker c.pairs_at.result _ _
    (λ v e. e ∙ (ap (filter_map (pair_at c.args.segs.now)) c.deref.ensures.value ∙ kept_items (pair_at c.args.segs.now) c.in_ok-places.places.items (conflicts_of c.args.segs.now) c.in_ok-places.ensures))
    c.pairs_at.ensures
