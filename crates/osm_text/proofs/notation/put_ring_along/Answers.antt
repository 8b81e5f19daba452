use Rattle.osm_text.specs.Paths.{path_along}
use Rattle.osm_text.proofs.NotationLemmas.{along-put}
use Rattle.osm_text.proofs.notation.put_ring_along.Goals as goal

pub returns-clause-text : goal.returns-clause-text
returns-clause-text c =
    along-put c.args.notation c.open.result c.close.result (path_along c.args.edges.now) c.in-Some.first _ _ _ _ c.in-Some.ensures c.open.ensures c.close.ensures
    c.in_ok-put_starts.ensures.text c.in_ok-put_points.ensures.text c.in_ok-push.ensures.items
