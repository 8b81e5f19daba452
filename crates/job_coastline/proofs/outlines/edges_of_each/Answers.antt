use Rattle.std.proofs.Common.{List, [], map-id, rules, sym, ap, map, ◌++◌, ◌∙◌, ◌∷◌}
use Rattle.osm_geom.specs.declared.edge.Edge.{Edge}
use Rattle.std.proofs.lemmas.Iterator.Adapters.{YieldsList-from_vec}
use Rattle.std.proofs.lemmas.Iterator.Consumers.{YieldsList-end}
use Rattle.osm_nest.specs.Polygons.{edges_in}
use Rattle.job_coastline.proofs.CoastJoined.{all_edges_of, more_edges}
use Rattle.job_coastline.proofs.outlines.edges_of_each.Goals as goal

pub loop-polygon-preserved : goal.loop-polygon-preserved
loop-polygon-preserved c =
    let lists = c.loop-polygon.lists.items in
    let grown = c.in_ok-push.ensures.items ∙ ap (λ (edges : List Edge). lists ++ edges ∷ []) c.in_ok-edges.ensures in
    more_edges c.loop-polygon.yielded c.in-Some.polygon lists c.push.new.self.items c.loop-polygon.invariant grown

pub returns : goal.returns
returns c =
    let end = YieldsList-end (YieldsList-from_vec {s = c.into_iter-polygon-iterator.result} c.into_vec-polygon-items.result.items (search rules) (search rules)) c.loop-polygon.yielded c.loop-polygon.polygon-iterator c.loop-polygon.yielded_by c.next.result c.next.new.self c.in-None.is c.next.ensures.steps in
    all_edges_of c.args.polygons c.loop-polygon.lists.items (c.loop-polygon.invariant ∙ ap (map edges_in) (sym (map-id c.loop-polygon.yielded) ∙ end.0 ∙ c.into_vec-polygon-items.ensures)) c.requires
