use Rattle.std.proofs.Common.{◌∙◌, ◌++◌, map, ap, List}
use Rattle.osm_geom.specs.declared.edge.Edge.{Edge}
use Rattle.osm_text.specs.Paths.{path_along}
use Rattle.osm_text.specs.Notation.{ring_in}
use Rattle.osm_text.specs.Rows.{led_by_byte}
use Rattle.osm_text.proofs.NotationLemmas.{polygon-put}
use Rattle.osm_text.proofs.notation.put_polygon.Goals as goal

pub returns-clause-text : goal.returns-clause-text
returns-clause-text c =
    polygon-put c.args.notation c.open.result c.close.result (path_along c.args.polygon.now.outer) (map path_along c.args.polygon.now.inners) _ _ _ _ _
    c.open.ensures c.close.ensures c.in_ok-push.ensures.items
    (c.in_ok-put_ring_along.ensures.text ∙ ap (λ (edges : List Edge). c.push.new.self.items ++ ring_in c.args.notation (path_along edges)) c.as_slice.ensures.edges)
    (c.in_ok-put_inners.ensures.text ∙ ap (λ (rings : List (List Edge)). c.put_ring_along.new.text.items ++ led_by_byte 44 (map (ring_in c.args.notation) (map path_along rings))) c.as_slice-2.ensures)
    c.in_ok-push-2.ensures.items
