-- Each edge and the next are in order, and so all.
use Rattle.std.proofs.Common.{not, rules, ◌≡◌}
use Rattle.std.specs.Ordering.{is_lt}
use Rattle.std.proofs.lemmas.Fn.{always_returns_same}
use Rattle.osm_geom.specs.Point.{point_cmp}
use Rattle.osm_geom.specs.Span.{lower_end}
use Rattle.osm_nest.proofs.RingEdges.{rise-by-neighbours}
use Rattle.osm_nest.proofs.sweep.ring_edges.starts_rise.Goals as goal

pub returns : goal.returns
returns c h =
    rise-by-neighbours c.args.edges.now c.is_sorted_by.result h
    (c.is_sorted_by.ensures.cases (λ i j. not (is_lt (point_cmp (lower_end j.edge.now) (lower_end i.edge.now))))
    (always_returns_same _ (λ a r. r ≡ not (is_lt (point_cmp (lower_end a.1.0.now.edge.now) (lower_end a.0.now.edge.now)))) _ (λ a r f' k. search rules)))
