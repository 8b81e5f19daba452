-- By the whole heights at which the edges begin.
use Rattle.std.proofs.Common.{ap, not, sym}
use Rattle.osm_geom.specs.Span.{lower_end}
use Rattle.osm_nest.proofs.WholeHeights.{rises-by-heights}
use Rattle.osm_nest.proofs.sweep.ring_edges.is_in_order.Goals as goal

pub returns-then-begin_below : goal.returns-then-begin_below
returns-then-begin_below c =
    let e = c.args.edge.now in let f = c.args.next.now in
    sym (ap not (rises-by-heights (lower_end e.edge.now) (lower_end f.edge.now) e.heights.bottom f.heights.bottom e.spanned.0 f.spanned.0 (c.begin_below.ensures c.if-begin_below.true)))
