-- By the whole heights at which the edges begin.
use Rattle.std.proofs.Common.{sym}
use Rattle.osm_geom.specs.Span.{lower_end}
use Rattle.osm_nest.proofs.WholeHeights.{before-by-heights, rises-by-heights}
use Rattle.osm_nest.proofs.sweep.ring_edges.compare_lower_ends.Goals as goal

pub returns-then-begin_below : goal.returns-then-begin_below
returns-then-begin_below c =
    let e = c.args.edge.now in let f = c.args.other.now in
    sym (before-by-heights (lower_end e.edge.now) (lower_end f.edge.now) e.heights.bottom f.heights.bottom e.spanned.0 f.spanned.0 (c.begin_below.ensures c.if-begin_below.true))

pub returns-then-begin_below-2 : goal.returns-then-begin_below-2
returns-then-begin_below-2 c =
    let e = c.args.edge.now in let f = c.args.other.now in
    sym (rises-by-heights (lower_end f.edge.now) (lower_end e.edge.now) f.heights.bottom e.heights.bottom f.spanned.0 e.spanned.0 (c.begin_below-2.ensures c.if-begin_below-2.true))
