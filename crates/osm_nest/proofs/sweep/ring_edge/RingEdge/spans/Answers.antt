-- At a whole height, by its heights.
use Rattle.std.proofs.Common.{Bool, ap, false, refl, sym, true, ◌∙◌, ◌≡◌}
use Rattle.osm_geom.specs.Point.{y_of}
use Rattle.osm_geom.specs.Span.{spans}
use Rattle.osm_nest.proofs.WholeHeights.{spans-below, spans-between, spans-over}
use Rattle.osm_nest.proofs.sweep.ring_edge.RingEdge.spans.Goals as goal

pub returns-then-begin_by : goal.returns-then-begin_by
returns-then-begin_by c = by c.end_above.result refl
  where
    by : (b : Bool) → c.end_above.result ≡ b → b ≡ spans c.args.self.now.edge.now c.args.at.now
    by true h =
        let i = c.args.self.now in
        sym (spans-between i.edge.now i.heights.bottom i.heights.top i.spanned c.args.at.now c.in-Lattice.p.y (ap y_of c.in-Lattice.is) (c.begin_by.ensures.yes c.if-begin_by.true) (c.end_above.ensures.yes h))
    by false h =
        let i = c.args.self.now in
        sym (spans-over i.edge.now i.heights.bottom i.heights.top i.spanned c.args.at.now c.in-Lattice.p.y (ap y_of c.in-Lattice.is) (c.begin_by.ensures.yes c.if-begin_by.true) (c.end_above.ensures.no h))

pub returns-else-begin_by : goal.returns-else-begin_by
returns-else-begin_by c =
    let i = c.args.self.now in
    c.if-begin_by.false ∙ sym (spans-below i.edge.now i.heights.bottom i.heights.top i.spanned c.args.at.now c.in-Lattice.p.y (ap y_of c.in-Lattice.is) (c.begin_by.ensures.no c.if-begin_by.false))
