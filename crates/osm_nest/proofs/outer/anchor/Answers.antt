-- Of the two edges at the least point the one that comes first.
use Rattle.std.proofs.Common.{All, get_or, length, subst, sym, ◌<◌, ◌≢◌}
use Rattle.std.specs.declared.cmp.Ordering.TheVariants.{Less}
use Rattle.osm_geom.specs.declared.edge.Edge.{Edge}
use Rattle.osm_geom.specs.Point.{point_cmp}
use Rattle.osm_rings.specs.Ring.{IsRing}
use Rattle.osm_nest.specs.Outer.{AreConflictFree, IsAnchorOf}
use Rattle.osm_nest.proofs.LeastAnchors.{least-anchor}
use Rattle.osm_nest.proofs.outer.anchor.Goals as goal

pub returns-clause-anchor : goal.returns-clause-anchor
returns-clause-anchor c =
    let es = c.as_slice-edges.result.now in let n = c.least_place-least.result in
    let own = sym c.as_slice-edges.ensures.edges in
    let clear = subst AreConflictFree own c.requires in
    let ring = subst IsRing own c.as_slice-edges.ensures.ring in
    let inside = subst (λ r. n < length r) own c.least_place-least.ensures.inside in
    let least = subst (λ r. All (λ (e : Edge). point_cmp e.from (get_or r n e).from ≢ Less) r) own c.least_place-least.ensures.least in
    subst (IsAnchorOf c.first_of.result.now) c.as_slice-edges.ensures.edges
    (least-anchor es clear ring n c.place_before-before.result inside least c.place_before-before.ensures c.index-edges-least.result c.index-edges-before.result c.first_of.result.now c.index-edges-least.is c.index-edges-before.is c.first_of.ensures)
