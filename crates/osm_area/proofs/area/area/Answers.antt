-- The rings may be nested, and their polygons are the area.
use Rattle.std.proofs.Common.{All, List, refl, sym, subst}
use Rattle.std.proofs.lemmas.Result.{IfOk-weaker}
use Rattle.osm_geom.specs.declared.edge.Edge.{Edge}
use Rattle.osm_geom.specs.InPlane.Sided.{IsSided}
use Rattle.osm_geom.specs.WholeSegment.{IsWholeSegment}
use Rattle.osm_area.proofs.AreaLemmas.{is_area}
use Rattle.osm_area.proofs.area.area.Goals as goal

pub rings-requires : goal.rings-requires
rings-requires c = subst IsSided (sym c.from_vec.ensures) c.in_ok-edges.ensures.sided

pub nest_rings-requires : goal.nest_rings-requires
nest_rings-requires c =
    c.rings_may_be_nested.ensures.nested c.from_vec.result c.in_ok-rings.rings (subst IsSided (sym c.from_vec.ensures) c.in_ok-edges.ensures.sided) c.in_ok-rings.ensures

pub returns-clause-area : goal.returns-clause-area
returns-clause-area c =
    IfOk-weaker c.nest_rings.result _ _ (λ polygons nested. is_area c.args.outline c.in_ok-edges.edges.items c.from_vec.result c.in_ok-rings.rings c.in_ok-rings.rings c.requires c.in_ok-edges.ensures.odd_side c.from_vec.ensures c.in_ok-rings.ensures refl polygons nested) c.nest_rings.ensures.nested

pub returns-clause-whole : goal.returns-clause-whole
returns-clause-whole c =
    let edges = subst (λ (es : List Edge). All IsWholeSegment es) (sym c.from_vec.ensures) c.in_ok-edges.ensures.whole in
    c.nest_rings.ensures.whole (c.rings_may_be_nested.ensures.whole c.from_vec.result c.in_ok-rings.rings edges c.in_ok-rings.ensures)
