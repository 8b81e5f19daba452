-- The polygons of nested rings are valid.
use Rattle.std.proofs.Common.{List, [], ap, map, subst, sym, ℕ, ◌∙◌, ◌∷◌}
use Rattle.std.proofs.lemmas.List.{map-append}
use Rattle.lists.specs.Rotated.{IsRotated}
use Rattle.plane_lists.specs.Rings.Polygon as nesting
use Rattle.plane_lists.specs.Rings.Polygon.{ArePolygonsOfRings}
use Rattle.plane_lists.specs.Rings.Rotated.{AreRotated}
use Rattle.plane_lists.specs.OneRingList.RingListOf.{IsRingListOf}
use Rattle.osm_geom.specs.declared.edge.Edge.{Edge}
use Rattle.osm_nest.specs.declared.polygon.Polygon.{Polygon}
use Rattle.osm_nest.specs.Nested.{AreFromLeast, AreNested, ArePolygonsFromLeast, IsPolygonFromLeast}
use Rattle.osm_nest.specs.Polygons.{polygon_times}
use Rattle.osm_nest.specs.RingLists.{AreRings, all_edges, whole_rings}
use Rattle.osm_nest.proofs.BegunPolygons.{common-in, polygons}
use Rattle.osm_nest.proofs.NestedCover.{whole}
use Rattle.osm_nest.proofs.NestedRings.{may-be-nested, same-common}
use Rattle.osm_rings.specs.RingList.{AreRingsOf}
use Rattle.osm_rings.proofs.UncrossedRings.{plane-list, rings-do-not-cross}
use Rattle.osm_geom.specs.InPlane.Multiple.{edge_times, edges_times, product_of_denominators, whole_edges}
use Rattle.osm_geom.specs.InPlane.Sided.{IsSided}
use Rattle.plane_lists.specs.Valid.Valid.{IsValidMultiPolygon}
use Rattle.plane_lists.proofs.ValidKit.{valid_polygons}
use Rattle.osm_nest.specs.ValidPolygons.AreValid.{AreValid}
use Rattle.osm_nest.proofs.ValidPolygons.BegunElsewhere.{AreBegun, IsBegun, begun_list, begun_polygons, begun_rings}

module _ (k : ℕ) where
  turned-times : (p q : List Edge) → IsRotated p q → IsRotated (edges_times k p) (edges_times k q)
  turned-times p q t = record {
    front = edges_times k t.front;
    back = edges_times k t.back;
    old = ap (edges_times k) t.old ∙ map-append (edge_times k) t.front t.back;
    new = ap (edges_times k) t.new ∙ map-append (edge_times k) t.back t.front;
  }

  rings-times : (rs bs : List (List Edge)) → AreFromLeast rs bs → AreRotated (map (edges_times k) rs) (map (edges_times k) bs)
  rings-times [] bs h = ap (map (edges_times k)) h
  rings-times (r ∷ rs) bs h = (edges_times k h.0, map (edges_times k) h.1, ap (map (edges_times k)) h.2, turned-times r h.0 h.3.turned, rings-times rs h.1 h.4)

  polygon-times : (p b : Polygon) → IsPolygonFromLeast p b → IsBegun (polygon_times k p) (polygon_times k b)
  polygon-times p b h = record { outer = turned-times p.outer b.outer h.outer.turned; inner = rings-times p.inners b.inners h.inners }

  polygons-times : (ps bs : List Polygon) → ArePolygonsFromLeast ps bs → AreBegun (map (polygon_times k) ps) (map (polygon_times k) bs)
  polygons-times [] bs h = ap (map (polygon_times k)) h
  polygons-times (p ∷ ps) bs h = (polygon_times k h.0, map (polygon_times k) h.1, ap (map (polygon_times k)) h.2, polygon-times p h.0 h.3, polygons-times ps h.1 h.4)

module _ (es : List Edge) (sd : IsSided es) (rs : List (List Edge)) (a : AreRingsOf es rs) (nested : List Polygon) (n : AreNested rs nested) where
  abbrev k : ℕ
  k = product_of_denominators (all_edges rs)

  are : AreRings rs
  are = may-be-nested rings-do-not-cross es rs sd a

  lists : IsRingListOf (whole_edges es) (whole_rings rs)
  lists = subst (λ m. IsRingListOf (whole_edges es) (map (edges_times m) rs)) (same-common es rs a) (plane-list es rs a)

  abbrev was : List nesting.Polygon
  was = map (polygon_times k) n.polygons

  abbrev planes : List nesting.Polygon
  planes = map (polygon_times k) nested

  are-polygons : ArePolygonsOfRings (whole_rings rs) was
  are-polygons = polygons rs are n.polygons nested n.of_rings n.begun (whole rs are nested n)

  begun : AreBegun was planes
  begun = polygons-times k n.polygons nested n.begun

  plane-valid : IsValidMultiPolygon planes
  plane-valid =
      valid_polygons (whole_edges es) sd (begun_rings (whole_edges es) sd (whole_rings rs) lists was are-polygons planes begun)
      (begun_list (whole_edges es) sd (whole_rings rs) lists was are-polygons planes begun) planes
      (begun_polygons (whole_edges es) sd (whole_rings rs) lists was are-polygons planes begun)

  pub nested_valid : IsValidMultiPolygon (map (polygon_times (product_of_denominators es)) nested)
  nested_valid = subst (λ m. IsValidMultiPolygon (map (polygon_times m) nested)) (sym (same-common es rs a)) plane-valid

  pub are_valid : AreValid nested
  are_valid = record {
    multiple = k;
    common = common-in rs are n.polygons nested n.of_rings n.begun (whole rs are nested n);
    valid = plane-valid;
  }
