-- The polygons of nested rings are sided and cover what the rings cover, which count as the list that was cut into them.
use Rattle.std.proofs.Common.{All, List, [], ap, inl, inr, pos, refl, subst, sym, ℕ, ℤ, ◌∙◌, ◌∷◌, ◌≡◌, ◌⊎◌, ◌+◌}
use Rattle.std.specs.List.{sum_by}
use Rattle.std.proofs.Math.Nat.{dvd-mul_right_of_dvd}
use Prim.Native.Nat.{◌∣◌}
use Rattle.plane.specs.Edge as plane
use Rattle.plane.specs.RayCrossing.{down_crossing, up_crossing}
use Rattle.plane.specs.Scale.{scaled_edge, scaled_point}
use Rattle.plane.specs.Vector.{Vector, east, from_to}
use Rattle.plane_lists.specs.Lists.EdgeList.{crossing_count}
use Rattle.plane_lists.specs.Lists.ScaledEdges.{scaled_edges}
use Rattle.lists.specs.Member.{In}
use Rattle.lists.specs.Rotated.{IsRotated}
use Rattle.lists.proofs.ListsKit.{all-in, in-either, in-left, in-right, rotated-in, total, total-is, total-map}
use Rattle.osm_geom.specs.declared.edge.Edge.{Edge}
use Rattle.osm_geom.specs.Point.{den_of}
use Rattle.osm_geom.specs.InPlane.Multiple.{IsWholeAt, edge_times, edges_times, product_of_denominators}
use Rattle.osm_geom.specs.InPlane.Sided.{count_at}
use Rattle.osm_geom.proofs.EdgesKit.{common_is_common}
use Rattle.osm_rings.specs.RingList.{AreRingsOf}
use Rattle.osm_nest.specs.declared.polygon.Polygon.{Polygon}
use Rattle.osm_nest.specs.Cover.{AreSided, CoverAsRings}
use Rattle.osm_nest.specs.Nested.{AreNested, ArePolygonsFromLeast, IsPolygonFromLeast}
use Rattle.osm_nest.specs.Polygons.{rings_in, rings_of}
use Rattle.osm_nest.specs.RingLists.{AreRings, all_edges}
use Rattle.osm_nest.proofs.BegunPolygons.{cover_begun, sided_begun}
use Rattle.osm_nest.proofs.InPlane.{whole-at}
use Rattle.osm_nest.proofs.MultipliedRings as rings
use Rattle.osm_nest.proofs.NestedKinds.{begun-from, divides}
use Rattle.osm_nest.proofs.NestedRings.{all-sum, same-common}

-- ---- what holds of each edge of the rings holds where the rings are begun elsewhere
module _ (P : Edge → Type 0) where
  abbrev Each : List (List Edge) → Type 0
  Each rs = (r : List Edge) → In r rs → (e : Edge) → In e r → P e

  turned-each : (g b : List Edge) → IsRotated g b → ((e : Edge) → In e g → P e) → (e : Edge) → In e b → P e
  turned-each g b t h e i = h e (rotated-in g b t e i)

  polygon-each : (g b : Polygon) → IsPolygonFromLeast g b → Each (rings_in g) → Each (rings_in b)
  polygon-each g b is h r (inl e) = subst (λ (r : List Edge). (e : Edge) → In e r → P e) (sym e) (turned-each g.outer b.outer is.outer.turned (h g.outer (inl refl)))
  polygon-each g b is h r (inr i) = let w = begun-from g.inners b.inners is.inners r i in turned-each w.0 r w.2.turned (h w.0 (inr w.1))

  either-each : (xs ys : List (List Edge)) (r : List Edge) → Each xs → Each ys → (In r xs) ⊎ (In r ys) → (e : Edge) → In e r → P e
  either-each xs ys r h k (inl i) = h r i
  either-each xs ys r h k (inr i) = k r i

  begun-each : (ps bs : List Polygon) → ArePolygonsFromLeast ps bs → Each (rings_of ps) → Each (rings_of bs)
  begun-each [] bs is h = subst (λ (l : List Polygon). Each (rings_of l)) (sym is) h
  begun-each (p ∷ ps) bs is h =
      let first = polygon-each p is.0 is.3 (λ r i. h r (in-left (rings_in p) (rings_of ps) r i)) in
      let others = begun-each ps is.1 is.4 (λ r i. h r (in-right (rings_in p) (rings_of ps) r i)) in
      subst (λ (l : List Polygon). Each (rings_of l)) (sym is.2)
      (λ r i. either-each (rings_in is.0) (rings_of is.1) r first others (in-either (rings_in is.0) (rings_of is.1) r i))

-- ---- the common denominator of the rings makes the polygons' points whole
module _ (rs : List (List Edge)) (are : AreRings rs) (nested : List Polygon) (is : AreNested rs nested) where
  abbrev k : ℕ
  k = product_of_denominators (all_edges rs)

  whole-by : (r : List Edge) → rings.Divides rs r → (e : Edge) → In e r → IsWholeAt k e
  whole-by r d e i =
      let w = whole-at r e i in
      record {
        some = (common_is_common (all_edges rs)).some;
        first = subst (λ n. den_of e.from ∣ n) (sym d.2) (dvd-mul_right_of_dvd (den_of e.from) w.first d.0);
        second = subst (λ n. den_of e.to ∣ n) (sym d.2) (dvd-mul_right_of_dvd (den_of e.to) w.second d.0);
      }

  pub whole : All (All (IsWholeAt k)) (rings_of nested)
  whole =
      let h = begun-each (IsWholeAt k) is.polygons nested is.begun (λ r i. whole-by r (divides rs are is.polygons is.of_rings r i)) in
      all-in (All (IsWholeAt k)) (rings_of nested) (λ r i. all-in (IsWholeAt k) r (h r i))

  pub nested-sided : AreSided nested
  nested-sided = sided_begun rs are is.polygons nested is.of_rings is.begun whole

  pub nested-cover : CoverAsRings rs nested
  nested-cover = λ q plus p. cover_begun rs are is.polygons nested is.of_rings is.begun whole q plus p

-- ---- the rings count as the list
module _ (es : List Edge) (rs : List (List Edge)) (are : AreRingsOf es rs) (q : ℤ) (p : Vector) where
  abbrev at : ℕ → Edge → ℕ
  at k e =
      let v = scaled_point (pos k) p in let d = scaled_edge q (edge_times k e) in
      up_crossing east (from_to v d.from) (from_to v d.to) + down_crossing east (from_to v d.from) (from_to v d.to)

  counted : (k : ℕ) (xs : List Edge) → crossing_count east (scaled_point (pos k) p) (scaled_edges q (edges_times k xs)) ≡ total (at k) xs
  counted k xs =
      let v = scaled_point (pos k) p in
      let f = λ (d : plane.Edge). up_crossing east (from_to v d.from) (from_to v d.to) + down_crossing east (from_to v d.from) (from_to v d.to) in
      sym (total-is f (scaled_edges q (edges_times k xs))) ∙ total-map f (scaled_edge q) (edges_times k xs) ∙ total-map (λ (d : plane.Edge). f (scaled_edge q d)) (edge_times k) xs

  same-sums : (f : Edge → ℕ) → total f (all_edges rs) ≡ total f es
  same-sums f = all-sum f rs ∙ total-is (λ r. sum_by f r) rs ∙ are.edges f ∙ sym (total-is f es)

  pub rings-count : count_at q p (all_edges rs) ≡ count_at q p es
  rings-count =
      let k = product_of_denominators (all_edges rs) in
      counted k (all_edges rs) ∙ same-sums (at k) ∙ sym (counted k es)
      ∙ ap (λ n. crossing_count east (scaled_point (pos n) p) (scaled_edges q (edges_times n es))) (sym (same-common es rs are))
