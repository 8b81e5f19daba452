-- What is printed of the polygons of nested rings.
use Rattle.std.proofs.Common.{All, Bool, List, [], ap, cond, false, filter, inl, inr, map, not, pos, refl, subst, sym, true, ℕ, ℤ, ◌%◌, ◌∙◌, ◌∷◌, ◌≡◌, ◌⊎◌}
use Rattle.std.specs.List.{count_by}
use Rattle.lists.specs.Member.{In}
use Rattle.lists.proofs.ListsKit.{all-in, in-all, in-either, in-filter, in-left, in-map, in-map-out, in-right, total-is, total-same}
use Rattle.plane_lists.specs.Rings.Nesting.{edges_of}
use Rattle.plane_lists.specs.Rings.Polygon as nesting
use Rattle.plane_lists.specs.Rings.Polygon.{IsPolygon, polygon_edges}
use Rattle.plane_lists.proofs.NestingKit.{in-edges, in-edges-out, same-in}
use Rattle.plane_lists.specs.OneRingList.RingListOf.{IsRingListOf}
use Rattle.osm_geom.specs.declared.edge.Edge.{Edge}
use Rattle.osm_lattice.specs.declared.loc.Loc.{Loc}
use Rattle.osm_nest.specs.declared.polygon.Polygon.{Polygon}
use Rattle.osm_nest.specs.Cover.{covers_at}
use Rattle.osm_nest.specs.Laws.{NestedCoverAsRings, RingsCountAsEdges, RingsMayBeNested}
use Rattle.osm_nest.specs.Nested.{AreNested}
use Rattle.osm_nest.specs.Polygons.{edges_in, polygon_times, rings_in}
use Rattle.osm_nest.specs.RingLists.{AreRings, all_edges, whole_rings}
use Rattle.osm_nest.proofs.BegunPolygons.{common-in, polygon-same, was, whole-edges}
use Rattle.osm_nest.proofs.NestedCover as nested
use Rattle.osm_nest.proofs.NestedRings.{same-common}
use Rattle.osm_rings.specs.RingList.{AreRingsOf}
use Rattle.osm_rings.proofs.UncrossedRings.{plane-list}
use Rattle.osm_text.specs.Piece.{holes_left}
use Rattle.osm_text.specs.Rounded.{has_vanished, rounded_ring, start_near}
use Rattle.plane.specs.Edge as plane
use Rattle.plane.specs.RayCrossing.{IsOffEdge}
use Rattle.plane.specs.Scale.{scaled_point}
use Rattle.plane.specs.Sign.{Plus, sign}
use Rattle.plane.specs.Vector.{Vector, east}
use Rattle.osm_geom.specs.InPlane.Multiple.{IsCommon, edge_times, edges_times, product_of_denominators, whole_edges}
use Rattle.osm_geom.specs.InPlane.Sided.{IsSided, count_at}
use Rattle.osm_geom.proofs.EdgesKit.{count_at_each, each_whole}
use Rattle.plane_lists.specs.Rounded.RoundedLaws.{IsBeyondHalf}
use Rattle.plane_lists.proofs.RoundedKit.{beyond-off}
use Rattle.plane_lists.specs.Valid.Valid.{HasValidBoundary, IsOffRings}
use Rattle.osm_nest.specs.ValidPolygons.Laws.{NestedPolygonsAreValid}
use Rattle.plane_lists.specs.Lists.EdgeList.{crossing_count}
use Rattle.plane_lists.specs.Lists.Parity.{is_even}
use Rattle.plane_lists.specs.Lists.ScaledEdges.{scaled_edges}
use Rattle.one_output.specs.RoundedPieces.Near.{AreBeyondHalf, IsWithinHalfUnit}
use Rattle.one_output.specs.RoundedPieces.Printed.{edges_round, print_covers, printed_rings}
use Rattle.one_output.specs.RoundedPieces.Tiles.{ArePrintedRight, IsPrintedFor, IsPrintedRight, IsPrintedRing}
use Rattle.one_output.proofs.RoundedPieces.NearPoints.{near}
use Rattle.one_output.proofs.RoundedPieces.NeighboursOnce.{once-in}
use Rattle.one_output.proofs.RoundedPieces.RoundedPolygons.{IsFarRing, polygon-alike}
use Rattle.one_output.proofs.RoundedPieces.RoundedRings.{ring-off}

-- ---- lists
in-all-edges : (rs : List (List Edge)) (r : List Edge) → In r rs → (e : Edge) → In e r → In e (all_edges rs)
in-all-edges [] r i e j = absurd i
in-all-edges (x ∷ rs) r (inl h) e j = in-left x (all_edges rs) e (subst (λ (l : List Edge). In e l) h j)
in-all-edges (x ∷ rs) r (inr i) e j = in-right x (all_edges rs) e (in-all-edges rs r i e j)

count-same : {X : Type 0} (f g : X → Bool) (xs : List X) → ((x : X) → In x xs → f x ≡ g x) → count_by f xs ≡ count_by g xs
count-same f g xs h =
    sym (total-is (λ x. cond {A = ℕ} (f x) 1 0) xs) ∙ total-same (λ x. cond {A = ℕ} (f x) 1 0) (λ x. cond {A = ℕ} (g x) 1 0) xs (λ x i. ap (λ b. cond {A = ℕ} b 1 0) (h x i))
    ∙ total-is (λ x. cond {A = ℕ} (g x) 1 0) xs

-- ---- the rings that are printed, and the points that they are printed for
printed-by : (v : Bool) (outer : List Edge) (inners : List (List Edge)) (printed : List Loc) → In printed (cond v [] (rounded_ring outer ∷ holes_left inners)) →
    (ring : List Edge) × In ring (outer ∷ inners) × (printed ≡ rounded_ring ring)
printed-by true outer inners printed i = absurd i
printed-by false outer inners printed (inl e) = (outer, inl refl, e)
printed-by false outer inners printed (inr i) =
    let w = in-map-out rounded_ring (filter (λ (ring : List Edge). not (has_vanished ring)) inners) printed i in
    (w.0, inr (in-filter (λ (ring : List Edge). not (has_vanished ring)) inners w.0 w.1), w.2)

pub printed-of : (polygon : Polygon) (printed : List Loc) → In printed (printed_rings polygon) → (ring : List Edge) × In ring (rings_in polygon) × (printed ≡ rounded_ring ring)
printed-of polygon printed i = printed-by (has_vanished polygon.outer) polygon.outer polygon.inners printed i

printed-for : (ring : List Edge) (at : Loc) → In at (rounded_ring ring) → IsPrintedFor ring at
printed-for ring at i =
    let w = in-map-out start_near ring at (once-in (map start_near ring) at i) in
    record { edge = w.0; member = w.1; near = subst (λ (l : Loc). IsWithinHalfUnit w.0.from l) (sym w.2) (near w.0.from w.0.from_in) }

pub printed-near : (polygon : Polygon) → All (IsPrintedRing polygon) (printed_rings polygon)
printed-near polygon =
    all-in (IsPrintedRing polygon) (printed_rings polygon) (λ printed i.
    let w = printed-of polygon printed i in
    record { ring = w.0; member = w.1; left = w.2; near = λ at j. printed-for w.0 at (subst (In at) w.2 j) })

-- ---- one polygon, in the plane multiplied by k
module _ (k : ℕ) (polygon : Polygon) (common : IsCommon k (edges_in polygon)) (valid : HasValidBoundary (polygon_times k polygon)) (q : ℤ) (plus : sign q ≡ Plus) (p : Vector) (far : AreBeyondHalf k q p (edges_in polygon)) where
  abbrev P : Vector
  P = scaled_point (pos k) p

  ring-times : (ring : List Edge) → In ring (rings_in polygon) → In (edges_times k ring) (edges_times k polygon.outer ∷ map (edges_times k) polygon.inners)
  ring-times ring (inl e) = inl (ap (edges_times k) e)
  ring-times ring (inr i) = inr (in-map (edges_times k) polygon.inners ring i)

  far-ring : (ring : List Edge) → In ring (rings_in polygon) → IsFarRing k common.some q plus p ring
  far-ring ring i = record {
    whole = λ e j. each_whole k (edges_in polygon) common e (in-all-edges (rings_in polygon) ring i e j);
    closed = (valid.linear_rings (edges_times k ring) (ring-times ring i)).closed;
    far = all-in (IsBeyondHalf k q p) (edges_times k ring) (λ x j.
        let w = in-map-out (edge_times k) ring x j in
        subst (IsBeyondHalf k q p) (sym w.2)
        (in-all (IsBeyondHalf k q p) (edges_times k (edges_in polygon)) (edge_times k w.0) far (in-map (edge_times k) (edges_in polygon) w.0 (in-all-edges (rings_in polygon) ring i w.0 w.1))));
  }

  same-edges : polygon_edges (polygon_times k polygon) ≡ edges_times k (edges_in polygon)
  same-edges = whole-edges k (rings_in polygon)

  off-rings : IsOffRings q P (polygon_times k polygon)
  off-rings =
      subst (λ (es : List plane.Edge). All (IsOffEdge P) (scaled_edges q es)) (sym same-edges) (beyond-off k common.some (edges_times k (edges_in polygon)) q plus p far)

  covers-alike : print_covers q p polygon ≡ covers_at q p polygon
  covers-alike =
      polygon-alike k common.some q plus p polygon.outer polygon.inners far-ring (valid.outer_less_holes q plus P off-rings)
      ∙ ap (λ (es : List plane.Edge). not (is_even (crossing_count east P (scaled_edges q es)))) same-edges
      ∙ ap (λ n. not (is_even n)) (sym (count_at_each k (edges_in polygon) common q p))

  off-by : (ring : List Edge) → IsFarRing k common.some q plus p ring → All (IsOffEdge p) (scaled_edges q (edges_round (rounded_ring ring)))
  off-by ring is = ring-off k common.some ring is.whole is.closed q plus p is.far

  pub printed-right : IsPrintedRight polygon q p
  printed-right = record {
    off = all-in (λ (printed : List Loc). All (IsOffEdge p) (scaled_edges q (edges_round printed))) (printed_rings polygon) (λ printed i.
        let w = printed-of polygon printed i in
        subst (λ (l : List Loc). All (IsOffEdge p) (scaled_edges q (edges_round l))) (sym w.2) (off-by w.0 (far-ring w.0 w.1)));
    covers = covers-alike;
  }

-- ---- all polygons of nested rings
module _ (fit : RingsMayBeNested) (cover : NestedCoverAsRings) (counts : RingsCountAsEdges) (are-valid : NestedPolygonsAreValid) (es : List Edge) (sd : IsSided es) (rs : List (List Edge)) (a : AreRingsOf es rs) (polygons : List Polygon) (n : AreNested rs polygons) where
  abbrev K : ℕ
  K = product_of_denominators es

  are : AreRings rs
  are = fit es rs sd a

  same : product_of_denominators (all_edges rs) ≡ K
  same = sym (same-common es rs a)

  common-at : (polygon : Polygon) → In polygon polygons → IsCommon K (edges_in polygon)
  common-at polygon i = subst (λ m. IsCommon m (edges_in polygon)) same (common-in rs are n.polygons polygons n.of_rings n.begun (nested.whole rs are polygons n) polygon i)

  boundary : (polygon : Polygon) → In polygon polygons → HasValidBoundary (polygon_times K polygon)
  boundary polygon i = ((are-valid es sd rs a polygons n).polygons (polygon_times K polygon) (in-map (polygon_times K) polygons polygon i)).boundary

  right-at : (polygon : Polygon) → In polygon polygons → (q : ℤ) → sign q ≡ Plus → (p : Vector) → AreBeyondHalf K q p (edges_in polygon) → IsPrintedRight polygon q p
  right-at polygon i q plus p far = printed-right K polygon (common-at polygon i) (boundary polygon i) q plus p far

  -- ---- the edges of the polygons are the list's
  list : IsRingListOf (whole_edges es) (map (edges_times K) rs)
  list = plane-list es rs a

  out-of-by : (g : nesting.Polygon) → IsPolygon (map (edges_times K) rs) g → (x : plane.Edge) → (In x g.outer) ⊎ (In x (edges_of g.inner)) → In x (edges_of (map (edges_times K) rs))
  out-of-by g is x (inl i) = in-edges (map (edges_times K) rs) g.outer x is.member i
  out-of-by g is x (inr i) = let w = in-edges-out g.inner x i in in-edges (map (edges_times K) rs) w.0 x (is.inner_members w.0 w.1) w.2

  in-list : (polygon : Polygon) → In polygon polygons → (x : plane.Edge) → In x (edges_times K (edges_in polygon)) → In x (whole_edges es)
  in-list polygon i x j =
      let w = was n.polygons polygons n.begun polygon i in let g = polygon_times K w.0 in
      let of : IsPolygon (map (edges_times K) rs) g = subst (λ m. IsPolygon (map (edges_times m) rs) (polygon_times m w.0)) same (in-all (λ (q : Polygon). IsPolygon (whole_rings rs) (polygon_times (product_of_denominators (all_edges rs)) q)) n.polygons w.0 n.of_rings.each w.1) in
      same-in (edges_of (map (edges_times K) rs)) (whole_edges es) list.edges x
      (out-of-by g of x (in-either g.outer (edges_of g.inner) x (same-in (edges_times K (edges_in polygon)) (polygon_edges g) (polygon-same K w.0 polygon w.2) x j)))

  module _ (q : ℤ) (plus : sign q ≡ Plus) (p : Vector) (far : AreBeyondHalf K q p es) where
    far-at : (polygon : Polygon) → In polygon polygons → AreBeyondHalf K q p (edges_in polygon)
    far-at polygon i = all-in (IsBeyondHalf K q p) (edges_times K (edges_in polygon)) (λ x j. in-all (IsBeyondHalf K q p) (whole_edges es) x far (in-list polygon i x j))

    counted : count_by (print_covers q p) polygons ≡ count_at q p es % 2
    counted =
        count-same (print_covers q p) (covers_at q p) polygons (λ polygon i. (right-at polygon i q plus p (far-at polygon i)).covers)
        ∙ cover rs polygons are n q plus p ∙ ap (λ m. m % 2) (counts es rs a q p)

  pub printed-all : ArePrintedRight es polygons
  printed-all = record {
    near = all-in (λ (polygon : Polygon). All (IsPrintedRing polygon) (printed_rings polygon)) polygons (λ polygon i. printed-near polygon);
    each = right-at;
    together = counted;
  }
