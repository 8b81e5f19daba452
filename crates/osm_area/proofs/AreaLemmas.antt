-- The area of segments: it has polygons, and the parity of the segments.
use Rattle.std.proofs.Common.{◌≡◌, ◌≢◌, ◌∙◌, ℕ, ◌+◌, ◌%◌, ℤ, pos, Bool, true, false, cond, List, [], ◌∷◌, map, refl, sym, ap, subst, arith}
use Rattle.std.specs.List.{sum_by}
use Rattle.std.proofs.lemmas.List.Sums.{sum_by-cons}
use Rattle.plane.specs.Edge as plane
use Rattle.plane.specs.RayCrossing.{up_crossing, down_crossing}
use Rattle.plane.specs.Scale.{scaled_edge, scaled_point}
use Rattle.plane.specs.Vector.{Vector, east, from_to}
use Rattle.plane.proofs.PlaneKit.{point-once}
use Rattle.plane_lists.specs.Lists.EdgeList.{crossing_count}
use Rattle.plane_lists.specs.Lists.OddSide.{directed_edge}
use Rattle.plane_lists.specs.Lists.ScaledEdges.{scaled_edges}
use Rattle.plane_lists.proofs.WindingKit.{reversed-crossings}
use Rattle.osm_geom.specs.InPlane.Multiple.{edge_times, edges_times, whole_edges}
use Rattle.osm_geom.specs.InPlane.Sided.{count_at}
use Rattle.osm_geom.specs.InPlane.SidedLaws.{IsLattice}
use Rattle.osm_geom.proofs.EdgesKit.{common-lattice, lattice_whole}
use Rattle.osm_geom.specs.declared.edge.Carrier.TheVariants.{OfSeg}
use Rattle.osm_geom.specs.declared.edge.Edge.{Edge}
use Rattle.osm_lattice.specs.declared.seg.Seg.{Seg}
use Rattle.osm_sides.specs.Directions.{AreDirected}
use Rattle.osm_sides.specs.Survivors.{plane_edges_of}
use Rattle.osm_sides.proofs.PlaneEdges.{plane_edges}
use Rattle.osm_rings.specs.RingList.{AreRingsOf}
use Rattle.osm_nest.specs.declared.polygon.Polygon.{Polygon}
use Rattle.osm_nest.specs.Nested.{AreNested}
use Rattle.osm_nest.specs.Polygons.{rings_of}
use Rattle.osm_nest.specs.RingLists.{all_edges}
use Rattle.osm_area.specs.Area.{IsArea, HaveParityOf}
use Rattle.osm_area.proofs.RingSums.{sum-all_edges, sum-rings}

-- ---- some polygon

no-edges : (es : List Edge) → sum_by (λ (e : Edge). 1) es ≡ 0 → es ≡ []
no-edges [] none = refl
no-edges (e ∷ es) none = let a = sum_by-cons (λ (d : Edge). 1) e es in absurd (omega arith)

no-segments : (segs : List Seg) → map OfSeg segs ≡ [] → segs ≡ []
no-segments [] none = refl
no-segments (s ∷ segs) none = absurd (cc)

pub some_polygon : (survivors : List Seg) (edges : List Edge) (rings : List (List Edge)) (polygons : List Polygon) → survivors ≢ [] → AreDirected survivors edges → AreRingsOf edges rings → AreNested rings polygons → polygons ≢ []
some_polygon survivors edges rings polygons some directed cut nested none =
    let sum : sum_by (λ (e : Edge). 1) edges ≡ 0 =
    sym (sum-rings (λ (e : Edge). 1) edges rings polygons cut nested) ∙ ap (λ (ps : List Polygon). sum_by (sum_by (λ (e : Edge). 1)) (rings_of ps)) none in
    some (no-segments survivors (sym directed.whole ∙ ap (map (λ (e : Edge). e.carrier)) (no-edges edges sum)))

-- the edges and rings as they were lent
pub is_area : (survivors : List Seg) (edges lent : List Edge) (rings passed : List (List Edge)) → survivors ≢ [] → AreDirected survivors edges → lent ≡ edges → AreRingsOf lent rings → passed ≡ rings
    → (polygons : List Polygon) → AreNested passed polygons → IsArea survivors polygons
is_area survivors edges lent rings passed some directed l cut p polygons nested =
    let whole : AreRingsOf edges passed = subst (λ es. AreRingsOf es passed) l (subst (AreRingsOf lent) (sym p) cut) in
    record {
      edges = edges;
      directed = directed;
      made = record { rings = passed; cut = whole; nested = nested };
      some = some_polygon survivors edges passed polygons some directed whole nested;
    }

-- ---- parity

sum-map : {X Y : Type 0} (g : Y → ℕ) (f : X → Y) (xs : List X) → sum_by g (map f xs) ≡ sum_by (λ (x : X). g (f x)) xs
sum-map g f [] = refl
sum-map g f (x ∷ xs) = sum_by-cons g (f x) (map f xs) ∙ (ap (λ n. g (f x) + n) (sum-map g f xs) ∙ sym (sum_by-cons (λ y. g (f y)) x xs))

sum-same : {X : Type 0} (f g : X → ℕ) → ((x : X) → f x ≡ g x) → (xs : List X) → sum_by f xs ≡ sum_by g xs
sum-same f g same [] = refl
sum-same f g same (x ∷ xs) =
    let a = sum_by-cons f x xs in
    let b = sum_by-cons g x xs in
    let c = same x in
    let d = sum-same f g same xs in omega arith

turned : (m n : ℕ) → m + n ≡ n + m
turned m n = omega arith

module _ (q : ℤ) (p : Vector) where
  -- how often the ray from p crosses the edge multiplied by q
  abbrev crossed : plane.Edge → ℕ
  crossed d = up_crossing east (from_to p (scaled_edge q d).from) (from_to p (scaled_edge q d).to) + down_crossing east (from_to p (scaled_edge q d).from) (from_to p (scaled_edge q d).to)

  crossed-reversed : (d : plane.Edge) → crossed (plane.reversed d) ≡ crossed d
  crossed-reversed d =
      let h = reversed-crossings east (from_to p) (scaled_edge q d) in
      (λ i. h.0 i + h.1 i) ∙ turned (down_crossing east (from_to p (scaled_edge q d).from) (from_to p (scaled_edge q d).to)) (up_crossing east (from_to p (scaled_edge q d).from) (from_to p (scaled_edge q d).to))

  crossed-by : (up : Bool) (d : plane.Edge) → crossed (cond up d (plane.reversed d)) ≡ crossed d
  crossed-by true d = refl
  crossed-by false d = crossed-reversed d

  count-is : (es : List Edge) → IsLattice es → count_at q p es ≡ sum_by (λ (e : Edge). crossed (edge_times 1 e)) es
  count-is es lattice =
      ap (λ k. crossing_count east (scaled_point (pos k) p) (scaled_edges q (whole_edges es))) (common-lattice es lattice)
      ∙ (ap (λ v. crossing_count east v (scaled_edges q (whole_edges es))) (point-once p)
      ∙ (ap (λ xs. crossing_count east p (scaled_edges q xs)) (lattice_whole es lattice)
      ∙ (sum-map (λ (d : plane.Edge). up_crossing east (from_to p d.from) (from_to p d.to) + down_crossing east (from_to p d.from) (from_to p d.to)) (scaled_edge q) (edges_times 1 es)
      ∙ sum-map crossed (edge_times 1) es)))

  directed-count : (survivors : List Seg) (es : List Edge) → AreDirected survivors es → sum_by (λ (e : Edge). crossed (edge_times 1 e)) es ≡ crossing_count east p (scaled_edges q (plane_edges_of survivors))
  directed-count survivors es d =
      sym (sum-map crossed (edge_times 1) es)
      ∙ (ap (sum_by crossed) (plane_edges survivors survivors es d.firsts d.lasts)
      ∙ (sum-map crossed (directed_edge (plane_edges_of survivors)) (plane_edges_of survivors)
      ∙ (sum-same (λ x. crossed (directed_edge (plane_edges_of survivors) x)) crossed (λ x. crossed-by _ x) (plane_edges_of survivors)
      ∙ sym (sum-map (λ (x : plane.Edge). up_crossing east (from_to p x.from) (from_to p x.to) + down_crossing east (from_to p x.from) (from_to p x.to)) (scaled_edge q) (plane_edges_of survivors)))))

  pub area_count : (survivors : List Seg) (polygons : List Polygon) → IsLattice (all_edges (rings_of polygons)) → IsArea survivors polygons
      → count_at q p (all_edges (rings_of polygons)) ≡ crossing_count east p (scaled_edges q (plane_edges_of survivors))
  area_count survivors polygons lattice area =
      count-is (all_edges (rings_of polygons)) lattice
      ∙ (sum-all_edges (λ (e : Edge). crossed (edge_times 1 e)) (rings_of polygons)
      ∙ (sum-rings (λ (e : Edge). crossed (edge_times 1 e)) area.edges area.made.rings polygons area.made.cut area.made.nested
      ∙ directed-count survivors area.edges area.directed))

pub area_parity : (survivors : List Seg) (polygons : List Polygon) → IsLattice (all_edges (rings_of polygons)) → IsArea survivors polygons → HaveParityOf survivors polygons
area_parity survivors polygons lattice area q positive p = ap (λ n. n % 2) (area_count q p survivors polygons lattice area)
