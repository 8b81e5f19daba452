-- Without an overlap the leaves of polygons part what the edges cover that the polygons are made of.
use Rattle.std.proofs.Common.{List, [], ap, arith, cond, inl, inr, map, not, pos, refl, subst, suc, sym, zero, ℕ, ℤ, ◌%◌, ◌-ℤ◌, ◌+◌, ◌<◌, ◌==◌, ◌∙◌, ◌∷◌, ◌≡◌}
use Rattle.std.proofs.lemmas.Int.{ints}
use Rattle.std.proofs.lemmas.List.Sums.{sum_by-append}
use Rattle.std.specs.List.{count_by, sum_by}
use Rattle.plane.specs.Sign.{Plus, sign}
use Rattle.plane.specs.Vector.{Vector}
use Rattle.plane_lists.specs.Lists.Parity.{is_even}
use Rattle.lists.proofs.ListsKit.{count_by-cons, total-is, total-map}
use Rattle.osm_geom.specs.declared.edge.Edge.{Edge}
use Rattle.osm_lattice.specs.declared.seg.Seg.{Seg}
use Rattle.osm_geom.specs.InPlane.Sided.{IsSided, count_at, signed_count_at}
use Rattle.osm_nest.specs.declared.polygon.Polygon.{Polygon}
use Rattle.osm_nest.specs.Cover.{covers_at}
use Rattle.osm_nest.specs.Laws.{NestedAreSided, NestedCoverAsRings, RingsCountAsEdges, RingsMayBeNested}
use Rattle.osm_nest.specs.Polygons.{edges_in}
use Rattle.coast_sides.specs.Land.{IsLand, parity_at}
use Rattle.coast_sides.specs.Segments.{all_segments}
use Rattle.coast_sides.specs.Water.{IsCoveredOnce, IsInsideWorld, IsWater, LandAndWaterCover, segments_under}
use Rattle.coast_split.specs.HalfLaws.{LeavesPart}
use Rattle.coast_split.specs.declared.leaves.Leaf.{Leaf}
use Rattle.coast_split.specs.SplitTree.{AreLeaves, IsTree, leaf_of, leaves_of}
use Rattle.osm_words.specs.Job.{CoastlineSettings}
use Rattle.job_coastline.specs.Coastline.{AreLand, AreWater}
use Rattle.job_coastline.specs.Pieces.{AreLeavesOf}
use Rattle.osm_nest.specs.Nested.{ArePolygons}
use Rattle.one_output.specs.OneCoast.Cover.{IsOffLeafEdges, LandLeavesPart, LeavesPartTheWorld, WaterLeavesPart, leaves_over}
use Rattle.one_output.proofs.OneCoast.LeavesTogether.{Fits, count-is, fits, left-off, lists-off, right-off}
use Rattle.one_output.proofs.OneCoast.SignedParity.{none-even, once-odd, parity-is}

one-if-odd : (n : ℕ) → cond {A = ℕ} (not (is_even n)) 1 0 ≡ n % 2
one-if-odd n = by (n % 2) (omega arith)
  where
    by : (r : ℕ) → r < 2 → cond {A = ℕ} (not (r == 0)) 1 0 ≡ r
    by zero h = refl
    by (suc zero) h = refl
    by (suc (suc r)) h = absurd (omega arith)

module _ (leaf_part : LeavesPart) (settings : CoastlineSettings) (none : settings.bbox_overlap ≡ 0) (q : ℤ) (plus : sign q ≡ Plus) (p : Vector) where
  abbrev m : ℕ
  m = settings.max_points

  abbrev over : Leaf → ℕ
  over leaf = count_at q p leaf.edges % 2

  of-one : (polygon : Polygon) → IsSided (edges_in polygon) → (leaves : List Leaf) → AreLeaves m settings.bbox_overlap (edges_in polygon) leaves → IsOffLeafEdges q p leaves →
      leaves_over q p leaves ≡ count_at q p (edges_in polygon) % 2
  of-one polygon sided leaves are off =
      let lists = leaves_of (edges_in polygon) are.tree in
      ap (sum_by over) are.leaves
      ∙ sym (total-is over (map (leaf_of m) lists)) ∙ total-map over (leaf_of m) lists ∙ total-is (λ (l : List Edge). count_at q p l % 2) lists
      ∙ leaf_part m (edges_in polygon) are.tree (subst (λ o. IsTree m o (edges_in polygon) are.tree) none are.is_tree) sided q plus p (lists-off settings q p polygon leaves are off)

  of-each : (polygons : List Polygon) → Fits polygons → (leaves : List Leaf) → AreLeavesOf settings polygons leaves → IsOffLeafEdges q p leaves → leaves_over q p leaves ≡ count_by (covers_at q p) polygons
  of-each [] sided leaves are off = ap (sum_by over) are
  of-each (x ∷ gs) sided leaves are off =
      let whole = ap (sum_by over) are.4 in let sum = sum_by-append over are.0 are.1 in
      let first = of-one x (sided x (inl refl)) are.0 are.2 (left-off q p are.0 are.1 leaves are.4 off) in
      let rest = of-each gs (λ y j. sided y (inr j)) are.1 are.3 (right-off q p are.0 are.1 leaves are.4 off) in
      let count = count_by-cons (covers_at q p) x gs in
      let one : cond {A = ℕ} (covers_at q p x) 1 0 ≡ count_at q p (edges_in x) % 2 = one-if-odd (count_at q p (edges_in x)) in
      omega arith

  module _ (may : RingsMayBeNested) (nested_sided : NestedAreSided) (nested_cover : NestedCoverAsRings) (rings_count : RingsCountAsEdges) where
    of-edges : (es : List Edge) → IsSided es → (polygons : List Polygon) → ArePolygons es polygons → (leaves : List Leaf) → AreLeavesOf settings polygons leaves → IsOffLeafEdges q p leaves →
        leaves_over q p leaves ≡ count_at q p es % 2
    of-edges es sided polygons made leaves are off =
        of-each polygons (fits may nested_sided nested_cover rings_count es sided polygons made) leaves are off
        ∙ count-is may nested_sided nested_cover rings_count es sided polygons made q plus p

module _ (leaf_part : LeavesPart) (may : RingsMayBeNested) (nested_sided : NestedAreSided) (nested_cover : NestedCoverAsRings) (rings_count : RingsCountAsEdges) (settings : CoastlineSettings) (none : settings.bbox_overlap ≡ 0) where
  pub land_part : (segs : List Seg) (land : List Edge) → IsLand segs land → (polygons : List Polygon) → ArePolygons land polygons → (leaves : List Leaf) → AreLeavesOf settings polygons leaves →
      (q : ℤ) → sign q ≡ Plus → (p : Vector) → IsOffLeafEdges q p leaves → pos (leaves_over q p leaves) ≡ parity_at q p segs
  land_part segs land is polygons made leaves are q plus p off =
      ap (λ n. pos n) (of-edges leaf_part settings none q plus p may nested_sided nested_cover rings_count land is.sided polygons made leaves are off) ∙ parity-is q p land _ (is.parity q plus p)

  water-by : (n : ℕ) (l w : ℤ) → IsCoveredOnce l w → (w ≡ pos 0 → n % 2 ≡ 0) → (w ≡ pos 1 → n % 2 ≡ 1) → pos (n % 2) ≡ pos 1 -ℤ l
  water-by n l w (inl h) even odd = ap (λ r. pos r) (even h.1) ∙ ap (λ z. pos 1 -ℤ z) (sym h.0)
  water-by n l w (inr h) even odd = ap (λ r. pos r) (odd h.1) ∙ ap (λ z. pos 1 -ℤ z) (sym h.0)

  module _ (land_and_water : LandAndWaterCover) where
    pub water_part : (segs : List Seg) (land water : List Edge) → IsLand segs land → IsWater (segments_under land) water → (polygons : List Polygon) → ArePolygons water polygons →
        (leaves : List Leaf) → AreLeavesOf settings polygons leaves → (p : Vector) → IsInsideWorld p → IsOffLeafEdges (pos 1) p leaves → pos (leaves_over (pos 1) p leaves) ≡ pos 1 -ℤ parity_at (pos 1) p segs
    water_part segs land water is_land is_water polygons made leaves are p within off =
        let l = signed_count_at (pos 1) p land in let w = signed_count_at (pos 1) p water in
        ap (λ n. pos n) (of-edges leaf_part settings none (pos 1) refl p may nested_sided nested_cover rings_count water is_water.sided polygons made leaves are off)
        ∙ water-by (count_at (pos 1) p water) l w (land_and_water segs land water is_land is_water p within) (none-even (pos 1) p water) (once-odd (pos 1) p water)
        ∙ ap (λ z. pos 1 -ℤ z) (is_land.parity (pos 1) refl p)

-- ---- of a coastline job
module _ (leaf_part : LeavesPart) (may : RingsMayBeNested) (nested_sided : NestedAreSided) (nested_cover : NestedCoverAsRings) (rings_count : RingsCountAsEdges) where
  pub land_leaves_part : LandLeavesPart
  land_leaves_part settings objects whole right asked none =
      let areas = right.areas in let are = right.right in
      land_part leaf_part may nested_sided nested_cover rings_count settings none (all_segments areas.coast.sorted.kept) areas.coast.land.edges are.coast.land.edges areas.land
      (subst (λ b. AreLand b areas.coast.land.edges areas.land) asked are.land) areas.land_leaves are.land_leaves

  module _ (land_and_water : LandAndWaterCover) where
    pub water_leaves_part : WaterLeavesPart
    water_leaves_part settings objects whole right asked none =
        let areas = right.areas in let are = right.right in
        let water = subst (λ b. AreWater b areas.coast.land.edges areas.water) asked are.water in
        water_part leaf_part may nested_sided nested_cover rings_count settings none land_and_water (all_segments areas.coast.sorted.kept) areas.coast.land.edges water.0 are.coast.land.edges water.1
        areas.water water.2 areas.water_leaves are.water_leaves

    -- where leaves of land don't cover the point leaves of water do
    once-together : (a b : ℕ) (z : ℤ) → pos a ≡ z → pos b ≡ pos 1 -ℤ z → a + b ≡ 1
    once-together a b z h k = omega (arith, ints)

    pub leaves_part_world : LeavesPartTheWorld
    leaves_part_world settings objects whole right land water none p within off_land off_water =
        let areas = right.areas in
        once-together (leaves_over (pos 1) p areas.land_leaves) (leaves_over (pos 1) p areas.water_leaves) (parity_at (pos 1) p (all_segments areas.coast.sorted.kept))
        (land_leaves_part settings objects whole right land none (pos 1) refl p off_land) (water_leaves_part settings objects whole right water none p within off_water)
