-- The leaves of polygons cover together what the edges cover that the polygons are made of.
use Rattle.std.proofs.Common.{Bool, List, [], ap, arith, cond, false, inl, inr, map, not, pos, refl, subst, suc, sym, true, zero, ℕ, ℤ, ◌%◌, ◌++◌, ◌+◌, ◌==◌, ◌∙◌, ◌∷◌, ◌≡◌, ◌≤◌, ◌⊎◌, ◌↔◌}
use Rattle.std.specs.List.{count_by}
use Rattle.plane.specs.Sign.{Plus, sign}
use Rattle.plane.specs.Vector.{Vector}
use Rattle.plane_lists.specs.Lists.Parity.{is_even}
use Rattle.lists.specs.Member.{In}
use Rattle.lists.proofs.ListsKit.{all-in, count_by-cons, in-all, in-either, in-left, in-map, in-map-out, in-right}
use Rattle.osm_geom.specs.declared.edge.Edge.{Edge}
use Rattle.osm_lattice.specs.declared.seg.Seg.{Seg}
use Rattle.osm_geom.specs.InPlane.Sided.{IsSided, count_at, signed_count_at}
use Rattle.osm_nest.specs.declared.polygon.Polygon.{Polygon}
use Rattle.osm_nest.specs.Cover.{AreSided, covers_at}
use Rattle.osm_nest.specs.Laws.{NestedAreSided, NestedCoverAsRings, RingsCountAsEdges, RingsMayBeNested}
use Rattle.osm_nest.specs.Polygons.{edges_in}
use Rattle.coast_sides.specs.Land.{IsLand, parity_at}
use Rattle.coast_sides.specs.Water.{IsCoveredOnce, IsInsideWorld, IsWater, LandAndWaterCover, segments_under}
use Rattle.coast_split.specs.HalfLaws.{LeafCover}
use Rattle.coast_split.specs.declared.leaves.Leaf.{Leaf}
use Rattle.coast_split.specs.SplitTree.{AreLeaves, Covers, IsOffLeaves, IsOffList, SomeCovers, leaf_of, leaves_of}
use Rattle.one_output.specs.OneCoast.Cover.{IsOffLeafEdges, SomeLeafCovers}
use Rattle.osm_words.specs.Job.{CoastlineSettings}
use Rattle.job_coastline.specs.Pieces.{AreLeavesOf}
use Rattle.osm_nest.specs.Nested.{ArePolygons}
use Rattle.one_output.proofs.OneCoast.SignedParity.{none-even, odd-parity, once-odd, parity-odd}

-- ---- a polygon that covers, among polygons
pub record SomePolygonCovers (q : ℤ) (p : Vector) (polygons : List Polygon) : Type 0 where
  pub polygon : Polygon
  pub member : In polygon polygons
  pub covers : Covers q p (edges_in polygon)

odd-covers : (n : ℕ) → n % 2 ≡ 1 → not (is_even n) ≡ true
odd-covers n h = ap (λ r. not (r == 0)) h

covers-odd : (n : ℕ) → not (is_even n) ≡ true → n % 2 ≡ 1
covers-odd n h = by (n % 2) (omega arith) h
  where
    by : (r : ℕ) → r ≤ 1 → not (r == 0) ≡ true → r ≡ 1
    by zero l e = absurd (cc e)
    by (suc r) l e = omega arith

module _ (q : ℤ) (p : Vector) where
  abbrev count : List Polygon → ℕ
  count polygons = count_by (covers_at q p) polygons

  counted-by : (g : Polygon) (gs : List Polygon) (b : Bool) → covers_at q p g ≡ b → 1 ≤ cond {A = ℕ} b 1 0 + count gs → (1 ≤ count gs → SomePolygonCovers q p gs) → SomePolygonCovers q p (g ∷ gs)
  counted-by g gs true e h rest = record { polygon = g; member = inl refl; covers = covers-odd (count_at q p (edges_in g)) e }
  counted-by g gs false e h rest = let r = rest (omega arith) in record { polygon = r.polygon; member = inr r.member; covers = r.covers }

  counted : (gs : List Polygon) → 1 ≤ count gs → SomePolygonCovers q p gs
  counted [] h = absurd (omega arith)
  counted (g ∷ gs) h =
      let c = count_by-cons (covers_at q p) g gs in
      counted-by g gs (covers_at q p g) refl (subst (λ n. 1 ≤ n) c h) (counted gs)

  counts : (gs : List Polygon) (g : Polygon) → In g gs → Covers q p (edges_in g) → 1 ≤ count gs
  counts [] g i h = absurd i
  counts (x ∷ gs) g (inl e) h =
      let c = count_by-cons (covers_at q p) x gs in
      let one = ap (λ b. cond {A = ℕ} b 1 0) (odd-covers (count_at q p (edges_in x)) (subst (λ (y : Polygon). Covers q p (edges_in y)) e h)) in omega arith
  counts (x ∷ gs) g (inr i) h =
      let c = count_by-cons (covers_at q p) x gs in let r = counts gs g i h in omega arith

abbrev pub Fits : List Polygon → Type 0
Fits polygons = (g : Polygon) → In g polygons → IsSided (edges_in g)

-- ---- the polygons that a sided list makes
module _ (may : RingsMayBeNested) (nested_sided : NestedAreSided) (nested_cover : NestedCoverAsRings) (rings_count : RingsCountAsEdges)
    (es : List Edge) (sided : IsSided es) (polygons : List Polygon) (made : ArePolygons es polygons) where
  each-sided : AreSided polygons
  each-sided = nested_sided made.rings polygons (may es made.rings sided made.cut) made.nested

  pub fits : Fits polygons
  fits g i = in-all (λ (g : Polygon). IsSided (edges_in g)) polygons g each-sided i

  pub count-is : (q : ℤ) → sign q ≡ Plus → (p : Vector) → count_by (covers_at q p) polygons ≡ count_at q p es % 2
  count-is q plus p = nested_cover made.rings polygons (may es made.rings sided made.cut) made.nested q plus p ∙ ap (λ n. n % 2) (rings_count es made.rings made.cut q p)

-- ---- a point off the edges of leaves
module _ (settings : CoastlineSettings) (q : ℤ) (p : Vector) where
  module _ (polygon : Polygon) (leaves : List Leaf) (are : AreLeaves settings.max_points settings.bbox_overlap (edges_in polygon) leaves) (off : IsOffLeafEdges q p leaves) where
    abbrev pub lists : List (List Edge)
    lists = leaves_of (edges_in polygon) are.tree

    pub lists-off : IsOffLeaves q p lists
    lists-off = all-in (IsOffList q p) lists (λ l i.
        let leaf = leaf_of settings.max_points l in
        in-all (λ (leaf : Leaf). IsOffList q p leaf.edges) leaves leaf off (subst (In leaf) (sym are.leaves) (in-map (leaf_of settings.max_points) lists l i)))

module _ (q : ℤ) (p : Vector) where
  pub left-off : (xs ys leaves : List Leaf) → leaves ≡ xs ++ ys → IsOffLeafEdges q p leaves → IsOffLeafEdges q p xs
  left-off xs ys leaves e off =
      all-in (λ (leaf : Leaf). IsOffList q p leaf.edges) xs (λ leaf i. in-all (λ (leaf : Leaf). IsOffList q p leaf.edges) leaves leaf off (subst (In leaf) (sym e) (in-left xs ys leaf i)))

  pub right-off : (xs ys leaves : List Leaf) → leaves ≡ xs ++ ys → IsOffLeafEdges q p leaves → IsOffLeafEdges q p ys
  right-off xs ys leaves e off =
      all-in (λ (leaf : Leaf). IsOffList q p leaf.edges) ys (λ leaf i. in-all (λ (leaf : Leaf). IsOffList q p leaf.edges) leaves leaf off (subst (In leaf) (sym e) (in-right xs ys leaf i)))

-- ---- leaves of one polygon, and of polygons
module _ (leaf_cover : LeafCover) (settings : CoastlineSettings) (q : ℤ) (plus : sign q ≡ Plus) (p : Vector) where
  abbrev m : ℕ
  m = settings.max_points

  abbrev o : ℕ
  o = settings.bbox_overlap

  tell : (lists : List (List Edge)) (leaves : List Leaf) → leaves ≡ map (leaf_of m) lists → SomeCovers q p lists → SomeLeafCovers q p leaves
  tell lists leaves e c = record { leaf = leaf_of m c.leaf; member = subst (In (leaf_of m c.leaf)) (sym e) (in-map (leaf_of m) lists c.leaf c.member); covers = c.covers }

  told : (lists : List (List Edge)) (leaves : List Leaf) → leaves ≡ map (leaf_of m) lists → SomeLeafCovers q p leaves → SomeCovers q p lists
  told lists leaves e c =
      let w = in-map-out (leaf_of m) lists c.leaf (subst (In c.leaf) e c.member) in
      record { leaf = w.0; member = w.1; covers = subst (λ (l : Leaf). Covers q p l.edges) w.2 c.covers }

  module _ (polygon : Polygon) (sided : IsSided (edges_in polygon)) (leaves : List Leaf) (are : AreLeaves m o (edges_in polygon) leaves) (off : IsOffLeafEdges q p leaves) where
    of-one : Covers q p (edges_in polygon) ↔ SomeCovers q p (leaves_of (edges_in polygon) are.tree)
    of-one = leaf_cover m o (edges_in polygon) are.tree are.is_tree sided q plus p (lists-off settings q p polygon leaves are off)

    leaf-from : Covers q p (edges_in polygon) → SomeLeafCovers q p leaves
    leaf-from h = tell (leaves_of (edges_in polygon) are.tree) leaves are.leaves (of-one.0 h)

    leaf-back : SomeLeafCovers q p leaves → Covers q p (edges_in polygon)
    leaf-back h = of-one.1 (told (leaves_of (edges_in polygon) are.tree) leaves are.leaves h)

  leaf-left : (xs ys leaves : List Leaf) → leaves ≡ xs ++ ys → SomeLeafCovers q p xs → SomeLeafCovers q p leaves
  leaf-left xs ys leaves e c = record { leaf = c.leaf; member = subst (In c.leaf) (sym e) (in-left xs ys c.leaf c.member); covers = c.covers }

  leaf-right : (xs ys leaves : List Leaf) → leaves ≡ xs ++ ys → SomeLeafCovers q p ys → SomeLeafCovers q p leaves
  leaf-right xs ys leaves e c = record { leaf = c.leaf; member = subst (In c.leaf) (sym e) (in-right xs ys c.leaf c.member); covers = c.covers }

  leaves-from : (polygons : List Polygon) → Fits polygons → (leaves : List Leaf) → AreLeavesOf settings polygons leaves → IsOffLeafEdges q p leaves →
      (g : Polygon) → In g polygons → Covers q p (edges_in g) → SomeLeafCovers q p leaves
  leaves-from [] fits leaves are off g i h = absurd i
  leaves-from (x ∷ gs) fits leaves are off g (inl e) h =
      leaf-left are.0 are.1 leaves are.4 (leaf-from x (fits x (inl refl)) are.0 are.2 (left-off q p are.0 are.1 leaves are.4 off) (subst (λ (y : Polygon). Covers q p (edges_in y)) e h))
  leaves-from (x ∷ gs) fits leaves are off g (inr i) h =
      leaf-right are.0 are.1 leaves are.4 (leaves-from gs (λ y j. fits y (inr j)) are.1 are.3 (right-off q p are.0 are.1 leaves are.4 off) g i h)

  later : (x : Polygon) (gs : List Polygon) → SomePolygonCovers q p gs → SomePolygonCovers q p (x ∷ gs)
  later x gs c = record { polygon = c.polygon; member = inr c.member; covers = c.covers }

  back-by : (x : Polygon) (gs : List Polygon) (first rest : List Leaf) (leaf : Leaf) → Covers q p leaf.edges → (SomeLeafCovers q p first → Covers q p (edges_in x)) →
      (SomeLeafCovers q p rest → SomePolygonCovers q p gs) → (In leaf first) ⊎ (In leaf rest) → SomePolygonCovers q p (x ∷ gs)
  back-by x gs first rest leaf h here there (inl i) = record { polygon = x; member = inl refl; covers = here (record { leaf = leaf; member = i; covers = h }) }
  back-by x gs first rest leaf h here there (inr i) = later x gs (there (record { leaf = leaf; member = i; covers = h }))

  leaves-back : (polygons : List Polygon) → Fits polygons → (leaves : List Leaf) → AreLeavesOf settings polygons leaves → IsOffLeafEdges q p leaves → SomeLeafCovers q p leaves →
      SomePolygonCovers q p polygons
  leaves-back [] fits leaves are off c = absurd (subst (In c.leaf) are c.member)
  leaves-back (x ∷ gs) fits leaves are off c =
      back-by x gs are.0 are.1 c.leaf c.covers (leaf-back x (fits x (inl refl)) are.0 are.2 (left-off q p are.0 are.1 leaves are.4 off))
      (leaves-back gs (λ y j. fits y (inr j)) are.1 are.3 (right-off q p are.0 are.1 leaves are.4 off)) (in-either are.0 are.1 c.leaf (subst (In c.leaf) are.4 c.member))

  -- ---- leaves of the polygons that a sided list makes
  module _ (may : RingsMayBeNested) (nested_sided : NestedAreSided) (nested_cover : NestedCoverAsRings) (rings_count : RingsCountAsEdges) where
    module _ (es : List Edge) (sided : IsSided es) (polygons : List Polygon) (made : ArePolygons es polygons) (leaves : List Leaf) (are : AreLeavesOf settings polygons leaves) (off : IsOffLeafEdges q p leaves) where
      pub from-edges : count_at q p es % 2 ≡ 1 → SomeLeafCovers q p leaves
      from-edges h =
          let c = count-is may nested_sided nested_cover rings_count es sided polygons made q plus p in
          let g = counted q p polygons (omega arith) in leaves-from polygons (fits may nested_sided nested_cover rings_count es sided polygons made) leaves are off g.polygon g.member g.covers

      pub to-edges : SomeLeafCovers q p leaves → count_at q p es % 2 ≡ 1
      to-edges s =
          let g = leaves-back polygons (fits may nested_sided nested_cover rings_count es sided polygons made) leaves are off s in
          let c = count-is may nested_sided nested_cover rings_count es sided polygons made q plus p in let some = counts q p polygons g.polygon g.member g.covers in omega arith

module _ (leaf_cover : LeafCover) (may : RingsMayBeNested) (nested_sided : NestedAreSided) (nested_cover : NestedCoverAsRings) (rings_count : RingsCountAsEdges) where
  pub land_cover : (settings : CoastlineSettings) (segs : List Seg) (land : List Edge) → IsLand segs land → (polygons : List Polygon) → ArePolygons land polygons →
      (leaves : List Leaf) → AreLeavesOf settings polygons leaves → (q : ℤ) → sign q ≡ Plus → (p : Vector) → IsOffLeafEdges q p leaves →
      SomeLeafCovers q p leaves ↔ (parity_at q p segs ≡ pos 1)
  land_cover settings segs land is polygons made leaves are q plus p off = (
    (λ s. odd-parity q p land _ (is.parity q plus p) (to-edges leaf_cover settings q plus p may nested_sided nested_cover rings_count land is.sided polygons made leaves are off s)),
    (λ h. from-edges leaf_cover settings q plus p may nested_sided nested_cover rings_count land is.sided polygons made leaves are off (parity-odd q p land _ (is.parity q plus p) h)),
  )

  water-to : (n : ℕ) (l w : ℤ) → IsCoveredOnce l w → (w ≡ pos 0 → n % 2 ≡ 0) → n % 2 ≡ 1 → l ≡ pos 0
  water-to n l w (inl h) none odd = let even = none h.1 in absurd (omega arith)
  water-to n l w (inr h) none odd = h.0

  water-from : (l w : ℤ) → IsCoveredOnce l w → l ≡ pos 0 → w ≡ pos 1
  water-from l w (inl h) e = let x : pos 1 ≡ pos 0 = sym h.0 ∙ e in absurd (cc x)
  water-from l w (inr h) e = h.1

  module _ (land_and_water : LandAndWaterCover) where
    pub water_cover : (settings : CoastlineSettings) (segs : List Seg) (land water : List Edge) → IsLand segs land → IsWater (segments_under land) water →
        (polygons : List Polygon) → ArePolygons water polygons → (leaves : List Leaf) → AreLeavesOf settings polygons leaves →
        (p : Vector) → IsInsideWorld p → IsOffLeafEdges (pos 1) p leaves →
        SomeLeafCovers (pos 1) p leaves ↔ (parity_at (pos 1) p segs ≡ pos 0)
    water_cover settings segs land water is_land is_water polygons made leaves are p within off =
        let l = signed_count_at (pos 1) p land in let w = signed_count_at (pos 1) p water in
        let once = land_and_water segs land water is_land is_water p within in
        let parity : l ≡ parity_at (pos 1) p segs = is_land.parity (pos 1) refl p in (
          (λ s. sym parity ∙ water-to (count_at (pos 1) p water) l w once (none-even (pos 1) p water) (to-edges leaf_cover settings (pos 1) refl p may nested_sided nested_cover rings_count water is_water.sided polygons made leaves are off s)),
          (λ h. from-edges leaf_cover settings (pos 1) refl p may nested_sided nested_cover rings_count water is_water.sided polygons made leaves are off (once-odd (pos 1) p water (water-from l w once (parity ∙ h)))),
        )
