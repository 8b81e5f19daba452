-- Polygons whose rings are begun elsewhere: each is sided, and together they cover what the rings cover.
use Rattle.std.proofs.Common.{All, List, [], ap, arith, inl, inr, map, not, pos, refl, subst, sym, ℕ, ℤ, ◌%◌, ◌++◌, ◌+◌, ◌∙◌, ◌∷◌, ◌≡◌, ◌≤◌, ◌⊎◌}
use Rattle.std.specs.List.{count_by}
use Rattle.std.proofs.lemmas.List.{map-append}
use Rattle.plane_lists.specs.Rings.Cover.{covers}
use Rattle.plane_lists.specs.Rings.Nesting.{edges_of}
use Rattle.plane_lists.specs.Rings.Polygon as nesting
use Rattle.plane_lists.specs.Rings.Polygon.{ArePolygonsOfRings, IsPolygon, polygon_edges}
use Rattle.plane_lists.specs.Rings.Walk.{HasSameEdges}
use Rattle.plane_lists.proofs.NestingKit.{odd-bit, total-edges, sided_same, polygons_cover_at_fractions, polygon_sided}
use Rattle.plane.specs.Bit.{bit}
use Rattle.plane.specs.Edge as plane
use Rattle.plane.specs.RayCrossing.{down_crossing, up_crossing}
use Rattle.plane.specs.Scale.{scaled_edge, scaled_point}
use Rattle.plane.specs.Sign.{Plus, sign}
use Rattle.plane.specs.Vector.{Vector, east, from_to}
use Rattle.plane_lists.specs.Lists.EdgeList.{crossing_count}
use Rattle.lists.specs.Member.{In}
use Rattle.plane_lists.specs.Lists.Parity.{is_even}
use Rattle.plane_lists.specs.Lists.ScaledEdges.{scaled_edges}
use Rattle.lists.proofs.ListsKit.{all-either, all-in, in-all, in-either, in-left, in-map-out, in-right, total, total-++, total-is, total-map}
use Rattle.osm_geom.specs.declared.edge.Edge.{Edge}
use Rattle.osm_geom.specs.Point.{den_of}
use Rattle.osm_nest.specs.declared.polygon.Polygon.{Polygon}
use Rattle.osm_nest.specs.Cover.{AreSided, covers_at}
use Rattle.osm_nest.specs.Nested.{AreFromLeast, ArePolygonsFromLeast, ArePolygonsOf, IsPolygonFromLeast}
use Rattle.osm_nest.specs.Polygons.{edges_in, polygon_times, rings_in, rings_of}
use Rattle.osm_nest.specs.RingLists.{AreRings, all_edges, whole_rings}
use Rattle.lists.specs.Rotated.{IsRotated}
use Prim.Native.Nat.{◌∣◌}
use Rattle.osm_geom.specs.InPlane.Multiple.{IsCommon, IsWholeAt, edge_times, edges_times, product_of_denominators}
use Rattle.osm_geom.specs.InPlane.Sided.{IsSided, count_at}
use Rattle.osm_geom.proofs.EdgesKit.{common_is_common, count_at_each, sided_at_each}

-- ---- sums over edges in the multiplied plane
module _ (k : ℕ) where
  -- the multiplied edges, ring by ring
  pub whole-edges : (rs : List (List Edge)) → edges_of (map (edges_times k) rs) ≡ edges_times k (all_edges rs)
  whole-edges [] = refl
  whole-edges (r ∷ rs) = ap (λ xs. edges_times k r ++ xs) (whole-edges rs) ∙ sym (map-append (edge_times k) r (all_edges rs))

  abbrev pub ring-sum : (plane.Edge → ℕ) → List Edge → ℕ
  ring-sum f r = total f (edges_times k r)

  rings-sum : (f : plane.Edge → ℕ) (rs : List (List Edge)) → total f (edges_times k (all_edges rs)) ≡ total (ring-sum f) rs
  rings-sum f rs = ap (total f) (sym (whole-edges rs)) ∙ total-edges f (map (edges_times k) rs) ∙ total-map (total f) (edges_times k) rs

  turned-sum : (f : plane.Edge → ℕ) (p q : List Edge) → IsRotated p q → ring-sum f q ≡ ring-sum f p
  turned-sum f p q t =
      let g = λ (e : Edge). f (edge_times k e) in
      let a = total-map f (edge_times k) p in let b = total-map f (edge_times k) q in
      let c = ap (total g) t.old in let d = ap (total g) t.new in
      let e = total-++ g t.front t.back in let h = total-++ g t.back t.front in omega arith

  begun-sum : (f : plane.Edge → ℕ) (rs bs : List (List Edge)) → AreFromLeast rs bs → total (ring-sum f) bs ≡ total (ring-sum f) rs
  begun-sum f [] bs h = ap (total (ring-sum f)) h
  begun-sum f (r ∷ rs) bs h =
      let a = ap (total (ring-sum f)) h.2 in let b = turned-sum f r h.0 h.3.turned in let c = begun-sum f rs h.1 h.4 in omega arith

  pub polygon-same : (g b : Polygon) → IsPolygonFromLeast g b → HasSameEdges (edges_times k (edges_in b)) (polygon_edges (polygon_times k g))
  polygon-same g b is f =
      let u = edges_times k (edges_in b) in let v = polygon_edges (polygon_times k g) in
      let a = rings-sum f (rings_in b) in let c = rings-sum f (rings_in g) in
      let d = turned-sum f g.outer b.outer is.outer.turned in let e = begun-sum f g.inners b.inners is.inners in
      let h = ap (total f) (whole-edges (rings_in g)) in
      let m : total f u ≡ total f v = omega arith in
      sym (total-is f u) ∙ m ∙ total-is f v

-- ---- the polygon that was begun elsewhere
was-by : (p : Polygon) (ps : List Polygon) (f : Polygon) (others : List Polygon) → IsPolygonFromLeast p f → (b : Polygon) → (b ≡ f) ⊎ In b others → (In b others → (g : Polygon) × In g ps × IsPolygonFromLeast g b) → (g : Polygon) × In g (p ∷ ps) × IsPolygonFromLeast g b
was-by p ps f others t b (inl e) h = (p, inl refl, subst (IsPolygonFromLeast p) (sym e) t)
was-by p ps f others t b (inr i) h = let a = h i in (a.0, inr a.1, a.2)

pub was : (ps bs : List Polygon) → ArePolygonsFromLeast ps bs → (b : Polygon) → In b bs → (g : Polygon) × In g ps × IsPolygonFromLeast g b
was [] bs h b i = absurd (subst (In b) h i)
was (p ∷ ps) bs h b i = was-by p ps h.0 h.1 h.3 b (subst (In b) h.2 i) (was ps h.1 h.4 b)

pub in-rings : (gs : List Polygon) (g : Polygon) (r : List Edge) → In g gs → In r (rings_in g) → In r (rings_of gs)
in-rings [] g r i j = absurd i
in-rings (x ∷ gs) g r (inl e) j = in-left (rings_in x) (rings_of gs) r (subst (λ (y : Polygon). In r (rings_in y)) e j)
in-rings (x ∷ gs) g r (inr i) j = in-right (rings_in x) (rings_of gs) r (in-rings gs g r i j)

crossing-same : (q : ℤ) (p : Vector) (xs ys : List plane.Edge) → HasSameEdges xs ys → crossing_count east p (scaled_edges q xs) ≡ crossing_count east p (scaled_edges q ys)
crossing-same q p xs ys s =
    let f = λ (e : plane.Edge). up_crossing east (from_to p e.from) (from_to p e.to) + down_crossing east (from_to p e.from) (from_to p e.to) in
    let g = λ (e : plane.Edge). f (scaled_edge q e) in
    sym (total-is f (scaled_edges q xs)) ∙ total-map f (scaled_edge q) xs ∙ total-is g xs ∙ s g ∙ sym (total-is g ys) ∙ sym (total-map f (scaled_edge q) ys) ∙ total-is f (scaled_edges q ys)

pub rings-total : (F : List Edge → ℕ) (ps : List Polygon) → total F (rings_of ps) ≡ total (λ (g : Polygon). total F (rings_in g)) ps
rings-total F [] = refl
rings-total F (p ∷ ps) = let a = total-++ F (rings_in p) (rings_of ps) in let b = rings-total F ps in omega arith

module _ (rs : List (List Edge)) (are : AreRings rs) (ps bs : List Polygon) (of : ArePolygonsOf rs ps) (begun : ArePolygonsFromLeast ps bs) (whole : All (All (IsWholeAt (product_of_denominators (all_edges rs)))) (rings_of bs)) where
  abbrev k : ℕ
  k = product_of_denominators (all_edges rs)

  some : 1 ≤ k
  some = (common_is_common (all_edges rs)).some

  edge-whole : (xs : List (List Edge)) → ((r : List Edge) → In r xs → All (IsWholeAt k) r) → (e : Edge) → In e (all_edges xs) → IsWholeAt k e
  edge-whole [] h e i = absurd i
  edge-whole (x ∷ xs) h e i =
      all-either (IsWholeAt k) x (all_edges xs) e (λ y j. in-all (IsWholeAt k) x y (h x (inl refl)) j) (λ y j. edge-whole xs (λ r l. h r (inr l)) y j) (in-either x (all_edges xs) e i)

  -- the common denominator is a common multiple of each polygon's edges
  pub common-in : (b : Polygon) → In b bs → IsCommon k (edges_in b)
  common-in b i =
      let w = edge-whole (rings_in b) (λ r j. in-all (All (IsWholeAt k)) (rings_of bs) r whole (in-rings bs b r i j)) in
      record {
        some = some;
        froms = all-in (λ (e : Edge). den_of e.from ∣ k) (edges_in b) (λ e j. (w e j).first);
        tos = all-in (λ (e : Edge). den_of e.to ∣ k) (edges_in b) (λ e j. (w e j).second);
      }

  pub each : (g : Polygon) → In g ps → IsPolygon (whole_rings rs) (polygon_times k g)
  each g i = in-all (λ (g : Polygon). IsPolygon (whole_rings rs) (polygon_times k g)) ps g of.each i

  pub sided_begun : AreSided bs
  sided_begun = all-in (λ (b : Polygon). IsSided (edges_in b)) bs (λ b i.
      let w = was ps bs begun b i in
      let s = polygon_sided (whole_rings rs) are.ring_list (polygon_times k w.0) (each w.0 w.1) in
      (sided_at_each k (edges_in b) (common-in b i)).1
      (sided_same (polygon_edges (polygon_times k w.0)) s (edges_times k (edges_in b)) (polygon-same k w.0 b w.2)))

  abbrev planes : List nesting.Polygon
  planes = map (polygon_times k) ps

  pub polygons : ArePolygonsOfRings (whole_rings rs) planes
  polygons = record {
    each = λ g i. let m = in-map-out (polygon_times k) ps g i in subst (IsPolygon (whole_rings rs)) (sym m.2) (each m.0 m.1);
    whole = λ f.
        let F = ring-sum k f in
        let u = edges_of (map polygon_edges planes) in
        let a : total f u ≡ total (λ (g : Polygon). total f (polygon_edges (polygon_times k g))) ps =
        total-edges f (map polygon_edges planes) ∙ (total-map (total f) polygon_edges planes ∙ total-map (λ (g : nesting.Polygon). total f (polygon_edges g)) (polygon_times k) ps) in
        let b : total (λ (g : Polygon). total f (polygon_edges (polygon_times k g))) ps ≡ total (λ (g : Polygon). total F (rings_in g)) ps = by-polygon f ps in
        let c : total F (rings_of ps) ≡ total F rs = total-is F (rings_of ps) ∙ (of.once F ∙ sym (total-is F rs)) in
        let d : total f (edges_of (whole_rings rs)) ≡ total F rs = total-edges f (whole_rings rs) ∙ total-map (total f) (edges_times k) rs in
        sym (total-is f u) ∙ (a ∙ (b ∙ (sym (rings-total F ps) ∙ (c ∙ (sym d ∙ total-is f (edges_of (whole_rings rs)))))));
  }
    where
      by-polygon : (f : plane.Edge → ℕ) (ps : List Polygon) → total (λ (g : Polygon). total f (polygon_edges (polygon_times k g))) ps ≡ total (λ (g : Polygon). total (ring-sum k f) (rings_in g)) ps
      by-polygon f [] = refl
      by-polygon f (g ∷ gs) =
          let a = total-edges f (map (edges_times k) (rings_in g)) in let b = total-map (total f) (edges_times k) (rings_in g) in let c = by-polygon f gs in omega arith

  module _ (q : ℤ) (plus : sign q ≡ Plus) (p : Vector) where
    abbrev at_k : Vector
    at_k = scaled_point (pos k) p

    count-begun : (g b : Polygon) → In b bs → IsPolygonFromLeast g b → count_at q p (edges_in b) ≡ crossing_count east at_k (scaled_edges q (polygon_edges (polygon_times k g)))
    count-begun g b i is =
        count_at_each k (edges_in b) (common-in b i) q p
        ∙ crossing-same q at_k (edges_times k (edges_in b)) (polygon_edges (polygon_times k g)) (polygon-same k g b is)

    abbrev covered : nesting.Polygon → ℕ
    covered g = bit (covers (scaled_edges q (polygon_edges g)) at_k)

    counts : (gs cs : List Polygon) → ((b : Polygon) → In b cs → In b bs) → ArePolygonsFromLeast gs cs → total (λ (b : Polygon). bit (covers_at q p b)) cs ≡ total (λ (g : Polygon). covered (polygon_times k g)) gs
    counts [] cs sub h = ap (total (λ (b : Polygon). bit (covers_at q p b))) h
    counts (g ∷ gs) cs sub h =
        let a = ap (total (λ (b : Polygon). bit (covers_at q p b))) h.2 in
        let b = ap (λ n. bit (not (is_even n))) (count-begun g h.0 (sub h.0 (subst (In h.0) (sym h.2) (inl refl))) h.3) in
        let c = counts gs h.1 (λ x i. sub x (subst (In x) (sym h.2) (inr i))) h.4 in omega arith

    pub cover_begun : count_by (covers_at q p) bs ≡ count_at q p (all_edges rs) % 2
    cover_begun =
        let n = crossing_count east at_k (scaled_edges q (edges_of (whole_rings rs))) in
        let a : count_by (covers_at q p) bs ≡ total (λ (b : Polygon). bit (covers_at q p b)) bs = sym (total-is (λ (b : Polygon). bit (covers_at q p b)) bs) in
        let b = counts ps bs (λ x i. i) begun in
        let c : total (λ (g : Polygon). covered (polygon_times k g)) ps ≡ count_by (λ (g : nesting.Polygon). covers (scaled_edges q (polygon_edges g)) at_k) planes = sym (total-map covered (polygon_times k) ps) ∙ total-is covered planes in
        let d = polygons_cover_at_fractions q plus (whole_rings rs) are.ring_list at_k planes polygons in
        let e : bit (covers (scaled_edges q (edges_of (whole_rings rs))) at_k) ≡ n % 2 = sym (odd-bit n) in
        let f = ap (λ xs. crossing_count east at_k (scaled_edges q xs) % 2) (whole-edges k rs) in
        a ∙ (b ∙ (c ∙ (d ∙ (e ∙ f))))
