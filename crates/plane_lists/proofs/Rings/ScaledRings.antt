-- A ring list multiplied by a positive number is a ring list, and what its polygons cover at points with fractions.
use Rattle.std.proofs.Common.{Bool, List, [], ap, arith, cond, false, length, map, not, refl, subst, sym, true, ℕ, ◌%◌, ◌++◌, ◌+◌, ◌||◌, ◌∙◌, ◌∷◌, ◌≡◌, ◌≤◌}
use Rattle.std.specs.List.{count_by}
use borrow.Author.Differences.{ints}
use lib.IntN.{pos, ℤ, ◌-ℤ◌}
use Rattle.plane_lists.specs.Rings.Cover.{DoNotCross, covers}
use Rattle.plane_lists.specs.Rings.Nesting.{TellsOuterRings, edges_of}
use Rattle.plane_lists.specs.Rings.Polygon.{ArePolygonsOfRings, IsPolygon, Polygon, polygon_edges}
use Rattle.plane_lists.specs.Rings.RingList.{IsRingList, scaled_rings}
use Rattle.plane.specs.Bit.{bit}
use Rattle.plane.specs.Edge.{Edge, ends_at, other_end, segment_of}
use Rattle.plane.specs.Order.{order}
use Rattle.plane.specs.Scale.{scaled_edge, scaled_point}
use Rattle.plane.specs.Sector.{in_sector}
use Rattle.plane.specs.Sign.{Minus, Plus, is_plus, sign}
use Rattle.plane.specs.Vector.{Vector, east, from_to, orient, same_point}
use Rattle.plane_lists.specs.Lists.ConflictFree.{IsConflictFree, others}
use Rattle.plane_lists.specs.Lists.EdgeList.{crossing_count, down_count, up_count, winding_number}
use Rattle.lists.specs.Member.{In}
use Rattle.plane_lists.specs.Lists.Node.{spokes_in}
use Rattle.plane_lists.specs.Lists.Parity.{is_even}
use Rattle.plane_lists.specs.Lists.Ring.{IsAnchor, IsPath, IsRing, segments_of}
use Rattle.plane_lists.specs.Lists.ScaledEdges.{scaled_edges}
use Rattle.plane_lists.specs.Lists.Sided.{IsSided}
use Rattle.plane_lists.proofs.Rings.DirectRings.{is_outer_by, polygon_sum, polygons_count, rings, rings-anchors, rings-nest, rings-tell, winds_by}
use Rattle.plane_lists.proofs.Rings.Nests.{odd-bit, plain-part}
use Rattle.plane_lists.proofs.Rings.OuterTests.{HasAnchors}
use Rattle.plane_lists.proofs.Rings.RationalPoints.{apart-at, ends-scaled, inside-at}
use Rattle.std.proofs.lemmas.List.{map-append, length-map}
use Rattle.plane_lists.proofs.Rings.RingLists.{nest-plain}
use Rattle.plane_lists.proofs.Rings.WoundRings.{down-is, fold-direct, not-back, own-anchor}
use Rattle.plane.proofs.PlaneKit.{same_point-true, down_seen, up_seen, order-scaled, orient-scaled, point-scaled, sector-seen-scaled, point-back}
use Rattle.plane_lists.proofs.WindingKit.{ring_by_anchor, spokes-is, segments-crossings, others-scaled, plain_scaled, rational_count, sided-even, sided_direct, segment-scaled, segments-scaled, sided-scaled}
use Rattle.lists.proofs.ListsKit.{in-map, in-map-out, pairs-map, total, total-is, total-map, total-same}

module _ (k : ℤ) (hk : sign k ≡ Plus) where
  path-scaled : (a : Vector) (es : List Edge) (b : Vector) → IsPath a es b → IsPath (scaled_point k a) (scaled_edges k es) (scaled_point k b)
  path-scaled a [] b h = ap (scaled_point k) h
  path-scaled a (e ∷ es) b h = (ap (scaled_point k) h.0, path-scaled e.to es b h.1)

  pub ring-scaled : (r : List Edge) → IsRing r → IsRing (scaled_edges k r)
  ring-scaled r g = record {
    start = scaled_point k g.start;
    path = path-scaled g.start r g.start g.path;
    once = pairs-map (scaled_edge k) (λ (e f : Edge). same_point e.from f.from ≡ false) (λ (e f : Edge). same_point e.from f.from ≡ false) r (λ e f h. point-scaled k hk e.from f.from ∙ h) g.once;
  }

  -- ---- round a point
  other-by : (b c : Bool) (t : Edge) → b ≡ c → cond b (scaled_point k t.to) (scaled_point k t.from) ≡ scaled_point k (cond c t.to t.from)
  other-by true true t h = refl
  other-by false false t h = refl
  other-by true false t h = absurd (cc h)
  other-by false true t h = absurd (cc h)

  other-scaled : (v : Vector) (t : Edge) → other_end (scaled_point k v) (scaled_edge k t) ≡ scaled_point k (other_end v t)
  other-scaled v t = other-by (same_point (scaled_point k v) (scaled_point k t.from)) (same_point v t.from) t (point-scaled k hk v t.from)

  spokes-scaled : (v a b : Vector) (es : List Edge) →
      spokes_in (from_to (scaled_point k v) (scaled_point k a)) (from_to (scaled_point k v) (scaled_point k b)) (scaled_point k v) (scaled_edges k es) ≡ spokes_in (from_to v a) (from_to v b) v es
  spokes-scaled v a b es =
      let w = scaled_point k v in let d = from_to w (scaled_point k a) in let c = from_to w (scaled_point k b) in
      let f = λ (t : Edge). cond (ends_at w t) (in_sector d c (from_to w (other_end w t))) 0 in
      let g = λ (t : Edge). cond (ends_at v t) (in_sector (from_to v a) (from_to v b) (from_to v (other_end v t))) 0 in
      spokes-is d c w (scaled_edges k es) ∙ total-map f (scaled_edge k) es
      ∙ total-same (λ t. f (scaled_edge k t)) g es (λ t i.
      ap (λ x. cond x (in_sector d c (from_to w (other_end w (scaled_edge k t)))) 0) (ends-scaled k hk v t)
      ∙ ap (λ n. cond (ends_at v t) n 0) (ap (λ u. in_sector d c (from_to w u)) (other-scaled v t) ∙ sector-seen-scaled k hk v a b (other_end v t)))
      ∙ sym (spokes-is (from_to v a) (from_to v b) v es)

  end-by : (v : Vector) (s : Edge) (b c : Bool) → same_point v (scaled_point k s.from) ≡ b → same_point v (scaled_point k s.to) ≡ c → (b || c) ≡ true → (u : Vector) × (v ≡ scaled_point k u)
  end-by v s true c h j o = (s.from, same_point-true v (scaled_point k s.from) h)
  end-by v s false true h j o = (s.to, same_point-true v (scaled_point k s.to) j)
  end-by v s false false h j o = absurd (cc o)

  abbrev Uncrossed : List Edge → Vector → Edge → Edge → Type 0
  Uncrossed es v s t = spokes_in (from_to v (other_end v s)) (from_to v (other_end v t)) v es % 2 ≡ 0

  uncrossed-at : (ss es : List Edge) → DoNotCross ss es → (u : Vector) (s t : Edge) → In s ss → In t ss → ends_at (scaled_point k u) (scaled_edge k s) ≡ true → ends_at (scaled_point k u) (scaled_edge k t) ≡ true →
      Uncrossed (scaled_edges k es) (scaled_point k u) (scaled_edge k s) (scaled_edge k t)
  uncrossed-at ss es n u s t i j hs ht =
      let w = scaled_point k u in
      ap (λ x. spokes_in (from_to w x) (from_to w (other_end w (scaled_edge k t))) w (scaled_edges k es) % 2) (other-scaled u s)
      ∙ ap (λ x. spokes_in (from_to w (scaled_point k (other_end u s))) (from_to w x) w (scaled_edges k es) % 2) (other-scaled u t)
      ∙ ap (λ m. m % 2) (spokes-scaled u (other_end u s) (other_end u t) es)
      ∙ n u s t i j (sym (ends-scaled k hk u s) ∙ hs) (sym (ends-scaled k hk u t) ∙ ht)

  uncrossed-scaled : (ss es : List Edge) → DoNotCross ss es → DoNotCross (scaled_edges k ss) (scaled_edges k es)
  uncrossed-scaled ss es n v s t i j hs ht =
      let r = in-map-out (scaled_edge k) ss s i in let q = in-map-out (scaled_edge k) ss t j in
      let hr = subst (λ w. ends_at v w ≡ true) r.2 hs in let hq = subst (λ w. ends_at v w ≡ true) q.2 ht in
      let e = end-by v r.0 (same_point v (scaled_point k r.0.from)) (same_point v (scaled_point k r.0.to)) refl refl hr in
      let at_r = subst (λ w. ends_at w (scaled_edge k r.0) ≡ true) e.1 hr in let at_q = subst (λ w. ends_at w (scaled_edge k q.0) ≡ true) e.1 hq in
      subst (λ w. Uncrossed (scaled_edges k es) w s t) (sym e.1)
      (subst (λ w. Uncrossed (scaled_edges k es) (scaled_point k e.0) w t) (sym r.2)
      (subst (λ w. Uncrossed (scaled_edges k es) (scaled_point k e.0) (scaled_edge k r.0) w) (sym q.2)
      (uncrossed-at ss es n e.0 r.0 q.0 r.1 q.1 at_r at_q)))

  -- ---- a ring list
  edges-scaled : (rs : List (List Edge)) → edges_of (scaled_rings k rs) ≡ scaled_edges k (edges_of rs)
  edges-scaled [] = refl
  edges-scaled (r ∷ rs) = ap (λ l. scaled_edges k r ++ l) (edges-scaled rs) ∙ sym (map-append (scaled_edge k) r (edges_of rs))

  free-scaled : (r s : List Edge) → DoNotCross (segments_of r) (segments_of s) → DoNotCross (segments_of (scaled_edges k r)) (segments_of (scaled_edges k s))
  free-scaled r s n =
      subst (λ w. DoNotCross w (segments_of (scaled_edges k s))) (sym (segments-scaled k hk r))
      (subst (λ w. DoNotCross (scaled_edges k (segments_of r)) w) (sym (segments-scaled k hk s)) (uncrossed-scaled (segments_of r) (segments_of s) n))

  pub scaled_ring_list : (rs : List (List Edge)) → IsRingList rs → IsRingList (scaled_rings k rs)
  scaled_ring_list rs l = record {
    ring = λ r i. let q = in-map-out (scaled_edges k) rs r i in subst IsRing (sym q.2) (ring-scaled q.0 (l.ring q.0 q.1));
    long = λ r i. let q = in-map-out (scaled_edges k) rs r i in subst (λ w. 3 ≤ length w) (sym q.2) (subst (λ n. 3 ≤ n) (sym (length-map q.0 (scaled_edge k))) (l.long q.0 q.1));
    sided = subst IsSided (sym (edges-scaled rs)) (sided-scaled k hk (edges_of rs) l.sided);
    free = pairs-map (scaled_edges k) (λ (r s : List Edge). DoNotCross (segments_of r) (segments_of s) × DoNotCross (segments_of s) (segments_of r))
        (λ (r s : List Edge). DoNotCross (segments_of r) (segments_of s) × DoNotCross (segments_of s) (segments_of r)) rs (λ r s f. (free-scaled r s f.0, free-scaled s r f.1)) l.free;
  }

  -- ---- the anchor of a ring
  pub anchor-scaled : (s : Edge) (es : List Edge) → IsAnchor s es → IsAnchor (scaled_edge k s) (scaled_edges k es)
  anchor-scaled s es a = record {
    member = in-map (scaled_edge k) es s a.member;
    least = λ t i o. let r = in-map-out (scaled_edge k) es t i in a.least r.0 r.1 (sym (order-scaled k hk s.from r.0.from) ∙ subst (λ (w : Edge). order (scaled_point k s.from) w.from ≡ Minus) r.2 o);
    leftmost = λ t i q.
        let r = in-map-out (scaled_edge k) (others s es) t (subst (λ l. In t l) (others-scaled k hk s es) i) in
        subst (λ (w : Edge). orient (scaled_point k s.from) (scaled_point k s.to) w.to ≡ Minus) (sym r.2)
        (orient-scaled k hk s.from s.to r.0.to ∙ a.leftmost r.0 r.1 (point-back k hk s.from r.0.from (q ∙ ap (λ (w : Edge). w.from) r.2)));
  }

  -- ---- what the rings and polygons count at p.x / k, p.y / k
  module _ (rs : List (List Edge)) (l : IsRingList rs) (outer : List Edge → Bool) (tells : TellsOuterRings (map segments_of rs) outer) (anchors : HasAnchors (map segments_of rs)) (p : Vector) where
    abbrev up_at : Edge → ℕ
    up_at e = up_seen east (from_to p) (scaled_edge k e)

    abbrev down_at : Edge → ℕ
    down_at e = down_seen east (from_to p) (scaled_edge k e)

    abbrev covers_at : List Edge → Bool
    covers_at g = covers (scaled_edges k g) p

    covered-is : (r : List Edge) → crossing_count east p (scaled_edges k r) % 2 ≡ bit (covers_at (segments_of r))
    covered-is r =
        odd-bit (crossing_count east p (scaled_edges k r))
        ∙ ap (λ n. bit (not (is_even n))) (sym (segments-crossings east p (scaled_edges k r)) ∙ ap (λ (g : List Edge). crossing_count east p g) (segments-scaled k hk r))

    wound-scaled : (r : List Edge) → (i : In r rs) →
        winding_number east p (scaled_edges k r) ≡ cond (not (outer (segments_of r))) (pos 0 -ℤ pos (crossing_count east p (scaled_edges k r) % 2)) (pos (crossing_count east p (scaled_edges k r) % 2))
    wound-scaled r i =
        let a = own-anchor rs l outer tells anchors p r i in
        ring_by_anchor (scaled_edge k a.0) (scaled_edges k r) (ring-scaled r (l.ring r i))
        (subst IsConflictFree (sym (segments-scaled k hk r)) (plain_scaled k hk (segments_of r) (plain-part (map segments_of rs) (segments_of r) (nest-plain rs l) (in-map segments_of rs r i))))
        (in-map (scaled_edge k) r a.0 a.1)
        (subst (λ g. IsAnchor (segment_of (scaled_edge k a.0)) g) (sym (segments-scaled k hk r)) (subst (λ s. IsAnchor s (scaled_edges k (segments_of r))) (sym (segment-scaled k hk a.0)) (anchor-scaled (segment_of a.0) (segments_of r) a.2))) p
        ∙ ap (λ b. cond b (pos 0 -ℤ pos (crossing_count east p (scaled_edges k r) % 2)) (pos (crossing_count east p (scaled_edges k r) % 2)))
        (ap is_plus (order-scaled k hk a.0.from a.0.to) ∙ not-back rs l outer tells anchors p (outer (segments_of r)) (is_plus (order a.0.from a.0.to)) (down-is rs l outer tells anchors p r i))

    out-count-scaled : (r : List Edge) → In r rs → outer (segments_of r) ≡ true → total up_at r ≡ total down_at r + bit (covers_at (segments_of r))
    out-count-scaled r i o =
        let n = crossing_count east p (scaled_edges k r) % 2 in
        let w = wound-scaled r i ∙ ap (λ b. cond (not b) (pos 0 -ℤ pos n) (pos n)) o in
        let a = total-is (up_seen east (from_to p)) (scaled_edges k r) in let b = total-is (down_seen east (from_to p)) (scaled_edges k r) in
        let e = total-map (up_seen east (from_to p)) (scaled_edge k) r in let f = total-map (down_seen east (from_to p)) (scaled_edge k) r in
        let c = covered-is r in
        let m : up_count east p (scaled_edges k r) ≡ down_count east p (scaled_edges k r) + n = omega (arith, ints) in omega arith

    in-count-scaled : (r : List Edge) → In r rs → outer (segments_of r) ≡ false → total up_at r + bit (covers_at (segments_of r)) ≡ total down_at r
    in-count-scaled r i o =
        let n = crossing_count east p (scaled_edges k r) % 2 in
        let w = wound-scaled r i ∙ ap (λ b. cond (not b) (pos 0 -ℤ pos n) (pos n)) o in
        let a = total-is (up_seen east (from_to p)) (scaled_edges k r) in let b = total-is (down_seen east (from_to p)) (scaled_edges k r) in
        let e = total-map (up_seen east (from_to p)) (scaled_edge k) r in let f = total-map (down_seen east (from_to p)) (scaled_edge k) r in
        let c = covered-is r in
        let m : up_count east p (scaled_edges k r) + n ≡ down_count east p (scaled_edges k r) = omega (arith, ints) in omega arith

  module _ (rs : List (List Edge)) (l : IsRingList rs) (p : Vector) where
    abbrev up_here : Edge → ℕ
    up_here e = up_seen east (from_to p) (scaled_edge k e)

    abbrev down_here : Edge → ℕ
    down_here e = down_seen east (from_to p) (scaled_edge k e)

    polygon-sum-here : (g : Polygon) → IsPolygon rs g →
        (w : ℕ) × (w ≤ 1) × (total (up_seen east (from_to p)) (scaled_edges k (polygon_edges g)) ≡ total (down_seen east (from_to p)) (scaled_edges k (polygon_edges g)) + w)
    polygon-sum-here g m =
        let n = rings-nest rs l in let o = is_outer_by rs l in let t = rings-tell rs l in let a = rings-anchors rs l in
        let s = polygon_sum rs l (λ h. covers (scaled_edges k h) p) (λ g h i j e x c y. inside-at k hk (rings rs l) n o t a p g h i j e x c y)
        (λ h j ih ij c e f ie if' x y u v. apart-at k hk (rings rs l) n o t a p h j ih ij c e f ie if' x y u v) g m
        up_here down_here (λ r i h. out-count-scaled rs l o t a p r i h) (λ r i h. in-count-scaled rs l o t a p r i h) in
        let e = total-map (up_seen east (from_to p)) (scaled_edge k) (polygon_edges g) in let d = total-map (down_seen east (from_to p)) (scaled_edge k) (polygon_edges g) in
        let f = s.2 in (s.0, s.1, omega arith)

    pub polygon_winds_at_fractions : (g : Polygon) → IsPolygon rs g → winding_number east p (scaled_edges k (polygon_edges g)) ≡ pos (bit (covers (scaled_edges k (polygon_edges g)) p))
    polygon_winds_at_fractions g m = let s = polygon-sum-here g m in (winds_by p (scaled_edges k (polygon_edges g)) s.0 s.1 s.2).0

    polygon-counts-here : (g : Polygon) → IsPolygon rs g → total up_here (polygon_edges g) ≡ total down_here (polygon_edges g) + bit (covers (scaled_edges k (polygon_edges g)) p)
    polygon-counts-here g m =
        let s = polygon-sum-here g m in let w = (winds_by p (scaled_edges k (polygon_edges g)) s.0 s.1 s.2).1 in
        let e = total-map (up_seen east (from_to p)) (scaled_edge k) (polygon_edges g) in let d = total-map (down_seen east (from_to p)) (scaled_edge k) (polygon_edges g) in
        let f = s.2 in omega arith

    rings-count-here : total up_here (edges_of rs) ≡ total down_here (edges_of rs) + bit (covers (scaled_edges k (edges_of rs)) p)
    rings-count-here =
        let es = edges_of rs in let n = crossing_count east p (scaled_edges k (segments_of es)) % 2 in
        let s = rational_count k hk p (segments_of es) l.sided.plain (sided-even es l.sided.balanced) in
        let q = fold-direct (segments_of es) es (λ e i. sided_direct es l.sided e i) in
        let w : winding_number east p (scaled_edges k es) ≡ pos n = subst (λ (u : List Edge). winding_number east p (scaled_edges k u) ≡ pos n) q s in
        let a = total-is (up_seen east (from_to p)) (scaled_edges k es) in let b = total-is (down_seen east (from_to p)) (scaled_edges k es) in
        let e = total-map (up_seen east (from_to p)) (scaled_edge k) es in let f = total-map (down_seen east (from_to p)) (scaled_edge k) es in
        let c = ap (λ (g : List Edge). crossing_count east p g) (sym (segments-scaled k hk es)) ∙ segments-crossings east p (scaled_edges k es) in let o = odd-bit (crossing_count east p (scaled_edges k es)) in
        let m : up_count east p (scaled_edges k es) ≡ down_count east p (scaled_edges k es) + n = omega (arith, ints) in
        omega arith

    pub polygons_cover_at_fractions : (gs : List Polygon) → ArePolygonsOfRings rs gs → count_by (λ (g : Polygon). covers (scaled_edges k (polygon_edges g)) p) gs ≡ bit (covers (scaled_edges k (edges_of rs)) p)
    polygons_cover_at_fractions gs a =
        polygons_count rs up_here down_here (λ (g : Polygon). covers (scaled_edges k (polygon_edges g)) p) gs (bit (covers (scaled_edges k (edges_of rs)) p)) a.whole (λ g i. polygon-counts-here g (a.each g i)) rings-count-here
