-- All edges of a polygon are linked.
use Rattle.std.proofs.Common.{List, ap, false, inl, inr, map, not, refl, subst, sym, true, ◌∙◌, ◌≡◌}
use Rattle.plane_lists.specs.Rings.Nesting.{is_outer}
use Rattle.plane_lists.specs.Rings.Polygon.{ArePolygonsOfRings, IsPolygon, Polygon, polygon_edges}
use Rattle.plane_lists.specs.Rings.RingList.{IsRingList}
use Rattle.plane_lists.specs.Rings.Walk.{IsWalk}
use Rattle.plane.specs.Edge.{Edge, is_rising, same_edge, segment_of}
use Rattle.lists.specs.Member.{In}
use Rattle.plane_lists.specs.Lists.Ring.{IsAnchor, segments_of}
use Rattle.plane_lists.specs.Lists.Sided.{IsSided}
use Rattle.plane_lists.specs.Connected.Linked.{Linked}
use Rattle.plane_lists.specs.OneRingList.RingListOf.{IsRingListOf}
use Rattle.lists.proofs.ListsKit.{clash, in-filter, in-map, in-map-out, in-passes, into-filter}
use Rattle.plane_lists.proofs.NestingKit.{Once, in-edges, in-edges-out, outer_down, ring-plain, segment-one}
use Rattle.plane_lists.proofs.OneRingListKit.{walk-within}
use Rattle.plane_lists.proofs.WindingKit.{anchor_one}
use Rattle.plane_lists.proofs.Connected.LinkedEdges.{all_linked}
use Rattle.plane_lists.proofs.Connected.OneOuterRing.{ring-in, rings_of, uncrossed}
use Rattle.plane_lists.proofs.Connected.WholeWalks.{rings_are, sided}

-- the anchor of a list is that of a part that has it
part-anchor : (a : Edge) (xs ys : List Edge) → ((t : Edge) → In t xs → In t ys) → In a xs → IsAnchor a ys → IsAnchor a xs
part-anchor a xs ys sub i aa = record {
  member = i;
  least = λ t j. aa.least t (sub t j);
  leftmost = λ t j. aa.leftmost t (into-filter (λ (t : Edge). not (same_edge a t)) ys t (sub t (in-filter (λ (t : Edge). not (same_edge a t)) xs t j)) (in-passes (λ (t : Edge). not (same_edge a t)) xs t j));
}

module _ (es : List Edge) (sd : IsSided es) (rs : List (List Edge)) (l : IsRingListOf es rs) (gs : List Polygon) (k : ArePolygonsOfRings rs gs) (g : Polygon) (i : In g gs) where
  abbrev ks : List Edge
  ks = polygon_edges g

  m : IsPolygon rs g
  m = k.each g i

  u : IsRingList rs
  u = uncrossed es sd rs l

  own : IsSided ks
  own = sided es sd rs l gs k g i

  lists : IsRingListOf ks (rings_of g)
  lists = rings_are es sd rs l gs k g i

  -- the edge whose segment is the anchor of the outer ring
  base : (x : Edge) × In x g.outer × (m.is_outer_ring.anchor ≡ segment_of x)
  base = in-map-out segment_of g.outer m.is_outer_ring.anchor m.is_outer_ring.anchors.member

  segment-sub : (r w : List Edge) → ((x : Edge) → In x r → In x w) → (t : Edge) → In t (segments_of r) → In t (segments_of w)
  segment-sub r w sub t j = let x = in-map-out segment_of r t j in subst (λ z. In z (segments_of w)) (sym x.2) (in-map segment_of w x.0 (sub x.0 x.1))

  ring-anchor : (w : List Edge) → IsWalk ks w → (x : Edge) → In x w → IsAnchor (segment_of x) (segments_of w) → (r : List Edge) → In r (rings_of g) → In x r → IsAnchor (segment_of x) (segments_of r)
  ring-anchor w kw x ix a r ir j =
      let v = lists.walks r ir in
      let sub = λ (y : Edge) (iy : In y r). walk-within ks own w kw v.0 v.1 x (v.2 x j) ix y (v.2 y iy) in
      part-anchor (segment_of x) (segments_of r) (segments_of w) (segment-sub r w sub) (in-map segment_of r x j) a

  down-outer : (r : List Edge) → In r (rings_of g) → (x : Edge) → In x r → is_rising x ≡ false → is_outer (map segments_of rs) (segment_of x) ≡ true
  down-outer r ir x j h = outer_down rs u x (in-edges rs r x (ring-in rs u g m r ir) j) ∙ ap not h

  one-by : (w : List Edge) → IsWalk ks w → (x : Edge) → In x w → IsAnchor (segment_of x) (segments_of w) → is_rising x ≡ false → (r : List Edge) → In r (rings_of g) → In x r → x ≡ base.0
  one-by w kw x ix a h r (inl e) j =
      let aa = subst (λ q. IsAnchor (segment_of x) (segments_of q)) e (ring-anchor w kw x ix a r (inl e) j) in
      let q = anchor_one (segment_of x) m.is_outer_ring.anchor (segments_of g.outer) (ring-plain rs u g.outer m.member) aa m.is_outer_ring.anchors ∙ base.2 in
      segment-one ks own x base.0 (kw.here x ix) (in-edges (rings_of g) g.outer base.0 (inl refl) base.1) q
  one-by w kw x ix a h r (inr n) j =
      let aa = ring-anchor w kw x ix a r (inr n) j in let o = m.are_inner_rings r n in
      let q = anchor_one (segment_of x) o.anchor (segments_of r) (ring-plain rs u r (m.inner_members r n)) aa o.anchors in
      absurd (clash (is_outer (map segments_of rs) o.anchor) (subst (λ z. is_outer (map segments_of rs) z ≡ true) q (down-outer r (inr n) x j h)) o.up)

  -- the anchor of one walk alone runs down: that of the outer ring
  one : (w : List Edge) → IsWalk ks w → Once w → (x : Edge) → In x w → IsAnchor (segment_of x) (segments_of w) → is_rising x ≡ false → x ≡ base.0
  one w kw o x ix a h = let r = in-edges-out (rings_of g) x (kw.here x ix) in one-by w kw x ix a h r.0 r.1 r.2

  pub polygon_linked : (e f : Edge) → In e ks → In f ks → Linked ks e f
  polygon_linked = all_linked ks own base.0 one
