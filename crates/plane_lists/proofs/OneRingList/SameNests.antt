-- Rings begun elsewhere and in another order nest alike.
use Rattle.std.proofs.Common.{Bool, List, ap, cond, false, map, not, refl, subst, sym, true, ℕ, ◌&&◌, ◌+◌, ◌∙◌, ◌≡◌}
use Rattle.plane_lists.specs.Rings.Cover.{covers_edge}
use Rattle.plane_lists.specs.Rings.Nesting.{EnclosesDirectly, IsInnerRing, IsOuterRing, encloses, has_edge, is_outer}
use Rattle.plane_lists.specs.Rings.RingList.{IsRingList}
use Rattle.lists.specs.Rotated.{IsRotated}
use Rattle.plane.specs.Edge.{Edge, ends_at, same_edge, segment_of}
use Rattle.plane.specs.RayCrossing.{down_crossing, up_crossing}
use Rattle.plane.specs.Vector.{Vector, from_to}
use Rattle.plane_lists.specs.Lists.EdgeList.{crossing_count}
use Rattle.lists.specs.Member.{In}
use Rattle.plane_lists.specs.Lists.Node.{away}
use Rattle.plane_lists.specs.Lists.Parity.{is_even}
use Rattle.plane_lists.specs.Lists.Ring.{IsAnchor, segments_of}
use Rattle.plane_lists.proofs.NestingKit.{has-in, in-edges, in-has, rotated-total, outer_down}
use Rattle.lists.proofs.ListsKit.{in-filter, in-map, in-map-out, in-passes, in-rotated, into-filter, rotated-in, total, total-filter, total-is, total-map}
use Rattle.plane_lists.proofs.OneRingList.OneRingList.{Found}

module _ (r q : List Edge) (t : IsRotated r q) where
  pub segment-in : (s : Edge) → In s (segments_of r) → In s (segments_of q)
  segment-in s i = let e = in-map-out segment_of r s i in subst (λ w. In w (segments_of q)) (sym e.2) (in-map segment_of q e.0 (in-rotated r q t e.0 e.1))

  segment-out : (s : Edge) → In s (segments_of q) → In s (segments_of r)
  segment-out s i = let e = in-map-out segment_of q s i in subst (λ w. In w (segments_of r)) (sym e.2) (in-map segment_of r e.0 (rotated-in r q t e.0 e.1))

  anchor-rotated : (s : Edge) → IsAnchor s (segments_of r) → IsAnchor s (segments_of q)
  anchor-rotated s a =
      let other = λ (t : Edge). not (same_edge s t) in
      record {
        member = segment-in s a.member;
        least = λ t i. a.least t (segment-out t i);
        leftmost = λ t i. a.leftmost t (into-filter other (segments_of r) t (segment-out t (in-filter other (segments_of q) t i)) (in-passes other (segments_of q) t i));
      }

  has-by : (s : Edge) → (b c : Bool) → has_edge (segments_of r) s ≡ b → has_edge (segments_of q) s ≡ c → b ≡ c
  has-by s true true h k = refl
  has-by s false false h k = refl
  has-by s true false h k = cc (sym (has-in (segments_of q) s (segment-in s (in-has (segments_of r) s h))) ∙ k)
  has-by s false true h k = cc (sym h ∙ has-in (segments_of r) s (segment-out s (in-has (segments_of q) s k)))

  has-rotated : (s : Edge) → has_edge (segments_of r) s ≡ has_edge (segments_of q) s
  has-rotated s = has-by s (has_edge (segments_of r) s) (has_edge (segments_of q) s) refl refl

  pub segments-total : (f : Edge → ℕ) → total f (segments_of r) ≡ total f (segments_of q)
  segments-total f = total-map f segment_of r ∙ sym (rotated-total (λ e. f (segment_of e)) r q t) ∙ sym (total-map f segment_of q)

  count-rotated : (d p : Vector) → crossing_count d p (away p (segments_of r)) ≡ crossing_count d p (away p (segments_of q))
  count-rotated d p =
      let f = λ (e : Edge). up_crossing d (from_to p e.from) (from_to p e.to) + down_crossing d (from_to p e.from) (from_to p e.to) in
      let k = λ (e : Edge). not (ends_at p e) in
      sym (total-is f (away p (segments_of r))) ∙ total-filter k f (segments_of r) ∙ segments-total (λ e. cond (k e) (f e) 0) ∙ sym (total-filter k f (segments_of q)) ∙ total-is f (away p (segments_of q))

  covers-rotated : (s : Edge) → covers_edge (segments_of r) s ≡ covers_edge (segments_of q) s
  covers-rotated s = ap (λ n. not (is_even n)) (count-rotated (from_to s.from s.to) s.from)

  encloses-rotated : (s : Edge) → encloses (segments_of r) s ≡ encloses (segments_of q) s
  encloses-rotated s = ap (λ b. not b && covers_edge (segments_of r) s) (has-rotated s) ∙ ap (λ b. not (has_edge (segments_of q) s) && b) (covers-rotated s)

module _ (rs qs : List (List Edge)) (l : IsRingList rs) (m : IsRingList qs) where
  abbrev gs : List (List Edge)
  gs = map segments_of rs

  abbrev hs : List (List Edge)
  hs = map segments_of qs

  module _ (r q : List Edge) (i : In r rs) (j : In q qs) (t : IsRotated r q) where
    is-outer-same : (s : Edge) → In s (segments_of r) → is_outer gs s ≡ is_outer hs s
    is-outer-same s k =
        let e = in-map-out segment_of r s k in
        ap (is_outer gs) e.2 ∙ outer_down rs l e.0 (in-edges rs r e.0 i e.1) ∙ sym (outer_down qs m e.0 (in-edges qs q e.0 j (in-rotated r q t e.0 e.1))) ∙ ap (is_outer hs) (sym e.2)

    -- a ring begun elsewhere is outer or inner as it was
    pub outer-same : IsOuterRing gs (segments_of r) → IsOuterRing hs (segments_of q)
    outer-same o = record { anchor = o.anchor; anchors = anchor-rotated r q t o.anchor o.anchors; down = sym (is-outer-same o.anchor o.anchors.member) ∙ o.down }

    pub inner-same : IsInnerRing gs (segments_of r) → IsInnerRing hs (segments_of q)
    inner-same o = record { anchor = o.anchor; anchors = anchor-rotated r q t o.anchor o.anchors; up = sym (is-outer-same o.anchor o.anchors.member) ∙ o.up }

module _ (rs qs : List (List Edge)) (l : IsRingList rs) (m : IsRingList qs) (back : Found qs rs) where
  module _ (r q h j : List Edge) (ir : In r rs) (iq : In q qs) (t : IsRotated r q) (u : IsRotated h j) where
    -- and directly encloses what it did
    pub encloses-same : EnclosesDirectly (map segments_of rs) (segments_of r) (segments_of h) → EnclosesDirectly (map segments_of qs) (segments_of q) (segments_of j)
    encloses-same d = record {
      outer = outer-same rs qs l m r q ir iq t d.outer;
      anchor = d.anchor;
      anchors = anchor-rotated h j u d.anchor d.anchors;
      around = sym (encloses-rotated r q t d.anchor) ∙ d.around;
      edge = d.edge;
      belongs = segment-in r q t d.edge d.belongs;
      right = d.right;
      nearest = λ k ik o e f i b.
          let c = in-map-out segments_of qs k ik in
          let a = back c.0 c.1 in
          d.nearest (segments_of a.0) (in-map segments_of rs a.0 a.1) (outer-same qs rs m l c.0 a.0 c.1 a.1 a.2 (subst (IsOuterRing (map segments_of qs)) c.2 o))
          (sym (encloses-rotated c.0 a.0 a.2 d.anchor) ∙ ap (λ g. encloses g d.anchor) (sym c.2) ∙ e) f (segment-in c.0 a.0 a.2 f (subst (λ g. In f g) c.2 i)) b;
    }
