-- What rings and polygons wind round a point with fractions.
use Rattle.std.proofs.Common.{All, Bool, List, [], ap, arith, cond, false, inl, inr, map, not, refl, subst, sym, true, ℕ, ◌%◌, ◌+◌, ◌∙◌, ◌∷◌, ◌≡◌, ◌⊎◌}
use Rattle.std.specs.List.{count_by}
use borrow.Author.Differences.{ints}
use lib.IntN.{pos, ℤ, ◌-ℤ◌}
use Rattle.lists.specs.Member.{In}
use Rattle.plane_lists.specs.Rings.Nesting.{IsInnerRing, IsOuterRing, edges_of, is_outer}
use Rattle.plane_lists.specs.Rings.Polygon.{Polygon, polygon_edges}
use Rattle.plane_lists.specs.Rings.RingList.{IsRingList}
use Rattle.plane.specs.Bit.{bit}
use Rattle.plane.specs.Edge.{Edge, is_rising, segment_of}
use Rattle.plane.specs.RayCrossing.{IsOffEdge}
use Rattle.plane.specs.Scale.{scaled_edge}
use Rattle.plane.specs.Sign.{Plus, is_plus, sign}
use Rattle.plane.specs.Vector.{Vector, east, from_to}
use Rattle.plane_lists.specs.Lists.ConflictFree.{IsConflictFree}
use Rattle.plane_lists.specs.Lists.EdgeList.{crossing_count, down_count, up_count, winding_number}
use Rattle.plane_lists.specs.Lists.Ring.{IsAnchor, segments_of}
use Rattle.plane_lists.specs.Lists.ScaledEdges.{scaled_edges}
use Rattle.plane_lists.specs.Lists.Sided.{IsSided}
use Rattle.plane_lists.specs.Valid.Valid.{LiesByRings, has_inside, holes_round}
use Rattle.lists.proofs.ListsKit.{count_by-cons, in-map, in-map-out, total, total-++, total-is, total-map}
use Rattle.plane_lists.proofs.NestingKit.{anchor-scaled, in-edges, odd-bit, outer_down, ring-plain, ring-scaled}
use Rattle.plane.proofs.PlaneKit.{down_seen, order-scaled, up_seen}
use Rattle.plane_lists.proofs.WindingKit.{plain_scaled, ring_by_anchor, segment-scaled, segments-scaled}

module _ (k : ℤ) (hk : sign k ≡ Plus) where
  module _ (rs : List (List Edge)) (l : IsRingList rs) (r : List Edge) (i : In r rs) (p : Vector) where
    abbrev n : ℕ
    n = crossing_count east p (scaled_edges k r) % 2

    wound : (s : Edge) → IsAnchor s (segments_of r) → (b : Bool) → is_outer (map segments_of rs) s ≡ not b → winding_number east p (scaled_edges k r) ≡ cond b (pos 0 -ℤ pos n) (pos n)
    wound s a b h =
        let e = in-map-out segment_of r s a.member in
        let here : IsAnchor (segment_of e.0) (segments_of r) = subst (λ w. IsAnchor w (segments_of r)) e.2 a in
        let down : is_outer (map segments_of rs) (segment_of e.0) ≡ not (is_rising e.0) = outer_down rs l e.0 (in-edges rs r e.0 i e.1) in
        let same : is_rising e.0 ≡ b = same-not (is_rising e.0) b (sym down ∙ ap (is_outer (map segments_of rs)) (sym e.2) ∙ h) in
        ring_by_anchor (scaled_edge k e.0) (scaled_edges k r) (ring-scaled k hk r (l.ring r i))
        (subst IsConflictFree (sym (segments-scaled k hk r)) (plain_scaled k hk (segments_of r) (ring-plain rs l r i)))
        (in-map (scaled_edge k) r e.0 e.1)
        (subst (λ g. IsAnchor (segment_of (scaled_edge k e.0)) g) (sym (segments-scaled k hk r)) (subst (λ w. IsAnchor w (scaled_edges k (segments_of r))) (sym (segment-scaled k hk e.0)) (anchor-scaled k hk (segment_of e.0) (segments_of r) here))) p
        ∙ ap (λ c. cond c (pos 0 -ℤ pos n) (pos n)) (ap is_plus (order-scaled k hk e.0.from e.0.to) ∙ same)
      where
        same-not : (b c : Bool) → not b ≡ not c → b ≡ c
        same-not true true h = refl
        same-not false false h = refl
        same-not true false h = cc
        same-not false true h = cc

    pub outer-winds : IsOuterRing (map segments_of rs) (segments_of r) → winding_number east p (scaled_edges k r) ≡ pos (bit (has_inside k p r))
    outer-winds o = wound o.anchor o.anchors false o.down ∙ ap pos (odd-bit (crossing_count east p (scaled_edges k r)))

    pub inner-winds : IsInnerRing (map segments_of rs) (segments_of r) → winding_number east p (scaled_edges k r) ≡ pos 0 -ℤ pos (bit (has_inside k p r))
    inner-winds o = wound o.anchor o.anchors true o.up ∙ ap (λ m. pos 0 -ℤ pos m) (odd-bit (crossing_count east p (scaled_edges k r)))

  -- ---- a polygon
  module _ (p : Vector) where
    abbrev pub up : Edge → ℕ
    up e = up_seen east (from_to p) (scaled_edge k e)

    abbrev pub down : Edge → ℕ
    down e = down_seen east (from_to p) (scaled_edge k e)

    pub ups : (xs : List Edge) → up_count east p (scaled_edges k xs) ≡ total up xs
    ups xs = sym (total-is (up_seen east (from_to p)) (scaled_edges k xs)) ∙ total-map (up_seen east (from_to p)) (scaled_edge k) xs

    pub downs : (xs : List Edge) → down_count east p (scaled_edges k xs) ≡ total down xs
    downs xs = sym (total-is (down_seen east (from_to p)) (scaled_edges k xs)) ∙ total-map (down_seen east (from_to p)) (scaled_edge k) xs

    out-sum : (r : List Edge) → (n : ℕ) → winding_number east p (scaled_edges k r) ≡ pos n → total up r ≡ total down r + n
    out-sum r n w =
        let a = ups r in let b = downs r in
        let m : up_count east p (scaled_edges k r) ≡ down_count east p (scaled_edges k r) + n = omega (arith, ints) in omega arith

    in-sum : (r : List Edge) → (n : ℕ) → winding_number east p (scaled_edges k r) ≡ pos 0 -ℤ pos n → total up r + n ≡ total down r
    in-sum r n w =
        let a = ups r in let b = downs r in
        let m : up_count east p (scaled_edges k r) + n ≡ down_count east p (scaled_edges k r) = omega (arith, ints) in omega arith

    holes-sum : (hs : List (List Edge)) → ((h : List Edge) → In h hs → winding_number east p (scaled_edges k h) ≡ pos 0 -ℤ pos (bit (has_inside k p h))) → total up (edges_of hs) + count_by (has_inside k p) hs ≡ total down (edges_of hs)
    holes-sum [] w = refl
    holes-sum (h ∷ hs) w =
        let a = in-sum h (bit (has_inside k p h)) (w h (inl refl)) in let b = holes-sum hs (λ x i. w x (inr i)) in
        let c = total-++ up h (edges_of hs) in let d = total-++ down h (edges_of hs) in let e = count_by-cons (has_inside k p) h hs in omega arith

    one-of : (b : Bool) (n : ℕ) → bit b ≡ n + 1 → (b ≡ true) × (n ≡ 0)
    one-of true n h = (refl, (let e : n ≡ 0 = omega arith in e))
    one-of false n h = absurd (omega arith)

    pub parted-by : (g : Polygon) → IsSided (polygon_edges g) → winding_number east p (scaled_edges k g.outer) ≡ pos (bit (has_inside k p g.outer)) →
        ((h : List Edge) → In h g.inner → winding_number east p (scaled_edges k h) ≡ pos 0 -ℤ pos (bit (has_inside k p h))) → All (IsOffEdge p) (scaled_edges k (polygon_edges g)) → LiesByRings k p g
    parted-by g sd w v off = by (sd.counted k hk p off)
      where
        o : total up g.outer ≡ total down g.outer + bit (has_inside k p g.outer)
        o = out-sum g.outer (bit (has_inside k p g.outer)) w

        hs : total up (edges_of g.inner) + holes_round k p g ≡ total down (edges_of g.inner)
        hs = holes-sum g.inner v

        by : (winding_number east p (scaled_edges k (polygon_edges g)) ≡ pos 0) ⊎ (winding_number east p (scaled_edges k (polygon_edges g)) ≡ pos 1) → LiesByRings k p g
        by (inl z) =
            let a = out-sum (polygon_edges g) 0 z in let b = total-++ up g.outer (edges_of g.inner) in let c = total-++ down g.outer (edges_of g.inner) in
            let x = o in let y = hs in
            inr (record { off = off; none = z }, (let e : holes_round k p g ≡ bit (has_inside k p g.outer) = omega arith in e))
        by (inr z) =
            let a = out-sum (polygon_edges g) 1 z in let b = total-++ up g.outer (edges_of g.inner) in let c = total-++ down g.outer (edges_of g.inner) in
            let x = o in let y = hs in
            let e : bit (has_inside k p g.outer) ≡ holes_round k p g + 1 = omega arith in
            let f = one-of (has_inside k p g.outer) (holes_round k p g) e in
            inl (record { off = off; once = z }, f.0, f.1)
