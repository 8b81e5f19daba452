-- Anchors of rings: that there is one, that it is one alone, and how the ring winds.
use Rattle.std.proofs.Common.{◌≡◌, inl, inr, Bool, true, false, not, ℕ, ◌%◌, ◌⊎◌, ◌↔◌, ◌-ℤ◌, ℤ, pos, List, [], ◌∷◌, cond, refl, sym, ap, subst, ◌∙◌}
use Rattle.plane.specs.Conflict.{IsClearOf}
use Rattle.plane.specs.Edge as plane
use Rattle.plane.specs.Edge.{segment_of}
use Rattle.plane.specs.Order.{order}
use Rattle.plane.specs.Scale.{scaled_edge, scaled_point}
use Rattle.plane.specs.Sign.{Plus, is_plus, sign}
use Rattle.plane.specs.Vector.{Vector, east, same_point}
use Rattle.plane.proofs.PlaneKit.{self_conflicts, order-scaled, point-scaled}
use Rattle.plane_lists.specs.Lists.ConflictFree.{IsConflictFree}
use Rattle.plane_lists.specs.Lists.EdgeList.{crossing_count, winding_number}
use Rattle.lists.specs.Member.{In}
use Rattle.plane_lists.specs.Lists.Ring.{IsAnchor, IsPath, segments_of}
use Rattle.plane_lists.specs.Lists.Ring as winding
use Rattle.plane_lists.specs.Lists.ScaledEdges.{scaled_edges}
use Rattle.plane_lists.proofs.WindingKit.{anchor_one, ring_by_anchor, rising_in, plain_scaled}
use Rattle.lists.proofs.ListsKit.{in-map, map-map, not-false-out, not-true-out, pairs-map}
use Rattle.plane_lists.proofs.NestingKit.{pairs-unmap, pairs-of}
use Rattle.osm_geom.specs.InPlane.Multiple.{edge_times, product_of_denominators, whole_edges}
use Rattle.osm_geom.proofs.EdgesKit.{rises_alike}
use Rattle.osm_geom.specs.declared.edge.Edge.{Edge}
use Rattle.osm_geom.specs.Edge.{runs_up}
use Rattle.osm_rings.specs.Ring.{IsRing}
use Rattle.osm_rings.proofs.PlaneRings.{plane-ring}
use Rattle.osm_nest.specs.Outer.{AnchorRuns, AreConflictFree, IsAnchorOf, IsInner, IsOuter, WindsBySign}
use Rattle.osm_nest.proofs.Further.{anchor-scaled, segment-scaled, segments-scaled}
use Rattle.osm_nest.proofs.InPlane.{segment_at, segments_times, whole-at}
use Rattle.osm_nest.proofs.Leftmost.{along, segments_along}

-- ---- the segments of the multiplied list
pub segments-are : (es : List Edge) → segments_of (whole_edges es) ≡ segments_along es
segments-are es = map-map segment_of (edge_times (product_of_denominators es)) es

-- two edges along one segment are one
module _ (k : ℕ) (es : List Edge) (plain : IsConflictFree (segments_times k es)) where
  one-by : (e f : Edge) → In e es → segment_at k e ≡ segment_at k f → (e ≡ f) ⊎ (IsClearOf (segment_at k e) (segment_at k f) ⊎ IsClearOf (segment_at k f) (segment_at k e)) → e ≡ f
  one-by e f i s (inl same) = same
  one-by e f i s (inr (inl c)) =
      let n = self_conflicts (segment_at k e) (rising_in (segments_times k es) (segment_at k e) plain (in-map (segment_at k) es e i)) in
      absurd (cc (sym n ∙ subst (λ t. IsClearOf (segment_at k e) t) (sym s) c))
  one-by e f i s (inr (inr c)) =
      let n = self_conflicts (segment_at k e) (rising_in (segments_times k es) (segment_at k e) plain (in-map (segment_at k) es e i)) in
      absurd (cc (sym n ∙ subst (λ t. IsClearOf t (segment_at k e)) (sym s) c))

  pub same-along : (e f : Edge) → In e es → In f es → segment_at k e ≡ segment_at k f → e ≡ f
  same-along e f i j s =
      one-by e f i s (pairs-of (λ x y. IsClearOf (segment_at k x) (segment_at k y)) es e f (pairs-unmap (segment_at k) IsClearOf es plain.clear) i j)

module _ (es : List Edge) (clear : AreConflictFree es) where
  pub plain-along : IsConflictFree (segments_along es)
  plain-along = subst IsConflictFree (segments-are es) clear

  pub anchor-along : (e : Edge) → IsAnchorOf e es → IsAnchor (along es e) (segments_along es)
  anchor-along e a = subst (λ l. IsAnchor (along es e) l) (segments-are es) a.anchor

  pub anchor-of : (e : Edge) → In e es → IsAnchor (along es e) (segments_along es) → IsAnchorOf e es
  anchor-of e i a = record { member = i; anchor = subst (λ l. IsAnchor (along es e) l) (sym (segments-are es)) a }

  pub one-anchor : (e f : Edge) → IsAnchorOf e es → IsAnchorOf f es → e ≡ f
  one-anchor e f a b = same-along (product_of_denominators es) es plain-along e f a.member b.member (anchor_one (along es e) (along es f) (segments_along es) plain-along (anchor-along e a) (anchor-along f b))

  runs-into : (e : Edge) (up : Bool) → IsAnchorOf e es → runs_up e ≡ up → AnchorRuns up es
  runs-into e up a h = record { anchor = e; is_anchor = a; direction = h }

  runs-out : (e : Edge) (up : Bool) → IsAnchorOf e es → AnchorRuns up es → runs_up e ≡ up
  runs-out e up a r = ap runs_up (one-anchor e r.anchor a r.is_anchor) ∙ r.direction

  pub outer-by : (e : Edge) → IsAnchorOf e es → (not (runs_up e) ≡ true) ↔ IsOuter es
  outer-by e a = (λ h. runs-into e false a (not-true-out (runs_up e) h), λ r. ap not (runs-out e false a r))

  pub inner-by : (e : Edge) → IsAnchorOf e es → (not (runs_up e) ≡ false) ↔ IsInner es
  inner-by e a = (λ h. runs-into e true a (not-false-out (runs_up e) h), λ r. ap not (runs-out e true a r))

module _ (k : ℤ) (hk : sign k ≡ Plus) where
  path-scaled : (a : Vector) (es : List plane.Edge) (b : Vector) → IsPath a es b → IsPath (scaled_point k a) (scaled_edges k es) (scaled_point k b)
  path-scaled a [] b h = ap (scaled_point k) h
  path-scaled a (e ∷ es) b h = (ap (scaled_point k) h.0, path-scaled e.to es b h.1)

  ring-scaled : (r : List plane.Edge) → winding.IsRing r → winding.IsRing (scaled_edges k r)
  ring-scaled r g = record {
    start = scaled_point k g.start;
    path = path-scaled g.start r g.start g.path;
    once = pairs-map (scaled_edge k) (λ (e f : plane.Edge). same_point e.from f.from ≡ false) (λ (e f : plane.Edge). same_point e.from f.from ≡ false) r (λ e f h. point-scaled k hk e.from f.from ∙ h) g.once;
  }

  -- the winding number of a ring at a point with fractions
  pub winds-scaled : (e : plane.Edge) (r : List plane.Edge) → winding.IsRing r → IsConflictFree (segments_of r) → In e r → IsAnchor (segment_of e) (segments_of r) → (p : Vector) →
      winding_number east p (scaled_edges k r) ≡ cond (is_plus (order e.from e.to)) (pos 0 -ℤ pos (crossing_count east p (scaled_edges k r) % 2)) (pos (crossing_count east p (scaled_edges k r) % 2))
  winds-scaled e r g plain i a p =
      ring_by_anchor (scaled_edge k e) (scaled_edges k r) (ring-scaled r g) (subst IsConflictFree (sym (segments-scaled k hk r)) (plain_scaled k hk (segments_of r) plain)) (in-map (scaled_edge k) r e i)
      (subst (λ l. IsAnchor (segment_of (scaled_edge k e)) l) (sym (segments-scaled k hk r)) (subst (λ s. IsAnchor s (scaled_edges k (segments_of r))) (sym (segment-scaled k hk e)) (anchor-scaled k hk (segment_of e) (segments_of r) a))) p
      ∙ ap (λ o. cond (is_plus o) (pos 0 -ℤ pos (crossing_count east p (scaled_edges k r) % 2)) (pos (crossing_count east p (scaled_edges k r) % 2))) (order-scaled k hk e.from e.to)

swapped : {X : Type 0} (b : Bool) (x y : X) → cond b x y ≡ cond (not b) y x
swapped true x y = refl
swapped false x y = refl

pub winds-by-sign : (es : List Edge) (e : Edge) → AreConflictFree es → IsRing es → IsAnchorOf e es → WindsBySign (not (runs_up e)) es
winds-by-sign es e clear ring a q hq p =
    let k = product_of_denominators es in
    let at = scaled_point (pos k) p in
    let g = plane-ring k es e (whole-at es) ring in
    let i : In (edge_times k e) (whole_edges es) = in-map (edge_times k) es e a.member in
    let n = crossing_count east at (scaled_edges q (whole_edges es)) % 2 in
    winds-scaled q hq (edge_times k e) (whole_edges es) g clear i a.anchor at
    ∙ ap (λ b. cond b (pos 0 -ℤ pos n) (pos n)) (sym (rises_alike k e (whole-at es e a.member)))
    ∙ swapped (runs_up e) (pos 0 -ℤ pos n) (pos n)
