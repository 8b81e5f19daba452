-- A ring begun elsewhere has the anchor that it had, so it is outer or inner as it was.
use Rattle.std.proofs.Common.{Bool, List, ap, not, subst, sym, ℕ, ◌∙◌, ◌≡◌}
use Rattle.std.proofs.Math.Nat.{mul_comm}
use Rattle.plane.specs.Edge as plane
use Rattle.plane.specs.Edge.{same_edge, segment_of}
use Rattle.lists.specs.Member.{In}
use Rattle.plane_lists.specs.Lists.Ring.{IsAnchor, segments_of}
use Rattle.lists.proofs.ListsKit.{in-filter, in-map, in-map-out, in-passes, in-rotated, into-filter, rotated-in}
use Rattle.osm_geom.specs.declared.edge.Edge.{Edge}
use Rattle.osm_geom.specs.InPlane.Multiple.{edge_times, edges_times, product_of_denominators}
use Rattle.lists.specs.Rotated.{IsRotated}
use Rattle.osm_nest.specs.Outer.{AnchorRuns, IsAnchorOf}
use Rattle.osm_nest.proofs.InPlane.{common-append}

-- an anchor is told by what stands in the list
anchor-same : (s : plane.Edge) (xs ys : List plane.Edge) → ((t : plane.Edge) → In t xs → In t ys) → ((t : plane.Edge) → In t ys → In t xs) → IsAnchor s xs → IsAnchor s ys
anchor-same s xs ys into out a =
    let other = λ (t : plane.Edge). not (same_edge s t) in
    record {
      member = into s a.member;
      least = λ t i. a.least t (out t i);
      leftmost = λ t i. a.leftmost t (into-filter other xs t (out t (in-filter other ys t i)) (in-passes other ys t i));
    }

segments-in : (k : ℕ) (p q : List Edge) → ((e : Edge) → In e p → In e q) → (t : plane.Edge) → In t (segments_of (edges_times k p)) → In t (segments_of (edges_times k q))
segments-in k p q into t i =
    let x = in-map-out segment_of (edges_times k p) t i in
    let y = in-map-out (edge_times k) p x.0 x.1 in
    subst (λ s. In s (segments_of (edges_times k q))) (sym (x.2 ∙ ap segment_of y.2)) (in-map segment_of (edges_times k q) (edge_times k y.0) (in-map (edge_times k) q y.0 (into y.0 y.1)))

module _ (p q : List Edge) (t : IsRotated p q) where
  same-den : product_of_denominators p ≡ product_of_denominators q
  same-den =
      ap product_of_denominators t.old ∙ common-append t.front t.back ∙ mul_comm (product_of_denominators t.front) (product_of_denominators t.back)
      ∙ sym (common-append t.back t.front) ∙ ap product_of_denominators (sym t.new)

  pub anchor-turned : (e : Edge) → IsAnchorOf e p → IsAnchorOf e q
  anchor-turned e a =
      let k = product_of_denominators p in
      record {
        member = in-rotated p q t e a.member;
        anchor = subst (λ n. IsAnchor (segment_of (edge_times n e)) (segments_of (edges_times n q))) same-den
            (anchor-same (segment_of (edge_times k e)) (segments_of (edges_times k p)) (segments_of (edges_times k q)) (segments-in k p q (in-rotated p q t)) (segments-in k q p (rotated-in p q t)) a.anchor);
      }

  pub runs-turned : (up : Bool) → AnchorRuns up p → AnchorRuns up q
  runs-turned up r = record { anchor = r.anchor; is_anchor = anchor-turned r.anchor r.is_anchor; direction = r.direction }
