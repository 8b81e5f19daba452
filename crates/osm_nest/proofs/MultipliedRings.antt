-- One of the rings in the plane multiplied by the common denominator of all: its anchor, whether it is outer, and the edges right of an anchor.
use Rattle.std.proofs.Common.{◌≡◌, Bool, true, false, not, ℕ, ◌*◌, ◌≤◌, List, map, sym, ap, subst, ◌∙◌}
use Rattle.std.specs.List.{count_by}
use Rattle.std.proofs.Math.Nat.{dvd-mul_right_of_dvd}
use Prim.Native.Nat.{◌∣◌}
use Rattle.plane_lists.specs.Rings.Nesting.{IsInnerRing, IsOuterRing, is_outer}
use Rattle.plane_lists.proofs.NestingKit.{ring-plain, in-edges, outer_down}
use Rattle.plane.specs.Bit.{bit}
use Rattle.plane.specs.Edge as plane
use Rattle.plane.specs.Edge.{segment_of}
use Rattle.plane.specs.Height.{is_right_above}
use Rattle.plane_lists.specs.Lists.ConflictFree.{IsConflictFree}
use Rattle.plane_lists.specs.Lists.EdgeList.{IsEvenAtPoints}
use Rattle.lists.specs.Member.{In}
use Rattle.plane_lists.specs.Lists.Ring.{IsAnchor, segments_of}
use Rattle.lists.proofs.ListsKit.{in-map, in-map-out, map-map, not-same, total-is, total-map, total-same}
use Rattle.plane_lists.proofs.WindingKit.{ring-even}
use Rattle.osm_geom.specs.declared.edge.Edge.{Edge}
use Rattle.osm_geom.specs.Edge.{runs_up}
use Rattle.osm_geom.specs.Point.{den_of}
use Rattle.osm_geom.specs.InPlane.Multiple.{IsWholeAt, edge_times, edges_times, product_of_denominators}
use Rattle.osm_geom.proofs.EdgesKit.{common_is_common, rises_alike}
use Rattle.osm_nest.specs.Beside.{is_right_of_lower_end}
use Rattle.osm_nest.specs.Outer.{AnchorRuns, AreConflictFree, IsAnchorOf, IsInner, IsOuter}
use Rattle.osm_nest.specs.RingLists.{AreRings, all_edges, whole_rings}
use Rattle.osm_nest.proofs.Beside.{right-at}
use Rattle.osm_nest.proofs.Further.{anchor-further, anchor-nearer, plain-nearer}
use Rattle.osm_nest.proofs.InPlane.{segment_at, segments_times, whole-at}
use Rattle.osm_nest.proofs.RingAnchors.{anchor-along, anchor-of, segments-are}

-- the common denominator of all rings is a multiple of that of r
abbrev pub Divides : List (List Edge) → List Edge → Type 0
Divides rs r = (m : ℕ) × (1 ≤ m) × (product_of_denominators (all_edges rs) ≡ product_of_denominators r * m)

module _ (rs : List (List Edge)) (are : AreRings rs) (r : List Edge) (i : In (edges_times (product_of_denominators (all_edges rs)) r) (whole_rings rs)) (q : Divides rs r) where
  abbrev K : ℕ
  K = product_of_denominators (all_edges rs)

  abbrev pub nest : List (List plane.Edge)
  nest = map segments_of (whole_rings rs)

  pub along-is : segments_of (edges_times K r) ≡ segments_times K r
  along-is = map-map segment_of (edge_times K) r

  pub in-nest : In (segments_times K r) nest
  in-nest = subst (λ g. In g nest) along-is (in-map segments_of (whole_rings rs) (edges_times K r) i)

  pub whole : (e : Edge) → In e r → IsWholeAt K e
  whole e j =
      let w = whole-at r e j in
      record {
        some = (common_is_common (all_edges rs)).some;
        first = subst (λ n. den_of e.from ∣ n) (sym q.2) (dvd-mul_right_of_dvd (den_of e.from) w.first q.0);
        second = subst (λ n. den_of e.to ∣ n) (sym q.2) (dvd-mul_right_of_dvd (den_of e.to) w.second q.0);
      }

  pub plain : IsConflictFree (segments_times K r)
  plain = subst IsConflictFree along-is (ring-plain (whole_rings rs) are.ring_list (edges_times K r) i)

  pub even : IsEvenAtPoints (segments_times K r)
  even = subst IsEvenAtPoints along-is (ring-even (edges_times K r) (are.ring_list.ring (edges_times K r) i))

  pub clear : AreConflictFree r
  clear = subst IsConflictFree (sym (segments-are r)) (plain-nearer r q.0 q.1 (subst (λ n. IsConflictFree (segments_times n r)) q.2 plain))

  -- its anchor is that of the multiplied ring
  pub anchor-up : (e : Edge) → IsAnchorOf e r → IsAnchor (segment_at K e) (segments_times K r)
  anchor-up e a = subst (λ n. IsAnchor (segment_at n e) (segments_times n r)) (sym q.2) (anchor-further r q.0 q.1 e a.member (anchor-along r clear e a))

  pub anchor-down : (e : Edge) → In e r → IsAnchor (segment_at K e) (segments_times K r) → IsAnchorOf e r
  anchor-down e j a = anchor-of r clear e j (anchor-nearer r q.0 q.1 e j (subst (λ n. IsAnchor (segment_at n e) (segments_times n r)) q.2 a))

  outer-is : (e : Edge) → In e r → is_outer nest (segment_at K e) ≡ not (runs_up e)
  outer-is e j =
      outer_down (whole_rings rs) are.ring_list (edge_times K e) (in-edges (whole_rings rs) (edges_times K r) (edge_times K e) i (in-map (edge_times K) r e j))
      ∙ ap not (sym (rises_alike K e (whole e j)))

  -- it is outer or inner as the multiplied ring is
  pub outer-up : IsOuter r → IsOuterRing nest (segments_times K r)
  outer-up o = record {
    anchor = segment_at K o.anchor;
    anchors = anchor-up o.anchor o.is_anchor;
    down = outer-is o.anchor o.is_anchor.member ∙ ap not o.direction;
  }

  pub inner-up : IsInner r → IsInnerRing nest (segments_times K r)
  inner-up o = record {
    anchor = segment_at K o.anchor;
    anchors = anchor-up o.anchor o.is_anchor;
    up = outer-is o.anchor o.is_anchor.member ∙ ap not o.direction;
  }

  runs-at : (up : Bool) (a : plane.Edge) → IsAnchor a (segments_times K r) → is_outer nest a ≡ not up → AnchorRuns up r
  runs-at up a an tells =
      let x = in-map-out (segment_at K) r a an.member in
      record {
        anchor = x.0;
        is_anchor = anchor-down x.0 x.1 (subst (λ s. IsAnchor s (segments_times K r)) x.2 an);
        direction = not-same (runs_up x.0) up (sym (outer-is x.0 x.1) ∙ ap (is_outer nest) (sym x.2) ∙ tells);
      }

  pub outer-down : IsOuterRing nest (segments_times K r) → IsOuter r
  outer-down o = runs-at false o.anchor o.anchors o.down

  pub inner-down : IsInnerRing nest (segments_times K r) → IsInner r
  inner-down o = runs-at true o.anchor o.anchors o.up

  -- as many of its edges are right of a as of their segments
  pub right-count : (a : Edge) → IsWholeAt K a → count_by (is_right_above (segment_at K a).from (segment_at K a)) (segments_times K r) ≡ count_by (is_right_of_lower_end a) r
  right-count a w =
      let f = λ (t : plane.Edge). bit (is_right_above (segment_at K a).from (segment_at K a) t) in
      sym (total-is f (segments_times K r)) ∙ total-map f (segment_at K) r
      ∙ total-same (λ x. f (segment_at K x)) (λ x. bit (is_right_of_lower_end a x)) r (λ x j. ap bit (sym (right-at K a x w (whole x j))))
      ∙ total-is (λ x. bit (is_right_of_lower_end a x)) r
