-- The nearest edge left of the anchor of an inner ring, in a status of all edges: its ring tells the encloser.
use Rattle.std.proofs.Common.{List, Some, [], ap, arith, get_or, inl, inr, length, not, subst, sym, true, ℕ, ◌+◌, ◌<◌, ◌∙◌, ◌≡◌, ⊎_elim}
use lib.IntN.{◌-ℤ◌}
use Rattle.plane_lists.specs.Rings.Nesting.{IsNextLeft, edges_of}
use Rattle.plane_lists.proofs.NestingKit.{in-edges-out, left_neighbour_alike, left_neighbour_encloses}
use Rattle.plane.specs.Edge as plane
use Rattle.plane.specs.Height.{is_in_span, is_right_above}
use Rattle.plane.specs.Sign.{is_plus, sign}
use Rattle.plane.specs.Vector.{Vector}
use Rattle.std.proofs.lemmas.Bool.{and_from}
use Rattle.lists.proofs.ListsKit.{and-left, at-in, in-all, in-filter, in-map, in-map-out, in-passes}
use Rattle.plane.proofs.PlaneKit.{right_of, tall-by}
use Rattle.plane.proofs.SignKit.{self-diff}
use Rattle.lists.specs.Member.{In}
use Rattle.plane_lists.specs.Lists.Ring.{IsAnchor}
use Rattle.plane_lists.specs.Statuses.Status.{IsStatus}
use Rattle.plane_lists.proofs.StatusKit.{nearest}
use Rattle.osm_geom.specs.declared.edge.Edge.{Edge}
use Rattle.osm_geom.specs.InPlane.Multiple.{product_of_denominators}
use Rattle.osm_nest.specs.declared.sweep.ring_edge.RingEdge.{RingEdge}
use Rattle.osm_nest.specs.Beside.{IsSloping}
use Rattle.osm_nest.specs.Enclosers.{IsDirectEncloser, segments_at}
use Rattle.osm_nest.specs.SweptEdges.{AreSlopingEdges, IsSlopingEdge}
use Rattle.osm_nest.specs.Outer.{IsAnchorOf, IsInner, IsOuter}
use Rattle.osm_nest.specs.RingLists.{AreRings, all_edges, whole_rings}
use Rattle.osm_nest.proofs.DirectEnclosers.{anchor-up, inner-encloser, listed, nest, outer-encloser, place-of, segments-at, sized, whole-in}
use Rattle.osm_nest.proofs.InPlane.{segment_at, spans-at}

module _ (rs : List (List Edge)) (are : AreRings rs) (items : List RingEdge) (of : AreSlopingEdges rs items) where
  abbrev K : ℕ
  K = product_of_denominators (all_edges rs)

  abbrev pub seg : RingEdge → plane.Edge
  seg i = segment_at K i.edge.now

  abbrev ring : ℕ → List Edge
  ring k = get_or rs k []

  ring-in : (k : ℕ) → k < length rs → In (get_or (whole_rings rs) k []) (whole_rings rs)
  ring-in k h = let s = sized rs are in at-in (whole_rings rs) k [] (omega arith)

  -- each edge that spans a height isn't horizontal, so it is an item
  upright : (p : Vector) (t : plane.Edge) → is_in_span p t ≡ true → is_in_span t.from t ≡ true
  upright p t s = and_from (not (is_plus (sign (t.from.y -ℤ t.from.y)))) (is_plus (sign (t.to.y -ℤ t.from.y))) (ap (λ z. not (is_plus z)) (self-diff t.from.y)) (ap is_plus (tall-by p t s))

  as-item : (p : Vector) (f : plane.Edge) → In f (edges_of (nest rs are)) → is_in_span p f ≡ true → (i : RingEdge) × In i items × (seg i ≡ f)
  as-item p f j s =
      let g = in-edges-out (nest rs are) f j in
      let k = place-of rs are g.0 g.1 in
      let x = in-map-out (segment_at K) (ring k.0) f (subst (λ l. In f l) k.2 g.2) in
      let w = whole-in rs are k.0 k.1 x.0 x.1 in
      let slopes : IsSloping x.0 = spans-at K x.0 x.0 w w ∙ upright p (segment_at K x.0) (subst (λ t. is_in_span p t ≡ true) x.2 s) in
      let i = of.whole k.0 k.1 x.0 x.1 slopes in
      (i.0, i.1, ap (segment_at K) i.2 ∙ sym x.2)

  module _ (h : ℕ) (hh : h < length rs) (inner : IsInner (ring h)) (a : Edge) (an : IsAnchorOf a (ring h)) (status : List RingEdge) (is : IsStatus seg (segment_at K a).from items status)
      (i : ℕ) (d : RingEdge) (inside : i + 1 < length status) (next : seg (get_or status (i + 1) d) ≡ segment_at K a) where
    abbrev p : Vector
    p = (segment_at K a).from

    abbrev e : RingEdge
    e = get_or status i d

    e-item : IsSlopingEdge rs e
    e-item = in-all (IsSlopingEdge rs) items e of.each (in-filter (λ (t : RingEdge). is_in_span p (seg t)) items e (is.members i d (omega arith)))

    e-span : is_in_span p (seg e) ≡ true
    e-span = in-passes (λ (t : RingEdge). is_in_span p (seg t)) items e (is.members i d (omega arith))

    a-span : is_in_span p (segment_at K a) ≡ true
    a-span = subst (λ t. is_in_span p t ≡ true) next (in-passes (λ (t : RingEdge). is_in_span p (seg t)) items (get_or status (i + 1) d) (is.members (i + 1) d inside))

    next-left : IsNextLeft (segment_at K a) (seg e) (edges_of (nest rs are))
    next-left = record {
      spans = e-span;
      right = and_from (is_in_span p (segment_at K a)) (right_of p (seg e) (segment_at K a)) a-span (subst (λ t. right_of p (seg e) t ≡ true) next (is.order i (i + 1) d (omega arith) inside));
      nearest = λ f j r.
          let s = and-left (is_in_span p f) (right_of p (seg e) f) r in
          let y = as-item p f j s in
          let n = nearest seg p items status is i d inside y.0 y.1 (subst (λ t. is_right_above p (seg e) t ≡ true) (sym y.2) r) in
          ⊎_elim (λ (o : seg y.0 ≡ seg (get_or status (i + 1) d)). inl (sym y.2 ∙ o ∙ next))
          (λ (o : right_of p (seg (get_or status (i + 1) d)) (seg y.0) ≡ true). inr (subst (λ t. right_of p (segment_at K a) t ≡ true) y.2 (subst (λ t. right_of p t (seg y.0) ≡ true) next o))) n;
    }

    anchor-there : IsAnchor (segment_at K a) (segments_at rs h)
    anchor-there = subst (λ g. IsAnchor (segment_at K a) g) (sym (segments-at rs are h hh)) (anchor-up rs are h hh a an)

    e-there : In (seg e) (segments_at rs e.ring)
    e-there = subst (λ g. In (seg e) g) (sym (segments-at rs are e.ring e-item.inside)) (in-map (segment_at K) (ring e.ring) e.edge.now e-item.member)

    -- the neighbour's ring is outer: it is the encloser
    pub left-outer : IsOuter (ring e.ring) → IsDirectEncloser rs h (Some e.ring)
    left-outer o = (
      e-item.inside,
      inner-encloser rs are h hh inner,
      left_neighbour_encloses (whole_rings rs) (listed rs are) (get_or (whole_rings rs) h []) (get_or (whole_rings rs) e.ring []) (ring-in h hh) (ring-in e.ring e-item.inside)
          (inner-encloser rs are h hh inner) (outer-encloser rs are e.ring e-item.inside o) (segment_at K a) (seg e) anchor-there e-there next-left,
    )

    -- it is inner: both have one encloser
    pub left-inner : (encloser : ℕ) → IsDirectEncloser rs e.ring (Some encloser) → IsDirectEncloser rs h (Some encloser)
    left-inner encloser o = (
      o.0,
      inner-encloser rs are h hh inner,
      left_neighbour_alike (whole_rings rs) (listed rs are) (get_or (whole_rings rs) h []) (get_or (whole_rings rs) e.ring []) (get_or (whole_rings rs) encloser []) (ring-in h hh) (ring-in e.ring e-item.inside) (ring-in encloser o.0)
          (inner-encloser rs are h hh inner) o.1 (segment_at K a) (seg e) anchor-there e-there next-left o.2,
    )
