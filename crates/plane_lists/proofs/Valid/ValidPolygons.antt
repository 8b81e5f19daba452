-- The polygons of a sided list are valid.
use Rattle.std.proofs.Common.{Bool, List, [], arith, inl, inr, map, refl, sym, subst, true, ◌∙◌, ◌∷◌, ◌↔◌, ◌≡◌, ◌≤◌, ◌⊎◌}
use Rattle.std.specs.List.{count_by}
use lib.IntN.{pos, ℤ, ◌-ℤ◌}
use Rattle.lists.specs.Member.{EachPair, In}
use Rattle.plane_lists.specs.Rings.Cover.{covers}
use Rattle.plane_lists.specs.Rings.Nesting.{edges_of}
use Rattle.plane_lists.specs.Rings.Polygon.{ArePolygonsOfRings, IsPolygon, Polygon, polygon_edges}
use Rattle.plane_lists.specs.Rings.RingList.{AreUncrossed, IsRingList}
use Rattle.plane_lists.specs.Rings.Walk.{HasSameEdges}
use Rattle.plane_lists.specs.OneRingList.RingListOf.{IsRingListOf}
use Rattle.plane_lists.specs.Paths.Inside.{AreInOne, IsInside}
use Rattle.plane_lists.specs.Paths.Line.{Joined}
use Rattle.plane.specs.Bit.{bit}
use Rattle.plane.specs.Edge.{Edge}
use Rattle.plane.specs.RayCrossing.{IsOffEdge}
use Rattle.plane.specs.Sign.{Plus, sign}
use Rattle.plane.specs.Vector.{Vector, east}
use Rattle.plane_lists.specs.Lists.EdgeList.{winding_number}
use Rattle.plane_lists.specs.Lists.ScaledEdges.{scaled_edges}
use Rattle.plane_lists.specs.Lists.Sided.{IsSided}
use Rattle.plane_lists.specs.Valid.Valid.{HasConnectedInterior, HasInterior, HasValidBoundary, HaveApartInteriors, HaveTouchingBoundaries, IsExterior, IsInterior, IsOffRings, LiesByRings, IsValidMultiPolygon, IsValidPolygon, MeetAtEnds, MeetOnlyAtPoints, edges_of_polygons, boundary_rings, has_inside}
use Rattle.plane_lists.proofs.ConnectedKit.{rings_are}
use Rattle.lists.proofs.ListsKit.{all-in, count_by-cons, in-all, in-left, in-map, pairs-out-of-map, pairs-weaker}
use Rattle.plane_lists.proofs.NestingKit.{in-edges, pairs-of, polygon_sided, polygons_cover_at_fractions, ring-plain, same-back, same-in, same-winding, sided_same}
use Rattle.plane_lists.proofs.OneRingListKit.{crescents_outlined, first-of, outlined_ring_list, rings-uncrossed}
use Rattle.plane_lists.proofs.PathsKit.{beside-inside, bit-most, count-member, edge-parts-inside, inside-covers, joined-part, parts, polygon-connected, scaled-part, some-beside}
use Rattle.plane_lists.proofs.Valid.Crescents.{apart as apart-crescents, here, here-inside, is-polygon, polygon, there, there-inside}
use Rattle.plane_lists.proofs.Valid.Holes.{hole_part, hole_point}
use Rattle.plane_lists.proofs.Valid.Meets.{Meet, meet-pairs, no-loop, own-meet, pairs-lists, pairs-own}
use Rattle.plane_lists.proofs.Valid.Windings.{inner-winds, outer-winds, parted-by}
use Rattle.plane_lists.proofs.WindingKit.{bit-true, sided-scaled}
use Rattle.plane.specs.Scale.{scaled_edge}

both-pairs : {X : Type 0} (R S T : X → X → Type 0) (xs : List X) → ((x y : X) → R x y → S x y → T x y) → EachPair R xs → EachPair S xs → EachPair T xs
both-pairs R S T [] f a b = tt
both-pairs R S T (x ∷ xs) f a b = (
  all-in (T x) xs (λ y i. f x y (in-all (R x) xs y a.0 i) (in-all (S x) xs y b.0 i)),
  both-pairs R S T xs f a.1 b.1,
)

pairs-less : {X : Type 0} (f : X → Bool) (xs : List X) → count_by f xs ≤ 1 → EachPair (λ (x y : X). f x ≡ true → f y ≡ true → ⊥) xs
pairs-less f [] h = tt
pairs-less f (x ∷ xs) h = (
  all-in (λ y. f x ≡ true → f y ≡ true → ⊥) xs (λ y i a b. let c = count_by-cons f x xs in let d = bit-true (f x) a in let e = count-member f y xs i b in omega arith),
  pairs-less f xs (let c = count_by-cons f x xs in omega arith),
)

-- what holds of each two for every k and p holds of each two
pairs-all : {X I : Type 0} (R : I → X → X → Type 0) (xs : List X) → ((j : I) → EachPair (R j) xs) → EachPair (λ x y. (j : I) → R j x y) xs
pairs-all R [] h = tt
pairs-all R (x ∷ xs) h = (
  all-in (λ y. (j : _) → R j x y) xs (λ y i j. in-all (R j x) xs y (h j).0 i),
  pairs-all R xs (λ j. (h j).1),
)

-- ---- a polygon of a ring list, whose own rings are a ring list
module _ (rs : List (List Edge)) (u : IsRingList rs) (g : Polygon) (is : IsPolygon rs g) (v : IsRingList (g.outer ∷ g.inner)) where
  abbrev ks : List Edge
  ks = polygon_edges g

  abbrev rings : List (List Edge)
  rings = boundary_rings g

  own : IsSided ks
  own = polygon_sided rs u g is

  meets : EachPair MeetAtEnds (edges_of rings)
  meets = meet-pairs ks own

  outer-round : (k : ℤ) → sign k ≡ Plus → (p : Vector) → winding_number east p (scaled_edges k g.outer) ≡ pos (bit (has_inside k p g.outer))
  outer-round k hk p = outer-winds k hk rs u g.outer is.member p is.is_outer_ring

  inner-round : (h : List Edge) → In h g.inner → (k : ℤ) → sign k ≡ Plus → (p : Vector) → winding_number east p (scaled_edges k h) ≡ pos 0 -ℤ pos (bit (has_inside k p h))
  inner-round h j k hk p = inner-winds k hk rs u h (is.inner_members h j) p (is.are_inner_rings h j)

  parts-here : (k : ℤ) → sign k ≡ Plus → (p : Vector) → IsOffRings k p g → LiesByRings k p g
  parts-here k hk p off = parted-by k hk p g own (outer-round k hk p) (λ h j. inner-round h j k hk p) off

  hole-has-points : (h : List Edge) → In h g.inner → (k : ℤ) × (p : Vector) × (sign k ≡ Plus) × IsExterior k p g × (has_inside k p h ≡ true)
  hole-has-points h j =
      let l = v.long h (inr j) in let e = first-of h (omega arith) in
      hole_point g own parts-here h j (u.ring h (is.inner_members h j)) (ring-plain rs u h (is.inner_members h j)) (inner-round h j) e.0 e.1

  -- left beside an edge is the interior
  has-interior : HasInterior g
  has-interior =
      let l = v.long g.outer (inl refl) in let e = first-of g.outer (omega arith) in
      let i = in-left g.outer (edges_of g.inner) e.0 e.1 in let b = some-beside ks own e.0 i in
      (b.multiple, b.point, b.positive, beside-inside (scaled_edges b.multiple ks) (sided-scaled b.multiple b.positive ks own) (scaled_edge b.multiple e.0) (in-map (scaled_edge b.multiple) ks e.0 i) b.point b.beside_first)

  valid-boundary : HasValidBoundary g
  valid-boundary = record {
    linear_rings = λ r j. record { long = v.long r j; closed = v.ring r j; simple = pairs-own rings meets r j };
    outer_counterclockwise = outer-round;
    holes_clockwise = inner-round;
    tangent = both-pairs Meet AreUncrossed MeetOnlyAtPoints rings (λ r s m n. record { at_ends = m; uncrossed = n }) (pairs-lists rings meets) v.free;
    outer_less_holes = parts-here;
    regular = λ e j q hq r w b c. edge-parts-inside ks own e j q hq r w b c;
    hole_has_points = hole-has-points;
    hole_is_part = λ h j k hk p q op oq t. hole_part g own parts-here h j (u.ring h (is.inner_members h j)) (ring-plain rs u h (is.inner_members h j)) (inner-round h j) k hk p q op oq t;
  }

pub boundary_alone : (rs : List (List Edge)) × (g : Polygon) × IsRingList rs × IsPolygon rs g × HasValidBoundary g × HasInterior g × (HasConnectedInterior g → ⊥)
boundary_alone = (crescents_outlined, polygon, outlined_ring_list, is-polygon, valid-boundary crescents_outlined outlined_ring_list polygon is-polygon outlined_ring_list, (pos 4, there, refl, there-inside), λ c. apart-crescents (c (pos 4) refl there here there-inside here-inside))

module _ (es : List Edge) (sd : IsSided es) (rs : List (List Edge)) (l : IsRingListOf es rs) (gs : List Polygon) (a : ArePolygonsOfRings rs gs) where
  u : IsRingList rs
  u = rings-uncrossed es sd rs l

  own-list : (g : Polygon) → In g gs → IsRingList (boundary_rings g)
  own-list g i = rings-uncrossed (polygon_edges g) (polygon_sided rs u g (a.each g i)) (boundary_rings g) (rings_are es sd rs l gs a g i)

  valid-polygon : (g : Polygon) → In g gs → IsValidPolygon g
  valid-polygon g i = record {
    boundary = valid-boundary rs u g (a.each g i) (own-list g i);
    inhabited = has-interior rs u g (a.each g i) (own-list g i);
    connected = polygon-connected es sd rs l gs a g i;
  }

  abbrev every : List Edge
  every = edges_of_polygons gs

  same : HasSameEdges every es
  same f = a.whole f ∙ l.edges f

  sided-every : IsSided every
  sided-every = sided_same es sd every same

  back : HasSameEdges es every
  back = same-back every es same

  at-most : (k : ℤ) → sign k ≡ Plus → (p : Vector) → count_by (λ (g : Polygon). covers (scaled_edges k (polygon_edges g)) p) gs ≤ 1
  at-most k hk p = let c = polygons_cover_at_fractions k hk rs u p gs a in let m = bit-most (covers (scaled_edges k (edges_of rs)) p) in omega arith

  -- no point is in two interiors
  abbrev Apart : (k : ℤ) × (sign k ≡ Plus) × Vector → Polygon → Polygon → Type 0
  Apart t g h = IsInterior t.0 t.2 g → IsInterior t.0 t.2 h → ⊥

  apart : EachPair HaveApartInteriors gs
  apart =
      pairs-weaker (λ (g h : Polygon). (t : (k : ℤ) × (sign k ≡ Plus) × Vector) → Apart t g h) HaveApartInteriors gs
      (λ g h i j f k hk p x y. f (k, hk, p) x y)
      (pairs-all Apart gs (λ t.
      let f = λ (g : Polygon). covers (scaled_edges t.0 (polygon_edges g)) t.2 in
      pairs-weaker (λ (g h : Polygon). f g ≡ true → f h ≡ true → ⊥) (Apart t) gs
      (λ g h i j n x y. n (inside-covers t.2 (scaled_edges t.0 (polygon_edges g)) x.once) (inside-covers t.2 (scaled_edges t.0 (polygon_edges h)) y.once))
      (pairs-less f gs (at-most t.0 t.1 t.2))))

  -- ---- the rings of two polygons
  of-list : (g : Polygon) → In g gs → (r : List Edge) → In r (boundary_rings g) → In r rs
  of-list g i r (inl e) = subst (λ q. In q rs) (sym e) (a.each g i).member
  of-list g i r (inr j) = (a.each g i).inner_members r j

  both-uncrossed : (r s : List Edge) → In r rs → ((e : Edge) → In e r → In e s → ⊥) → (r ≡ s) ⊎ (AreUncrossed r s ⊎ AreUncrossed s r) → AreUncrossed r s
  both-uncrossed r s i n (inl q) = let k = l.some r i in let e = first-of r k in absurd (n e.0 e.1 (subst (λ w. In e.0 w) q e.1))
  both-uncrossed r s i n (inr (inl c)) = c
  both-uncrossed r s i n (inr (inr c)) = (c.1, c.0)

  touching : EachPair HaveTouchingBoundaries gs
  touching =
      pairs-weaker (λ (g h : Polygon). Meet (polygon_edges g) (polygon_edges h)) HaveTouchingBoundaries gs
      (λ g h i j m r s x y. record {
        at_ends = λ e f p q. m e f (in-edges (boundary_rings g) r e x p) (in-edges (boundary_rings h) s f y q);
        uncrossed = both-uncrossed r s (of-list g i r x)
            (λ e p q. own-meet e (no-loop (polygon_edges g) (polygon_sided rs u g (a.each g i)) e (in-edges (boundary_rings g) r e x p)) (m e e (in-edges (boundary_rings g) r e x p) (in-edges (boundary_rings h) s e y q)))
            (pairs-of AreUncrossed rs r s u.free (of-list g i r x) (of-list h j s y));
      })
      (pairs-out-of-map Meet polygon_edges gs (pairs-lists (map polygon_edges gs) (meet-pairs every sided-every)))

  inside-es : (k : ℤ) → sign k ≡ Plus → (p : Vector) → IsInside (scaled_edges k every) p → IsInside (scaled_edges k es) p
  inside-es k hk p x = record {
    off = all-in (IsOffEdge p) (scaled_edges k es) (λ e i. in-all (IsOffEdge p) (scaled_edges k every) e x.off (scaled-part k es every (same-in es every back) e i));
    once = same-winding k p es every back ∙ x.once;
  }

  parts-of : (k : ℤ) → sign k ≡ Plus → (p q : Vector) → IsInside (scaled_edges k every) p → IsInside (scaled_edges k every) q → Joined (scaled_edges k every) p q ↔ AreInOne k gs p q
  parts-of k hk p q x y =
      let r = parts es sd rs l gs a k hk p q (inside-es k hk p x) (inside-es k hk q y) in
      let to = scaled-part k es every (same-in es every back) in let fro = scaled-part k every es (same-in every es same) in
      (λ j. r.0 (joined-part (scaled_edges k es) (scaled_edges k every) to p q j), λ o. joined-part (scaled_edges k every) (scaled_edges k es) fro p q (r.1 o))

  pub valid_polygons : IsValidMultiPolygon gs
  valid_polygons = record {
    polygons = valid-polygon;
    apart = apart;
    touching = touching;
    regular = λ e j q hq r w b c. edge-parts-inside every sided-every e j q hq r w b c;
    parts = parts-of;
  }
