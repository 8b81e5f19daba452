-- The outline of two crescents that share both tips, with what lies between them as a hole: its interior is in two parts.
use Rattle.std.proofs.Common.{All, Bool, List, [], ap, false, inl, inr, map, not, pos, refl, subst, sym, true, ◌||◌, ◌∙◌, ◌∷◌, ◌≡◌, ◌⊎◌}
use Rattle.std.proofs.lemmas.List.Elements.{All-nil}
use Rattle.lists.specs.Member.{In}
use Rattle.plane_lists.specs.Rings.Nesting.{EnclosesDirectly, IsInnerRing, IsOuterRing, encloses}
use Rattle.plane_lists.specs.Rings.Polygon.{IsPolygon, Polygon, polygon_edges}
use Rattle.plane_lists.specs.Paths.Inside.{IsInside}
use Rattle.plane_lists.specs.Paths.Line.{Joined}
use Rattle.plane.specs.Edge.{Edge, same_edge}
use Rattle.plane.specs.Height.{is_right_above, order_above}
use Rattle.plane.specs.Order.{order}
use Rattle.plane.specs.RayCrossing.{IsOffEdge, is_off}
use Rattle.plane.specs.Sign.{Minus, is_minus, is_plus}
use Rattle.plane.specs.Vector.{Vector, east, orient, same_point}
use Rattle.plane_lists.specs.Lists.ConflictFree.{others}
use Rattle.plane_lists.specs.Lists.EdgeList.{winding_number}
use Rattle.plane_lists.specs.Lists.Ring.{IsAnchor, segments_of}
use Rattle.plane_lists.specs.Lists.ScaledEdges.{scaled_edges}
use Rattle.lists.proofs.ListsKit.{or-out}
use Rattle.plane_lists.proofs.OneRingListKit.{crescent_hole, crescent_outline, crescents_outlined, edge_between, every, every-all, every-out, high_tip, left_corner, left_crescent, low_tip, middle_corner, point_at, right_corner}
use Rattle.plane_lists.proofs.PathsKit.{joined-part, joined-winds, not-minus-not, scaled-part}
use Rattle.plane.proofs.PlaneKit.{same_edge-true, same_point-refl}
use Rattle.plane.proofs.SignKit.{is_minus-true}
use Rattle.plane_lists.proofs.WindingKit.{balanced-scaled, closed-balanced}

turn-out : (a t : Edge) → (not (same_point a.from t.from) ≡ true) ⊎ (is_minus (orient a.from a.to t.to) ≡ true) → a.from ≡ t.from → orient a.from a.to t.to ≡ Minus
turn-out a t (inl h) e = absurd (let g = ap (λ w. not (same_point a.from w)) (sym e) in let k = ap not (same_point-refl a.from) in cc (sym h ∙ g ∙ k))
turn-out a t (inr h) e = is_minus-true (orient a.from a.to t.to) h

anchor-out : (a : Edge) (es : List Edge) → In a es → every (λ (t : Edge). not (is_minus (order a.from t.from))) es ≡ true →
    every (λ (t : Edge). not (same_point a.from t.from) || is_minus (orient a.from a.to t.to)) (others a es) ≡ true → IsAnchor a es
anchor-out a es i h k = record {
  member = i;
  least = λ t j. not-minus-not (order a.from t.from) (every-out (λ (t : Edge). not (is_minus (order a.from t.from))) es h t j);
  leftmost = λ t j. turn-out a t (or-out (not (same_point a.from t.from)) (is_minus (orient a.from a.to t.to)) (every-out (λ (t : Edge). not (same_point a.from t.from) || is_minus (orient a.from a.to t.to)) (others a es) k t j));
}

-- ---- the polygon
abbrev pub polygon : Polygon
polygon = record { outer = crescent_outline; inner = crescent_hole ∷ [] }

abbrev rings : List (List Edge)
rings = map segments_of crescents_outlined

abbrev first : Edge
first = edge_between low_tip left_corner

abbrev second : Edge
second = edge_between low_tip middle_corner

abbrev nearest : Edge
nearest = edge_between low_tip right_corner

of-one : (P : List Edge → Type 0) (r : List Edge) → P r → (t : List Edge) → In t (r ∷ []) → P t
of-one P r h t (inl e) = subst P (sym e) h
of-one P r h t (inr i) = absurd i

is-outer : IsOuterRing rings (segments_of crescent_outline)
is-outer = record { anchor = first; anchors = anchor-out first (segments_of crescent_outline) (inr (inl refl)) refl refl; down = refl }

second-anchor : IsAnchor second (segments_of crescent_hole)
second-anchor = anchor-out second (segments_of crescent_hole) (inr (inl refl)) refl refl

is-inner : IsInnerRing rings (segments_of crescent_hole)
is-inner = record { anchor = second; anchors = second-anchor; up = refl }

abbrev beyond : Edge → Bool
beyond f = not (is_right_above low_tip second f) || (same_edge f nearest || is_plus (order_above low_tip nearest f))

beyond-out : (f : Edge) → (not (is_right_above low_tip second f) ≡ true) ⊎ ((same_edge f nearest || is_plus (order_above low_tip nearest f)) ≡ true) → is_right_above low_tip second f ≡ true → (f ≡ nearest) ⊎ (is_plus (order_above low_tip nearest f) ≡ true)
beyond-out f (inl h) k = absurd (let g = ap not k in cc (sym h ∙ g))
beyond-out f (inr h) k = same-or (or-out (same_edge f nearest) (is_plus (order_above low_tip nearest f)) h)
  where
    same-or : (same_edge f nearest ≡ true) ⊎ (is_plus (order_above low_tip nearest f) ≡ true) → (f ≡ nearest) ⊎ (is_plus (order_above low_tip nearest f) ≡ true)
    same-or (inl e) = inl (same_edge-true f nearest e)
    same-or (inr r) = inr r

nearest-in : (k : List Edge) → In k rings → encloses k second ≡ true → (f : Edge) → In f k → is_right_above low_tip second f ≡ true → (f ≡ nearest) ⊎ (is_plus (order_above low_tip nearest f) ≡ true)
nearest-in k (inl e) c f j r = beyond-out f (or-out (not (is_right_above low_tip second f)) (same_edge f nearest || is_plus (order_above low_tip nearest f)) (every-out beyond (segments_of crescent_outline) refl f (subst (λ l. In f l) e j))) r
nearest-in k (inr (inl e)) c f j r = absurd (let g : encloses (segments_of crescent_hole) second ≡ false = refl in let h = ap (λ l. encloses l second) e in cc (sym c ∙ h ∙ g))
nearest-in k (inr (inr i)) c f j r = absurd i

directly : EnclosesDirectly rings (segments_of crescent_outline) (segments_of crescent_hole)
directly = record {
  outer = is-outer;
  anchor = second;
  anchors = second-anchor;
  around = refl;
  edge = nearest;
  belongs = inr (inr (inl refl));
  right = refl;
  nearest = λ k i o c f j r. nearest-in k i c f j r;
}

pub is-polygon : IsPolygon crescents_outlined polygon
is-polygon = record {
  member = inl refl;
  is_outer_ring = is-outer;
  inner_members = λ h i. inr i;
  are_inner_rings = of-one (λ h. IsInnerRing rings (segments_of h)) crescent_hole is-inner;
  enclosed = of-one (λ h. EnclosesDirectly rings (segments_of crescent_outline) (segments_of h)) crescent_hole directly;
  once = (All-nil (λ (k : List Edge). crescent_hole ≡ k → ⊥), tt);
}

-- ---- a point in each crescent, multiplied by 4
abbrev pub there : Vector
there = point_at 3 6

abbrev pub here : Vector
here = point_at 7 4

abbrev pub all : List Edge
all = scaled_edges (pos 4) (polygon_edges polygon)

off-out : (p : Vector) → every (is_off p) all ≡ true → All (IsOffEdge p) all
off-out p h = every-all (is_off p) (IsOffEdge p) (λ e k. k) all h

pub there-inside : IsInside all there
there-inside = record { off = off-out there refl; once = refl }

pub here-inside : IsInside all here
here-inside = record { off = off-out here refl; once = refl }

left-part : (x : Edge) → In x left_crescent → In x (polygon_edges polygon)
left-part x (inl e) = inl e
left-part x (inr (inl e)) = inr (inl e)
left-part x (inr (inr (inl e))) = inr (inr (inr (inr (inr (inl e)))))
left-part x (inr (inr (inr (inl e)))) = inr (inr (inr (inr (inr (inr (inl e))))))
left-part x (inr (inr (inr (inr i)))) = absurd i

pub apart : Joined all there here → ⊥
apart j =
    let xs = scaled_edges (pos 4) left_crescent in
    let w = joined-winds xs (balanced-scaled (pos 4) refl left_crescent (closed-balanced high_tip left_crescent (refl, (refl, (refl, (refl, refl)))))) there here (joined-part xs all (scaled-part (pos 4) left_crescent (polygon_edges polygon) left-part) there here j) in
    let a : winding_number east there xs ≡ pos 1 = refl in let b : winding_number east here xs ≡ pos 0 = refl in
    let c : pos 1 ≡ pos 0 = sym a ∙ w ∙ b in cc c
