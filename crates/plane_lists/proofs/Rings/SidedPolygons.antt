-- A polygon of a ring list is a sided list.
use Rattle.std.proofs.Common.{Bool, List, [], ap, arith, false, inl, inr, map, refl, subst, sym, true, ◌∙◌, ◌∷◌, ◌≡◌, ◌⊎◌}
use Rattle.std.proofs.lemmas.List.Elements.{All-nil}
use lib.IntN.{pos, ℤ}
use Rattle.plane_lists.specs.Rings.Cover.{AreClear, covers}
use Rattle.plane_lists.specs.Rings.Nesting.{edges_of}
use Rattle.plane_lists.specs.Rings.Polygon.{IsPolygon, Polygon, polygon_edges}
use Rattle.plane_lists.specs.Rings.RingList.{IsRingList}
use Rattle.plane.specs.Bit.{bit}
use Rattle.plane.specs.Edge.{Edge, IsRisingEdge}
use Rattle.plane.specs.Vector.{Vector, east, one_at}
use Rattle.plane_lists.specs.Lists.ConflictFree.{IsConflictFree}
use Rattle.plane_lists.specs.Lists.EdgeList.{IsBalanced, winding_number}
use Rattle.lists.specs.Member.{EachPair, In}
use Rattle.plane_lists.specs.Lists.Ring.{IsRing, segments_of}
use Rattle.plane_lists.specs.Lists.ScaledEdges.{scaled_edges}
use Rattle.plane_lists.specs.Lists.Sided.{IsSided}
use Rattle.plane_lists.proofs.Rings.DirectEnclosure.{in-edges-out}
use Rattle.plane_lists.proofs.Rings.DirectRings.{clear-rings, inner-out, is_outer_by, outer-out, ring-plain, same_or_clear}
use Rattle.plane_lists.proofs.Rings.Nests.{total-edges}
use Rattle.plane_lists.proofs.Rings.RingLists.{edges-segments}
use Rattle.plane_lists.proofs.Rings.ScaledRings.{polygon_winds_at_fractions}
use Rattle.plane_lists.proofs.Rings.TwoLists.{plain-append}
use Rattle.lists.proofs.ListsKit.{all-in, in-all, in-map, in-map-out, pairs-weaker, total, total-is, total-same}
use Rattle.plane_lists.proofs.WindingKit.{path-ends}

plain-rings : (rs : List (List Edge)) → ((r : List Edge) → In r rs → IsConflictFree (segments_of r)) → EachPair clear-rings rs → IsConflictFree (edges_of (map segments_of rs))
plain-rings [] h p = record { rising = All-nil IsRisingEdge; clear = tt }
plain-rings (r ∷ rs) h p =
    plain-append (segments_of r) (edges_of (map segments_of rs)) (h r (inl refl)) (plain-rings rs (λ s i. h s (inr i)) p.1) (λ s t i j.
    let q = in-edges-out (map segments_of rs) t j in let k = in-map-out segments_of rs q.0 q.1 in
    in-all (clear-rings r) rs k.0 p.0 k.1 s t i (subst (λ (w : List Edge). In t w) k.2 q.2))

ring-balanced : (v : Vector) (r : List Edge) → IsRing r → total (λ (e : Edge). one_at v e.from) r ≡ total (λ (e : Edge). one_at v e.to) r
ring-balanced v r g = let a = path-ends v g.start g.start r g.path in omega arith

balanced-rings : (rs : List (List Edge)) → ((r : List Edge) → In r rs → IsRing r) → IsBalanced (edges_of rs)
balanced-rings rs h v =
    let f = λ (e : Edge). one_at v e.from in let t = λ (e : Edge). one_at v e.to in
    sym (total-is f (edges_of rs)) ∙ total-edges f rs ∙ total-same (λ (r : List Edge). total f r) (λ (r : List Edge). total t r) rs (λ r i. ring-balanced v r (h r i)) ∙ sym (total-edges t rs) ∙ total-is t (edges_of rs)

zero-or-one : (z : ℤ) (b : Bool) → z ≡ pos (bit b) → (z ≡ pos 0) ⊎ (z ≡ pos 1)
zero-or-one z true h = inr h
zero-or-one z false h = inl h

clear-by : (h k : List Edge) → (h ≡ k → ⊥) → (h ≡ k) ⊎ (AreClear (segments_of h) (segments_of k)) → clear-rings h k
clear-by h k n (inl e) = absurd (n e)
clear-by h k n (inr c) = c

module _ (rs : List (List Edge)) (l : IsRingList rs) (g : Polygon) (m : IsPolygon rs g) where
  ring-of : (r : List Edge) → In r (g.outer ∷ g.inner) → In r rs
  ring-of r (inl e) = subst (λ (w : List Edge). In w rs) (sym e) m.member
  ring-of r (inr i) = m.inner_members r i

  outer-differs : (h : List Edge) → In h g.inner → g.outer ≡ h → ⊥
  outer-differs h i e =
      let o = outer-out rs l (segments_of g.outer) (in-map segments_of rs g.outer m.member) m.is_outer_ring in
      let n = inner-out rs l (segments_of h) (in-map segments_of rs h (m.inner_members h i)) (m.are_inner_rings h i) in
      let q = ap (λ (r : List Edge). is_outer_by rs l (segments_of r)) e in cc (sym o ∙ q ∙ n)

  polygon-clear : EachPair clear-rings (g.outer ∷ g.inner)
  polygon-clear = (
    all-in (clear-rings g.outer) g.inner (λ h i. clear-by g.outer h (outer-differs h i) (same_or_clear rs l g.outer h m.member (m.inner_members h i))),
    pairs-weaker (λ (h k : List Edge). h ≡ k → ⊥) clear-rings g.inner (λ h k i j n. clear-by h k n (same_or_clear rs l h k (m.inner_members h i) (m.inner_members k j))) m.once,
  )

  pub polygon_sided : IsSided (polygon_edges g)
  polygon_sided = record {
    plain = subst IsConflictFree (edges-segments (g.outer ∷ g.inner)) (plain-rings (g.outer ∷ g.inner) (λ r i. ring-plain rs l r (ring-of r i)) polygon-clear);
    balanced = balanced-rings (g.outer ∷ g.inner) (λ r i. l.ring r (ring-of r i));
    counted = λ q hq p off. zero-or-one (winding_number east p (scaled_edges q (polygon_edges g))) (covers (scaled_edges q (polygon_edges g)) p) (polygon_winds_at_fractions q hq rs l p g m);
  }
