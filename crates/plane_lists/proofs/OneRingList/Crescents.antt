-- Two crescents that share both tips: without the walks they are a ring list in two ways.
use Rattle.std.proofs.Common.{List, [], ap, arith, inl, inr, length, refl, subst, sym, ℕ, ◌*◌, ◌∙◌, ◌∷◌, ◌≡◌, ◌≤◌}
use Rattle.std.proofs.lemmas.List.Elements.{All-cons, All-nil}
use lib.IntN.{pos}
use Rattle.plane_lists.specs.Rings.Nesting.{edges_of}
use Rattle.plane_lists.specs.Rings.RingList.{AreUncrossed, IsRingList}
use Rattle.plane_lists.specs.Rings.Walk.{HasSameEdges}
use Rattle.plane.specs.Bit.{bit}
use Rattle.plane.specs.Edge.{Edge, same_edge}
use Rattle.plane.specs.Vector.{Vector}
use Rattle.plane_lists.specs.Lists.EdgeList.{IsEvenAtPoints}
use Rattle.lists.specs.Member.{EachPair, In}
use Rattle.plane_lists.specs.Lists.OddSide.{directed}
use Rattle.plane_lists.specs.Lists.Ring.{IsRing, segments_of}
use Rattle.plane_lists.specs.Lists.Sided.{IsSided}
use Rattle.plane_lists.specs.OneRingList.RingListOf.{AreSameRings}
use Rattle.plane_lists.proofs.NestingKit.{sided_same, rotated-total}
use Rattle.lists.proofs.ListsKit.{total, total-is}
use Rattle.plane_lists.proofs.WindingKit.{closed-balanced, directed_sided, sided-even}
use Rattle.plane_lists.proofs.OneRingList.ByComputing.{plain-out, ring-by, uncrossed-out}

-- ---- the crescents
abbrev pub point_at : ℕ → ℕ → Vector
point_at x y = record { x = pos x; y = pos y }

abbrev pub edge_between : Vector → Vector → Edge
edge_between p q = record { from = p; to = q }

abbrev pub low_tip : Vector
low_tip = point_at 1 0

abbrev pub high_tip : Vector
high_tip = point_at 2 2

abbrev pub left_corner : Vector
left_corner = point_at 0 2

abbrev pub middle_corner : Vector
middle_corner = point_at 1 1

abbrev pub right_corner : Vector
right_corner = point_at 2 1

abbrev pub left_crescent : List Edge
left_crescent = edge_between high_tip left_corner ∷ edge_between left_corner low_tip ∷ edge_between low_tip middle_corner ∷ edge_between middle_corner high_tip ∷ []

abbrev right_crescent : List Edge
right_crescent = edge_between high_tip low_tip ∷ edge_between low_tip right_corner ∷ edge_between right_corner high_tip ∷ []

-- their outline, and the hole between them
abbrev pub crescent_outline : List Edge
crescent_outline = edge_between high_tip left_corner ∷ edge_between left_corner low_tip ∷ edge_between low_tip right_corner ∷ edge_between right_corner high_tip ∷ []

abbrev pub crescent_hole : List Edge
crescent_hole = edge_between high_tip low_tip ∷ edge_between low_tip middle_corner ∷ edge_between middle_corner high_tip ∷ []

abbrev crescents : List (List Edge)
crescents = left_crescent ∷ right_crescent ∷ []

abbrev pub crescents_outlined : List (List Edge)
crescents_outlined = crescent_outline ∷ crescent_hole ∷ []

left-ring : IsRing left_crescent
left-ring = ring-by high_tip left_crescent (refl, (refl, (refl, (refl, refl)))) refl

right-ring : IsRing right_crescent
right-ring = ring-by high_tip right_crescent (refl, (refl, (refl, refl))) refl

outline-ring : IsRing crescent_outline
outline-ring = ring-by high_tip crescent_outline (refl, (refl, (refl, (refl, refl)))) refl

hole-ring : IsRing crescent_hole
hole-ring = ring-by high_tip crescent_hole (refl, (refl, (refl, refl))) refl

abbrev edges : List Edge
edges = edges_of crescents

-- the crescents one after the other are one closed path
edges-even : IsEvenAtPoints (segments_of edges)
edges-even = sided-even edges (closed-balanced high_tip edges (refl, (refl, (refl, (refl, (refl, (refl, (refl, refl))))))))

edges-directed : directed (segments_of edges) ≡ edges
edges-directed = refl

edges-sided : IsSided edges
edges-sided = subst IsSided edges-directed (directed_sided (segments_of edges) (plain-out (segments_of edges) refl refl) edges-even)

same-edges : HasSameEdges (edges_of crescents_outlined) edges
same-edges f =
    let a = total-is f (edges_of crescents_outlined) in let b = total-is f edges in
    let c : total f (edges_of crescents_outlined) ≡ total f edges = omega arith in sym a ∙ c ∙ b

of-two : (P : List Edge → Type 0) (r s : List Edge) → P r → P s → (t : List Edge) → In t (r ∷ s ∷ []) → P t
of-two P r s h k t (inl e) = subst P (sym e) h
of-two P r s h k t (inr (inl e)) = subst P (sym e) k
of-two P r s h k t (inr (inr i)) = absurd i

pair-free : (r s : List Edge) → AreUncrossed r s → EachPair AreUncrossed (r ∷ s ∷ [])
pair-free r s h = (All-cons (AreUncrossed r) s [] h (All-nil (AreUncrossed r)), (All-nil (AreUncrossed s), tt))

crescents-list : IsRingList crescents
crescents-list = record {
  ring = of-two IsRing left_crescent right_crescent left-ring right-ring;
  long = of-two (λ r. 3 ≤ length r) left_crescent right_crescent (omega arith) (omega arith);
  sided = edges-sided;
  free = pair-free left_crescent right_crescent (uncrossed-out (segments_of left_crescent) (segments_of right_crescent) refl, uncrossed-out (segments_of right_crescent) (segments_of left_crescent) refl);
}

pub outlined_ring_list : IsRingList crescents_outlined
outlined_ring_list = record {
  ring = of-two IsRing crescent_outline crescent_hole outline-ring hole-ring;
  long = of-two (λ r. 3 ≤ length r) crescent_outline crescent_hole (omega arith) (omega arith);
  sided = sided_same edges edges-sided (edges_of crescents_outlined) same-edges;
  free = pair-free crescent_outline crescent_hole (uncrossed-out (segments_of crescent_outline) (segments_of crescent_hole) refl, uncrossed-out (segments_of crescent_hole) (segments_of crescent_outline) refl);
}

-- how often a ring has an edge
abbrev times : Edge → List Edge → ℕ
times e r = total (λ (x : Edge). bit (same_edge e x)) r

abbrev weight : List Edge → ℕ
weight r = times (edge_between high_tip left_corner) r * times (edge_between low_tip middle_corner) r

not-same : AreSameRings crescents crescents_outlined → ⊥
not-same s =
    let t = s.rotated in let q = t.0 in
    let a : times (edge_between high_tip left_corner) q ≡ 1 = rotated-total (λ (x : Edge). bit (same_edge (edge_between high_tip left_corner) x)) left_crescent q t.3 in
    let b : times (edge_between low_tip middle_corner) q ≡ 1 = rotated-total (λ (x : Edge). bit (same_edge (edge_between low_tip middle_corner) x)) left_crescent q t.3 in
    let w : weight q ≡ 1 = ap (λ n. n * times (edge_between low_tip middle_corner) q) a ∙ ap (λ n. 1 * n) b in
    let m : total weight s.begun ≡ 0 = total-is weight s.begun ∙ s.moved weight in
    let c : total weight (q ∷ t.1) ≡ 0 = ap (total weight) (sym t.2) ∙ m in absurd (omega arith)

-- two ring lists with the same edges that aren't the same
pub two-lists : (rs : List (List Edge)) × (qs : List (List Edge)) × IsRingList rs × IsRingList qs × HasSameEdges (edges_of qs) (edges_of rs) × (AreSameRings rs qs → ⊥)
two-lists = (crescents, crescents_outlined, crescents-list, outlined_ring_list, same-edges, not-same)
