-- How often outer and inner rings go round a point, and sums of them.
use Rattle.std.proofs.Common.{Bool, List, [], ap, arith, cond, false, inl, inr, map, not, refl, subst, sym, true, ℕ, ◌%◌, ◌++◌, ◌+◌, ◌-◌, ◌∙◌, ◌∷◌, ◌≡◌, ◌≤◌}
use borrow.Author.Differences.{ints}
use lib.IntN.{pos, ◌-ℤ◌}
use Rattle.plane_lists.specs.Rings.Cover.{covers}
use Rattle.plane_lists.specs.Rings.Nesting.{TellsOuterRings, edges_of}
use Rattle.plane_lists.specs.Rings.RingList.{IsRingList}
use Rattle.plane.specs.Bit.{bit}
use Rattle.plane.specs.Edge.{Edge, segment_of}
use Rattle.plane.specs.Order.{order}
use Rattle.plane.specs.Sign.{is_plus}
use Rattle.plane.specs.Vector.{Vector, east, from_to}
use Rattle.plane_lists.specs.Lists.EdgeList.{crossing_count, down_count, up_count, winding_number}
use Rattle.lists.specs.Member.{In}
use Rattle.plane_lists.specs.Lists.OddSide.{directed_edge}
use Rattle.plane_lists.specs.Lists.Parity.{is_even}
use Rattle.plane_lists.specs.Lists.Ring.{IsAnchor, segments_of}
use Rattle.plane_lists.proofs.Rings.Nests.{in-edges, odd-bit, plain-part, total-edges}
use Rattle.plane_lists.proofs.Rings.OuterTests.{HasAnchors}
use Rattle.plane_lists.proofs.Rings.RingLists.{nest-plain, outer_down}
use Rattle.plane.proofs.PlaneKit.{down_seen, up_seen}
use Rattle.plane_lists.proofs.WindingKit.{ring_by_anchor, segments-crossings}
use Rattle.lists.proofs.ListsKit.{in-map, in-map-out, total, total-+, total-++, total-is, total-same}

small : (b : Bool) → bit b ≤ 1
small true = omega arith
small false = omega arith

-- a sum over a polygon: its outer ring r0, and inner rings at most one of which counts, and only where the outer one does
pub area-sum : (U D : Edge → ℕ) (c : List Edge → Bool) (r0 : List Edge) (inner : List (List Edge)) → total U r0 ≡ total D r0 + bit (c r0) → ((r : List Edge) → In r inner → total U r + bit (c r) ≡ total D r) →
    total (λ r. bit (c r)) inner ≤ bit (c r0) → (w : ℕ) × (w ≤ 1) × (total U (r0 ++ edges_of inner) ≡ total D (r0 ++ edges_of inner) + w)
area-sum U D c r0 inner o h le =
    let s = sym (total-+ (λ r. total U r) (λ r. bit (c r)) inner) ∙ total-same (λ r. total U r + bit (c r)) (λ r. total D r) inner h in
    let b = small (c r0) in
    let u2 = total-++ U r0 (edges_of inner) in let u3 = total-edges U inner in
    let d2 = total-++ D r0 (edges_of inner) in let d3 = total-edges D inner in
    let x = bit (c r0) in let y = total (λ r. bit (c r)) inner in
    (x - y, omega arith, omega arith)

module _ (rs : List (List Edge)) (l : IsRingList rs) (outer : List Edge → Bool) (tells : TellsOuterRings (map segments_of rs) outer) (anchors : HasAnchors (map segments_of rs)) (p : Vector) where
  abbrev pub ups' : List Edge → ℕ
  ups' r = total (up_seen east (from_to p)) r

  abbrev pub downs' : List Edge → ℕ
  downs' r = total (down_seen east (from_to p)) r

  covers-is : (r : List Edge) → crossing_count east p r % 2 ≡ bit (covers (segments_of r) p)
  covers-is r = odd-bit (crossing_count east p r) ∙ ap (λ n. bit (not (is_even n))) (sym (segments-crossings east p r))

  -- the anchor of a ring as an edge of it
  pub own-anchor : (r : List Edge) → In r rs → (e : Edge) × In e r × IsAnchor (segment_of e) (segments_of r)
  own-anchor r i =
      let a = anchors (segments_of r) (in-map segments_of rs r i) in let e = in-map-out segment_of r a.0 a.1.member in
      (e.0, e.1, subst (λ s. IsAnchor s (segments_of r)) e.2 a.1)

  pub down-is : (r : List Edge) → (i : In r rs) → outer (segments_of r) ≡ not (is_plus (order (own-anchor r i).0.from (own-anchor r i).0.to))
  down-is r i =
      let a = own-anchor r i in
      tells (segments_of r) (in-map segments_of rs r i) (segment_of a.0) a.2 ∙ outer_down rs l a.0 (in-edges rs r a.0 i a.1)

  pub not-back : (b c : Bool) → b ≡ not c → c ≡ not b
  not-back true true h = absurd (cc h)
  not-back true false h = refl
  not-back false true h = refl
  not-back false false h = absurd (cc h)

  wound : (r : List Edge) → (i : In r rs) → winding_number east p r ≡ cond (not (outer (segments_of r))) (pos 0 -ℤ pos (crossing_count east p r % 2)) (pos (crossing_count east p r % 2))
  wound r i =
      let a = own-anchor r i in
      ring_by_anchor a.0 r (l.ring r i) (plain-part (map segments_of rs) (segments_of r) (nest-plain rs l) (in-map segments_of rs r i)) a.1 a.2 p
      ∙ ap (λ b. cond b (pos 0 -ℤ pos (crossing_count east p r % 2)) (pos (crossing_count east p r % 2))) (not-back (outer (segments_of r)) (is_plus (order a.0.from a.0.to)) (down-is r i))

  pub out-count : (r : List Edge) → In r rs → outer (segments_of r) ≡ true → ups' r ≡ downs' r + bit (covers (segments_of r) p)
  out-count r i o =
      let w = wound r i ∙ ap (λ b. cond (not b) (pos 0 -ℤ pos (crossing_count east p r % 2)) (pos (crossing_count east p r % 2))) o in
      let a = total-is (up_seen east (from_to p)) r in let b = total-is (down_seen east (from_to p)) r in let c = covers-is r in
      let n : up_count east p r ≡ down_count east p r + crossing_count east p r % 2 = omega (arith, ints) in omega arith

  pub in-count : (r : List Edge) → In r rs → outer (segments_of r) ≡ false → ups' r + bit (covers (segments_of r) p) ≡ downs' r
  in-count r i o =
      let w = wound r i ∙ ap (λ b. cond (not b) (pos 0 -ℤ pos (crossing_count east p r % 2)) (pos (crossing_count east p r % 2))) o in
      let a = total-is (up_seen east (from_to p)) r in let b = total-is (down_seen east (from_to p)) r in let c = covers-is r in
      let n : up_count east p r + crossing_count east p r % 2 ≡ down_count east p r = omega (arith, ints) in omega arith

pub fold-direct : (us es : List Edge) → ((e : Edge) → In e es → directed_edge us (segment_of e) ≡ e) → map (directed_edge us) (map segment_of es) ≡ es
fold-direct us [] h = refl
fold-direct us (x ∷ xs) h = ap (λ y. y ∷ map (directed_edge us) (map segment_of xs)) (h x (inl refl)) ∙ ap (λ l. x ∷ l) (fold-direct us xs (λ e i. h e (inr i)))
