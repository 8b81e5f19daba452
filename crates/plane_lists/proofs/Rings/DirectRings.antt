-- Outer and inner rings and direct enclosure, from tests of them; and what the rings of a polygon cover.
use Rattle.std.proofs.Common.{Bool, List, [], ap, arith, false, inl, inr, map, not, subst, sym, true, ℕ, ◌&&◌, ◌+◌, ◌∙◌, ◌∷◌, ◌≡◌, ◌≤◌, ◌⊎◌}
use Rattle.std.specs.List.{count_by, filter}
use borrow.Author.Differences.{ints}
use lib.IntN.{pos}
use Rattle.plane_lists.specs.Rings.Cover.{AreClear, covers}
use Rattle.plane_lists.specs.Rings.Nesting.{EnclosesDirectly, IsInnerRing, IsNest, IsNextLeft, IsOuterRing, TellsOuterRings, edges_of, encloses, is_outer}
use Rattle.plane_lists.specs.Rings.Polygon.{IsPolygon, Polygon, polygon_edges}
use Rattle.plane_lists.specs.Rings.RingList.{IsRingList}
use Rattle.plane_lists.specs.Rings.Walk.{HasSameEdges}
use Rattle.plane.specs.Bit.{bit}
use Rattle.plane.specs.Edge.{Edge}
use Rattle.plane.specs.Vector.{Vector, east, from_to}
use Rattle.plane_lists.specs.Lists.ConflictFree.{IsConflictFree}
use Rattle.plane_lists.specs.Lists.EdgeList.{crossing_count, down_count, up_count, winding_number}
use Rattle.lists.specs.Member.{EachPair, In}
use Rattle.plane_lists.specs.Lists.Ring.{IsAnchor, segments_of}
use Rattle.plane_lists.proofs.Rings.DirectEnclosure.{at-most, clear-pairs, direct_exists, direct_once, in-edges-out, siblings}
use Rattle.plane_lists.proofs.Rings.EnclosingSums.{enclosing_sums}
use Rattle.plane_lists.proofs.Rings.LeftNeighbours.{inner_neighbour, outer_neighbour}
use Rattle.plane_lists.proofs.Rings.Nests.{in-edges, odd-bit, plain-part, total-edges}
use Rattle.plane_lists.proofs.Rings.OuterTests.{HasAnchors, IsDirectBy}
use Rattle.plane_lists.proofs.Rings.RingLists.{nest-plain, pairs-of, ring_anchor, ring_list_nest}
use Rattle.plane_lists.proofs.Rings.TwoLists.{clear-reversed}
use Rattle.plane_lists.proofs.Rings.WoundRings.{area-sum}
use Rattle.std.proofs.lemmas.Bool.{and_from, false_from_ne_true}
use Rattle.lists.proofs.ListsKit.{all-in, and-left, and-right, in-all, in-filter, in-map, in-map-out, in-passes, into-filter, pairs-weaker, total, total-+, total-is, total-map, total-same}
use Rattle.plane.proofs.PlaneKit.{self_conflicts, down_seen, up_seen}
use Rattle.plane_lists.proofs.WindingKit.{anchor_one, leftmost_anchor, leftmost_of, rising_in, count-is}

abbrev pub outer_test : List (List Edge) → List Edge → Bool
outer_test gs [] = false
outer_test gs (x ∷ xs) = is_outer gs (leftmost_of x xs)

tells-by : (gs : List (List Edge)) (g : List Edge) → IsConflictFree g → (a : Edge) → IsAnchor a g → outer_test gs g ≡ is_outer gs a
tells-by gs [] p a h = absurd h.member
tells-by gs (x ∷ xs) p a h = ap (is_outer gs) (anchor_one (leftmost_of x xs) a (x ∷ xs) p (leftmost_anchor x xs p) h)

pub outer_test_tells : (gs : List (List Edge)) → IsConflictFree (edges_of gs) → TellsOuterRings gs (outer_test gs)
outer_test_tells gs p g i a h = tells-by gs g (plain-part gs g p i) a h

pub pairs-unmap : {X Y : Type 0} (f : X → Y) (R : Y → Y → Type 0) (xs : List X) → EachPair R (map f xs) → EachPair (λ x y. R (f x) (f y)) xs
pairs-unmap f R [] h = tt
pairs-unmap f R (x ∷ xs) h = (all-in (λ y. R (f x) (f y)) xs (λ y i. in-all (R (f x)) (map f xs) (f y) h.0 (in-map f xs y i)), pairs-unmap f R xs h.1)

abbrev pub clear-rings : List Edge → List Edge → Type 0
clear-rings r s = AreClear (segments_of r) (segments_of s)

either-clear : (r s : List Edge) → (r ≡ s) ⊎ (clear-rings r s ⊎ clear-rings s r) → (r ≡ s) ⊎ (clear-rings r s)
either-clear r s (inl e) = inl e
either-clear r s (inr (inl c)) = inr c
either-clear r s (inr (inr c)) = inr (clear-reversed (segments_of s) (segments_of r) c)

module _ (rs : List (List Edge)) (l : IsRingList rs) where
  abbrev pub rings : List (List Edge)
  rings = map segments_of rs

  abbrev pub is_outer_by : List Edge → Bool
  is_outer_by g = outer_test rings g

  pub rings-nest : IsNest rings
  rings-nest = ring_list_nest rs l

  pub rings-tell : TellsOuterRings rings is_outer_by
  rings-tell = outer_test_tells rings (nest-plain rs l)

  pub rings-anchors : HasAnchors rings
  rings-anchors = ring_anchor rs l

  pub outer-out : (g : List Edge) → In g rings → IsOuterRing rings g → is_outer_by g ≡ true
  outer-out g i o = rings-tell g i o.anchor o.anchors ∙ o.down

  pub inner-out : (h : List Edge) → In h rings → IsInnerRing rings h → is_outer_by h ≡ false
  inner-out h i o = rings-tell h i o.anchor o.anchors ∙ o.up

  pub outer-in : (g : List Edge) → In g rings → is_outer_by g ≡ true → IsOuterRing rings g
  outer-in g i o = let a = rings-anchors g i in record { anchor = a.0; anchors = a.1; down = sym (rings-tell g i a.0 a.1) ∙ o }

  abbrev chosen : Edge → List Edge → Bool
  chosen e k = is_outer_by k && encloses k e

  pub direct-by : (g h : List Edge) → In g rings → In h rings → (d : EnclosesDirectly rings g h) → IsDirectBy rings is_outer_by g d.anchor
  direct-by g h i j d = record {
    member = i;
    is = outer-out g i d.outer;
    around = d.around;
    edge = d.edge;
    here = d.belongs;
    nearest = record {
      member = in-edges (filter (chosen d.anchor) rings) g d.edge (into-filter (chosen d.anchor) rings g i (and_from (is_outer_by g) (encloses g d.anchor) (outer-out g i d.outer) d.around)) d.belongs;
      right = d.right;
      first = λ f m b.
          let r = in-edges-out (filter (chosen d.anchor) rings) f m in
          let ir = in-filter (chosen d.anchor) rings r.0 r.1 in let t = in-passes (chosen d.anchor) rings r.0 r.1 in
          d.nearest r.0 ir (outer-in r.0 ir (and-left (is_outer_by r.0) (encloses r.0 d.anchor) t)) (and-right (is_outer_by r.0) (encloses r.0 d.anchor) t) f r.2 b;
    };
  }

  direct-of : (g h : List Edge) (e : Edge) → IsAnchor e h → IsDirectBy rings is_outer_by g e → EnclosesDirectly rings g h
  direct-of g h e a d = record {
    outer = outer-in g d.member d.is;
    anchor = e;
    anchors = a;
    around = d.around;
    edge = d.edge;
    belongs = d.here;
    right = d.nearest.right;
    nearest = λ k i o c f m b.
        d.nearest.first f (in-edges (filter (chosen e) rings) k f (into-filter (chosen e) rings k i (and_from (is_outer_by k) (encloses k e) (outer-out k i o) c)) m) b;
  }

  -- two rings are one, or clear of each other
  pub same_or_clear : (r s : List Edge) → In r rs → In s rs → (r ≡ s) ⊎ (AreClear (segments_of r) (segments_of s))
  same_or_clear r s i j =
      either-clear r s (pairs-of clear-rings rs r s (pairs-unmap segments_of AreClear rs (clear-pairs rings (nest-plain rs l))) i j)

  pub ring-plain : (r : List Edge) → In r rs → IsConflictFree (segments_of r)
  ring-plain r i = plain-part rings (segments_of r) (nest-plain rs l) (in-map segments_of rs r i)

  pub one-ring-by : (r s : List Edge) → In r rs → segments_of r ≡ segments_of s → (r ≡ s) ⊎ (AreClear (segments_of r) (segments_of s)) → r ≡ s
  one-ring-by r s i q (inl e) = e
  one-ring-by r s i q (inr c) =
      let a = rings-anchors (segments_of r) (in-map segments_of rs r i) in let e = a.0 in
      let n = c e e a.1.member (subst (λ (g : List Edge). In e g) q a.1.member) in
      let k = self_conflicts e (rising_in (segments_of r) e (ring-plain r i) a.1.member) in absurd (cc (sym k ∙ n))

  pub encloser_exists : (h : List Edge) → In h rs → IsInnerRing rings (segments_of h) → (r : List Edge) × In r rs × EnclosesDirectly rings (segments_of r) (segments_of h)
  encloser_exists h i o =
      let j = in-map segments_of rs h i in
      let d = direct_exists rings rings-nest is_outer_by rings-tell rings-anchors (segments_of h) j o.anchor o.anchors (inner-out (segments_of h) j o) in
      let r = in-map-out segments_of rs d.0 d.1.member in
      (r.0, r.1, subst (λ (g : List Edge). EnclosesDirectly rings g (segments_of h)) r.2 (direct-of d.0 (segments_of h) o.anchor o.anchors d.1))

  pub encloser_one : (h r s : List Edge) → In h rs → In r rs → In s rs → IsInnerRing rings (segments_of h) → EnclosesDirectly rings (segments_of r) (segments_of h) → EnclosesDirectly rings (segments_of s) (segments_of h) → r ≡ s
  encloser_one h r s i ir is o d c =
      let j = in-map segments_of rs h i in let jr = in-map segments_of rs r ir in let js = in-map segments_of rs s is in
      let q = anchor_one c.anchor d.anchor (segments_of h) (ring-plain h i) c.anchors d.anchors in
      one-ring-by r s ir
      (direct_once rings rings-nest is_outer_by rings-tell rings-anchors (segments_of h) j d.anchor d.anchors (inner-out (segments_of h) j o) (segments_of r) (segments_of s)
      (direct-by (segments_of r) (segments_of h) jr j d)
      (subst (λ e. IsDirectBy rings is_outer_by (segments_of s) e) q (direct-by (segments_of s) (segments_of h) js j c)))
      (same_or_clear r s ir is)

  pub left_neighbour_encloses : (h q : List Edge) → In h rs → In q rs → IsInnerRing rings (segments_of h) → IsOuterRing rings (segments_of q) → (a e : Edge) → IsAnchor a (segments_of h) → In e (segments_of q) →
      IsNextLeft a e (edges_of rings) → EnclosesDirectly rings (segments_of q) (segments_of h)
  left_neighbour_encloses h q i k o u a e aa ie next =
      let j = in-map segments_of rs h i in let l = in-map segments_of rs q k in
      direct-of (segments_of q) (segments_of h) a aa
      (outer_neighbour rings rings-nest is_outer_by rings-tell rings-anchors (segments_of h) j a aa (inner-out (segments_of h) j o) (segments_of q) l e ie next.spans next.right next.nearest (outer-out (segments_of q) l u))

  pub left_neighbour_alike : (h q r : List Edge) → In h rs → In q rs → In r rs → IsInnerRing rings (segments_of h) → IsInnerRing rings (segments_of q) → (a e : Edge) → IsAnchor a (segments_of h) → In e (segments_of q) →
      IsNextLeft a e (edges_of rings) → EnclosesDirectly rings (segments_of r) (segments_of q) → EnclosesDirectly rings (segments_of r) (segments_of h)
  left_neighbour_alike h q r i k m o u a e aa ie next d =
      let j = in-map segments_of rs h i in let l = in-map segments_of rs q k in
      direct-of (segments_of r) (segments_of h) a aa
      (inner_neighbour rings rings-nest is_outer_by rings-tell rings-anchors (segments_of h) j a aa (inner-out (segments_of h) j o) (segments_of q) l e ie next.spans next.right next.nearest (inner-out (segments_of q) l u)
      d.anchor d.anchors (segments_of r) (direct-by (segments_of r) (segments_of q) (in-map segments_of rs r m) l d))

  pub ring_has_anchor : (r : List Edge) → In r rs → (a : Edge) × IsAnchor a (segments_of r) × ((b : Edge) → IsAnchor b (segments_of r) → b ≡ a)
  ring_has_anchor r i = let a = rings-anchors (segments_of r) (in-map segments_of rs r i) in (a.0, a.1, λ b h. anchor_one b a.0 (segments_of r) (ring-plain r i) h a.1)

  pub enclosing_rings_balance : (outer : List Edge → Bool) → TellsOuterRings rings outer → (h : List Edge) → In h rs → (e : Edge) → IsAnchor e (segments_of h) →
      count_by (λ (g : List Edge). encloses g e && outer g) rings ≡ count_by (λ (g : List Edge). encloses g e && not (outer g)) rings + bit (not (outer (segments_of h)))
  enclosing_rings_balance outer t h i e a = enclosing_sums rings rings-nest outer t rings-anchors (segments_of h) (in-map segments_of rs h i) e a

  -- ---- what the rings of a polygon cover, where `c g` tells whether the ring g covers a point
  module _ (c : List Edge → Bool)
      (within : (g h : List Edge) → In g rings → In h rings → (e : Edge) → In e h → encloses g e ≡ true → c h ≡ true → c g ≡ true)
      (apart : (h k : List Edge) → In h rings → In k rings → AreClear h k → (e f : Edge) → In e h → In f k → encloses k e ≡ false → encloses h f ≡ false → c h ≡ true → c k ≡ true → ⊥)
      (g : Polygon) (m : IsPolygon rs g) where
    inner-in : (h : List Edge) → In h g.inner → In (segments_of h) rings
    inner-in h i = in-map segments_of rs h (m.inner_members h i)

    outer-member : In (segments_of g.outer) rings
    outer-member = in-map segments_of rs g.outer m.member

    inner-apart-by : (h k : List Edge) → In h g.inner → In k g.inner → (h ≡ k → ⊥) → (h ≡ k) ⊎ (AreClear (segments_of h) (segments_of k)) → c (segments_of h) ≡ true → c (segments_of k) ≡ true → ⊥
    inner-apart-by h k i j ne (inl e) x y = ne e
    inner-apart-by h k i j ne (inr cl) x y =
        let ih = inner-in h i in let ik = inner-in k j in let d = m.enclosed h i in let b = m.enclosed k j in
        let oh = inner-out (segments_of h) ih (m.are_inner_rings h i) in let ok = inner-out (segments_of k) ik (m.are_inner_rings k j) in
        let dh = direct-by (segments_of g.outer) (segments_of h) outer-member ih d in let dk = direct-by (segments_of g.outer) (segments_of k) outer-member ik b in
        apart (segments_of h) (segments_of k) ih ik cl d.anchor b.anchor d.anchors.member b.anchors.member
        (false_from_ne_true (encloses (segments_of k) d.anchor)
        (λ z. siblings rings rings-nest is_outer_by rings-tell rings-anchors (segments_of g.outer) (segments_of h) (segments_of k) ih ik d.anchor b.anchor d.anchors b.anchors oh ok dh dk z))
        (false_from_ne_true (encloses (segments_of h) b.anchor)
        (λ z. siblings rings rings-nest is_outer_by rings-tell rings-anchors (segments_of g.outer) (segments_of k) (segments_of h) ik ih b.anchor d.anchor b.anchors d.anchors ok oh dk dh z)) x y

    -- at most one inner ring covers the point, and only where the outer ring does
    pub inner_count : total (λ (h : List Edge). bit (c (segments_of h))) g.inner ≤ bit (c (segments_of g.outer))
    inner_count =
        at-most (λ (h : List Edge). c (segments_of h)) (c (segments_of g.outer)) g.inner
        (λ h i o. let d = m.enclosed h i in within (segments_of g.outer) (segments_of h) outer-member (inner-in h i) d.anchor d.anchors.member d.around o)
        (pairs-weaker (λ (h k : List Edge). h ≡ k → ⊥) (λ (h k : List Edge). c (segments_of h) ≡ true → c (segments_of k) ≡ true → ⊥) g.inner
        (λ h k i j ne x y. inner-apart-by h k i j ne (same_or_clear h k (m.inner_members h i) (m.inner_members k j)) x y) m.once)

    -- where rings that cover the point count 1, counterclockwise if they are outer
    pub polygon_sum : (U D : Edge → ℕ) → ((r : List Edge) → In r rs → is_outer_by (segments_of r) ≡ true → total U r ≡ total D r + bit (c (segments_of r))) →
        ((r : List Edge) → In r rs → is_outer_by (segments_of r) ≡ false → total U r + bit (c (segments_of r)) ≡ total D r) → (w : ℕ) × (w ≤ 1) × (total U (polygon_edges g) ≡ total D (polygon_edges g) + w)
    polygon_sum U D out inn =
        area-sum U D (λ r. c (segments_of r)) g.outer g.inner (out g.outer m.member (outer-out (segments_of g.outer) outer-member m.is_outer_ring))
        (λ h i. inn h (m.inner_members h i) (inner-out (segments_of h) (inner-in h i) (m.are_inner_rings h i))) inner_count

-- ---- counts of crossings, from sums
pub winds_by : (p : Vector) (es : List Edge) (w : ℕ) → w ≤ 1 → total (up_seen east (from_to p)) es ≡ total (down_seen east (from_to p)) es + w → (winding_number east p es ≡ pos (bit (covers es p))) × (w ≡ bit (covers es p))
winds_by p es w h e =
    let a = total-is (up_seen east (from_to p)) es in let b = total-is (down_seen east (from_to p)) es in
    let n = count-is east (from_to p) es in
    let o = odd-bit (crossing_count east p es) in
    let x : w ≡ bit (covers es p) = omega arith in
    let u : up_count east p es ≡ down_count east p es + bit (covers es p) = omega arith in
    (omega (arith, ints), x)

total-by : (U D : Edge → ℕ) (c : Polygon → Bool) (gs : List Polygon) → ((g : Polygon) → In g gs → total U (polygon_edges g) ≡ total D (polygon_edges g) + bit (c g)) →
    total U (edges_of (map polygon_edges gs)) ≡ total D (edges_of (map polygon_edges gs)) + total (λ (g : Polygon). bit (c g)) gs
total-by U D c gs h =
    let a = total-same (λ (g : Polygon). total U (polygon_edges g)) (λ (g : Polygon). total D (polygon_edges g) + bit (c g)) gs h in
    let b = total-+ (λ (g : Polygon). total D (polygon_edges g)) (λ (g : Polygon). bit (c g)) gs in
    let u = total-edges U (map polygon_edges gs) in let d = total-edges D (map polygon_edges gs) in
    let m = total-map (λ (e : List Edge). total U e) polygon_edges gs in let n = total-map (λ (e : List Edge). total D e) polygon_edges gs in
    omega arith

-- the polygons that count, where all rings together count w
pub polygons_count : (rs : List (List Edge)) (U D : Edge → ℕ) (c : Polygon → Bool) (gs : List Polygon) (w : ℕ) → HasSameEdges (edges_of (map polygon_edges gs)) (edges_of rs) →
    ((g : Polygon) → In g gs → total U (polygon_edges g) ≡ total D (polygon_edges g) + bit (c g)) → total U (edges_of rs) ≡ total D (edges_of rs) + w → count_by c gs ≡ w
polygons_count rs U D c gs w s h e =
    let a = total-by U D c gs h in
    let u = total-is U (edges_of (map polygon_edges gs)) in let d = total-is D (edges_of (map polygon_edges gs)) in
    let x = s U in let y = s D in let k = total-is U (edges_of rs) in let m = total-is D (edges_of rs) in
    let t = total-is (λ (g : Polygon). bit (c g)) gs in
    omega arith
