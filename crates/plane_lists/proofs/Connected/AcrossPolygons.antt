-- An edge and the nearest edge on its left are of one polygon; so edges are linked where one polygon has both.
use Rattle.std.proofs.Common.{Bool, List, ap, arith, false, inl, inr, not, refl, subst, sym, true, ◌&&◌, ◌∙◌, ◌≡◌, ◌⊎◌}
use Rattle.std.proofs.lemmas.Bool.{and_from, false_from_ne_true}
use Rattle.plane_lists.specs.Rings.Cover.{covers_edge}
use Rattle.plane_lists.specs.Rings.Nesting.{IsNextLeft}
use Rattle.plane_lists.specs.Rings.Polygon.{ArePolygonsOfRings, Polygon, polygon_edges}
use Rattle.plane_lists.specs.Rings.Walk.{IsSuccessor}
use Rattle.plane.specs.Bit.{bit}
use Rattle.plane.specs.Edge.{Edge, IsRisingEdge, same_edge, segment_of}
use Rattle.plane.specs.Height.{is_in_span, is_right_above}
use Rattle.plane.specs.Vector.{Vector}
use Rattle.lists.specs.Member.{In}
use Rattle.plane_lists.specs.Lists.ConflictFree.{IsConflictFree, others}
use Rattle.plane_lists.specs.Lists.EdgeList.{IsEvenAtPoints}
use Rattle.plane_lists.specs.Lists.OddSide.{runs_up_by_odd_side}
use Rattle.plane_lists.specs.Lists.Parity.{is_even}
use Rattle.plane_lists.specs.Lists.Ring.{segments_of}
use Rattle.plane_lists.specs.Lists.Sided.{IsSided}
use Rattle.plane_lists.specs.Connected.Linked.{IsAcross, Linked}
use Rattle.plane_lists.specs.Connected.Linked.Linked.{Back, Crosses, Follows, Itself, Through}
use Rattle.plane_lists.specs.OneRingList.RingListOf.{IsRingListOf}
use Rattle.lists.proofs.ListsKit.{and-left, and-right, clash, in-filter, in-map, in-map-out, in-passes, not-not, not-true-out, total, total-same}
use Rattle.plane_lists.proofs.NestingKit.{IsClearOfAll, beside, beyond-right, beyond-span, bit-both, clear-two, rise, runs_up_as, segment-one}
use Rattle.plane_lists.proofs.OneRingListKit.{clear-of, decide, next-within, walk-of}
use Rattle.plane.proofs.PlaneKit.{right_chain, right_either, right_itself, right_of, same_edge-refl, same_edge-true}
use Rattle.plane_lists.proofs.WindingKit.{odd-is, right_apart, sided-even, spanning_runs, split_off, to_right}
use Rattle.plane_lists.proofs.Connected.LinkedEdges.{across_there, up-segment}
use Rattle.plane_lists.proofs.Connected.LinkedPolygons.{polygon_linked}
use Rattle.plane_lists.proofs.Connected.NextLeft.{even-out}
use Rattle.plane_lists.proofs.Connected.OneOuterRing.{holds, not-each-by, share, uncrossed}
use Rattle.plane_lists.proofs.Connected.WholeWalks.{in-polygon, same-polygon, sided, sub, successor_in, successor_of, whole_walks}

-- ---- a part of a sided list that has one of two neighbours covers the other
-- m and a are neighbours at the height where a begins; the list xs has no edge between
module _ (a m : Edge) (xs : List Edge) (pl : IsConflictFree xs) (even : IsEvenAtPoints xs) (sa : is_in_span a.from a ≡ true) (sm : is_in_span a.from m ≡ true) (ma : right_of a.from m a ≡ true)
    (none : (t : Edge) → In t xs → is_right_above a.from m t ≡ true → (t ≡ a) ⊎ (right_of a.from a t ≡ true)) where
  abbrev p : Vector
  p = a.from

  beside-same : (t : Edge) → In t xs → same_edge a t ≡ false → to_right p m t ≡ to_right p a t
  beside-same t i n =
      bit-both (is_right_above p m t) (is_right_above p a t)
      (λ k. and_from (is_in_span p t) (right_of p a t) (beyond-span p m t k) (right-by (none t i k)))
      (λ k. and_from (is_in_span p t) (right_of p m t) (beyond-span p a t k) (right_chain p m a t sm sa (beyond-span p a t k) ma (beyond-right p a t k)))
    where
      right-by : (t ≡ a) ⊎ (right_of p a t ≡ true) → right_of p a t ≡ true
      right-by (inl e) = absurd (clash (same_edge a a) (same_edge-refl a) (sym (ap (same_edge a) e) ∙ n))
      right-by (inr h) = h

  -- it has a, which runs up
  pub covers-left : In a xs → runs_up_by_odd_side xs a ≡ true → IsRisingEdge m → IsClearOfAll m xs → covers_edge xs m ≡ true
  covers-left i up rm c =
      let s = split_off (to_right p m) a xs pl i in
      let one : to_right p m a ≡ 1 = ap bit (and_from (is_in_span p a) (right_of p m a) sa ma) in
      let w = total-same (to_right p m) (to_right p a) (others a xs) (λ t j.
      beside-same t (in-filter (λ (t : Edge). not (same_edge a t)) xs t j) (not-true-out (same_edge a t) (in-passes (λ (t : Edge). not (same_edge a t)) xs t j))) in
      let r = even-out (total (to_right p a) (others a xs)) (sym (spanning_runs p a xs pl even i sa) ∙ up) in
      sym (not-not (covers_edge xs m)) ∙ ap not (sym (beside p m xs rm pl even c sm) ∙ odd-is (total (to_right p m) xs) (omega arith))

  -- it has m, which runs down
  pub covers-right : In m xs → runs_up_by_odd_side xs m ≡ false → (In a xs → ⊥) → IsRisingEdge a → IsClearOfAll a xs → covers_edge xs a ≡ true
  covers-right i down n ra c =
      let s = split_off (to_right p m) m xs pl i in
      let zero : to_right p m m ≡ 0 = ap bit (own (is_in_span p m) (right_of p m m) (right_itself p m)) in
      let w = total-same (to_right p m) (to_right p a) xs (λ t j. beside-same t j (false_from_ne_true (same_edge a t) (λ h. n (subst (λ z. In z xs) (sym (same_edge-true a t h)) j)))) in
      let r = sym (spanning_runs p m xs pl even i sm) ∙ down in
      let e : total (to_right p a) xs ≡ total (to_right p m) (others m xs) = omega arith in
      sym (not-not (covers_edge xs a)) ∙ ap not (sym (beside p a xs ra pl even c sa) ∙ ap is_even e ∙ r)
    where
      own : (x y : Bool) → y ≡ false → (x && y) ≡ false
      own true y h = h
      own false y h = refl

module _ (es : List Edge) (sd : IsSided es) (rs : List (List Edge)) (l : IsRingListOf es rs) (gs : List Polygon) (k : ArePolygonsOfRings rs gs) where
  module _ (e f : Edge) (c : IsAcross es e f) where
    abbrev n : IsNextLeft e (segment_of f) (segments_of es)
    n = c.next

    se : is_in_span e.from e ≡ true
    se = and-left (is_in_span e.from e) (right_of e.from (segment_of f) e) n.right

    fe : right_of e.from (segment_of f) e ≡ true
    fe = and-right (is_in_span e.from e) (right_of e.from (segment_of f) e) n.right

    none-in : (g : Polygon) → In g gs → (t : Edge) → In t (segments_of (polygon_edges g)) → is_right_above e.from (segment_of f) t ≡ true → (t ≡ e) ⊎ (right_of e.from e t ≡ true)
    none-in g i t j h =
        let x = in-map-out segment_of (polygon_edges g) t j in
        n.nearest t (subst (λ z. In z (segments_of es)) (sym x.2) (in-map segment_of es x.0 (sub es sd rs l gs k g i x.0 x.1))) h

    e-seg : segment_of e ≡ e
    e-seg = up-segment e c.up

    -- the two are of one polygon
    module _ (g h : Polygon) (ig : In g gs) (ih : In h gs) (eg : In e (polygon_edges g)) (fh : In f (polygon_edges h)) where
      G : IsSided (polygon_edges g)
      G = sided es sd rs l gs k g ig

      H : IsSided (polygon_edges h)
      H = sided es sd rs l gs k h ih

      left-covered : (In f (polygon_edges g) → ⊥) → covers_edge (segments_of (polygon_edges g)) (segment_of f) ≡ true
      left-covered x =
          let ks = polygon_edges g in let ge = sided-even ks G.balanced in
          covers-left e (segment_of f) (segments_of ks) G.plain ge se n.spans fe (none-in g ig)
          (subst (λ z. In z (segments_of ks)) e-seg (in-map segment_of ks e eg)) (ap (runs_up_by_odd_side (segments_of ks)) (sym e-seg) ∙ runs_up_as ks G e eg ∙ c.up)
          (rise es sd f c.there) (clear-of es sd ks (sub es sd rs l gs k g ig) G.plain ge f c.there x)

      right-covered : (In e (polygon_edges h) → ⊥) → covers_edge (segments_of (polygon_edges h)) (segment_of e) ≡ true
      right-covered x =
          let ks = polygon_edges h in let he = sided-even ks H.balanced in
          let y = covers-right e (segment_of f) (segments_of ks) H.plain he se n.spans fe (none-in h ih) (in-map segment_of ks f fh) (runs_up_as ks H f fh ∙ c.down)
          (λ j. let z = in-map-out segment_of ks e j in x (subst (λ w. In w ks) (sym (segment-one es sd e z.0 c.here (sub es sd rs l gs k h ih z.0 z.1) (e-seg ∙ z.2))) z.1))
          (subst IsRisingEdge e-seg (rise es sd e c.here)) (subst (λ z. IsClearOfAll z (segments_of ks)) e-seg (clear-of es sd ks (sub es sd rs l gs k h ih) H.plain he e c.here x)) in
          ap (covers_edge (segments_of ks)) e-seg ∙ y

      one-by : (In f (polygon_edges g)) ⊎ (In f (polygon_edges g) → ⊥) → (In e (polygon_edges h)) ⊎ (In e (polygon_edges h) → ⊥) → g.outer ≡ h.outer
      one-by (inl x) y = share rs (uncrossed es sd rs l) g h (k.each g ig) (k.each h ih) f x fh
      one-by (inr x) (inl y) = share rs (uncrossed es sd rs l) g h (k.each g ig) (k.each h ih) e eg y
      one-by (inr x) (inr y) =
          let u = uncrossed es sd rs l in let m = k.each g ig in let n = k.each h ih in
          not-each-by rs u g h m n (holds rs u g h m n f fh x (left-covered x)) (holds rs u h g n m e eg y (right-covered y))

      pub across_one : g ≡ h
      across_one = same-polygon es sd rs l gs k g h ig ih (one-by (decide f (polygon_edges g)) (decide e (polygon_edges h)))

    pub across_in : (g : Polygon) → In g gs → In e (polygon_edges g) → In f (polygon_edges g)
    across_in g i j =
        let h = in-polygon es sd rs l gs k f c.there in
        subst (λ q. In f (polygon_edges q)) (sym (across_one g h.0 i h.1 j h.2)) h.2

    pub across_back : (g : Polygon) → In g gs → In f (polygon_edges g) → In e (polygon_edges g)
    across_back g i j =
        let h = in-polygon es sd rs l gs k e c.here in
        subst (λ q. In e (polygon_edges q)) (across_one h.0 g h.1 i h.2 j) h.2

  module _ (g : Polygon) (i : In g gs) where
    abbrev ks : List Edge
    ks = polygon_edges g

    -- ---- what is linked to an edge of the polygon is of the polygon
    abbrev Both : Edge → Edge → Type 0
    Both e f = (In e ks → In f ks) × (In f ks → In e ks)

    follows-back : (e f : Edge) → In e es → IsSuccessor es e f → In f ks → In e ks
    follows-back e f j s x =
        let w = walk-of es sd e j in
        whole_walks es sd rs l gs k g i w.0 w.1 f e (next-within es sd w.0 w.1 e f w.3 s) w.3 x

    linked-in : (e f : Edge) → Linked es e f → Both e f
    linked-in e f (Itself _) = (λ x. x, λ x. x)
    linked-in e f (Follows _ _ j s) = (λ x. (successor_in es sd rs l gs k g i e f x s).member, follows-back e f j s)
    linked-in e f (Crosses _ _ c) = (across_in e f c g i, across_back e f c g i)
    linked-in e f (Back _ _ h) = let b = linked-in f e h in (b.1, b.0)
    linked-in e f (Through _ h _ x y) = let a = linked-in e h x in let b = linked-in h f y in (λ z. b.0 (a.0 z), λ z. a.1 (b.1 z))

    -- ---- what is linked in the polygon is linked in the list
    own : IsSided ks
    own = sided es sd rs l gs k g i

    -- two nearest edges on the left are one
    not-right : (e f y : Edge) → IsAcross ks e f → IsAcross ks e y → right_of e.from (segment_of f) (segment_of y) ≡ true → ⊥
    not-right e f y c d h = by (c.next.nearest (segment_of y) (in-map segment_of ks y d.there) (and_from (is_in_span e.from (segment_of y)) (right_of e.from (segment_of f) (segment_of y)) d.next.spans h))
      where
        p : Vector
        p = e.from

        se : is_in_span e.from e ≡ true
        se = and-left (is_in_span e.from e) (right_of e.from (segment_of y) e) d.next.right

        ye : right_of e.from (segment_of y) e ≡ true
        ye = and-right (is_in_span e.from e) (right_of e.from (segment_of y) e) d.next.right

        by : (segment_of y ≡ e) ⊎ (right_of e.from e (segment_of y) ≡ true) → ⊥
        by (inl q) = clash (right_of e.from e e) (sym (ap (λ w. right_of e.from w e) q) ∙ ye) (right_itself e.from e)
        by (inr r) = clash (right_of e.from e e) (right_chain e.from e (segment_of y) e se d.next.spans se r ye) (right_itself e.from e)

    one-left-by : (e f y : Edge) → IsAcross ks e f → IsAcross ks e y → (b : Bool) → same_edge f y ≡ b → f ≡ y
    one-left-by e f y c d true h = same_edge-true f y h
    one-left-by e f y c d false h =
        let fi = in-map segment_of ks f c.there in let yi = in-map segment_of ks y d.there in
        let a = right_apart e.from (segment_of f) (segment_of y) (segments_of ks) own.plain fi yi (clear-two ks own f y c.there d.there h) d.next.spans c.next.spans in
        let o = right_either e.from (segment_of f) (segment_of y) a in
        let x = false_from_ne_true (right_of e.from (segment_of f) (segment_of y)) (not-right e f y c d) in
        let z = false_from_ne_true (right_of e.from (segment_of y) (segment_of f)) (not-right e y f d c) in
        absurd (clash (right_of e.from (segment_of f) (segment_of y)) (o ∙ ap not z) x)

    one-left : (e f y : Edge) → IsAcross ks e f → IsAcross ks e y → f ≡ y
    one-left e f y c d = one-left-by e f y c d (same_edge f y) refl

    across-in : (e y : Edge) → In e ks → IsAcross es e y → IsAcross ks e y
    across-in e y j c = record {
      here = j;
      there = across_in e y c g i j;
      up = c.up;
      down = c.down;
      next = record { spans = c.next.spans; right = c.next.right; nearest = λ t it h. none-in e y c g i t it h };
    }

    across-of : (e f : Edge) → IsAcross ks e f → IsAcross es e f
    across-of e f c =
        let se = and-left (is_in_span e.from e) (right_of e.from (segment_of f) e) c.next.right in
        let y = across_there es sd e (sub es sd rs l gs k g i e c.here) c.up se in
        subst (IsAcross es e) (one-left e y.0 f (across-in e y.0 c.here y.1) c) y.1

    linked-of : (e f : Edge) → Linked ks e f → Linked es e f
    linked-of e f (Itself _) = Itself e
    linked-of e f (Follows _ _ j s) = Follows e f (sub es sd rs l gs k g i e j) (successor_of es sd rs l gs k g i e f j s)
    linked-of e f (Crosses _ _ c) = Crosses e f (across-of e f c)
    linked-of e f (Back _ _ h) = Back f e (linked-of f e h)
    linked-of e f (Through _ h _ x y) = Through e h f (linked-of e h x) (linked-of h f y)

    pub linked_one : (e f : Edge) → In e ks → (Linked es e f → In f ks) × (In f ks → Linked es e f)
    linked_one e f j = (λ h. (linked-in e f h).0 j, λ x. linked-of e f (polygon_linked es sd rs l gs k g i e f j x))
