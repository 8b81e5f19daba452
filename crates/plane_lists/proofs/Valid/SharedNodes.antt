-- Two rings of a valid polygon share one node at most. Else parts of both would be a closed list that winds round one piece of the interior
-- and not round another.
use Rattle.std.proofs.Common.{Bool, List, [], ap, arith, false, inl, inr, refl, subst, sym, true, ◌++◌, ◌||◌, ◌∙◌, ◌∷◌, ◌≡◌, ◌⊎◌}
use borrow.Author.Differences.{ints}
use lib.IntN.{pos, ℤ, ◌*ℤ◌, ◌+ℤ◌}
use Rattle.lists.specs.Member.{EachPair, In}
use Rattle.plane_lists.specs.Rings.Nesting.{edges_of}
use Rattle.plane_lists.specs.Rings.Polygon.{Polygon, polygon_edges}
use Rattle.plane_lists.specs.Paths.Beside.{WindsMore, times_in}
use Rattle.plane_lists.specs.Paths.Inside.{IsInside, IsOutside}
use Rattle.plane_lists.specs.Paths.Line.{Joined}
use Rattle.plane_lists.specs.Paths.Near.{near, opposite_of}
use Rattle.plane.specs.Edge.{Edge, same_edge}
use Rattle.plane.specs.FreeSegment.{IsBetween}
use Rattle.plane.specs.RayCrossing.{is_off}
use Rattle.plane.specs.Scale.{scaled_edge, scaled_point}
use Rattle.plane.specs.Sign.{Plus, sign}
use Rattle.plane.specs.Vector.{Vector, cross, east, from_to, same_point}
use Rattle.plane_lists.specs.Lists.EdgeList.{IsBalanced, winding_number}
use Rattle.plane_lists.specs.Lists.ScaledEdges.{scaled_edges}
use Rattle.plane_lists.specs.Valid.Laws.{IsNode, IsOnRing, ShareOneNode, ShareOnePoint}
use Rattle.plane_lists.specs.Valid.Valid.{IsExterior, IsInterior, IsValidPolygon, MeetAtEnds, MeetOnlyAtPoints, boundary_rings, has_inside}
use Rattle.lists.proofs.ListsKit.{all-in, in-all, in-either, in-left, in-right, pairs-append, pairs-weaker}
use Rattle.plane_lists.proofs.NestingKit.{in-edges, in-edges-out, pairs-of}
use Rattle.plane_lists.proofs.PathsKit.{Later, joined-part, joined-winds, later-along, later-both, later-some, later-then, scaled-part, times-none, times-some, winds-across-edge}
use Rattle.plane.proofs.PlaneKit.{point-back, same_edge-refl, same_edge-true, same_point-refl, same_point-true, step-direction}
use Rattle.plane.proofs.SignKit.{plus-times}
use Rattle.plane_lists.proofs.WindingKit.{balanced-scaled, closed-balanced, edges-twice, path-join}
use Rattle.plane_lists.proofs.Valid.Holes.{left-plus, left_of, no-part, right-in}
use Rattle.plane_lists.proofs.Valid.Meets.{inner-off, own-meet}
use Rattle.plane_lists.proofs.Valid.RingParts.{RingParts, moves, next_edge, ring_parts}

-- ---- any two edges of the rings meet at ends alone
meet-all : (rs : List (List Edge)) → ((r : List Edge) → In r rs → EachPair MeetAtEnds r) → EachPair MeetOnlyAtPoints rs → EachPair MeetAtEnds (edges_of rs)
meet-all [] own m = tt
meet-all (r ∷ rs) own m =
    pairs-append MeetAtEnds r (edges_of rs) (own r (inl refl)) (meet-all rs (λ s i. own s (inr i)) m.1)
    (λ e f i j. let s = in-edges-out rs f j in (in-all (MeetOnlyAtPoints r) rs s.0 m.0 s.1).at_ends e f i s.2)

meet-back : (e f : Edge) → MeetAtEnds e f → MeetAtEnds f e
meet-back e f m = λ k hk p x y. let r = m k hk p y x in (r.1, r.0)

module _ (g : Polygon) (valid : IsValidPolygon g) where
  abbrev es : List Edge
  es = polygon_edges g

  abbrev rings : List (List Edge)
  rings = boundary_rings g

  all-meet : EachPair MeetAtEnds es
  all-meet = meet-all rings (λ r i. (valid.boundary.linear_rings r i).simple) valid.boundary.tangent

  meet-by : (e f : Edge) → same_edge e f ≡ false → (e ≡ f) ⊎ (MeetAtEnds e f ⊎ MeetAtEnds f e) → MeetAtEnds e f
  meet-by e f n (inl q) = absurd (cc (sym (same_edge-refl e) ∙ ap (same_edge e) q ∙ n))
  meet-by e f n (inr (inl m)) = m
  meet-by e f n (inr (inr m)) = meet-back f e m

  -- ---- a hole, another ring, and two nodes of both
  module _ (o : List Edge) (h : List Edge) (io : In o rings) (ih : In h g.inner) (meets : MeetOnlyAtPoints o h) (u v : Vector) (differ : u ≡ v → ⊥) (ps : RingParts h u v) (qs : RingParts o u v) where
    in-h : (x : Edge) → In x h → In x es
    in-h x i = in-right g.outer (edges_of g.inner) x (in-edges g.inner h x ih i)

    h-balanced : IsBalanced h
    h-balanced = let r = (valid.boundary.linear_rings h (inr ih)).closed in closed-balanced r.start h r.path

    in-o : (x : Edge) → In x o → In x es
    in-o x i = in-edges rings o x io i

    -- one part of the hole and one of the other ring
    abbrev c : List Edge
    c = ps.there ++ qs.back

    c-balanced : IsBalanced c
    c-balanced = closed-balanced u c (path-join u v u ps.there qs.back ps.path_there qs.path_back)

    in-c-by : (x : Edge) → (In x ps.there) ⊎ (In x qs.back) → In x es
    in-c-by x (inl i) = in-h x (ps.of_there x i)
    in-c-by x (inr i) = in-o x (qs.of_back x i)

    in-c : (x : Edge) → In x c → In x es
    in-c x i = in-c-by x (in-either ps.there qs.back x i)

    -- ---- an edge of the hole
    abbrev Between : ℤ → Edge → Vector → Type 0
    Between q e r = IsBetween (scaled_point q e.from) (scaled_point q e.to) r

    abbrev way : Edge → Vector
    way e = from_to e.from e.to

    abbrev side : Edge → Vector
    side e = left_of (way e)

    -- a point strictly inside the edge, and points close to it on the left and on the right
    abbrev foot : ℤ → Edge → Vector
    foot q e = near q e.from (way e)

    abbrev on_left : ℤ → Edge → ℤ → Vector
    on_left q e k = near k (foot q e) (side e)

    abbrev on_right : ℤ → Edge → ℤ → Vector
    on_right q e k = near k (foot q e) (opposite_of (side e))

    abbrev at : ℤ → ℤ → List Edge → List Edge
    at k q xs = scaled_edges k (scaled_edges q xs)

    pub record Beside (q : ℤ) (e : Edge) (k : ℤ) : Type 0 where
      pub inside : IsInside (at k q es) (on_left q e k)
      pub outside : IsOutside (at k q es) (on_right q e k)
      pub round_hole : WindsMore (at k q h) (on_left q e k) (on_right q e k) (times_in e h)
      pub round_part : WindsMore (at k q c) (on_left q e k) (on_right q e k) (times_in e c)

    later-beside : (q : ℤ) → sign q ≡ Plus → (e : Edge) → In e h → same_point e.from e.to ≡ false → Between q e (foot q e) → Later (Beside q e)
    later-beside q hq e i d b =
        let left : sign (cross (way e) (side e)) ≡ Plus = ap sign (left-plus (way e)) ∙ step-direction e.from e.to d in
        let off = λ (f : Edge) (j : In f es) (n : same_edge e f ≡ false). inner-off e f q hq (foot q e) b (meet-by e f n (pairs-of MeetAtEnds es e f all-meet (in-h e i) j)) (is_off (foot q e) (scaled_edge q f)) refl in
        let A = λ (k : ℤ). IsInside (at k q es) (on_left q e k) × IsOutside (at k q es) (on_right q e k) in
        let B = λ (k : ℤ). WindsMore (at k q h) (on_left q e k) (on_right q e k) (times_in e h) in
        let C = λ (k : ℤ). WindsMore (at k q c) (on_left q e k) (on_right q e k) (times_in e c) in
        later-then (λ k. A k × (B k × C k)) (Beside q e) (λ k hk t. record { inside = t.0.0; outside = t.0.1; round_hole = t.1.0; round_part = t.1.1 })
        (later-both A (λ k. B k × C k) (valid.boundary.regular e (in-h e i) q hq (foot q e) (side e) b left)
        (later-both B C
        (winds-across-edge h h-balanced e q hq (foot q e) (side e) b left (λ f j n. off f (in-h f j) n))
        (winds-across-edge c c-balanced e q hq (foot q e) (side e) b left (λ f j n. off f (in-c f j) n))))

    module _ (q : ℤ) (hq : sign q ≡ Plus) (k : ℤ) (hk : sign k ≡ Plus) where
      abbrev m : ℤ
      m = k *ℤ q

      hm : sign m ≡ Plus
      hm = plus-times k q hk ∙ hq

      module _ (e : Edge) (i : In e h) (b : Beside q e k) where
        inside : IsInterior m (on_left q e k) g
        inside = subst (λ l. IsInside l (on_left q e k)) (edges-twice k q es) b.inside

        outside : IsExterior m (on_right q e k) g
        outside = subst (λ l. IsOutside l (on_right q e k)) (edges-twice k q es) b.outside

        more : (xs : List Edge) → WindsMore (at k q xs) (on_left q e k) (on_right q e k) (times_in e xs) →
            winding_number east (on_left q e k) (scaled_edges m xs) ≡ winding_number east (on_right q e k) (scaled_edges m xs) +ℤ pos (times_in e xs)
        more xs w = subst (λ l. winding_number east (on_left q e k) l ≡ winding_number east (on_right q e k) l +ℤ pos (times_in e xs)) (edges-twice k q xs) w.more

        -- the point on the right is in the hole
        in-hole : has_inside m (on_right q e k) h ≡ true
        in-hole =
            right-in (has_inside m (on_left q e k) h) (has_inside m (on_right q e k) h)
            (λ t. no-part g h ih m (on_left q e k) inside t (valid.boundary.outer_less_holes m hm (on_left q e k) inside.off))
            (winding_number east (on_left q e k) (scaled_edges m h)) (winding_number east (on_right q e k) (scaled_edges m h)) (times_in e h)
            (valid.boundary.holes_clockwise h ih m hm (on_left q e k)) (valid.boundary.holes_clockwise h ih m hm (on_right q e k)) (more h b.round_hole) (times-some e h i)

      module _ (e f : Edge) (i : In e h) (j : In f h) (b : Beside q e k) (d : Beside q f k) where
        alike : (p r : Vector) → Joined (scaled_edges m es) p r → winding_number east p (scaled_edges m c) ≡ winding_number east r (scaled_edges m c)
        alike p r t = joined-winds (scaled_edges m c) (balanced-scaled m hm c c-balanced) p r (joined-part (scaled_edges m c) (scaled_edges m es) (scaled-part m c es in-c) p r t)

        -- so both edges are as often in the closed list
        pub as-often : times_in e c ≡ times_in f c
        as-often =
            let x = alike (on_left q e k) (on_left q f k) (valid.connected m hm (on_left q e k) (on_left q f k) (inside e i b) (inside f j d)) in
            let y = alike (on_right q e k) (on_right q f k)
            ((valid.boundary.hole_is_part h ih m hm (on_right q e k) (on_right q f k) (outside e i b).off (outside f j d).off (in-hole e i b)).1 (in-hole f j d)) in
            let z = more e i b c b.round_part in let w = more f j d c d.round_part in
            omega (arith, ints)

    -- the edge is none of the other ring
    foreign : (e : Edge) → In e h → same_point e.from e.to ≡ false → (f : Edge) → In f o → (b : Bool) → same_edge e f ≡ b → b ≡ false
    foreign e i d f j false n = refl
    foreign e i d f j true n = absurd (own-meet e d (subst (λ x. MeetAtEnds x e) (sym (same_edge-true e f n)) (meets.at_ends f e j i)))

    -- an edge of the one part of the hole is none of the other
    other-part : (e f : Edge) → In f ps.there → In e ps.back → (b : Bool) → same_edge e f ≡ b → b ≡ false
    other-part e f i j false n = refl
    other-part e f i j true n =
        absurd (cc (sym (same_point-refl f.from) ∙ ap (same_point f.from) (ap (λ (x : Edge). x.from) (sym (same_edge-true e f n))) ∙ ps.apart f e i j))

    none-in : (e : Edge) → In e ps.back → same_point e.from e.to ≡ false → (f : Edge) → (In f ps.there) ⊎ (In f qs.back) → same_edge e f ≡ false
    none-in e i d f (inl j) = other-part e f j i (same_edge e f) refl
    none-in e i d f (inr j) = foreign e (ps.of_back e i) d f (qs.of_back f j) (same_edge e f) refl

    pub impossible : ⊥
    impossible =
        let x = moves u v ps.there ps.path_there differ in let y = moves v u ps.back ps.path_back (λ t. differ (sym t)) in
        let e = x.0 in let f = y.0 in let i = ps.of_there e x.1 in let j = ps.of_back f y.1 in
        let A = λ (q : ℤ). Between q e (foot q e) in let B = λ (q : ℤ). Between q f (foot q f) in
        let s = later-some (λ q. A q × B q) (later-both A B (later-along e.from e.to (step-direction e.from e.to x.2)) (later-along f.from f.to (step-direction f.from f.to y.2))) in
        let q = s.0 in let hq = s.1 in
        let t = later-some (λ k. Beside q e k × Beside q f k) (later-both (Beside q e) (Beside q f) (later-beside q hq e i x.2 s.2.0) (later-beside q hq f j y.2 s.2.1)) in
        let same = as-often q hq t.0 t.1 e f i j t.2.0 t.2.1 in
        let some = times-some e c (in-left ps.there qs.back e x.1) in
        let none = times-none f c (λ w k. none-in f y.1 y.2 w (in-either ps.there qs.back w k)) in
        absurd (omega arith)

  equal-by : (u v : Vector) → ((u ≡ v → ⊥) → ⊥) → (b : Bool) → same_point u v ≡ b → u ≡ v
  equal-by u v n true h = same_point-true u v h
  equal-by u v n false h = absurd (n (λ q. cc (sym (same_point-refl u) ∙ ap (same_point u) q ∙ h)))

  -- what holds of each hole and each ring before it holds of each two rings
  each-two : (R : List Edge → List Edge → Type 0) → ((o h : List Edge) → In o rings → In h g.inner → MeetOnlyAtPoints o h → R o h) → EachPair R rings
  each-two R f = (
    all-in (R g.outer) g.inner (λ h i. f g.outer h (inl refl) i (in-all (MeetOnlyAtPoints g.outer) g.inner h valid.boundary.tangent.0 i)),
    pairs-weaker MeetOnlyAtPoints R g.inner (λ o h io ih m. f o h (inr io) ih m) valid.boundary.tangent.1,
  )

  -- the parts of a ring at two of its nodes
  parts-at : (r : List Edge) → In r rings → (u v : Vector) → IsNode u r → IsNode v r → RingParts r u v
  parts-at r i u v a b =
      subst (λ w. RingParts r w v) a.2 (subst (λ w. RingParts r (a.0).from w) b.2 (ring_parts r (valid.boundary.linear_rings r i).closed a.0 b.0 a.1 b.1))

  share-one : (o h : List Edge) → In o rings → In h g.inner → MeetOnlyAtPoints o h → ShareOneNode o h
  share-one o h io ih meets u v uo uh vo vh =
      equal-by u v (λ n. impossible o h io ih meets u v n (parts-at h (inr ih) u v uh vh) (parts-at o io u v uo vo)) (same_point u v) refl

  pub rings_share_one : EachPair ShareOneNode rings
  rings_share_one = each-two ShareOneNode share-one

  -- ---- points that two rings share are nodes
  node-by : (r : List Edge) → In r rings → (k : ℤ) (p : Vector) (e : Edge) → In e r → (b c : Bool) → same_point p (scaled_point k e.from) ≡ b → same_point p (scaled_point k e.to) ≡ c → (b || c) ≡ true →
      (v : Vector) × IsNode v r × (p ≡ scaled_point k v)
  node-by r i k p e j true c x y h = (e.from, (e, j, refl), same_point-true p (scaled_point k e.from) x)
  node-by r i k p e j false true x y h = (e.to, next_edge r (valid.boundary.linear_rings r i).closed e j, same_point-true p (scaled_point k e.to) y)
  node-by r i k p e j false false x y h = absurd (cc h)

  shared : (o h : List Edge) → In o rings → In h rings → MeetOnlyAtPoints o h → (k : ℤ) → sign k ≡ Plus → (p : Vector) → IsOnRing k p o → IsOnRing k p h →
      (v : Vector) × IsNode v o × IsNode v h × (p ≡ scaled_point k v)
  shared o h io ih meets k hk p a b =
      let m = meets.at_ends a.0 b.0 a.1 b.1 k hk p a.2 b.2 in
      let x = node-by o io k p a.0 a.1 (same_point p (scaled_point k a.0.from)) (same_point p (scaled_point k a.0.to)) refl refl m.0 in
      let y = node-by h ih k p b.0 b.1 (same_point p (scaled_point k b.0.from)) (same_point p (scaled_point k b.0.to)) refl refl m.1 in
      (x.0, x.1, subst (λ w. IsNode w h) (sym (point-back k hk x.0 y.0 (sym x.2 ∙ y.2))) y.1, x.2)

  share-point : (o h : List Edge) → In o rings → In h g.inner → MeetOnlyAtPoints o h → ShareOnePoint o h
  share-point o h io ih meets k hk p q po ph qo qh =
      let x = shared o h io (inr ih) meets k hk p po ph in let y = shared o h io (inr ih) meets k hk q qo qh in
      x.3 ∙ ap (scaled_point k) (share-one o h io ih meets x.0 y.0 x.1 x.2 y.1 y.2) ∙ sym y.3

  pub rings_share_one_point : EachPair ShareOnePoint rings
  rings_share_one_point = each-two ShareOnePoint share-point
