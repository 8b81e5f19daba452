-- The polygons of a sided list's rings are one list.
use Rattle.std.proofs.Common.{AllPairs, List, [], ap, arith, get_or, inl, inr, length, map, refl, subst, sym, ℕ, ◌≤◌, ◌∙◌, ◌∷◌, ◌≡◌, ◌⊎◌}
use Rattle.std.specs.Ordering.{ordering_reverse, ordering_then}
use Rattle.std.specs.declared.cmp.Ordering.{Ordering}
use Rattle.std.specs.declared.cmp.Ordering.TheVariants.{Equal, Greater, Less}
use Rattle.plane_lists.specs.Rings.Nesting.{EnclosesDirectly, IsInnerRing, IsOuterRing}
use Rattle.plane_lists.specs.Rings.Polygon.{IsPolygon}
use Rattle.plane_lists.specs.Rings.RingList.{IsRingList}
use Rattle.plane_lists.proofs.NestingKit.{encloser_one, inner-out, outer-out, ring-plain, same_or_clear, pairs-of}
use Rattle.plane_lists.specs.Rings.Cover.{AreClear}
use Rattle.plane_lists.proofs.OneRingListKit.{encloses-same, inner-same, outer-same}
use Rattle.plane.specs.Edge as plane
use Rattle.plane.specs.Edge.{segment_of}
use Rattle.plane.proofs.PlaneKit.{self_conflicts}
use Rattle.plane_lists.proofs.WindingKit.{rising_in}
use Rattle.lists.specs.Member.{EachPair, In}
use Rattle.plane_lists.specs.Lists.Ring.{segments_of}
use Rattle.lists.proofs.ListsKit.{in-all, in-either, in-left, in-map, in-right, in-rotated, pairs-each, rotated-in, total, total-is}
use Rattle.osm_geom.specs.declared.edge.Edge.{Edge}
use Rattle.osm_geom.specs.Point.{point_cmp}
use Rattle.osm_geom.proofs.GeometryKit.{point_total}
use Rattle.osm_nest.specs.declared.polygon.Polygon.{Polygon}
use Rattle.osm_nest.specs.Nested.{AreFromLeast, AreNested, ArePolygonsFromLeast, BeginsBefore, IsFromLeast, IsPolygonFromLeast, edge_cmp}
use Rattle.osm_nest.specs.Polygons.{polygon_times, rings_of}
use Rattle.osm_nest.specs.RingLists.{all_edges}
use Rattle.osm_rings.specs.RingList.{AreRingsOf}
use Rattle.lists.specs.Rotated.{IsRotated}
use Rattle.osm_rings.proofs.UncrossedRings.{held-within, rings-do-not-cross}
use Rattle.osm_geom.specs.InPlane.Multiple.{edge_times, edges_times, product_of_denominators}
use Rattle.osm_geom.specs.InPlane.Sided.{IsSided}
use Rattle.osm_nest.proofs.BegunOnce.{LeavesOnce, begun-one, leaves-once}
use Rattle.osm_nest.proofs.NestKit.{begun-from, polygon-was}
use Rattle.osm_nest.proofs.NestedRings.{same-common}
use Rattle.osm_rings.proofs.EdgeEquality.{exact-out, exact-own, list-out, list-own, same_exact, same_list, sum-in}
use Rattle.osm_rings.proofs.ExactRings.{one-list, ring-turned, rings-found}
use Rattle.osm_nest.proofs.SortedLists.{same-sorted}

-- ---- rings of polygons
abbrev OfPolygon : List Polygon → List Edge → Type 0
OfPolygon ps x = (P : Polygon) × In P ps × ((x ≡ P.outer) ⊎ In x P.inners)

of-more : (P : Polygon) (ps : List Polygon) (x : List Edge) → OfPolygon ps x → OfPolygon (P ∷ ps) x
of-more P ps x r = (r.0, inr r.1, r.2)

of-by : (P : Polygon) (ps : List Polygon) (x : List Edge) → (In x (P.outer ∷ P.inners)) ⊎ (In x (rings_of ps)) → (In x (rings_of ps) → OfPolygon ps x) → OfPolygon (P ∷ ps) x
of-by P ps x (inl i) h = (P, inl refl, i)
of-by P ps x (inr i) h = of-more P ps x (h i)

of-rings : (ps : List Polygon) (x : List Edge) → In x (rings_of ps) → OfPolygon ps x
of-rings [] x i = absurd i
of-rings (P ∷ ps) x i = of-by P ps x (in-either (P.outer ∷ P.inners) (rings_of ps) x i) (of-rings ps x)

into-rings : (ps : List Polygon) (P : Polygon) (x : List Edge) → In P ps → In x (P.outer ∷ P.inners) → In x (rings_of ps)
into-rings [] P x i j = absurd i
into-rings (Q ∷ ps) P x (inl e) j = in-left (Q.outer ∷ Q.inners) (rings_of ps) x (subst (λ (R : Polygon). In x (R.outer ∷ R.inners)) e j)
into-rings (Q ∷ ps) P x (inr i) j = in-right (Q.outer ∷ Q.inners) (rings_of ps) x (into-rings ps P x i j)

-- ---- begun rings and polygons
begun-is : (rs bs : List (List Edge)) → AreFromLeast rs bs → (r : List Edge) → In r rs → (b : List Edge) × In b bs × IsFromLeast r b
begun-is [] bs k r i = absurd i
begun-is (s ∷ rs) bs k r (inl e) = (k.0, subst (λ l. In k.0 l) (sym k.2) (inl refl), subst (λ l. IsFromLeast l k.0) (sym e) k.3)
begun-is (s ∷ rs) bs k r (inr i) = let a = begun-is rs k.1 k.4 r i in (a.0, subst (λ l. In a.0 l) (sym k.2) (inr a.1), a.2)

polygon-is : (ps bs : List Polygon) → ArePolygonsFromLeast ps bs → (P : Polygon) → In P ps → (b : Polygon) × In b bs × IsPolygonFromLeast P b
polygon-is [] bs k P i = absurd i
polygon-is (Q ∷ ps) bs k P (inl e) = (k.0, subst (λ l. In k.0 l) (sym k.2) (inl refl), subst (λ R. IsPolygonFromLeast R k.0) (sym e) k.3)
polygon-is (Q ∷ ps) bs k P (inr i) = let a = polygon-is ps k.1 k.4 P i in (a.0, subst (λ l. In a.0 l) (sym k.2) (inr a.1), a.2)

module _ (es : List Edge) (sd : IsSided es) (rs : List (List Edge)) (a : AreRingsOf es rs) where
  abbrev E : List Edge → List plane.Edge
  E r = edges_times (product_of_denominators es) r

  abbrev R : List (List plane.Edge)
  R = map (edges_times (product_of_denominators es)) rs

  abbrev pub Outer : List Edge → Type 0
  Outer r = IsOuterRing (map segments_of R) (segments_of (E r))

  abbrev pub Inner : List Edge → Type 0
  Inner r = IsInnerRing (map segments_of R) (segments_of (E r))

  abbrev pub Direct : List Edge → List Edge → Type 0
  Direct r h = EnclosesDirectly (map segments_of R) (segments_of (E r)) (segments_of (E h))

  pub not-both : (r : List Edge) → In r rs → Outer r → Inner r → ⊥
  not-both r i o n =
      let j = in-map segments_of R (E r) (in-map (edges_times (product_of_denominators es)) rs r i) in
      cc (sym (outer-out R (rings-do-not-cross es sd rs a) (segments_of (E r)) j o) ∙ inner-out R (rings-do-not-cross es sd rs a) (segments_of (E r)) j n)

  module _ (m : List Polygon) (n : AreNested rs m) where
    abbrev ps : List Polygon
    ps = n.polygons

    is-polygon : (P : Polygon) → In P ps → IsPolygon R (polygon_times (product_of_denominators es) P)
    is-polygon P i =
        subst (λ k. IsPolygon (map (edges_times k) rs) (polygon_times k P)) (sym (same-common es rs a))
        (in-all (λ polygon. IsPolygon (map (edges_times (product_of_denominators (all_edges rs))) rs) (polygon_times (product_of_denominators (all_edges rs)) polygon)) ps P n.of_rings.each i)

    sums : (f : List Edge → ℕ) → total f (rings_of ps) ≡ total f rs
    sums f = total-is f (rings_of ps) ∙ n.of_rings.once f ∙ sym (total-is f rs)

    ring-of : (P : Polygon) (x : List Edge) → In P ps → In x (P.outer ∷ P.inners) → In x rs
    ring-of P x i j = sum-in (same_list same_exact) (list-out same_exact exact-out exact-own) (list-own same_exact exact-out exact-own) (rings_of ps) rs sums x (into-rings ps P x i j)

    of-polygon : (x : List Edge) → In x rs → OfPolygon ps x
    of-polygon x i = of-rings ps x (sum-in (same_list same_exact) (list-out same_exact exact-out exact-own) (list-own same_exact exact-out exact-own) rs (rings_of ps) (λ f. sym (sums f)) x i)

    inner-is : (P : Polygon) → In P ps → (h : List Edge) → In h P.inners → Inner h
    inner-is P i h j = (is-polygon P i).are_inner_rings (E h) (in-map (edges_times (product_of_denominators es)) P.inners h j)

    -- where a polygon comes from
    pub record Comes (p : Polygon) : Type 0 where
      pub ring : List Edge
      pub here : In ring rs
      pub begun : IsFromLeast ring p.outer
      pub outer : Outer ring
      pub inners : (i : List Edge) → In i p.inners → (h : List Edge) × In h rs × IsFromLeast h i × Inner h × Direct ring h

    pub comes : (p : Polygon) → In p m → Comes p
    comes p i =
        let s = polygon-was ps m n.begun p i in
        let P = s.0 in let g = is-polygon P s.1 in
        record {
          ring = P.outer;
          here = ring-of P P.outer s.1 (inl refl);
          begun = s.2.outer;
          outer = g.is_outer_ring;
          inners = λ x j.
              let h = begun-from P.inners p.inners s.2.inners x j in
              (h.0, ring-of P h.0 s.1 (inr h.1), h.2, inner-is P s.1 h.0 h.1, g.enclosed (E h.0) (in-map (edges_times (product_of_denominators es)) P.inners h.0 h.1));
        }

    outer-by : (r : List Edge) → In r rs → Outer r → (P : Polygon) → In P ps → (r ≡ P.outer) ⊎ In r P.inners → (p : Polygon) × In p m × IsFromLeast r p.outer
    outer-by r i o P k (inl e) = let b = polygon-is ps m n.begun P k in (b.0, b.1, subst (λ l. IsFromLeast l b.0.outer) (sym e) b.2.outer)
    outer-by r i o P k (inr j) = absurd (not-both r i o (inner-is P k r j))

    -- each outer ring begins a polygon
    pub outer-there : (r : List Edge) → In r rs → Outer r → (p : Polygon) × In p m × IsFromLeast r p.outer
    outer-there r i o = let s = of-polygon r i in outer-by r i o s.0 s.1 s.2

    inner-by : (h : List Edge) → In h rs → Inner h → (P : Polygon) → In P ps → (h ≡ P.outer) ⊎ In h P.inners → (p : Polygon) × In p m × (x : List Edge) × In x p.inners × IsFromLeast h x
    inner-by h i o P k (inl e) =
        let out : Outer h = subst Outer (sym e) (is-polygon P k).is_outer_ring in absurd (not-both h i out o)
    inner-by h i o P k (inr j) =
        let b = polygon-is ps m n.begun P k in let x = begun-is P.inners b.0.inners b.2.inners h j in (b.0, b.1, x.0, x.1, x.2)

    -- each inner ring stands in one
    pub inner-there : (h : List Edge) → In h rs → Inner h → (p : Polygon) × In p m × (x : List Edge) × In x p.inners × IsFromLeast h x
    inner-there h i o = let s = of-polygon h i in inner-by h i o s.0 s.1 s.2

-- ---- order
edge-back : (e f : Edge) → (o p : Ordering) → point_cmp e.from f.from ≡ o → point_cmp e.to f.to ≡ p → edge_cmp e f ≡ Less → edge_cmp f e ≡ Less → ⊥
edge-back e f Less p h k l r =
    let b = point_total.antisymm f.from e.from ∙ ap ordering_reverse h in
    cc (sym r ∙ ap (λ o. ordering_then o (point_cmp f.to e.to)) b)
edge-back e f Greater p h k l r = cc (sym l ∙ ap (λ o. ordering_then o (point_cmp e.to f.to)) h)
edge-back e f Equal Less h k l r =
    let b = point_total.antisymm f.from e.from ∙ ap ordering_reverse h in
    let c = point_total.antisymm f.to e.to ∙ ap ordering_reverse k in
    cc (sym r ∙ ap (λ o. ordering_then o (point_cmp f.to e.to)) b ∙ c)
edge-back e f Equal Equal h k l r = cc (sym l ∙ ap (λ o. ordering_then o (point_cmp e.to f.to)) h ∙ k)
edge-back e f Equal Greater h k l r = cc (sym l ∙ ap (λ o. ordering_then o (point_cmp e.to f.to)) h ∙ k)

before-apart : (r s : List Edge) → Edge → BeginsBefore r s → BeginsBefore s r → ⊥
before-apart r s d h k =
    let e = get_or r 0 d in let f = get_or s 0 d in
    edge-back e f (point_cmp e.from f.from) (point_cmp e.to f.to) refl refl (h d) (k d)

first-of : (r : List Edge) → 3 ≤ length r → (e : Edge) × In e r
first-of [] h = absurd (omega arith)
first-of (e ∷ es) h = (e, inl refl)

module _ (es : List Edge) (sd : IsSided es) (qs : List (List Edge)) (b : AreRingsOf es qs) where
  uncrossed : IsRingList (map (edges_times (product_of_denominators es)) qs)
  uncrossed = rings-do-not-cross es sd qs b

  some-edge : (r : List Edge) → In r qs → (e : Edge) × In e r
  some-edge r i = first-of r (b.ring r i).long

  once-in : (r : List Edge) → In r qs → LeavesOnce (product_of_denominators es) r
  once-in r i = leaves-once (product_of_denominators es) r (uncrossed.ring (edges_times (product_of_denominators es) r) (in-map (edges_times (product_of_denominators es)) qs r i))

  shared-by : (r s : List Edge) → In r qs → In s qs → (e : Edge) → In e r → In e s →
      (edges_times (product_of_denominators es) r ≡ edges_times (product_of_denominators es) s) ⊎ (AreClear (segments_of (edges_times (product_of_denominators es) r)) (segments_of (edges_times (product_of_denominators es) s))) → r ≡ s
  shared-by r s i j e ei ej (inl q) = one-list es sd r s (held-within es qs b.edges r i) (held-within es qs b.edges s j) q
  shared-by r s i j e ei ej (inr c) =
      let k = product_of_denominators es in let t = segment_of (edge_times k e) in
      let it = in-map segment_of (edges_times k r) (edge_times k e) (in-map (edge_times k) r e ei) in
      let jt = in-map segment_of (edges_times k s) (edge_times k e) (in-map (edge_times k) s e ej) in
      let p = ring-plain (map (edges_times k) qs) uncrossed (edges_times k r) (in-map (edges_times k) qs r i) in
      absurd (cc (sym (self_conflicts t (rising_in (segments_of (edges_times k r)) t p it)) ∙ c t t it jt))

  -- two rings that are begun as one are one
  shared : (r s x : List Edge) → In r qs → In s qs → IsFromLeast r x → IsFromLeast s x → r ≡ s
  shared r s x i j m n =
      let e = some-edge r i in
      let k = product_of_denominators es in
      shared-by r s i j e.0 e.1 (rotated-in s x n.turned e.0 (in-rotated r x m.turned e.0 e.1))
      (same_or_clear (map (edges_times k) qs) uncrossed (edges_times k r) (edges_times k s) (in-map (edges_times k) qs r i) (in-map (edges_times k) qs s j))

module _ (es : List Edge) (sd : IsSided es) (rs qs : List (List Edge)) (a : AreRingsOf es rs) (b : AreRingsOf es qs) (m n : List Polygon) (M : AreNested rs m) (N : AreNested qs n) where
  abbrev k : ℕ
  k = product_of_denominators es

  abbrev at : (r : List Edge) → In r rs → In (edges_times k r) (map (edges_times k) rs)
  at r i = in-map (edges_times k) rs r i

  abbrev to : (r : List Edge) → In r qs → In (edges_times k r) (map (edges_times k) qs)
  to r i = in-map (edges_times k) qs r i

  same-begun : (r q x y : List Edge) → In r rs → IsRotated r q → IsFromLeast r x → IsFromLeast q y → x ≡ y
  same-begun r q x y i t c d = begun-one k r q x y t c d (once-in es sd rs a r i)

  outer-order : (p p' : Polygon) → Edge → (p ≡ p') ⊎ ((BeginsBefore p.outer p'.outer) ⊎ (BeginsBefore p'.outer p.outer)) → p.outer ≡ p'.outer → p ≡ p'
  outer-order p p' d (inl e) q = e
  outer-order p p' d (inr (inl h)) q = let r = subst (λ o. BeginsBefore p.outer o) (sym q) h in absurd (before-apart p.outer p.outer d r r)
  outer-order p p' d (inr (inr h)) q = let r = subst (λ o. BeginsBefore o p.outer) (sym q) h in absurd (before-apart p.outer p.outer d r r)

  -- polygons of one list with one outer ring are one
  one-outer : (p p' : Polygon) → In p n → In p' n → Edge → p.outer ≡ p'.outer → p ≡ p'
  one-outer p p' i j d q = outer-order p p' d (pairs-of (λ (p q : Polygon). BeginsBefore p.outer q.outer) n p p' (pairs-each (λ (p q : Polygon). BeginsBefore p.outer q.outer) n N.in_order.outers) i j) q

  pub inner-goes : (p p' : Polygon) → In p m → In p' n → p.outer ≡ p'.outer → (i : List Edge) → In i p.inners → In i p'.inners
  inner-goes p p' pm pn q i ii =
      let c = comes es sd rs a m M p pm in
      let h = c.inners i ii in
      let t = ring-turned es sd rs qs a b c.ring c.here in
      let u = ring-turned es sd rs qs a b h.0 h.1 in
      let inner : Inner es sd qs b u.0 = inner-same (map (edges_times k) rs) (map (edges_times k) qs) (uncrossed es sd rs a) (uncrossed es sd qs b) (edges_times k h.0) (edges_times k u.0) (at h.0 h.1) (to u.0 u.1) u.3 h.3 in
      let direct : Direct es sd qs b t.0 u.0 =
      encloses-same (map (edges_times k) rs) (map (edges_times k) qs) (uncrossed es sd rs a) (uncrossed es sd qs b) (rings-found es sd qs rs b a) (edges_times k c.ring) (edges_times k t.0) (edges_times k h.0) (edges_times k u.0)
      (at c.ring c.here) (to t.0 t.1) t.3 u.3 h.4 in
      let v = inner-there es sd qs b n N u.0 u.1 inner in
      let same : i ≡ v.2 = same-begun h.0 u.0 i v.2 h.1 u.2 h.2 v.4 in
      let d = comes es sd qs b n N v.0 v.1 in
      let g = d.inners v.2 v.3 in
      let one : g.0 ≡ u.0 = shared es sd qs b g.0 u.0 v.2 g.1 u.1 g.2 v.4 in
      let enc = encloser_one (map (edges_times k) qs) (uncrossed es sd qs b) (edges_times k u.0) (edges_times k d.ring) (edges_times k t.0) (to u.0 u.1) (to d.ring d.here) (to t.0 t.1) inner
      (subst (λ l. Direct es sd qs b d.ring l) one g.4) direct in
      let ring : d.ring ≡ t.0 = one-list es sd d.ring t.0 (held-within es qs b.edges d.ring d.here) (held-within es qs b.edges t.0 t.1) enc in
      let outer : p.outer ≡ v.0.outer = same-begun c.ring t.0 p.outer v.0.outer c.here t.2 c.begun (subst (λ l. IsFromLeast l v.0.outer) ring d.begun) in
      let poly : v.0 ≡ p' = one-outer v.0 p' v.1 pn (some-edge es sd qs b u.0 u.1).0 (sym outer ∙ q) in
      subst (λ l. In l p'.inners) (sym same) (subst (λ (r : Polygon). In v.2 r.inners) poly v.3)

polygon-same : (p q : Polygon) → p.outer ≡ q.outer → p.inners ≡ q.inners → p ≡ q
polygon-same p q a b = λ i. record { outer = a i; inners = b i }

module _ (es : List Edge) (sd : IsSided es) (rs qs : List (List Edge)) (a : AreRingsOf es rs) (b : AreRingsOf es qs) (m n : List Polygon) (M : AreNested rs m) (N : AreNested qs n) where
  sorted-inners : (p : Polygon) → In p m → EachPair BeginsBefore p.inners
  sorted-inners p i = pairs-each BeginsBefore p.inners (in-all (λ (p : Polygon). AllPairs BeginsBefore p.inners) m p M.in_order.inners i)

  -- an edge, where there is a polygon
  edge-of : (p : Polygon) → In p m → Edge
  edge-of p i = let c = comes es sd rs a m M p i in (some-edge es sd rs a c.ring c.here).0

  sorted-outers : EachPair (λ (p q : Polygon). BeginsBefore p.outer q.outer) m
  sorted-outers = pairs-each (λ (p q : Polygon). BeginsBefore p.outer q.outer) m M.in_order.outers

  -- the polygon of the other list that has the same outer ring
  outer-goes : (p : Polygon) → In p m → (q : Polygon) × In q n × (p.outer ≡ q.outer)
  outer-goes p i =
      let c = comes es sd rs a m M p i in
      let t = ring-turned es sd rs qs a b c.ring c.here in
      let k = product_of_denominators es in
      let o : Outer es sd qs b t.0 = outer-same (map (edges_times k) rs) (map (edges_times k) qs) (uncrossed es sd rs a) (uncrossed es sd qs b) (edges_times k c.ring) (edges_times k t.0) (in-map (edges_times k) rs c.ring c.here) (in-map (edges_times k) qs t.0 t.1) t.3 c.outer in
      let q = outer-there es sd qs b n N t.0 t.1 o in
      (q.0, q.1, same-begun es sd rs qs a b m n M N c.ring t.0 p.outer q.0.outer c.here t.2 c.begun q.2)

module _ (es : List Edge) (sd : IsSided es) (rs qs : List (List Edge)) (a : AreRingsOf es rs) (b : AreRingsOf es qs) (m n : List Polygon) (M : AreNested rs m) (N : AreNested qs n) where
  polygon-goes : (p : Polygon) → In p m → In p n
  polygon-goes p i =
      let q = outer-goes es sd rs qs a b m n M N p i in
      let d = edge-of es sd rs qs a b m n M N p i in
      let s = same-sorted BeginsBefore (λ (r : List Edge). Edge) before-apart p.inners q.0.inners (sorted-inners es sd rs qs a b m n M N p i) (sorted-inners es sd qs rs b a n m N M q.0 q.1) (λ x j. d) (λ x j. d)
      (inner-goes es sd rs qs a b m n M N p q.0 i q.1 q.2) (inner-goes es sd qs rs b a n m N M q.0 p q.1 i (sym q.2)) in
      subst (λ (r : Polygon). In r n) (sym (polygon-same p q.0 q.2 s)) q.1

-- the polygons of a sided list's rings are one list
pub polygons-one : (es : List Edge) → IsSided es → (rs qs : List (List Edge)) → AreRingsOf es rs → AreRingsOf es qs → (m n : List Polygon) → AreNested rs m → AreNested qs n → m ≡ n
polygons-one es sd rs qs a b m n M N =
    same-sorted (λ (p q : Polygon). BeginsBefore p.outer q.outer) (λ (p : Polygon). Edge) (λ p q d. before-apart p.outer q.outer d) m n
    (sorted-outers es sd rs qs a b m n M N) (sorted-outers es sd qs rs b a n m N M) (edge-of es sd rs qs a b m n M N) (edge-of es sd qs rs b a n m N M)
    (polygon-goes es sd rs qs a b m n M N) (polygon-goes es sd qs rs b a n m N M)
