-- Of a walk one polygon has all edges; so the successors in a polygon are those in the whole list.
use Rattle.std.proofs.Common.{List, [], inl, inr, map, refl, subst, sym, ◌∙◌, ◌∷◌, ◌≡◌}
use Rattle.plane_lists.specs.Rings.Nesting.{edges_of}
use Rattle.plane_lists.specs.Rings.Polygon.{ArePolygonsOfRings, Polygon, polygon_edges}
use Rattle.plane_lists.specs.Rings.Walk.{IsSuccessor, IsWalk, last}
use Rattle.plane.specs.Edge.{Edge}
use Rattle.lists.specs.Member.{In}
use Rattle.plane_lists.specs.Lists.Sided.{IsSided}
use Rattle.plane_lists.specs.OneRingList.RingListOf.{IsRingListOf, LiesInWalk}
use Rattle.lists.proofs.ListsKit.{in-left, in-map, in-map-out, pairs-right}
use Rattle.plane_lists.proofs.NestingKit.{Once, follow-weaker, in-edges, in-edges-out, last-in, next_alone, next_there, once-apart, polygon_sided, same-back, same-in, same-once, sided-once}
use Rattle.plane_lists.proofs.OneRingListKit.{first-of, next-within, walk-of}
use Rattle.plane_lists.proofs.Connected.OneOuterRing.{one_outer_ring, polygon-in, ring-in, rings_of, uncrossed}

-- polygons that have an edge in common are one
one-by : (gs : List Polygon) → Once (edges_of (map polygon_edges gs)) → (g h : Polygon) → In g gs → In h gs → (x : Edge) → In x (polygon_edges g) → In x (polygon_edges h) → g ≡ h
one-by [] o g h i j x a b = absurd i
one-by (p ∷ ps) o g h (inl e) (inl f) x a b = e ∙ sym f
one-by (p ∷ ps) o g h (inl e) (inr j) x a b =
    absurd (once-apart (polygon_edges p) (edges_of (map polygon_edges ps)) o x (subst (λ q. In x (polygon_edges q)) e a) (in-edges (map polygon_edges ps) (polygon_edges h) x (in-map polygon_edges ps h j) b))
one-by (p ∷ ps) o g h (inr i) (inl f) x a b =
    absurd (once-apart (polygon_edges p) (edges_of (map polygon_edges ps)) o x (subst (λ q. In x (polygon_edges q)) f b) (in-edges (map polygon_edges ps) (polygon_edges g) x (in-map polygon_edges ps g i) a))
one-by (p ∷ ps) o g h (inr i) (inr j) x a b = one-by ps (pairs-right (λ (x y : Edge). x ≡ y → ⊥) (polygon_edges p) (edges_of (map polygon_edges ps)) o) g h i j x a b

end-in : (w : List Edge) (e : Edge) → In e w → (z : Edge) → last z w ≡ z → (P : Edge → Type 0) → ((x : Edge) → In x w → P x) → P z
end-in [] e i z q P h = absurd i
end-in (x ∷ xs) e i z q P h = h z (subst (λ y. In y (x ∷ xs)) q (last-in z x xs))

module _ (es : List Edge) (sd : IsSided es) (rs : List (List Edge)) (l : IsRingListOf es rs) (gs : List Polygon) (k : ArePolygonsOfRings rs gs) where
  once-all : Once (edges_of (map polygon_edges gs))
  once-all = same-once (edges_of (map polygon_edges gs)) (edges_of rs) k.whole (same-once (edges_of rs) es l.edges (sided-once es sd))

  -- each edge is in a polygon
  pub in-polygon : (f : Edge) → In f es → (h : Polygon) × In h gs × In f (polygon_edges h)
  in-polygon f i =
      let j = same-in es (edges_of rs) (same-back (edges_of rs) es l.edges) f i in
      let q = in-edges-out (map polygon_edges gs) f (same-in (edges_of rs) (edges_of (map polygon_edges gs)) (same-back (edges_of (map polygon_edges gs)) (edges_of rs) k.whole) f j) in
      let h = in-map-out polygon_edges gs q.0 q.1 in
      (h.0, h.1, subst (λ w. In f w) h.2 q.2)

  pub same-polygon : (g h : Polygon) → In g gs → In h gs → g.outer ≡ h.outer → g ≡ h
  same-polygon g h i j q =
      let x = first-of g.outer (l.some g.outer (k.each g i).member) in
      one-by gs once-all g h i j x.0 (in-left g.outer (edges_of g.inner) x.0 x.1) (in-left h.outer (edges_of h.inner) x.0 (subst (λ w. In x.0 w) q x.1))

  module _ (g : Polygon) (i : In g gs) where
    abbrev ks : List Edge
    ks = polygon_edges g

    pub sub : (x : Edge) → In x ks → In x es
    sub x j = polygon-in es sd rs l g (k.each g i) x j

    pub sided : IsSided ks
    sided = polygon_sided rs (uncrossed es sd rs l) g (k.each g i)

    -- all edges of a walk
    pub whole_walks : (w : List Edge) → IsWalk es w → (e f : Edge) → In e w → In f w → In e ks → In f ks
    whole_walks w m e f ie jf j =
        let h = in-polygon f (m.here f jf) in
        let q = one_outer_ring es sd rs l g h.0 (k.each g i) (k.each h.0 h.1) w m e f ie jf j h.2 in
        subst (λ p. In f (polygon_edges p)) (sym (same-polygon g h.0 i h.1 q)) h.2

    pub successor_in : (e f : Edge) → In e ks → IsSuccessor es e f → IsSuccessor ks e f
    successor_in e f j n =
        let w = walk-of es sd e (sub e j) in
        record {
          member = whole_walks w.0 w.1 e f w.3 (next-within es sd w.0 w.1 e f w.3 n) j;
          meets = n.meets;
          other = n.other;
          first = λ x m a b c. n.first x (sub x m) a b c;
        }

    pub successor_of : (e f : Edge) → In e ks → IsSuccessor ks e f → IsSuccessor es e f
    successor_of e f j n =
        let s = next_there es sd e (sub e j) in
        subst (IsSuccessor es e) (next_alone ks sided e s.0 f j (successor_in e s.0 j s.1) n) s.1

    -- a walk that has an edge of the polygon is a walk of the polygon
    pub walk_in : (w : List Edge) → IsWalk es w → (e : Edge) → In e w → In e ks → IsWalk ks w
    walk_in w m e ie j =
        let here = λ (x : Edge) (ix : In x w). whole_walks w m e x ie ix j in
        record {
          here = here;
          cycle = record {
            end = m.cycle.end;
            closed = m.cycle.closed;
            steps = follow-weaker (IsSuccessor es) (IsSuccessor ks) (λ x. In x ks) (λ x y ix iy s. successor_in x y ix s) m.cycle.end w (end-in w e ie m.cycle.end m.cycle.closed (λ x. In x ks) here) here m.cycle.steps;
          };
        }

    -- so the rings of the polygon lie in walks of the polygon
    ring-walk : (r : List Edge) → In r (rings_of g) → LiesInWalk ks r
    ring-walk r j =
        let ir = ring-in rs (uncrossed es sd rs l) g (k.each g i) r j in
        let w = l.walks r ir in let x = first-of r (l.some r ir) in
        (w.0, walk_in w.0 w.1 x.0 (w.2 x.0 x.1) (in-edges (rings_of g) r x.0 j x.1), w.2)

    pub rings_are : IsRingListOf ks (rings_of g)
    rings_are = record {
      edges = λ f. refl;
      walks = λ r j. ring-walk r j;
      ring = λ r j. l.ring r (ring-in rs (uncrossed es sd rs l) g (k.each g i) r j);
      some = λ r j. l.some r (ring-in rs (uncrossed es sd rs l) g (k.each g i) r j);
    }
