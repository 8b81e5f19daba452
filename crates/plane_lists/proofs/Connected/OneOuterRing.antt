-- Polygons that have an edge each of one walk have one outer ring.
use Rattle.std.proofs.Common.{Bool, List, ap, false, inl, inr, map, not, refl, subst, sym, true, ◌∙◌, ◌∷◌, ◌≡◌, ◌⊎◌}
use Rattle.plane_lists.specs.Rings.Cover.{covers_edge}
use Rattle.plane_lists.specs.Rings.Nesting.{EnclosesDirectly, IsNest, edges_of, encloses, has_edge}
use Rattle.plane_lists.specs.Rings.Polygon.{IsPolygon, Polygon, polygon_edges}
use Rattle.plane_lists.specs.Rings.RingList.{IsRingList}
use Rattle.plane_lists.specs.Rings.Walk.{IsWalk}
use Rattle.plane.specs.Edge.{Edge, segment_of}
use Rattle.plane.specs.Vector.{from_to}
use Rattle.lists.specs.Member.{In}
use Rattle.plane_lists.specs.Lists.EdgeList.{crossing_count}
use Rattle.plane_lists.specs.Lists.Node.{away}
use Rattle.plane_lists.specs.Lists.Parity.{is_even}
use Rattle.plane_lists.specs.Lists.Ring.{IsAnchor, segments_of}
use Rattle.plane_lists.specs.Lists.Sided.{IsSided}
use Rattle.plane_lists.specs.OneRingList.RingListOf.{IsRingListOf}
use Rattle.lists.proofs.ListsKit.{clash, in-map, in-map-out, not-true-out}
use Rattle.plane_lists.proofs.NestingKit.{IsDirectBy, and-make, clear-of, clear_rings, direct-by, edges-segments, encloser_one, encloses-in, encloses-not, encloses_same, has-in, has-not-by, in-edges, in-edges-out, in_edges, inner-out, is_outer_by, not-both, one-ring-by, outer-out, part, polygon_sided, ring_list_nest, rings-anchors, rings-tell, round-nearest, same-in, same-ring, same_or_clear, through}
use Rattle.plane_lists.proofs.OneRingListKit.{decide, rings-uncrossed, walk_sees}
use Rattle.plane.proofs.PlaneKit.{clear_back}
use Rattle.plane_lists.proofs.WindingKit.{anchor_span, rising_in, sided-even, some_odd}
use Rattle.plane_lists.proofs.Connected.OddEdges.{foreign_sees, own_odd}

-- the rings of a polygon
abbrev pub rings_of : Polygon → List (List Edge)
rings_of g = g.outer ∷ g.inner

module _ (rs : List (List Edge)) (u : IsRingList rs) where
  abbrev gs : List (List Edge)
  gs = map segments_of rs

  nest : IsNest gs
  nest = ring_list_nest rs u

  pub ring-in : (g : Polygon) → IsPolygon rs g → (r : List Edge) → In r (rings_of g) → In r rs
  ring-in g m r (inl e) = subst (λ w. In w rs) (sym e) m.member
  ring-in g m r (inr i) = m.inner_members r i

  seg-in : (r : List Edge) → In r rs → In (segments_of r) gs
  seg-in r i = in-map segments_of rs r i

  -- ---- what encloses a ring encloses what that ring encloses
  not-in-by : (g h q : List Edge) → In g gs → In h gs → In q gs → (e a : Edge) → In e h → In a q → encloses g e ≡ true → encloses h a ≡ true → (b : Bool) → has_edge g a ≡ b → b ≡ false
  not-in-by g h q ig ih iq e a ie ia c d false k = refl
  not-in-by g h q ig ih iq e a ie ia c d true k =
      let s = same-ring gs nest q g a iq ig ia k in absurd (not-both gs nest g h e a ig ih ie (subst (λ l. In a l) (sym s) ia) c d)

  chain : (g h q : List Edge) → In g gs → In h gs → In q gs → (e a : Edge) → In e h → IsAnchor a q → encloses g e ≡ true → encloses h a ≡ true → encloses g a ≡ true
  chain g h q ig ih iq e a ie aa c d =
      let na = not-in-by g h q ig ih iq e a ie aa.member c d (has_edge g a) refl in
      let gh = clear_rings gs g h e nest.plain ig ih ie (encloses-not gs nest g e c) in
      let hg = λ (s t : Edge) (i : In s h) (j : In t g). clear_back t s (gh t s j i) in
      and-make (has_edge g a) (covers_edge g a) na
      (through a.from a h g (rising_in q a (part gs nest q iq) aa.member) (anchor_span a q (part gs nest q iq) (nest.even q iq) aa) (part gs nest h ih) (part gs nest g ig) (nest.even h ih) (nest.even g ig) hg
      (clear-of gs nest h q a ih iq aa.member (encloses-not gs nest h a d)) (clear-of gs nest g q a ig iq aa.member na)
      (λ x i. nest.constant g h ig ih x e i ie (has-not-by g h x (part gs nest g ig) gh i (has_edge g x) refl) ∙ encloses-in gs nest g e c)
      (λ x y i j. nest.constant h g ih ig x y i j (has-not-by h g x (part gs nest h ih) hg i (has_edge h x) refl))
      (encloses-in gs nest h a d))

  -- ---- a polygon that covers an edge: its outer ring encloses the edge
  module _ (g : Polygon) (m : IsPolygon rs g) where
    abbrev outer : List Edge
    outer = segments_of g.outer

    outer-in : In outer gs
    outer-in = seg-in g.outer m.member

    pub outer-is : is_outer_by rs u outer ≡ true
    outer-is = outer-out rs u outer outer-in m.is_outer_ring

    pub inner-is : (h : List Edge) → In h g.inner → is_outer_by rs u (segments_of h) ≡ false
    inner-is h i = inner-out rs u (segments_of h) (seg-in h (m.inner_members h i)) (m.are_inner_rings h i)

    some-ring : (s : Edge) → covers_edge (segments_of (polygon_edges g)) s ≡ true → (k : List Edge) × In k (rings_of g) × (covers_edge (segments_of k) s ≡ true)
    some-ring s h =
        let ks = rings_of g in
        let count = λ (l : List Edge). is_even (crossing_count (from_to s.from s.to) s.from (away s.from l)) in
        let odd = sym (in_edges (map segments_of ks) s) ∙ ap count (edges-segments ks) ∙ not-true-out (count (segments_of (polygon_edges g))) h in
        let y = some_odd (λ l. covers_edge l s) (map segments_of ks) odd in
        let k = in-map-out segments_of ks y.0 y.1 in
        (k.0, k.1, subst (λ l. covers_edge l s ≡ true) k.2 y.2)

    outer-round : (q : List Edge) → In q gs → (a : Edge) → IsAnchor a q → (k : List Edge) → In k (rings_of g) → encloses (segments_of k) a ≡ true → encloses outer a ≡ true
    outer-round q iq a aa k (inl e) c = subst (λ l. encloses (segments_of l) a ≡ true) e c
    outer-round q iq a aa k (inr i) c =
        let d = m.enclosed k i in
        chain outer (segments_of k) q outer-in (seg-in k (m.inner_members k i)) iq d.anchor a d.anchors.member aa d.around c

    -- an edge of another ring
    not-own-by : (q k : List Edge) → In q rs → In k (rings_of g) → (f : Edge) → In f q → (In f (polygon_edges g) → ⊥) → (b : Bool) → has_edge (segments_of k) (segment_of f) ≡ b → b ≡ false
    not-own-by q k iq ik f i n false e = refl
    not-own-by q k iq ik f i n true e =
        let j = ring-in g m k ik in
        let s = same-ring gs nest (segments_of q) (segments_of k) (segment_of f) (seg-in q iq) (seg-in k j) (in-map segment_of q f i) e in
        let t = one-ring-by rs u k q j s (same_or_clear rs u k q j iq) in
        absurd (n (in-edges (rings_of g) k f ik (subst (λ l. In f l) (sym t) i)))

    pub covered-round : (q : List Edge) → In q rs → (f : Edge) → In f q → (In f (polygon_edges g) → ⊥) → covers_edge (segments_of (polygon_edges g)) (segment_of f) ≡ true → (a : Edge) → IsAnchor a (segments_of q) → encloses outer a ≡ true
    covered-round q iq f i n h a aa =
        let k = some-ring (segment_of f) h in
        let d = not-own-by q k.0 iq k.1 f i n (has_edge (segments_of k.0) (segment_of f)) refl in
        let c = and-make (has_edge (segments_of k.0) (segment_of f)) (covers_edge (segments_of k.0) (segment_of f)) d k.2 in
        outer-round (segments_of q) (seg-in q iq) a aa k.0 k.1
        (encloses_same gs nest (segments_of k.0) (segments_of q) a (segment_of f) (seg-in k.0 (ring-in g m k.0 k.1)) (seg-in q iq) aa.member (in-map segment_of q f i) ∙ c)

  -- ---- two polygons
  -- one outer ring, or that of the first encloses that of the second
  abbrev pub Holds : Polygon → Polygon → Type 0
  Holds g h = (g.outer ≡ h.outer) ⊎ ((x : Edge) × In x (segments_of h.outer) × (encloses (segments_of g.outer) x ≡ true))

  one-outer : (g h : Polygon) → IsPolygon rs g → IsPolygon rs h → segments_of g.outer ≡ segments_of h.outer → g.outer ≡ h.outer
  one-outer g h m n e = one-ring-by rs u g.outer h.outer m.member e (same_or_clear rs u g.outer h.outer m.member n.member)

  module _ (g h : Polygon) (m : IsPolygon rs g) (n : IsPolygon rs h) where
    holds-by : (q : List Edge) → In q gs → (a : Edge) → IsAnchor a q → (d : IsDirectBy gs (is_outer_by rs u) (segments_of h.outer) a) → encloses (segments_of g.outer) a ≡ true → (b : Bool) → has_edge (segments_of g.outer) d.edge ≡ b → Holds g h
    holds-by q iq a aa d c true k = inl (one-outer g h m n (same-ring gs nest (segments_of h.outer) (segments_of g.outer) d.edge (outer-in h n) (outer-in g m) d.here k))
    holds-by q iq a aa d c false k =
        inr (d.edge, d.here, round-nearest gs nest (is_outer_by rs u) (rings-tell rs u) (rings-anchors rs u) q iq a aa (segments_of h.outer) d (segments_of g.outer) (outer-in g m) (outer-is g m) c k)

    holds-in : (q : List Edge) → In q (rings_of h) → ((a : Edge) → IsAnchor a (segments_of q) → encloses (segments_of g.outer) a ≡ true) → Holds g h
    holds-in q (inl e) c =
        let a = rings-anchors rs u (segments_of h.outer) (outer-in h n) in
        inr (a.0, a.1.member, c a.0 (subst (λ l. IsAnchor a.0 (segments_of l)) (sym e) a.1))
    holds-in q (inr i) c =
        let d = n.enclosed q i in let iq = seg-in q (n.inner_members q i) in
        let t = direct-by rs u (segments_of h.outer) (segments_of q) (outer-in h n) iq d in
        holds-by (segments_of q) iq d.anchor d.anchors t (c d.anchor d.anchors) (has_edge (segments_of g.outer) t.edge) refl

    -- the first covers an edge of the second
    pub holds : (f : Edge) → In f (polygon_edges h) → (In f (polygon_edges g) → ⊥) → covers_edge (segments_of (polygon_edges g)) (segment_of f) ≡ true → Holds g h
    holds f i k c =
        let q = in-edges-out (rings_of h) f i in
        holds-in q.0 q.1 (λ a aa. covered-round g m q.0 (ring-in h n q.0 q.1) f q.2 k c a aa)

    pub not-each-by : Holds g h → Holds h g → g.outer ≡ h.outer
    not-each-by (inl e) k = e
    not-each-by (inr x) (inl e) = sym e
    not-each-by (inr x) (inr y) =
        absurd (not-both gs nest (segments_of g.outer) (segments_of h.outer) x.0 y.0 (outer-in g m) (outer-in h n) x.1 y.1 x.2 y.2)

    -- the two share a ring
    share-by : (k q : List Edge) → In k (rings_of g) → In q (rings_of h) → k ≡ q → g.outer ≡ h.outer
    share-by k q (inl e) (inl f) s = sym e ∙ s ∙ f
    share-by k q (inl e) (inr j) s =
        absurd (clash (is_outer_by rs u (segments_of g.outer)) (outer-is g m) (ap (λ l. is_outer_by rs u (segments_of l)) (sym e ∙ s) ∙ inner-is h n q j))
    share-by k q (inr i) (inl f) s =
        absurd (clash (is_outer_by rs u (segments_of h.outer)) (outer-is h n) (ap (λ l. is_outer_by rs u (segments_of l)) (sym f ∙ sym s) ∙ inner-is g m k i))
    share-by k q (inr i) (inr j) s =
        encloser_one rs u k g.outer h.outer (m.inner_members k i) m.member n.member (m.are_inner_rings k i) (m.enclosed k i)
        (subst (λ l. EnclosesDirectly gs (segments_of h.outer) (segments_of l)) (sym s) (n.enclosed q j))

    pub share : (f : Edge) → In f (polygon_edges g) → In f (polygon_edges h) → g.outer ≡ h.outer
    share f i j =
        let k = in-edges-out (rings_of g) f i in let q = in-edges-out (rings_of h) f j in
        let ik = ring-in g m k.0 k.1 in let iq = ring-in h n q.0 q.1 in
        let s = same-ring gs nest (segments_of q.0) (segments_of k.0) (segment_of f) (seg-in q.0 iq) (seg-in k.0 ik) (in-map segment_of q.0 f q.2) (has-in (segments_of k.0) (segment_of f) (in-map segment_of k.0 f k.2)) in
        share-by k.0 q.0 k.1 q.1 (one-ring-by rs u k.0 q.0 ik s (same_or_clear rs u k.0 q.0 ik iq))

module _ (es : List Edge) (sd : IsSided es) (rs : List (List Edge)) (l : IsRingListOf es rs) where
  pub uncrossed : IsRingList rs
  uncrossed = rings-uncrossed es sd rs l

  pub polygon-in : (g : Polygon) → IsPolygon rs g → (x : Edge) → In x (polygon_edges g) → In x es
  polygon-in g m x i =
      let k = in-edges-out (rings_of g) x i in
      same-in (edges_of rs) es l.edges x (in-edges rs k.0 x (ring-in rs uncrossed g m k.0 k.1) k.2)

  -- along a walk that has an edge of the polygon, the polygon covers all others
  along : (g : Polygon) → IsPolygon rs g → (w : List Edge) → IsWalk es w → (e f : Edge) → In e w → In f w → In e (polygon_edges g) → (In f (polygon_edges g) → ⊥) → covers_edge (segments_of (polygon_edges g)) (segment_of f) ≡ true
  along g m w k e f ie jf i n =
      let ks = polygon_edges g in let sided = polygon_sided rs uncrossed g m in
      let sub = polygon-in g m in let even = sided-even ks sided.balanced in
      let same = walk_sees es sd ks sub sided.plain even w k e f ie jf in
      foreign_sees es sd ks sub sided.plain even f (k.here f jf) n ∙ ap not (sym same ∙ own_odd ks sided e i)

  module _ (g h : Polygon) (m : IsPolygon rs g) (n : IsPolygon rs h) (w : List Edge) (k : IsWalk es w) (e f : Edge) (ie : In e w) (jf : In f w) (i : In e (polygon_edges g)) (j : In f (polygon_edges h)) where
    one-by : (In f (polygon_edges g)) ⊎ (In f (polygon_edges g) → ⊥) → (In e (polygon_edges h)) ⊎ (In e (polygon_edges h) → ⊥) → g.outer ≡ h.outer
    one-by (inl x) y = share rs uncrossed g h m n f x j
    one-by (inr x) (inl y) = share rs uncrossed g h m n e i y
    one-by (inr x) (inr y) =
        not-each-by rs uncrossed g h m n (holds rs uncrossed g h m n f j x (along g m w k e f ie jf i x)) (holds rs uncrossed h g n m e i y (along h n w k f e jf ie j y))

    pub one_outer_ring : g.outer ≡ h.outer
    one_outer_ring = one-by (decide f (polygon_edges g)) (decide e (polygon_edges h))
