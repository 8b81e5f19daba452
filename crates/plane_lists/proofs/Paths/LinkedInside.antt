-- Where the edges of a sided list are linked, its inside is connected.
use Rattle.std.proofs.Common.{List, subst, sym, ℤ, ◌*ℤ◌, ◌∙◌, ◌≡◌}
use Rattle.plane_lists.specs.Connected.Linked.{Linked}
use Rattle.plane_lists.specs.Connected.Linked.Linked.{Back, Crosses, Follows, Itself, Through}
use Rattle.lists.specs.Member.{In}
use Rattle.plane_lists.specs.Rings.Polygon.{ArePolygonsOfRings, Polygon, polygon_edges}
use Rattle.plane_lists.specs.OneRingList.RingListOf.{IsRingListOf}
use Rattle.plane_lists.specs.Paths.Beside.{AreBeside, IsLeftBeside, ReachesEdge}
use Rattle.plane_lists.specs.Paths.Inside.{IsInside}
use Rattle.plane_lists.specs.Paths.Line.{Joined}
use Rattle.plane.specs.Edge.{Edge}
use Rattle.plane.specs.Scale.{scaled_edge, scaled_point}
use Rattle.plane.specs.Sign.{Plus, sign}
use Rattle.plane.specs.Vector.{Vector}
use Rattle.plane_lists.specs.Lists.ScaledEdges.{scaled_edges}
use Rattle.plane_lists.specs.Lists.Sided.{IsSided}
use Rattle.plane_lists.proofs.ConnectedKit.{polygon_linked}
use Rattle.lists.proofs.ListsKit.{in-map, in-map-out}
use Rattle.plane_lists.proofs.NestingKit.{next_there, polygon_sided}
use Rattle.plane_lists.proofs.OneRingListKit.{rings-uncrossed}
use Rattle.plane.proofs.PlaneKit.{point-twice}
use Rattle.plane.proofs.SignKit.{plus-times}
use Rattle.plane_lists.proofs.WindingKit.{edges-twice, sided-scaled}
use Rattle.plane_lists.proofs.Paths.Across.{across, times-swap}
use Rattle.plane_lists.proofs.Paths.Builders.{beside-twice}
use Rattle.plane_lists.proofs.Paths.Feet.{beside-joined, beside-times}
use Rattle.plane_lists.proofs.Paths.Inward.{inward}
use Rattle.plane_lists.proofs.Paths.Joins.{joined-back, joined-chain, joined-down, joined-up}
use Rattle.plane_lists.proofs.Paths.Turning.{turning}

abbrev BesideAt : ℤ → List Edge → Edge → Vector → Type 0
BesideAt k es e p = IsLeftBeside (scaled_edges k es) (scaled_edge k e) p

-- all points left beside e are joined to all left beside f, whatever all is multiplied by
abbrev SidesJoin : List Edge → Edge → Edge → Type 0
SidesJoin es e f = (k : ℤ) → sign k ≡ Plus → (p q : Vector) → BesideAt k es e p → BesideAt k es f q → Joined (scaled_edges k es) p q

raise : (m k : ℤ) → sign m ≡ Plus → (es : List Edge) (e : Edge) (p : Vector) → BesideAt k es e p → BesideAt (m *ℤ k) es e (scaled_point m p)
raise m k hm es e p a = beside-twice m k es e (scaled_point m p) (beside-times m hm (scaled_edges k es) (scaled_edge k e) p a)

raise-other : (m k : ℤ) → sign k ≡ Plus → (es : List Edge) (e : Edge) (c : Vector) → BesideAt m es e c → BesideAt (m *ℤ k) es e (scaled_point k c)
raise-other m k hk es e c a = subst (λ z. BesideAt z es e (scaled_point k c)) (times-swap k m) (raise k m hk es e c a)

lower : (m k : ℤ) → sign m ≡ Plus → (es : List Edge) (p q : Vector) → Joined (scaled_edges (m *ℤ k) es) (scaled_point m p) (scaled_point m q) → Joined (scaled_edges k es) p q
lower m k hm es p q j = joined-down m hm (scaled_edges k es) p q (subst (λ (l : List Edge). Joined l (scaled_point m p) (scaled_point m q)) (sym (edges-twice m k es)) j)

module _ (es : List Edge) (sd : IsSided es) where
  -- points left beside one edge
  same-side : (e : Edge) → In e es → SidesJoin es e e
  same-side e i k hk p q a b = beside-joined (scaled_edges k es) (sided-scaled k hk es sd) (scaled_edge k e) (in-map (scaled_edge k) es e i) p q a b

  -- by a point left beside both
  both-sides : (e f : Edge) → In e es → In f es → AreBeside es e f → SidesJoin es e f
  both-sides e f i j b k hk p q x y =
      let m = b.multiple in let hm = b.positive in let n = m *ℤ k in let hn = plus-times m k hm ∙ hk in let c = scaled_point k b.point in
      lower m k hm es p q
      (joined-chain (scaled_edges n es) (scaled_point m p) c (scaled_point m q)
      (same-side e i n hn (scaled_point m p) c (raise m k hm es e p x) (raise-other m k hk es e b.point b.beside_first))
      (same-side f j n hn c (scaled_point m q) (raise-other m k hk es f b.point b.beside_second) (raise m k hm es f q y)))

  -- each edge has a point left beside it
  pub some-beside : (e : Edge) → In e es → AreBeside es e e
  some-beside e i =
      let r = next_there es sd e i in let b = turning es sd e r.0 i r.1 in
      record { multiple = b.multiple; positive = b.positive; point = b.point; beside_first = b.beside_first; beside_second = b.beside_first }

  -- by a point left beside an edge between
  through : (e f g : Edge) → In f es → SidesJoin es e f → SidesJoin es f g → SidesJoin es e g
  through e f g j s t k hk p q x y =
      let b = some-beside f j in
      let m = b.multiple in let hm = b.positive in let n = m *ℤ k in let hn = plus-times m k hm ∙ hk in let c = scaled_point k b.point in
      let z = raise-other m k hk es f b.point b.beside_first in
      lower m k hm es p q
      (joined-chain (scaled_edges n es) (scaled_point m p) c (scaled_point m q) (s n hn (scaled_point m p) c (raise m k hm es e p x) z) (t n hn c (scaled_point m q) z (raise m k hm es g q y)))

  -- what is linked to an edge of the list is an edge of the list
  linked-in : (e f : Edge) → Linked es e f → (In e es → In f es) × (In f es → In e es)
  linked-in e f (Itself _) = (λ i. i, λ i. i)
  linked-in e f (Follows _ _ i s) = (λ j. s.member, λ j. i)
  linked-in e f (Crosses _ _ c) = (λ j. c.there, λ j. c.here)
  linked-in e f (Back _ _ h) = let r = linked-in f e h in (r.1, r.0)
  linked-in e f (Through _ g _ h k) = let r = linked-in e g h in let s = linked-in g f k in (λ i. s.0 (r.0 i), λ i. r.1 (s.1 i))

  sides-join : (e f : Edge) → Linked es e f → In e es → In f es → SidesJoin es e f
  sides-join e f (Itself _) i j = same-side e i
  sides-join e f (Follows _ _ i' s) i j = both-sides e f i j (turning es sd e f i s)
  sides-join e f (Crosses _ _ c) i j = both-sides e f i j (across es sd e f c.here c.there c.up c.down c.next)
  sides-join e f (Back _ _ h) i j = λ k hk p q x y. joined-back (scaled_edges k es) q p (sides-join f e h j i k hk q p y x)
  sides-join e f (Through _ g _ h k) i j = let n = (linked-in e g h).0 i in through e g f n (sides-join e g h i n) (sides-join g f k n j)

  module _ (k : ℤ) (hk : sign k ≡ Plus) where
    abbrev ks : List Edge
    ks = scaled_edges k es

    -- from the edges that the two points reach
    pub reached-by : (p q : Vector) (e f : Edge) → In e es → In f es → Linked es e f → ReachesEdge ks p (scaled_edge k e) → ReachesEdge ks q (scaled_edge k f) → Joined ks p q
    reached-by p q e f i j l a b =
        let m = a.multiple in let hm = a.positive in let o = b.multiple in let ho = b.positive in
        let n = o *ℤ m in let hn = plus-times o m ho ∙ hm in
        let ls = scaled_edges n ks in let c = scaled_point o a.point in let d = scaled_point m b.point in
        let x : Joined ls (scaled_point n p) c = subst (λ (l : List Edge). Joined l (scaled_point n p) c) (edges-twice o m ks)
        (subst (λ z. Joined (scaled_edges o (scaled_edges m ks)) z c) (point-twice o m p) (joined-up o ho (scaled_edges m ks) (scaled_point m p) a.point a.joined)) in
        let y : Joined ls (scaled_point n q) d = subst (λ (z : ℤ). Joined (scaled_edges z ks) (scaled_point z q) d) (times-swap m o)
        (subst (λ (l : List Edge). Joined l (scaled_point (m *ℤ o) q) d) (edges-twice m o ks)
        (subst (λ z. Joined (scaled_edges m (scaled_edges o ks)) z d) (point-twice m o q) (joined-up m hm (scaled_edges o ks) (scaled_point o q) b.point b.joined))) in
        let u = raise o m ho ks (scaled_edge k e) a.point a.beside in
        let w = raise-other o m hm ks (scaled_edge k f) b.point b.beside in
        let z : Joined ls c d = subst (λ (l : List Edge). Joined l c d) (sym (edges-twice n k es))
        (sides-join e f l i j (n *ℤ k) (plus-times n k hn ∙ hk) c d (beside-twice n k es e c u) (beside-twice n k es f d w)) in
        joined-down n hn ks p q (joined-chain ls (scaled_point n p) c (scaled_point n q) x (joined-chain ls c d (scaled_point n q) z (joined-back ls (scaled_point n q) d y)))

    -- an edge that a point inside reaches
    pub reached : (p : Vector) → IsInside ks p → (e : Edge) × In e es × ReachesEdge ks p (scaled_edge k e)
    reached p a =
        let x = inward ks (sided-scaled k hk es sd) p a.off a.once in
        let r = in-map-out (scaled_edge k) es x.0 x.1 in (r.0, r.1, subst (λ w. ReachesEdge ks p w) r.2 x.2)

    any-joined : ((e f : Edge) → In e es → In f es → Linked es e f) → (p q : Vector) → IsInside ks p → IsInside ks q → Joined ks p q
    any-joined linked p q a b = let x = reached p a in let y = reached q b in reached-by p q x.0 y.0 x.1 y.1 (linked x.0 y.0 x.1 y.1) x.2 y.2

  pub inside-joined : ((e f : Edge) → In e es → In f es → Linked es e f) → (k : ℤ) → sign k ≡ Plus → (p q : Vector) → IsInside (scaled_edges k es) p → IsInside (scaled_edges k es) q → Joined (scaled_edges k es) p q
  inside-joined linked k hk p q a b = any-joined k hk linked p q a b

pub polygon-connected : (es : List Edge) → IsSided es → (rs : List (List Edge)) → IsRingListOf es rs → (gs : List Polygon) → ArePolygonsOfRings rs gs → (g : Polygon) → In g gs →
    (k : ℤ) → sign k ≡ Plus → (p q : Vector) → IsInside (scaled_edges k (polygon_edges g)) p → IsInside (scaled_edges k (polygon_edges g)) q → Joined (scaled_edges k (polygon_edges g)) p q
polygon-connected es sd rs l gs a g i k hk p q x y =
    inside-joined (polygon_edges g) (polygon_sided rs (rings-uncrossed es sd rs l) g (a.each g i)) (polygon_linked es sd rs l gs a g i) k hk p q x y
