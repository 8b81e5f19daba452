-- The interiors of the polygons are the connected parts of the inside of a sided list.
use Rattle.std.proofs.Common.{All, Bool, List, [], ap, arith, cond, false, inl, inr, map, not, pos, refl, subst, sym, true, ℕ, ℤ, ◌+◌, ◌<◌, ◌↔◌, ◌∙◌, ◌∷◌, ◌≡◌, ◌≤◌, ◌⊎◌}
use Rattle.std.specs.List.{count_by, sum_by}
use borrow.Author.Differences.{ints}
use Rattle.lists.specs.Member.{In}
use Rattle.plane_lists.specs.Rings.Cover.{covers}
use Rattle.plane_lists.specs.Rings.Nesting.{edges_of}
use Rattle.plane_lists.specs.Rings.Polygon.{ArePolygonsOfRings, Polygon, polygon_edges}
use Rattle.plane_lists.specs.Rings.RingList.{IsRingList}
use Rattle.plane_lists.specs.Rings.Walk.{HasSameEdges}
use Rattle.plane_lists.specs.OneRingList.RingListOf.{IsRingListOf}
use Rattle.plane_lists.specs.Paths.Beside.{IsLeftBeside, ReachesEdge}
use Rattle.plane_lists.specs.Paths.Inside.{AreInOne, IsInside}
use Rattle.plane_lists.specs.Paths.Line.{IsFreeStep, IsPolyline, Joined}
use Rattle.plane.specs.Bit.{bit}
use Rattle.plane.specs.Edge.{Edge}
use Rattle.plane.specs.RayCrossing.{IsOffEdge}
use Rattle.plane.specs.Scale.{scaled_edge, scaled_point}
use Rattle.plane.specs.Sign.{Plus, sign}
use Rattle.plane.specs.Vector.{Vector, east, from_to}
use Rattle.plane_lists.specs.Lists.EdgeList.{crossing_count, down_count, up_count, winding_number}
use Rattle.plane_lists.specs.Lists.Parity.{is_even}
use Rattle.plane_lists.specs.Lists.ScaledEdges.{scaled_edges}
use Rattle.plane_lists.specs.Lists.Sided.{IsSided}
use Rattle.plane_lists.proofs.ConnectedKit.{in-polygon, linked_one}
use Rattle.lists.proofs.ListsKit.{all-in, count_by-cons, in-all, in-map, in-map-out, not-true-out, total-is, total-map}
use Rattle.plane_lists.proofs.NestingKit.{in-edges, polygon_sided, polygons_cover_at_fractions, same-back, same-in}
use Rattle.plane_lists.proofs.OneRingListKit.{rings-uncrossed}
use Rattle.plane.proofs.PlaneKit.{down_seen, up_seen}
use Rattle.plane_lists.proofs.WindingKit.{counted-both-ways, even-is, odd-is, sided-scaled, winding-scaled}
use Rattle.plane_lists.proofs.Paths.BesideInside.{beside-inside}
use Rattle.plane_lists.proofs.Paths.LinkedInside.{reached, reached-by}
use Rattle.plane_lists.proofs.Paths.Winds.{joined-winds}

-- ---- counts
pub bit-most : (b : Bool) → bit b ≤ 1
bit-most true = omega arith
bit-most false = omega arith

some-more : (b : Bool) → b ≡ true → (n : ℕ) → 0 < cond {A = ℕ} b 1 0 + n
some-more true h n = omega arith
some-more false h n = absurd (cc h)

pub count-member : {X : Type 0} (f : X → Bool) (g : X) (xs : List X) → In g xs → f g ≡ true → 0 < count_by f xs
count-member f g [] i h = absurd i
count-member f g (x ∷ xs) (inl e) h = let a = count_by-cons f x xs in let b = some-more (f x) (subst (λ u. f u ≡ true) e h) (count_by f xs) in omega arith
count-member f g (x ∷ xs) (inr i) h = let a = count_by-cons f x xs in let b = count-member f g xs i h in omega arith

one-more : (b : Bool) → b ≡ true → (n : ℕ) → 0 < n → 1 < cond {A = ℕ} b 1 0 + n
one-more true h n l = omega arith
one-more false h n l = absurd (cc h)

-- two members that pass a test that one member passes at most are one
count-one : {X : Type 0} (f : X → Bool) (g h : X) (xs : List X) → In g xs → In h xs → f g ≡ true → f h ≡ true → count_by f xs ≤ 1 → g ≡ h
count-one f g h [] i j a b c = absurd i
count-one f g h (x ∷ xs) (inl d) (inl e) a b c = d ∙ sym e
count-one f g h (x ∷ xs) (inl d) (inr j) a b c = let n = count_by-cons f x xs in let m = one-more (f x) (subst (λ u. f u ≡ true) d a) (count_by f xs) (count-member f h xs j b) in absurd (omega arith)
count-one f g h (x ∷ xs) (inr i) (inl e) a b c = let n = count_by-cons f x xs in let m = one-more (f x) (subst (λ u. f u ≡ true) e b) (count_by f xs) (count-member f g xs i a) in absurd (omega arith)
count-one f g h (x ∷ xs) (inr i) (inr j) a b c = let n = count_by-cons f x xs in count-one f g h xs i j a b (omega arith)

none-here : (b : Bool) → b ≡ false → (n : ℕ) → cond {A = ℕ} b 1 0 + n ≡ n
none-here false h n = omega arith
none-here true h n = absurd (cc h)

there-by : {X : Type 0} (f : X → Bool) (x : X) (xs : List X) → (0 < count_by f xs → (g : X) × In g xs × (f g ≡ true)) → 0 < count_by f (x ∷ xs) → (b : Bool) → f x ≡ b → (g : X) × In g (x ∷ xs) × (f g ≡ true)
there-by f x xs more h true e = (x, inl refl, e)
there-by f x xs more h false e = let n = count_by-cons f x xs in let m = none-here (f x) e (count_by f xs) in let r = more (omega arith) in (r.0, inr r.1, r.2)

count-there : {X : Type 0} (f : X → Bool) (xs : List X) → 0 < count_by f xs → (g : X) × In g xs × (f g ≡ true)
count-there f [] h = absurd (omega arith)
count-there f (x ∷ xs) h = there-by f x xs (count-there f xs) h (f x) refl

-- ---- parity and winding number
pub inside-covers : (p : Vector) (es : List Edge) → winding_number east p es ≡ pos 1 → covers es p ≡ true
inside-covers p es h = let c = counted-both-ways east p es in ap not (odd-is (crossing_count east p es) (let e : up_count east p es ≡ down_count east p es + 1 = omega (arith, ints) in omega arith))

covers-by : (p : Vector) (es : List Edge) → covers es p ≡ true → (winding_number east p es ≡ pos 0) ⊎ (winding_number east p es ≡ pos 1) → winding_number east p es ≡ pos 1
covers-by p es c (inr h) = h
covers-by p es c (inl h) =
    let n = counted-both-ways east p es in
    let e : up_count east p es ≡ down_count east p es = omega (arith, ints) in
    let k = even-is (crossing_count east p es) (omega arith) in
    absurd (cc (sym k ∙ not-true-out (is_even (crossing_count east p es)) c))

-- ---- a part of a list
free-part : (xs es : List Edge) → ((x : Edge) → In x xs → In x es) → (p q : Vector) → IsFreeStep es p q → IsFreeStep xs p q
free-part xs es sub p q f = λ e i. f e (sub e i)

line-part : (xs es : List Edge) → ((x : Edge) → In x xs → In x es) → (p : Vector) (cs : List Vector) (q : Vector) → IsPolyline es p cs q → IsPolyline xs p cs q
line-part xs es sub p [] q l = free-part xs es sub p q l
line-part xs es sub p (c ∷ cs) q l = (free-part xs es sub p c l.0, line-part xs es sub c cs q l.1)

pub scaled-part : (k : ℤ) (xs es : List Edge) → ((x : Edge) → In x xs → In x es) → (x : Edge) → In x (scaled_edges k xs) → In x (scaled_edges k es)
scaled-part k xs es sub x i = let r = in-map-out (scaled_edge k) xs x i in subst (λ w. In w (scaled_edges k es)) (sym r.2) (in-map (scaled_edge k) es r.0 (sub r.0 r.1))

pub joined-part : (xs es : List Edge) → ((x : Edge) → In x xs → In x es) → (p q : Vector) → Joined es p q → Joined xs p q
joined-part xs es sub p q j = record {
  multiple = j.multiple;
  positive = j.positive;
  corners = j.corners;
  line = line-part (scaled_edges j.multiple xs) (scaled_edges j.multiple es) (scaled-part j.multiple xs es sub) (scaled_point j.multiple p) j.corners (scaled_point j.multiple q) j.line;
}

beside-part : (xs es : List Edge) → ((x : Edge) → In x xs → In x es) → (e : Edge) (p : Vector) → IsLeftBeside es e p → IsLeftBeside xs e p
beside-part xs es sub e p a = record { foot = a.foot; inside = a.inside; left = a.left; free = λ f i n. a.free f (sub f i) n }

off-part : (xs es : List Edge) → ((x : Edge) → In x xs → In x es) → (p : Vector) → All (IsOffEdge p) es → All (IsOffEdge p) xs
off-part xs es sub p o = all-in (IsOffEdge p) xs (λ x i. in-all (IsOffEdge p) es x o (sub x i))

-- ---- the polygons of a sided list
module _ (es : List Edge) (sd : IsSided es) (rs : List (List Edge)) (l : IsRingListOf es rs) (gs : List Polygon) (a : ArePolygonsOfRings rs gs) where
  u : IsRingList rs
  u = rings-uncrossed es sd rs l

  own : (g : Polygon) → In g gs → IsSided (polygon_edges g)
  own g i = polygon_sided rs u g (a.each g i)

  of-list : (g : Polygon) → In g gs → (x : Edge) → In x (polygon_edges g) → In x es
  of-list g i x j = same-in (edges_of rs) es l.edges x (same-in (edges_of (map polygon_edges gs)) (edges_of rs) a.whole x (in-edges (map polygon_edges gs) (polygon_edges g) x (in-map polygon_edges gs g i) j))

  module _ (k : ℤ) (hk : sign k ≡ Plus) where
    abbrev ks : List Edge
    ks = scaled_edges k es

    abbrev at : Polygon → List Edge
    at g = scaled_edges k (polygon_edges g)

    abbrev holds : Vector → Polygon → Bool
    holds p g = covers (at g) p

    part : (g : Polygon) → In g gs → (x : Edge) → In x (at g) → In x ks
    part g i = scaled-part k (polygon_edges g) es (of-list g i)

    cover-count : (p : Vector) → count_by (holds p) gs ≡ bit (covers (scaled_edges k (edges_of rs)) p)
    cover-count p = polygons_cover_at_fractions k hk rs u p gs a

    one-polygon : (p : Vector) (g h : Polygon) → In g gs → In h gs → holds p g ≡ true → holds p h ≡ true → g ≡ h
    one-polygon p g h i j x y = count-one (holds p) g h gs i j x y (let c = cover-count p in let m = bit-most (covers (scaled_edges k (edges_of rs)) p) in omega arith)

    -- what a polygon covers off the list it has inside
    inside-by : (p : Vector) → All (IsOffEdge p) ks → (g : Polygon) → In g gs → holds p g ≡ true → IsInside (at g) p
    inside-by p o g i c =
        let off = off-part (at g) ks (part g i) p o in
        record { off = off; once = covers-by p (at g) c ((own g i).counted k hk p off) }

    -- the edge that a point in a polygon reaches is one of the polygon
    module _ (g : Polygon) (i : In g gs) (p : Vector) (n : IsInside (at g) p) (e : Edge) (j : In e es) (r : ReachesEdge ks p (scaled_edge k e)) where
      abbrev m : ℤ
      m = r.multiple

      reached-inside : (h : Polygon) → In h gs → In e (polygon_edges h) → holds p h ≡ true
      reached-inside h ih jh =
          let sub = scaled-part m (at h) ks (part h ih) in
          let b = beside-inside (scaled_edges m (at h)) (sided-scaled m r.positive (at h) (sided-scaled k hk (polygon_edges h) (own h ih))) (scaled_edge m (scaled_edge k e))
          (in-map (scaled_edge m) (at h) (scaled_edge k e) (in-map (scaled_edge k) (polygon_edges h) e jh)) r.point (beside-part (scaled_edges m (at h)) (scaled_edges m ks) sub (scaled_edge m (scaled_edge k e)) r.point r.beside) in
          let w = joined-winds (scaled_edges m (at h)) (sided-scaled m r.positive (at h) (sided-scaled k hk (polygon_edges h) (own h ih))).balanced (scaled_point m p) r.point
          (joined-part (scaled_edges m (at h)) (scaled_edges m ks) sub (scaled_point m p) r.point r.joined) in
          inside-covers p (at h) (sym (winding-scaled m r.positive east p (at h)) ∙ w ∙ b.once)

      reached-own : In e (polygon_edges g)
      reached-own =
          let h = in-polygon es sd rs l gs a e j in
          subst (λ q. In e (polygon_edges q)) (one-polygon p h.0 g h.1 i (reached-inside h.0 h.1 h.2) (inside-covers p (at g) n.once)) h.2

    -- ---- joined points are in one polygon
    covered : (p : Vector) → IsInside ks p → covers (scaled_edges k (edges_of rs)) p ≡ true
    covered p n =
        same-cover (scaled_edges k es) (scaled_edges k (edges_of rs)) p (λ f. scaled-total f es (edges_of rs) (same-back (edges_of rs) es l.edges)) (inside-covers p ks n.once)
      where
        scaled-total : (f : Edge → ℕ) (xs ys : List Edge) → HasSameEdges xs ys → sum_by f (scaled_edges k xs) ≡ sum_by f (scaled_edges k ys)
        scaled-total f xs ys s =
            sym (total-is f (scaled_edges k xs)) ∙ total-map f (scaled_edge k) xs ∙ total-is (λ e. f (scaled_edge k e)) xs ∙ s (λ e. f (scaled_edge k e))
            ∙ sym (total-is (λ e. f (scaled_edge k e)) ys) ∙ sym (total-map f (scaled_edge k) ys) ∙ total-is f (scaled_edges k ys)

        same-cover : (xs ys : List Edge) (p : Vector) → HasSameEdges xs ys → covers xs p ≡ true → covers ys p ≡ true
        same-cover xs ys p s c = ap (λ n. not (is_even n)) (sym (s (λ e. up_seen east (from_to p) e + down_seen east (from_to p) e))) ∙ c

    joined-one : (p q : Vector) → IsInside ks p → IsInside ks q → Joined ks p q → AreInOne k gs p q
    joined-one p q x y j =
        let c = cover-count p in let d = ap bit (covered p x) in
        let t = count-there (holds p) gs (omega arith) in
        let g = t.0 in let i = t.1 in
        let n = inside-by p x.off g i t.2 in
        let w = joined-winds (at g) (sided-scaled k hk (polygon_edges g) (own g i)).balanced p q (joined-part (at g) ks (part g i) p q j) in
        record { polygon = g; member = i; first = n; second = record { off = off-part (at g) ks (part g i) q y.off; once = sym w ∙ n.once } }

    one-joined : (p q : Vector) → IsInside ks p → IsInside ks q → AreInOne k gs p q → Joined ks p q
    one-joined p q x y o =
        let g = o.polygon in let i = o.member in
        let e = reached es sd k hk p x in let f = reached es sd k hk q y in
        let ie = reached-own g i p o.first e.0 e.1 e.2 in let jf = reached-own g i q o.second f.0 f.1 f.2 in
        reached-by es sd k hk p q e.0 f.0 e.1 f.1 ((linked_one es sd rs l gs a g i e.0 f.0 ie).1 jf) e.2 f.2

pub parts : (es : List Edge) → IsSided es → (rs : List (List Edge)) → IsRingListOf es rs → (gs : List Polygon) → ArePolygonsOfRings rs gs → (k : ℤ) → sign k ≡ Plus → (p q : Vector) →
    IsInside (scaled_edges k es) p → IsInside (scaled_edges k es) q → Joined (scaled_edges k es) p q ↔ AreInOne k gs p q
parts es sd rs l gs a k hk p q x y = (joined-one es sd rs l gs a k hk p q x y, one-joined es sd rs l gs a k hk p q x y)
