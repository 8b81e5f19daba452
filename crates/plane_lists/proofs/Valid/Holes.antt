-- Each hole of a polygon makes one connected part of its exterior: the hole with its ring reversed is a sided list whose edges are linked.
use Rattle.std.proofs.Common.{All, Bool, List, [], ap, arith, false, inl, inr, map, refl, subst, sym, true, ℕ, ◌<◌, ◌∙◌, ◌∷◌, ◌↔◌, ◌≡◌, ◌≤◌, ◌⊎◌}
use borrow.Author.Differences.{ints}
use lib.IntN.{pos, ℤ, ◌*ℤ◌, ◌+ℤ◌, ◌-ℤ◌}
use Rattle.plane_lists.specs.Connected.Linked.{Linked}
use Rattle.plane_lists.specs.Connected.Linked.Linked.{Back, Follows, Itself, Through}
use Rattle.lists.specs.Member.{In}
use Rattle.plane_lists.specs.Rings.Nesting.{edges_of}
use Rattle.plane_lists.specs.Rings.Polygon.{Polygon, polygon_edges}
use Rattle.plane_lists.specs.Paths.Inside.{IsInside, IsLineInside, IsOutside, IsStepInside}
use Rattle.plane_lists.specs.Paths.Line.{IsApart, IsFreeStep, IsPolyline, Joined}
use Rattle.plane_lists.specs.Paths.Near.{near, opposite_of}
use Rattle.plane.specs.Bit.{bit}
use Rattle.plane.specs.Edge.{Edge, IsRisingEdge, reversed, same_edge, segment_of}
use Rattle.plane.specs.FreeSegment.{IsBetween}
use Rattle.plane.specs.Order.{order}
use Rattle.plane.specs.RayCrossing.{IsOffEdge, is_off}
use Rattle.plane.specs.Scale.{scaled_edge, scaled_point}
use Rattle.plane.specs.Sign.{Plus, is_plus, sign}
use Rattle.plane.specs.Vector.{IsNonZero, Vector, cross, dot, east, from_to, one_at, same_point}
use Rattle.plane_lists.specs.Lists.ConflictFree.{IsConflictFree}
use Rattle.plane_lists.specs.Lists.EdgeList.{IsBalanced, down_count, up_count, winding_number}
use Rattle.plane_lists.specs.Lists.Ring.{IsPath, IsRing, segments_of}
use Rattle.plane_lists.specs.Lists.ScaledEdges.{scaled_edges}
use Rattle.plane_lists.specs.Lists.Sided.{IsSided}
use Rattle.plane_lists.specs.Valid.Valid.{IsExterior, LiesByRings, has_inside}
use Rattle.lists.proofs.ListsKit.{all-in, in-all, in-map, in-map-out, in-right, total, total-is, total-map, total-same}
use Rattle.plane_lists.proofs.NestingKit.{in-edges, next_leaves, next_there, reversed-by, rise}
use Rattle.plane_lists.proofs.PathsKit.{apart-exactly, apart-near, between-back, count-member, dot-direction, edge-parts, edge-parts-inside, free-back, free-off, inside-joined, joined-part, joined-winds, later-along, later-both, later-free, later-some, line-inside, near-none, none, off-apart, scaled-part, step-winds, times-some, winds-across-edge}
use Rattle.plane.proofs.PlaneKit.{direction-back, dot2, down_seen, lift2, on-between, point-scaled, point-twice, same_edge-refl, same_edge-true, same_edge_by, same_point-refl, same_point-true, step-direction, up_seen}
use Rattle.plane.proofs.SignKit.{lift, plus-times, same, ◌⊟◌, ◌⊠◌}
use Rattle.plane_lists.proofs.WindingKit.{all-off-scaled, balanced-scaled, closed-balanced, edges-twice, once-most, path-ends, reversed-crossings, sided-scaled, total-member, winding-scaled}
use Rattle.plane_lists.proofs.Valid.Meets.{inner-off, meet, no-loop, on-reversed}
use Rattle.plane_lists.proofs.Valid.Windings.{downs, ups}
use Rattle.plane_lists.specs.Paths.Beside.{WindsMore, times_in}

-- to the left
abbrev pub left_of : Vector → Vector
left_of d = record { x = pos 0 -ℤ d.y; y = d.x }

pub left-plus : (d : Vector) → cross d (left_of d) ≡ dot d d
left-plus d = let d' = lift2 d in same (d'.x2 ⊠ d'.x2 ⊟ d'.y2 ⊠ (lift (pos 0) ⊟ d'.y2)) (dot2 d' d') (omega arith)

-- ---- counts
true-bit : (b : Bool) → bit b ≡ 1 → b ≡ true
true-bit true h = refl
true-bit false h = absurd (omega arith)

counts-two : {X : Type 0} (f : X → ℕ) (xs : List X) (x y : X) → In x xs → In y xs → (x ≡ y → ⊥) → 1 ≤ f x → 1 ≤ f y → 2 ≤ total f xs
counts-two f [] x y i j n a b = absurd i
counts-two f (z ∷ zs) x y (inl d) (inl e) n a b = absurd (n (d ∙ sym e))
counts-two f (z ∷ zs) x y (inl d) (inr j) n a b = let m = total-member f zs y j in let e = ap f d in omega arith
counts-two f (z ∷ zs) x y (inr i) (inl d) n a b = let m = total-member f zs x i in let e = ap f d in omega arith
counts-two f (z ∷ zs) x y (inr i) (inr j) n a b = let m = counts-two f zs x y i j n a b in omega arith

-- across an edge the number of times that a hole winds grows: the point on the right is in it where that on the left isn't
pub right-in : (x y : Bool) → (x ≡ true → ⊥) → (wx wy : ℤ) (n : ℕ) → wx ≡ pos 0 -ℤ pos (bit x) → wy ≡ pos 0 -ℤ pos (bit y) → wx ≡ wy +ℤ pos n → 0 < n → y ≡ true
right-in true y h wx wy n a b c l = absurd (h refl)
right-in false true h wx wy n a b c l = refl
right-in false false h wx wy n a b c l = absurd (omega (arith, ints))

one-here : (v w : Vector) → w ≡ v → 1 ≤ one_at v w
one-here v w e = let a = ap bit (ap (same_point v) e ∙ same_point-refl v) in omega arith

module _ (h : List Edge) (ring : IsRing h) where
  ends-same : (v : Vector) → total (λ (e : Edge). one_at v e.from) h ≡ total (λ (e : Edge). one_at v e.to) h
  ends-same v = let a = path-ends v ring.start ring.start h ring.path in omega arith

  rev-balanced : IsBalanced (map reversed h)
  rev-balanced v =
      sym (total-is (λ (e : Edge). one_at v e.from) (map reversed h)) ∙ total-map (λ (e : Edge). one_at v e.from) reversed h
      ∙ sym (ends-same v) ∙ sym (total-map (λ (e : Edge). one_at v e.to) reversed h) ∙ total-is (λ (e : Edge). one_at v e.to) (map reversed h)

  -- one edge alone ends at a node
  enters-once : (x y : Edge) → In x h → In y h → x.to ≡ y.to → (x ≡ y → ⊥) → ⊥
  enters-once x y i j e n =
      let v = y.to in let a = once-most v h ring.once in let b = ends-same v in
      let c = counts-two (λ (e : Edge). one_at v e.to) h x y i j n (one-here v x.to e) (one-here v y.to refl) in absurd (omega arith)

-- ---- a hole of a polygon
-- no point in it is in the interior
pub no-part : (g : Polygon) (h : List Edge) → In h g.inner → (k : ℤ) (p : Vector) → IsInside (scaled_edges k (polygon_edges g)) p → has_inside k p h ≡ true → LiesByRings k p g → ⊥
no-part g h ih k p n t (inl x) = let c = count-member (has_inside k p) h g.inner ih t in let z = x.2 in absurd (omega arith)
no-part g h ih k p n t (inr x) = let a = (x.0).none in let b = n.once in absurd (cc (sym a ∙ b))

module _ (g : Polygon) (sg : IsSided (polygon_edges g)) (parted : (k : ℤ) → sign k ≡ Plus → (p : Vector) → All (IsOffEdge p) (scaled_edges k (polygon_edges g)) → LiesByRings k p g)
    (h : List Edge) (ih : In h g.inner) (ring : IsRing h) (plain : IsConflictFree (segments_of h))
    (winds : (k : ℤ) → sign k ≡ Plus → (p : Vector) → winding_number east p (scaled_edges k h) ≡ pos 0 -ℤ pos (bit (has_inside k p h))) where
  abbrev es : List Edge
  es = polygon_edges g

  abbrev rev : List Edge
  rev = map reversed h

  sub : (x : Edge) → In x h → In x es
  sub x i = in-right g.outer (edges_of g.inner) x (in-edges g.inner h x ih i)

  segments-turned : (xs : List Edge) → ((x : Edge) → In x xs → IsRisingEdge (segment_of x)) → segments_of (map reversed xs) ≡ segments_of xs
  segments-turned [] r = refl
  segments-turned (x ∷ xs) r =
      ap (λ s. s ∷ segments_of (map reversed xs)) (reversed-by (is_plus (order x.from x.to)) x (r x (inl refl))) ∙ ap (λ l. segment_of x ∷ l) (segments-turned xs (λ y i. r y (inr i)))

  module _ (k : ℤ) (hk : sign k ≡ Plus) (p : Vector) where
    rev-ups : up_count east p (scaled_edges k rev) ≡ down_count east p (scaled_edges k h)
    rev-ups =
        ups k hk p rev ∙ total-map (λ (e : Edge). up_seen east (from_to p) (scaled_edge k e)) reversed h
        ∙ total-same (λ (e : Edge). up_seen east (from_to p) (scaled_edge k (reversed e))) (λ (e : Edge). down_seen east (from_to p) (scaled_edge k e)) h (λ e i. (reversed-crossings east (from_to p) (scaled_edge k e)).0)
        ∙ sym (downs k hk p h)

    rev-downs : down_count east p (scaled_edges k rev) ≡ up_count east p (scaled_edges k h)
    rev-downs =
        downs k hk p rev ∙ total-map (λ (e : Edge). down_seen east (from_to p) (scaled_edge k e)) reversed h
        ∙ total-same (λ (e : Edge). down_seen east (from_to p) (scaled_edge k (reversed e))) (λ (e : Edge). up_seen east (from_to p) (scaled_edge k e)) h (λ e i. (reversed-crossings east (from_to p) (scaled_edge k e)).1)
        ∙ sym (ups k hk p h)

    rev-winds : winding_number east p (scaled_edges k rev) ≡ pos (bit (has_inside k p h))
    rev-winds = let a = rev-ups in let b = rev-downs in let c = winds k hk p in omega (arith, ints)

  bit-either : (b : Bool) → (pos (bit b) ≡ pos 0) ⊎ (pos (bit b) ≡ pos 1)
  bit-either false = inl refl
  bit-either true = inr refl

  rev-sided : IsSided rev
  rev-sided = record {
    plain = subst IsConflictFree (sym (segments-turned h (λ x i. rise es sg x (sub x i)))) plain;
    balanced = rev-balanced h ring;
    counted = λ q hq p off. subst (λ n. (n ≡ pos 0) ⊎ (n ≡ pos 1)) (sym (rev-winds q hq p)) (bit-either (has_inside q p h));
  }

  -- ---- all of its edges are linked
  same-by : (x y : Edge) → ((x ≡ y → ⊥) → ⊥) → (b : Bool) → same_edge x y ≡ b → x ≡ y
  same-by x y n true e = same_edge-true x y e
  same-by x y n false e = absurd (n (λ q. cc (sym (same_edge-refl x) ∙ ap (same_edge x) q ∙ e)))

  link : (e f : Edge) → In e h → In f h → e.to ≡ f.from → Linked rev (reversed f) (reversed e)
  link e f i j q =
      let k = in-map reversed h f j in
      let s = next_there rev rev-sided (reversed f) k in
      let l : f.from ≡ (s.0).from = next_leaves rev rev-sided (reversed f) s.0 k s.1 in
      let r = in-map-out reversed h s.0 (s.1).member in
      let d : (r.0).to ≡ e.to = sym (q ∙ l ∙ ap (λ (w : Edge). w.from) r.2) in
      let x = same-by r.0 e (enters-once h ring r.0 e r.1 i d) (same_edge r.0 e) refl in
      subst (λ w. Linked rev (reversed f) w) (r.2 ∙ ap reversed x) (Follows (reversed f) s.0 k s.1)

  along : (z : Edge) → In z h → (xs : List Edge) (b : Vector) → IsPath z.to xs b → ((x : Edge) → In x xs → In x h) → (x : Edge) → In x xs → Linked rev (reversed z) (reversed x)
  along z iz [] b p s x i = absurd i
  along z iz (y ∷ ys) b p s x (inl e) = subst (λ w. Linked rev (reversed z) (reversed w)) (sym e) (Back (reversed y) (reversed z) (link z y iz (s y (inl refl)) (sym p.0)))
  along z iz (y ∷ ys) b p s x (inr i) =
      Through (reversed z) (reversed y) (reversed x) (Back (reversed y) (reversed z) (link z y iz (s y (inl refl)) (sym p.0))) (along y (s y (inl refl)) ys b p.1 (λ w j. s w (inr j)) x i)

  from-head : (z : Edge) (zs : List Edge) (b : Vector) → IsPath z.to zs b → ((x : Edge) → In x (z ∷ zs) → In x h) → (x : Edge) → In x (z ∷ zs) → Linked rev (reversed z) (reversed x)
  from-head z zs b p s x (inl e) = subst (λ w. Linked rev (reversed z) (reversed w)) (sym e) (Itself (reversed z))
  from-head z zs b p s x (inr i) = along z (s z (inl refl)) zs b p (λ w j. s w (inr j)) x i

  any-two : (a : Vector) (xs : List Edge) (b : Vector) → IsPath a xs b → ((x : Edge) → In x xs → In x h) → (x y : Edge) → In x xs → In y xs → Linked rev (reversed x) (reversed y)
  any-two a [] b p s x y i j = absurd i
  any-two a (z ∷ zs) b p s x y i j =
      Through (reversed x) (reversed z) (reversed y) (Back (reversed z) (reversed x) (from-head z zs b p.1 s x i)) (from-head z zs b p.1 s y j)

  rev-linked : (e f : Edge) → In e rev → In f rev → Linked rev e f
  rev-linked e f i j =
      let r = in-map-out reversed h e i in let s = in-map-out reversed h f j in
      subst (λ w. Linked rev w f) (sym r.2) (subst (λ w. Linked rev (reversed r.0) w) (sym s.2) (any-two ring.start h ring.start ring.path (λ x k. k) r.0 s.0 r.1 s.1))

  -- ---- no point in the hole is on an edge of the polygon
  strict : (m : ℤ) → sign m ≡ Plus → (e : Edge) → In e es → (z : Vector) → IsBetween (scaled_point m e.from) (scaled_point m e.to) z → IsInside (scaled_edges m rev) z → ⊥
  strict m hm e i z b n =
      let l = scaled_edges m rev in let fs = scaled_edges m es in
      let d = from_to (scaled_point m e.from) (scaled_point m e.to) in let u = left_of d in
      let plus : sign (cross d u) ≡ Plus = ap sign (left-plus d) ∙ dot-direction d (from_to (scaled_point m e.from) z) b.after_s in
      let A = λ (k : ℤ). IsInside (scaled_edges k fs) (near k z u) × IsOutside (scaled_edges k fs) (near k z (opposite_of u)) in
      let B = λ (k : ℤ). IsFreeStep (scaled_edges k l) (near k z none) (near k z u) in
      let s = later-some (λ k. A k × B k) (later-both A B
      (edge-parts fs (sided-scaled m hm es sg) (scaled_edge m e) (in-map (scaled_edge m) es e i) z u b plus)
      (later-free z none z u l (λ x j. apart-near z z x (off-apart z x (in-all (IsOffEdge z) l x n.off j)) none u))) in
      let k = s.0 in let hk = s.1 in let p = near k z u in let km = k *ℤ m in let hkm = plus-times k m hk ∙ hm in
      let w : winding_number east p (scaled_edges k l) ≡ pos 1 =
      sym (step-winds (scaled_edges k l) (balanced-scaled k hk l (balanced-scaled m hm rev (rev-balanced h ring))) (near k z none) p (s.2).1)
      ∙ ap (λ v. winding_number east v (scaled_edges k l)) (near-none k z) ∙ winding-scaled k hk east z l ∙ n.once in
      let v : pos (bit (has_inside km p h)) ≡ pos 1 = sym (rev-winds km hkm p) ∙ ap (λ x. winding_number east p x) (sym (edges-twice k m rev)) ∙ w in
      let t = true-bit (has_inside km p h) (omega (arith, ints)) in
      let inside = subst (λ x. IsInside x p) (edges-twice k m es) ((s.2).0).0 in
      no-part g h ih km p inside t (parted km hkm p inside.off)

  at-end : (m : ℤ) → sign m ≡ Plus → (e : Edge) → In e es → (x y : Vector) → IsNonZero (from_to x y) →
      ((k : ℤ) (z : Vector) → IsBetween (scaled_point k x) (scaled_point k y) z → IsBetween (scaled_point (k *ℤ m) e.from) (scaled_point (k *ℤ m) e.to) z) → IsInside (scaled_edges m rev) x → ⊥
  at-end m hm e i x y d turn n =
      let l = scaled_edges m rev in let u = from_to x y in
      let A = λ (k : ℤ). IsFreeStep (scaled_edges k l) (near k x none) (near k x u) in
      let B = λ (k : ℤ). IsBetween (scaled_point k x) (scaled_point k y) (near k x u) in
      let s = later-some (λ k. A k × B k) (later-both A B
      (later-free x none x u l (λ f j. apart-near x x f (off-apart x f (in-all (IsOffEdge x) l f n.off j)) none u))
      (later-along x y d)) in
      let k = s.0 in let hk = s.1 in let z = near k x u in
      let w : winding_number east z (scaled_edges k l) ≡ pos 1 =
      sym (step-winds (scaled_edges k l) (balanced-scaled k hk l (balanced-scaled m hm rev (rev-balanced h ring))) (near k x none) z (s.2).0)
      ∙ ap (λ v. winding_number east v (scaled_edges k l)) (near-none k x) ∙ winding-scaled k hk east x l ∙ n.once in
      let inside : IsInside (scaled_edges k l) z = record { off = free-off (scaled_edges k l) z (near k x none) (free-back (scaled_edges k l) (near k x none) z (s.2).0); once = w } in
      strict (k *ℤ m) (plus-times k m hk ∙ hm) e i z (turn k z (s.2).1) (subst (λ q. IsInside q z) (edges-twice k m rev) inside)

  abbrev Between : ℤ → Edge → Vector → Type 0
  Between m e z = IsBetween (scaled_point m e.from) (scaled_point m e.to) z

  twice : (k m : ℤ) (e : Edge) (z : Vector) → IsBetween (scaled_point k (scaled_point m e.from)) (scaled_point k (scaled_point m e.to)) z → Between (k *ℤ m) e z
  twice k m e z b = subst (λ w. IsBetween w (scaled_point (k *ℤ m) e.to) z) (point-twice k m e.from) (subst (λ w. IsBetween (scaled_point k (scaled_point m e.from)) w z) (point-twice k m e.to) b)

  module _ (m : ℤ) (hm : sign m ≡ Plus) (e : Edge) (i : In e es) (x : Vector) (n : IsInside (scaled_edges m rev) x) where
    abbrev a : Vector
    a = scaled_point m e.from

    abbrev c : Vector
    c = scaled_point m e.to

    way : IsNonZero (from_to a c)
    way = step-direction a c (point-scaled m hm e.from e.to ∙ no-loop es sg e i)

    not-first : x ≡ a → ⊥
    not-first q = at-end m hm e i a c way (λ k z b. twice k m e z b) (subst (IsInside (scaled_edges m rev)) q n)

    not-last : x ≡ c → ⊥
    not-last q = at-end m hm e i c a (direction-back a c way) (λ k z b. twice k m e z (between-back (scaled_point k c) (scaled_point k a) z b)) (subst (IsInside (scaled_edges m rev)) q n)

    ends-by : is_off x (scaled_edge m e) ≡ false → (b b' : Bool) → same_point x a ≡ b → same_point x c ≡ b' → ⊥
    ends-by o true b' p q = not-first (same_point-true x a p)
    ends-by o false true p q = not-last (same_point-true x c q)
    ends-by o false false p q = strict m hm e i x (on-between (scaled_edge m e) x o p q) n

    off-by : (b : Bool) → is_off x (scaled_edge m e) ≡ b → b ≡ true
    off-by true o = refl
    off-by false o = absurd (ends-by o (same_point x a) (same_point x c) refl refl)

    pub off-hole : IsOffEdge x (scaled_edge m e)
    off-hole = let r = off-by (is_off x (scaled_edge m e)) refl in r

  -- ---- so a line in the hole meets no edge of the polygon
  step-off : (m : ℤ) → sign m ≡ Plus → (p q : Vector) → IsStepInside (scaled_edges m rev) p q → IsFreeStep (scaled_edges m es) p q
  step-off m hm p q s f j =
      let r = in-map-out (scaled_edge m) es f j in
      let e = r.0 in
      subst (λ w. IsApart p q w) (sym r.2)
      ((apart-exactly p q (scaled_edge m e) (λ k. cc (sym (same_point-refl (scaled_point m e.from)) ∙ ap (same_point (scaled_point m e.from)) k ∙ point-scaled m hm e.from e.to ∙ no-loop es sg e r.1))).1
      (λ a b ha hb k.
      let x : Vector = record { x = a *ℤ p.x +ℤ b *ℤ q.x; y = a *ℤ p.y +ℤ b *ℤ q.y } in
      subst (λ (w : Edge). IsOffEdge x w)
      (sym (same_edge_by (scaled_point (a +ℤ b) (scaled_point m e.from)) (scaled_point (a +ℤ b) (scaled_point m e.to)) (scaled_point ((a +ℤ b) *ℤ m) e.from) (scaled_point ((a +ℤ b) *ℤ m) e.to) (point-twice (a +ℤ b) m e.from) (point-twice (a +ℤ b) m e.to)))
      (off-hole ((a +ℤ b) *ℤ m) (plus-times (a +ℤ b) m k ∙ hm) e r.1 x (subst (λ l. IsInside l x) (edges-twice (a +ℤ b) m rev) (s a b ha hb k)))))

  line-off : (m : ℤ) → sign m ≡ Plus → (p : Vector) (cs : List Vector) (q : Vector) → IsLineInside (scaled_edges m rev) p cs q → IsPolyline (scaled_edges m es) p cs q
  line-off m hm p [] q l = step-off m hm p q l
  line-off m hm p (c ∷ cs) q l = (step-off m hm p c l.0, line-off m hm c cs q l.1)

  module _ (k : ℤ) (hk : sign k ≡ Plus) (p q : Vector) where
    hole-joined : IsInside (scaled_edges k rev) p → IsInside (scaled_edges k rev) q → Joined (scaled_edges k es) p q
    hole-joined x y =
        let j = inside-joined rev rev-sided rev-linked k hk p q x y in
        let n = j.multiple in let hn = j.positive in let l = scaled_edges k rev in
        let bal = balanced-scaled n hn l (balanced-scaled k hk rev (rev-balanced h ring)) in
        let start : IsInside (scaled_edges n l) (scaled_point n p) = record { off = all-off-scaled n hn p l x.off; once = winding-scaled n hn east p l ∙ x.once } in
        let inside = line-inside (scaled_edges n l) bal (scaled_point n p) j.corners (scaled_point n q) j.line start in
        record {
          multiple = n;
          positive = hn;
          corners = j.corners;
          line = subst (λ w. IsPolyline w (scaled_point n p) j.corners (scaled_point n q)) (sym (edges-twice n k es))
              (line-off (n *ℤ k) (plus-times n k hn ∙ hk) (scaled_point n p) j.corners (scaled_point n q)
              (subst (λ w. IsLineInside w (scaled_point n p) j.corners (scaled_point n q)) (edges-twice n k rev) inside));
        }

  inside-rev : (k : ℤ) → sign k ≡ Plus → (p : Vector) → All (IsOffEdge p) (scaled_edges k es) → has_inside k p h ≡ true → IsInside (scaled_edges k rev) p
  inside-rev k hk p off t = record {
    off = all-in (IsOffEdge p) (scaled_edges k rev) (λ f j.
        let r = in-map-out (scaled_edge k) rev f j in let s = in-map-out reversed h r.0 r.1 in
        subst (IsOffEdge p) (sym (r.2 ∙ ap (scaled_edge k) s.2))
        (on-reversed p (scaled_edge k s.0) ∙ in-all (IsOffEdge p) (scaled_edges k es) (scaled_edge k s.0) off (in-map (scaled_edge k) es s.0 (sub s.0 s.1))));
    once = rev-winds k hk p ∙ ap (λ b. pos (bit b)) t;
  }

  pub hole_part : (k : ℤ) → sign k ≡ Plus → (p q : Vector) → All (IsOffEdge p) (scaled_edges k es) → All (IsOffEdge q) (scaled_edges k es) → has_inside k p h ≡ true → Joined (scaled_edges k es) p q ↔ (has_inside k q h ≡ true)
  hole_part k hk p q op oq t = (
    λ j.
        let w = joined-winds (scaled_edges k h) (balanced-scaled k hk h (closed-balanced ring.start h ring.path)) p q (joined-part (scaled_edges k h) (scaled_edges k es) (scaled-part k h es sub) p q j) in
        let a = winds k hk p in let b = winds k hk q in let c = ap bit t in
        true-bit (has_inside k q h) (omega (arith, ints)),
    λ u. hole-joined k hk p q (inside-rev k hk p op t) (inside-rev k hk q oq u),
  )

  -- ---- some point of the exterior is in the hole: right of an edge of it
  pub hole_point : (e : Edge) → In e h → (k : ℤ) × (p : Vector) × (sign k ≡ Plus) × IsExterior k p g × (has_inside k p h ≡ true)
  hole_point e i =
      let w = from_to e.from e.to in let u = left_of w in let d = step-direction e.from e.to (no-loop es sg e (sub e i)) in
      let s = later-some (λ q. Between q e (near q e.from w)) (later-along e.from e.to d) in
      let q = s.0 in let hq = s.1 in let r = near q e.from w in
      let left : sign (cross w u) ≡ Plus = ap sign (left-plus w) ∙ d in
      let A = λ (k : ℤ). IsInside (scaled_edges k (scaled_edges q es)) (near k r u) × IsOutside (scaled_edges k (scaled_edges q es)) (near k r (opposite_of u)) in
      let B = λ (k : ℤ). WindsMore (scaled_edges k (scaled_edges q h)) (near k r u) (near k r (opposite_of u)) (times_in e h) in
      let t = later-some (λ k. A k × B k) (later-both A B (edge-parts-inside es sg e (sub e i) q hq r u s.2 left)
      (winds-across-edge h (closed-balanced ring.start h ring.path) e q hq r u s.2 left (λ f j n. inner-off e f q hq r s.2 (meet es sg e f (sub e i) (sub f j) n) (is_off r (scaled_edge q f)) refl))) in
      let k = t.0 in let m = k *ℤ q in let hm : sign m ≡ Plus = plus-times k q t.1 ∙ hq in let x = near k r u in let y = near k r (opposite_of u) in
      let inside = subst (λ l. IsInside l x) (edges-twice k q es) t.2.0.0 in
      let more = subst (λ l. winding_number east x l ≡ winding_number east y l +ℤ pos (times_in e h)) (edges-twice k q h) t.2.1.more in (
        m,
        y,
        hm,
        subst (λ l. IsOutside l y) (edges-twice k q es) t.2.0.1,
        right-in (has_inside m x h) (has_inside m y h) (λ z. no-part g h ih m x inside z (parted m hm x inside.off)) (winding_number east x (scaled_edges m h)) (winding_number east y (scaled_edges m h)) (times_in e h)
            (winds m hm x) (winds m hm y) more (times-some e h i),
      )
