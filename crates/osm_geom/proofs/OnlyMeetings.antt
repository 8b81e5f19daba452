-- A segment meets a line that it isn't parallel to in one point.
use Rattle.std.proofs.Common.{◌≡◌, ◌≢◌, ◌*◌, ◌∙◌, ℕ, ℤ, pos, ◌*ℤ◌, ◌-ℤ◌, true, ap, sym, subst, arith}
use Rattle.std.proofs.lemmas.Int.{ints}
use Rattle.plane.specs.Sign.{Minus, Null, Plus, Sign, sign, then_sign}
use Rattle.plane.proofs.SignKit.{lift, same, ◌⊟◌, ◌⊠◌, null-zero, plus-times, self-diff, minus_zeros}
use Rattle.plane.proofs.PlaneKit.{off_by-no}
use Rattle.lists.proofs.ListsKit.{same_from_difference}
use Rattle.osm_geom.specs.declared.cut.Axis.{Axis}
use Rattle.osm_geom.specs.declared.cut.Axis.TheVariants.{X, Y}
use Rattle.osm_geom.specs.declared.cut.Cut.{Cut}
use Rattle.osm_geom.specs.declared.edge.Carrier.TheVariants.{OfSeg}
use Rattle.osm_geom.specs.declared.point.Point.{Point}
use Rattle.osm_geom.specs.declared.point.Point.TheVariants.{Lattice}
use Rattle.osm_lattice.specs.declared.seg.Seg.{Seg}
use Rattle.osm_lattice.specs.OrderLaws.{ordering_of}
use Rattle.osm_geom.specs.Carrier.{is_on}
use Rattle.osm_geom.specs.Cut.{IsOnlyMeeting, cut_order}
use Rattle.osm_geom.specs.Point.{den_of, point_cmp, point_order, whole_of, x_of, y_of}
use Rattle.osm_lattice.proofs.LatticeKit.{zero_other}
use Rattle.osm_geom.proofs.CutPoints.{located-is, nat, order_at}
use Rattle.osm_geom.proofs.PointOrders.{den-sign}
use Rattle.osm_geom.proofs.TotalPoints.{point_same}

turned : (m n : ℕ) → m * n ≡ n * m
turned m n = omega arith

turned-difference : (a b : ℤ) → a -ℤ b ≡ pos 0 → b -ℤ a ≡ pos 0
turned-difference a b e = omega (arith, ints)

-- ---- a point of the line u = at, in the plane multiplied by k, on the segment from (au, av) to (bu, bv): its v
module _ (au av bu bv at : ℤ) where
  abbrev base : ℤ
  base = av *ℤ (bu -ℤ at) -ℤ bv *ℤ (au -ℤ at)

  crossed : (k v : ℤ) → (k *ℤ au -ℤ k *ℤ at) *ℤ (k *ℤ bv -ℤ v) -ℤ (k *ℤ av -ℤ v) *ℤ (k *ℤ bu -ℤ k *ℤ at) ≡ k *ℤ (v *ℤ (bu -ℤ au) -ℤ k *ℤ base)
  crossed k v =
      let k' = lift k in let w = lift v in let a = lift au in let c = lift av in let b = lift bu in let d = lift bv in let t = lift at in
      same ((k' ⊠ a ⊟ k' ⊠ t) ⊠ (k' ⊠ d ⊟ w) ⊟ (k' ⊠ c ⊟ w) ⊠ (k' ⊠ b ⊟ k' ⊠ t)) (k' ⊠ (w ⊠ (b ⊟ a) ⊟ k' ⊠ (c ⊠ (b ⊟ t) ⊟ d ⊠ (a ⊟ t)))) (omega arith)

  other-is : (k u v : ℤ) → sign k ≡ Plus → u ≡ k *ℤ at → (k *ℤ au -ℤ u) *ℤ (k *ℤ bv -ℤ v) -ℤ (k *ℤ av -ℤ v) *ℤ (k *ℤ bu -ℤ u) ≡ pos 0 → v *ℤ (bu -ℤ au) -ℤ k *ℤ base ≡ pos 0
  other-is k u v some on e =
      let f = subst (λ z. (k *ℤ au -ℤ z) *ℤ (k *ℤ bv -ℤ v) -ℤ (k *ℤ av -ℤ v) *ℤ (k *ℤ bu -ℤ z) ≡ pos 0) on e in
      null-zero _ (sym (plus-times k (v *ℤ (bu -ℤ au) -ℤ k *ℤ base) some) ∙ ap sign (sym (crossed k v) ∙ f))

apart-by : (d k m v w c : ℤ) → d *ℤ (k *ℤ w -ℤ m *ℤ v) ≡ k *ℤ (w *ℤ d -ℤ m *ℤ c) -ℤ m *ℤ (v *ℤ d -ℤ k *ℤ c)
apart-by d k m v w c =
    let d' = lift d in let k' = lift k in let m' = lift m in let v' = lift v in let w' = lift w in let c' = lift c in
    same (d' ⊠ (k' ⊠ w' ⊟ m' ⊠ v')) (k' ⊠ (w' ⊠ d' ⊟ m' ⊠ c') ⊟ m' ⊠ (v' ⊠ d' ⊟ k' ⊠ c')) (omega arith)

-- two numbers that k and m times one number give, over a denominator that isn't 0
one-by : (d k m v w c : ℤ) → d ≢ pos 0 → v *ℤ d -ℤ k *ℤ c ≡ pos 0 → w *ℤ d -ℤ m *ℤ c ≡ pos 0 → sign (k *ℤ w -ℤ m *ℤ v) ≡ Null
one-by d k m v w c some e f = ap sign (zero_other d (k *ℤ w -ℤ m *ℤ v) some (apart-by d k m v w c ∙ minus_zeros k m (w *ℤ d -ℤ m *ℤ c) (v *ℤ d -ℤ k *ℤ c) f e))

at-one : (k m at u v : ℤ) → u ≡ k *ℤ at → v ≡ m *ℤ at → sign (k *ℤ v -ℤ m *ℤ u) ≡ Null
at-one k m at u v h g =
    ap (λ z. sign (k *ℤ z -ℤ m *ℤ u)) g ∙ ap (λ z. sign (k *ℤ (m *ℤ at) -ℤ m *ℤ z)) h
    ∙ ap (λ z. sign (z -ℤ m *ℤ (k *ℤ at))) (same (lift k ⊠ (lift m ⊠ lift at)) (lift m ⊠ (lift k ⊠ lift at)) (omega arith)) ∙ self-diff (m *ℤ (k *ℤ at))

-- ---- a coordinate on the line
on-line : (at n : ℤ) (d f : ℕ) → sign (at *ℤ pos d -ℤ n) ≡ Null → n *ℤ pos f ≡ pos (d * f) *ℤ at
on-line at n d f h =
    ap (λ z. z *ℤ pos f) (sym (same_from_difference (at *ℤ pos d) n (null-zero _ h))) ∙ same (lift at ⊠ nat d ⊠ nat f) (nat (d * f) ⊠ lift at) (omega arith)

both-null : (s t : Sign) → s ≡ Null → t ≡ Null → then_sign s t ≡ Null
both-null Null t h g = g
both-null Plus t h g = absurd (cc h)
both-null Minus t h g = absurd (cc h)

module _ (s : Seg) (at : ℤ) where
  -- the cross product of the ways to both ends
  ways : (p : Point) → is_on (OfSeg s) p ≡ true →
      (pos (den_of p) *ℤ s.a.x -ℤ (whole_of p).x) *ℤ (pos (den_of p) *ℤ s.b.y -ℤ (whole_of p).y) -ℤ (pos (den_of p) *ℤ s.a.y -ℤ (whole_of p).y) *ℤ (pos (den_of p) *ℤ s.b.x -ℤ (whole_of p).x) ≡ pos 0
  ways p h = null-zero _ (off_by-no _ _ (located-is s p h))

  ways-turned : (p : Point) → is_on (OfSeg s) p ≡ true →
      (pos (den_of p) *ℤ s.a.y -ℤ (whole_of p).y) *ℤ (pos (den_of p) *ℤ s.b.x -ℤ (whole_of p).x) -ℤ (pos (den_of p) *ℤ s.a.x -ℤ (whole_of p).x) *ℤ (pos (den_of p) *ℤ s.b.y -ℤ (whole_of p).y) ≡ pos 0
  ways-turned p h =
      turned-difference ((pos (den_of p) *ℤ s.a.x -ℤ (whole_of p).x) *ℤ (pos (den_of p) *ℤ s.b.y -ℤ (whole_of p).y)) ((pos (den_of p) *ℤ s.a.y -ℤ (whole_of p).y) *ℤ (pos (den_of p) *ℤ s.b.x -ℤ (whole_of p).x)) (ways p h)

  x-at : (p : Point) → order_at X at p ≡ Null → (whole_of p).x ≡ pos (den_of p) *ℤ at
  x-at p h = on-line at (x_of p).num (x_of p).den (y_of p).den h

  y-at : (p : Point) → order_at Y at p ≡ Null → (whole_of p).y ≡ pos (den_of p) *ℤ at
  y-at p h = on-line at (y_of p).num (y_of p).den (x_of p).den h ∙ ap (λ n. pos n *ℤ at) (turned (y_of p).den (x_of p).den)

  tied : (axis : Axis) (p q : Point) → order_at axis at (Lattice s.a) ≢ order_at axis at (Lattice s.b) → is_on (OfSeg s) p ≡ true → is_on (OfSeg s) q ≡ true → order_at axis at p ≡ Null → order_at axis at q ≡ Null → point_order p q ≡ Null
  tied X p q n hp hq op oq =
      let k = pos (den_of p) in let m = pos (den_of q) in let v = whole_of p in let w = whole_of q in
      let some : s.b.x -ℤ s.a.x ≢ pos 0 = λ e. n (ap (λ z. sign (at *ℤ pos 1 -ℤ z)) (sym (same_from_difference s.b.x s.a.x e))) in
      both-null (sign (k *ℤ w.y -ℤ m *ℤ v.y)) (sign (k *ℤ w.x -ℤ m *ℤ v.x))
      (one-by (s.b.x -ℤ s.a.x) k m v.y w.y (base s.a.x s.a.y s.b.x s.b.y at) some
      (other-is s.a.x s.a.y s.b.x s.b.y at k v.x v.y (den-sign p) (x-at p op) (ways p hp)) (other-is s.a.x s.a.y s.b.x s.b.y at m w.x w.y (den-sign q) (x-at q oq) (ways q hq)))
      (at-one k m at v.x w.x (x-at p op) (x-at q oq))
  tied Y p q n hp hq op oq =
      let k = pos (den_of p) in let m = pos (den_of q) in let v = whole_of p in let w = whole_of q in
      let some : s.b.y -ℤ s.a.y ≢ pos 0 = λ e. n (ap (λ z. sign (at *ℤ pos 1 -ℤ z)) (sym (same_from_difference s.b.y s.a.y e))) in
      both-null (sign (k *ℤ w.y -ℤ m *ℤ v.y)) (sign (k *ℤ w.x -ℤ m *ℤ v.x))
      (at-one k m at v.y w.y (y-at p op) (y-at q oq))
      (one-by (s.b.y -ℤ s.a.y) k m v.x w.x (base s.a.y s.a.x s.b.y s.b.x at) some
      (other-is s.a.y s.a.x s.b.y s.b.x at k v.y v.x (den-sign p) (y-at p op) (ways-turned p hp))
      (other-is s.a.y s.a.x s.b.y s.b.x at m w.y w.x (den-sign q) (y-at q oq) (ways-turned q hq)))

tied-same : (p q : Point) → point_order p q ≡ Null → p ≡ q
unfolding point_cmp
tied-same p q h = point_same p q (ap ordering_of h)

pub only_meeting : (s : Seg) (cut : Cut) (p : Point) → (cut_order cut (Lattice s.a) ≡ cut_order cut (Lattice s.b) → ⊥) → is_on (OfSeg s) p ≡ true → cut_order cut p ≡ Null → IsOnlyMeeting s cut p
only_meeting s cut p n h o = λ q g r. tied-same q p (tied s cut.at cut.axis q p n g h r o)
