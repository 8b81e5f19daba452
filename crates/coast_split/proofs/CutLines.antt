-- Points against a cut line, as the plane's points that they are once multiplied.
use Rattle.std.proofs.Common.{ap, arith, cond, pos, refl, sym, ℕ, ℤ, ◌*ℤ◌, ◌+ℤ◌, ◌-ℤ◌, ◌*◌, ◌/◌, ◌∙◌, ◌≡◌, ◌≤◌}
use Prim.Native.Nat.{◌∣◌}
use borrow.Author.Differences.{ints}
use Rattle.plane.specs.Order.{order}
use Rattle.plane.specs.Sign.{Minus, Null, Plus, Sign, negated, sign, then_sign}
use Rattle.plane.specs.Vector.{IsNonZero, Vector}
use Rattle.plane_lists.specs.Halves.Line.{order_along, scaled_line, side}
use Rattle.osm_geom.specs.declared.cut.Axis.{Axis}
use Rattle.osm_geom.specs.declared.cut.Axis.TheVariants.{X, Y}
use Rattle.osm_geom.specs.declared.cut.Cut.{Cut}
use Rattle.osm_geom.specs.declared.cut.Side.{Side}
use Rattle.osm_geom.specs.declared.cut.Side.TheVariants.{Low, High}
use Rattle.osm_geom.specs.declared.point.Point.{Point}
use Rattle.osm_geom.specs.Cut.{coordinate_of, cut_order, side_by, side_of}
use Rattle.osm_geom.specs.Point.{den_of, point_order, x_of, y_of}
use Rattle.osm_geom.specs.InPlane.Multiple.{point_times}
use Rattle.coast_split.specs.Half.{line_by, line_of, line_order, runs_forward}
use Rattle.plane.proofs.SignKit.{lift, same, ◌⊞◌, ◌⊟◌, ◌⊠◌, null-zero, plus-times, sign-reversed}
use Rattle.osm_geom.proofs.GeometryKit.{x_den-some, y_den-some}
use Rattle.osm_geom.proofs.EdgesKit.{product-some, sign-some, factor, factor-some, nat, order_is, swapped}

-- ---- the side: a number x = m * (n * f) against k * at, where k = m * (d * f)
before-by : (at n : ℤ) (m d f k : ℕ) → m * (d * f) ≡ k → pos k *ℤ at -ℤ pos m *ℤ (n *ℤ pos f) ≡ pos (m * f) *ℤ (at *ℤ pos d -ℤ n)
before-by at n m d f k e =
    ap (λ z. pos z *ℤ at -ℤ pos m *ℤ (n *ℤ pos f)) (sym e)
    ∙ same (nat (m * (d * f)) ⊠ lift at ⊟ nat m ⊠ (lift n ⊠ nat f)) (nat (m * f) ⊠ (lift at ⊠ nat d ⊟ lift n)) (omega arith)

before-sign : (at n : ℤ) (m d f k : ℕ) → m * (d * f) ≡ k → 1 ≤ m → 1 ≤ f → sign (pos k *ℤ at -ℤ pos m *ℤ (n *ℤ pos f)) ≡ sign (at *ℤ pos d -ℤ n)
before-sign at n m d f k e some some_f = ap sign (before-by at n m d f k e) ∙ plus-times (pos (m * f)) (at *ℤ pos d -ℤ n) (sign-some (m * f) (product-some m f some some_f))

turned-sign : (a b : ℤ) → sign (b -ℤ a) ≡ negated (sign (a -ℤ b))
turned-sign a b = sign-reversed (a -ℤ b) (b -ℤ a) (omega (arith, ints))

pub low-x : (k a x y : ℤ) → (pos 0 *ℤ y -ℤ pos 1 *ℤ x) -ℤ k *ℤ (pos 0 -ℤ a) ≡ k *ℤ a -ℤ x
low-x k a x y = let o = lift (pos 0) in let i = lift (pos 1) in let k' = lift k in let a' = lift a in let x' = lift x in let y' = lift y in same ((o ⊠ y' ⊟ i ⊠ x') ⊟ k' ⊠ (o ⊟ a')) (k' ⊠ a' ⊟ x') (omega arith)

pub high-x : (k a x y : ℤ) → (pos 0 *ℤ y -ℤ (pos 0 -ℤ pos 1) *ℤ x) -ℤ k *ℤ a ≡ x -ℤ k *ℤ a
high-x k a x y = let o = lift (pos 0) in let i = lift (pos 1) in let k' = lift k in let a' = lift a in let x' = lift x in let y' = lift y in same ((o ⊠ y' ⊟ (o ⊟ i) ⊠ x') ⊟ k' ⊠ a') (x' ⊟ k' ⊠ a') (omega arith)

pub low-y : (k a x y : ℤ) → ((pos 0 -ℤ pos 1) *ℤ y -ℤ pos 0 *ℤ x) -ℤ k *ℤ (pos 0 -ℤ a) ≡ k *ℤ a -ℤ y
low-y k a x y = let o = lift (pos 0) in let i = lift (pos 1) in let k' = lift k in let a' = lift a in let x' = lift x in let y' = lift y in same (((o ⊟ i) ⊠ y' ⊟ o ⊠ x') ⊟ k' ⊠ (o ⊟ a')) (k' ⊠ a' ⊟ y') (omega arith)

pub high-y : (k a x y : ℤ) → (pos 1 *ℤ y -ℤ pos 0 *ℤ x) -ℤ k *ℤ a ≡ y -ℤ k *ℤ a
high-y k a x y = let o = lift (pos 0) in let i = lift (pos 1) in let k' = lift k in let a' = lift a in let x' = lift x in let y' = lift y in same ((i ⊠ y' ⊟ o ⊠ x') ⊟ k' ⊠ a') (y' ⊟ k' ⊠ a') (omega arith)

module _ (k : ℕ) (some : 1 ≤ k) (p : Point) (divides : den_of p ∣ k) where
  abbrev P : Vector
  P = point_times k p

  pub x-before : (a : ℤ) → sign (pos k *ℤ a -ℤ P.x) ≡ sign (a *ℤ pos (x_of p).den -ℤ (x_of p).num)
  x-before a = before-sign a (x_of p).num (k / den_of p) (x_of p).den (y_of p).den k (factor k (den_of p) divides) (factor-some k (den_of p) some divides) (y_den-some p)

  pub y-before : (a : ℤ) → sign (pos k *ℤ a -ℤ P.y) ≡ sign (a *ℤ pos (y_of p).den -ℤ (y_of p).num)
  y-before a = before-sign a (y_of p).num (k / den_of p) (y_of p).den (x_of p).den k (swapped (k / den_of p) (x_of p).den (y_of p).den k (factor k (den_of p) divides)) (factor-some k (den_of p) some divides) (x_den-some p)

  side-by : (axis : Axis) (s : Side) (cut : Cut) → side (scaled_line (pos k) (line_by axis s cut)) P ≡ side_by s (sign (cut.at *ℤ pos (coordinate_of axis p).den -ℤ (coordinate_of axis p).num))
  side-by X Low cut = ap sign (low-x (pos k) cut.at P.x P.y) ∙ x-before cut.at
  side-by X High cut = ap sign (high-x (pos k) cut.at P.x P.y) ∙ turned-sign (pos k *ℤ cut.at) P.x ∙ ap negated (x-before cut.at)
  side-by Y Low cut = ap sign (low-y (pos k) cut.at P.x P.y) ∙ y-before cut.at
  side-by Y High cut = ap sign (high-y (pos k) cut.at P.x P.y) ∙ turned-sign (pos k *ℤ cut.at) P.y ∙ ap negated (y-before cut.at)

  -- the side of a point
  pub side-times : (cut : Cut) (s : Side) → side (scaled_line (pos k) (line_of cut s)) P ≡ side_of cut s p
  side-times cut s = side-by cut.axis s cut

-- ---- the order along the line
pub line-direction : (axis : Axis) (s : Side) (cut : Cut) → IsNonZero (line_by axis s cut).along
line-direction X Low cut = refl
line-direction X High cut = refl
line-direction Y Low cut = refl
line-direction Y High cut = refl

equal-by : (a x y : ℤ) → sign (a -ℤ x) ≡ Null → sign (a -ℤ y) ≡ Null → y -ℤ x ≡ pos 0
equal-by a x y h g = let e = null-zero (a -ℤ x) h in let f = null-zero (a -ℤ y) g in omega (arith, ints)

then-null : (s t : Sign) → t ≡ Null → then_sign s t ≡ s
then-null Plus t h = refl
then-null Minus t h = refl
then-null Null t h = h

null-then : (s t : Sign) → s ≡ Null → then_sign s t ≡ t
null-then Null t h = refl
null-then Plus t h = absurd (cc h)
null-then Minus t h = absurd (cc h)

up-x : (a b : ℤ) → pos 0 *ℤ a +ℤ pos 1 *ℤ b ≡ b
up-x a b = let o = lift (pos 0) in let i = lift (pos 1) in let a' = lift a in let b' = lift b in same (o ⊠ a' ⊞ i ⊠ b') b' (omega arith)

down-x : (a y z : ℤ) → pos 0 *ℤ a +ℤ (pos 0 -ℤ pos 1) *ℤ (z -ℤ y) ≡ y -ℤ z
down-x a y z = let o = lift (pos 0) in let i = lift (pos 1) in let a' = lift a in let y' = lift y in let z' = lift z in same (o ⊠ a' ⊞ (o ⊟ i) ⊠ (z' ⊟ y')) (y' ⊟ z') (omega arith)

down-y : (y z b : ℤ) → (pos 0 -ℤ pos 1) *ℤ (z -ℤ y) +ℤ pos 0 *ℤ b ≡ y -ℤ z
down-y y z b = let o = lift (pos 0) in let i = lift (pos 1) in let b' = lift b in let y' = lift y in let z' = lift z in same ((o ⊟ i) ⊠ (z' ⊟ y') ⊞ o ⊠ b') (y' ⊟ z') (omega arith)

up-y : (a b : ℤ) → pos 1 *ℤ a +ℤ pos 0 *ℤ b ≡ a
up-y a b = let o = lift (pos 0) in let i = lift (pos 1) in let a' = lift a in let b' = lift b in same (i ⊠ a' ⊞ o ⊠ b') a' (omega arith)

module _ (k : ℕ) (some : 1 ≤ k) (p q : Point) (in_p : den_of p ∣ k) (in_q : den_of q ∣ k) where
  abbrev A : Vector
  A = point_times k p

  abbrev B : Vector
  B = point_times k q

  forth : point_order p q ≡ order A B
  forth = order_is k p q some in_p in_q

  back : point_order q p ≡ order B A
  back = order_is k q p some in_q in_p

  order-by : (axis : Axis) (s : Side) (cut : Cut) → sign (cut.at *ℤ pos (coordinate_of axis p).den -ℤ (coordinate_of axis p).num) ≡ Null → sign (cut.at *ℤ pos (coordinate_of axis q).den -ℤ (coordinate_of axis q).num) ≡ Null →
      order_along (line_by axis s cut) A B ≡ cond (runs_forward axis s) (point_order p q) (point_order q p)
  order-by X Low cut hp hq =
      let e = ap sign (equal-by (pos k *ℤ cut.at) A.x B.x (x-before k some p in_p cut.at ∙ hp) (x-before k some q in_q cut.at ∙ hq)) in
      ap sign (up-x (B.x -ℤ A.x) (B.y -ℤ A.y)) ∙ sym (forth ∙ then-null (sign (B.y -ℤ A.y)) (sign (B.x -ℤ A.x)) e)
  order-by X High cut hp hq =
      let e = ap sign (equal-by (pos k *ℤ cut.at) B.x A.x (x-before k some q in_q cut.at ∙ hq) (x-before k some p in_p cut.at ∙ hp)) in
      ap sign (down-x (B.x -ℤ A.x) A.y B.y) ∙ sym (back ∙ then-null (sign (A.y -ℤ B.y)) (sign (A.x -ℤ B.x)) e)
  order-by Y Low cut hp hq =
      let e = ap sign (equal-by (pos k *ℤ cut.at) B.y A.y (y-before k some q in_q cut.at ∙ hq) (y-before k some p in_p cut.at ∙ hp)) in
      ap sign (down-y A.x B.x (B.y -ℤ A.y)) ∙ sym (back ∙ null-then (sign (A.y -ℤ B.y)) (sign (A.x -ℤ B.x)) e)
  order-by Y High cut hp hq =
      let e = ap sign (equal-by (pos k *ℤ cut.at) A.y B.y (y-before k some p in_p cut.at ∙ hp) (y-before k some q in_q cut.at ∙ hq)) in
      ap sign (up-y (B.x -ℤ A.x) (B.y -ℤ A.y)) ∙ sym (forth ∙ null-then (sign (B.y -ℤ A.y)) (sign (B.x -ℤ A.x)) e)

  pub order-times : (cut : Cut) (s : Side) → cut_order cut p ≡ Null → cut_order cut q ≡ Null → order_along (scaled_line (pos k) (line_of cut s)) A B ≡ line_order cut s p q
  order-times cut s hp hq = order-by cut.axis s cut hp hq
