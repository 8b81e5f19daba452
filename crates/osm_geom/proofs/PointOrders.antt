-- The order of points by fractions is that of the plane once all is multiplied.
use Rattle.std.proofs.Common.{◌≡◌, ℕ, ◌*◌, ◌≤◌, ℤ, pos, ◌*ℤ◌, ◌-ℤ◌, ap, refl, sym, ◌∙◌, arith}
use Rattle.std.specs.Ordering.{int_cmp, ordering_then}
use Rattle.std.proofs.lemmas.Int.{ints}
use Rattle.plane.specs.Sign.{Plus, sign}
use Rattle.plane.proofs.SignKit.{Split, lift, same, ◌⊟◌, ◌⊠◌, plus-times, sign-pos}
use Rattle.osm_lattice.specs.declared.loc.Loc.{Loc}
use Rattle.osm_geom.specs.declared.point.Point.{Point}
use Rattle.osm_geom.specs.declared.point.Point.TheVariants.{Lattice, OnVertical, OnHorizontal}
use Rattle.osm_lattice.specs.Loc.{loc_cmp}
use Rattle.osm_lattice.specs.OrderLaws.{ordering_of}
use Rattle.osm_geom.specs.Point.{Fraction, x_of, y_of, den_of, whole_of, point_cmp}
use Rattle.osm_geom.specs.RatioOrder.{fraction_cmp, by_fractions}
use Rattle.osm_geom.specs.Span.{height_order}
use Rattle.osm_lattice.proofs.LatticeKit.{int_cmp-is, ordering_of-then}
use Rattle.std.proofs.Math.Nat.{one-le-mul}

pub x_den-some : (p : Point) → 1 ≤ (x_of p).den
x_den-some (Lattice p) = omega arith
x_den-some (OnVertical c y) = omega arith
x_den-some (OnHorizontal x d) = let some = x.den_in.0 in omega arith

pub y_den-some : (p : Point) → 1 ≤ (y_of p).den
y_den-some (Lattice p) = omega arith
y_den-some (OnVertical c y) = let some = y.den_in.0 in omega arith
y_den-some (OnHorizontal x d) = omega arith

-- two coordinates a / b and c / d, each multiplied by all denominators
multiplied : (a c : ℤ) (b m d n : ℕ) → pos (b * m) *ℤ (c *ℤ pos n) -ℤ pos (d * n) *ℤ (a *ℤ pos m) ≡ pos (m * n) *ℤ (c *ℤ pos b -ℤ a *ℤ pos d)
multiplied a c b m d n =
    let nat : ℕ → Split = λ k. record { z = pos k; p = k; n = 0; is = omega arith } in
    same (nat (b * m) ⊠ (lift c ⊠ nat n) ⊟ nat (d * n) ⊠ (lift a ⊠ nat m)) (nat (m * n) ⊠ (lift c ⊠ nat b ⊟ lift a ⊠ nat d)) (omega arith)

multiplied-sign : (a c : ℤ) (b m d n : ℕ) → 1 ≤ m → 1 ≤ n → sign (pos (b * m) *ℤ (c *ℤ pos n) -ℤ pos (d * n) *ℤ (a *ℤ pos m)) ≡ sign (c *ℤ pos b -ℤ a *ℤ pos d)
multiplied-sign a c b m d n h k = ap sign (multiplied a c b m d n) ∙ plus-times (pos (m * n)) (c *ℤ pos b -ℤ a *ℤ pos d) (sign-pos (m * n) (one-le-mul h k))

turned : (m n : ℕ) → m * n ≡ n * m
turned m n = omega arith

pub y_sign : (p q : Point) → sign (pos (den_of p) *ℤ (whole_of q).y -ℤ pos (den_of q) *ℤ (whole_of p).y) ≡ sign ((y_of q).num *ℤ pos (y_of p).den -ℤ (y_of p).num *ℤ pos (y_of q).den)
y_sign p q =
    let a = (y_of p).num in let c = (y_of q).num in let b = (y_of p).den in let d = (y_of q).den in let m = (x_of p).den in let n = (x_of q).den in
    ap (λ k. sign (pos k *ℤ (c *ℤ pos n) -ℤ pos (n * d) *ℤ (a *ℤ pos m))) (turned m b)
    ∙ ap (λ k. sign (pos (b * m) *ℤ (c *ℤ pos n) -ℤ pos k *ℤ (a *ℤ pos m))) (turned n d)
    ∙ multiplied-sign a c b m d n (x_den-some p) (x_den-some q)

x_sign : (p q : Point) → sign (pos (den_of p) *ℤ (whole_of q).x -ℤ pos (den_of q) *ℤ (whole_of p).x) ≡ sign ((x_of q).num *ℤ pos (x_of p).den -ℤ (x_of p).num *ℤ pos (x_of q).den)
x_sign p q = multiplied-sign (x_of p).num (x_of q).num (x_of p).den (y_of p).den (x_of q).den (y_of q).den (y_den-some p) (y_den-some q)

pub point_cmp_is : (p q : Point) → by_fractions p q ≡ point_cmp p q
unfolding point_cmp
point_cmp_is p q =
    ap (λ o. ordering_then o (fraction_cmp (x_of p) (x_of q))) (int_cmp-is ((y_of p).num *ℤ pos (y_of q).den) ((y_of q).num *ℤ pos (y_of p).den) ∙ ap ordering_of (sym (y_sign p q)))
    ∙ ap (λ o. ordering_then (ordering_of (sign (pos (den_of p) *ℤ (whole_of q).y -ℤ pos (den_of q) *ℤ (whole_of p).y))) o) (int_cmp-is ((x_of p).num *ℤ pos (x_of q).den) ((x_of q).num *ℤ pos (x_of p).den) ∙ ap ordering_of (sym (x_sign p q)))
    ∙ ordering_of-then (sign (pos (den_of p) *ℤ (whole_of q).y -ℤ pos (den_of q) *ℤ (whole_of p).y)) (sign (pos (den_of p) *ℤ (whole_of q).x -ℤ pos (den_of q) *ℤ (whole_of p).x))

pub height_cmp_is : (p q : Point) → fraction_cmp (y_of p) (y_of q) ≡ ordering_of (height_order p q)
height_cmp_is p q = int_cmp-is ((y_of p).num *ℤ pos (y_of q).den) ((y_of q).num *ℤ pos (y_of p).den)

pub den-sign : (p : Point) → sign (pos (den_of p)) ≡ Plus
den-sign p = sign-pos (den_of p) (one-le-mul (x_den-some p) (y_den-some p))

pub y_den-sign : (p : Point) → sign (pos (y_of p).den) ≡ Plus
y_den-sign p = sign-pos (y_of p).den (y_den-some p)

-- whole coordinates are compared as they stand
times-one : (z : ℤ) → z *ℤ pos 1 ≡ z
times-one z = omega (arith, ints)

pub height_cmp_by : (r s : Fraction) (p q : Point) → r ≡ y_of p → s ≡ y_of q → fraction_cmp r s ≡ ordering_of (height_order p q)
height_cmp_by r s p q first second = rw (first, second) (height_cmp_is p q)

pub lattice_height_cmp_is : (p q : Loc) → int_cmp p.y q.y ≡ ordering_of (height_order (Lattice p) (Lattice q))
lattice_height_cmp_is p q = sym (ap (λ z. int_cmp z (q.y *ℤ pos 1)) (times-one p.y) ∙ ap (int_cmp p.y) (times-one q.y)) ∙ height_cmp_is (Lattice p) (Lattice q)

lattice_by : (py qy px qx : ℤ) → ordering_then (int_cmp py qy) (int_cmp px qx) ≡ ordering_then (int_cmp (py *ℤ pos 1) (qy *ℤ pos 1)) (int_cmp (px *ℤ pos 1) (qx *ℤ pos 1))
lattice_by py qy px qx = rw (times-one py, times-one qy, times-one px, times-one qx) refl

pub lattice_cmp_is : (p q : Loc) → loc_cmp p q ≡ point_cmp (Lattice p) (Lattice q)
lattice_cmp_is p q = lattice_by p.y q.y p.x q.x ∙ point_cmp_is (Lattice p) (Lattice q)
