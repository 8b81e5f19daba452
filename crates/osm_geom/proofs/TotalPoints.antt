-- The order of points is total, and tells points apart.
use Rattle.std.proofs.Common.{◌≡◌, ◌↔◌, ℤ, pos, ◌*ℤ◌, true, sym, ap, ◌∙◌, subst, arith, refl, ◌≢◌}
use Rattle.std.proofs.lemmas.Int.{ints}
use Rattle.std.proofs.lemmas.Cmp.{tied_itself}
use Rattle.std.specs.Cmp.{IsTotalOrder}
use Rattle.std.specs.declared.cmp.Ordering.{Ordering}
use Rattle.std.specs.declared.cmp.Ordering.TheVariants.{Equal, Greater, Less}
use Rattle.std.specs.Ordering.{int_cmp, ordering_reverse}
use Rattle.std.proofs.lemmas.Map.Lookups.{exact_pairs}
use Rattle.plane.specs.Order.{order}
use Rattle.plane.specs.Scale.{scaled_point}
use Rattle.plane.proofs.SignKit.{agree}
use Rattle.plane.proofs.PlaneKit.{order-reversed, order-sum, order-scaled, point-turned}
use Rattle.osm_geom.specs.declared.point.Point.{Point}
use Rattle.osm_geom.specs.declared.point.Point.TheVariants.{Lattice, OnVertical, OnHorizontal}
use Rattle.osm_lattice.specs.OrderLaws.{ordering_of}
use Rattle.osm_geom.specs.Point.{x_of, y_of, den_of, whole_of, point_order, point_cmp}
use Rattle.osm_lattice.proofs.LatticeKit.{int_same, loc_from_fields}
use Rattle.osm_geom.proofs.Parts.{part_same, part_whole}
use Rattle.osm_geom.proofs.PointOrders.{den-sign, point_cmp_is}
use Rattle.osm_geom.proofs.SignOrders.{reverses, chains, ties_alike}

-- ---- three points, each multiplied by the denominators of the two others

point_order-sum : (p q r : Point) → agree (point_order p q) (point_order q r) (point_order p r) ≡ true
point_order-sum p q r =
    let a = pos (den_of p) in let b = pos (den_of q) in let c = pos (den_of r) in
    let first = scaled_point c (scaled_point b (whole_of p)) in
    let second = scaled_point c (scaled_point a (whole_of q)) in
    let third = scaled_point a (scaled_point b (whole_of r)) in
    let one : order first second ≡ point_order p q = order-scaled c (den-sign r) (scaled_point b (whole_of p)) (scaled_point a (whole_of q)) in
    let two : order second third ≡ point_order q r = ap (λ v. order v third) (point-turned c a (whole_of q)) ∙ order-scaled a (den-sign p) (scaled_point c (whole_of q)) (scaled_point b (whole_of r)) in
    let both : order first third ≡ point_order p r = ap (λ v. order v third) (point-turned c b (whole_of p)) ∙ (ap (λ v. order (scaled_point b (scaled_point c (whole_of p))) v) (point-turned a b (whole_of r)) ∙ order-scaled b (den-sign q) (scaled_point c (whole_of p)) (scaled_point a (whole_of r))) in
    subst (λ s. agree s (point_order q r) (point_order p r) ≡ true) one
    (subst (λ s. agree (order first second) s (point_order p r) ≡ true) two
    (subst (λ s. agree (order first second) (order second third) s ≡ true) both (order-sum first second third)))

pub point_total : IsTotalOrder point_cmp
unfolding point_cmp
point_total = record {
  antisymm = λ p q. ap ordering_of (order-reversed (scaled_point (pos (den_of p)) (whole_of q)) (scaled_point (pos (den_of q)) (whole_of p))) ∙ reverses (point_order q p);
  trans = λ p q r. chains (point_order p q) (point_order q r) (point_order p r) (point_order-sum p q r);
  congr = λ p q r. ties_alike (point_order p q) (point_order q r) (point_order p r) (point_order-sum p q r);
}

-- ---- a point has one spelling
whole_same : (m n : ℤ) → m *ℤ pos 1 ≡ n *ℤ pos 1 → m ≡ n
whole_same m n e = omega (arith, ints)

pub same_by : (p q : Point) → (x_of p).num *ℤ pos (x_of q).den ≡ (x_of q).num *ℤ pos (x_of p).den → (y_of p).num *ℤ pos (y_of q).den ≡ (y_of q).num *ℤ pos (y_of p).den → p ≡ q
same_by (Lattice p) (Lattice q) ex ey = ap Lattice (loc_from_fields p q (whole_same p.x q.x ex) (whole_same p.y q.y ey))
same_by (Lattice p) (OnVertical c y) ex ey = absurd (part_whole p.y y ey)
same_by (Lattice p) (OnHorizontal x d) ex ey = absurd (part_whole p.x x ex)
same_by (OnVertical c y) (Lattice q) ex ey = absurd (part_whole q.y y (sym ey))
same_by (OnVertical c y) (OnVertical c' y') ex ey = ap (λ k. OnVertical k y) (whole_same c c' ex) ∙ ap (OnVertical c') (part_same y y' ey)
same_by (OnVertical c y) (OnHorizontal x d) ex ey = absurd (part_whole c x ex)
same_by (OnHorizontal x d) (Lattice q) ex ey = absurd (part_whole q.x x (sym ex))
same_by (OnHorizontal x d) (OnVertical c y) ex ey = absurd (part_whole c x (sym ex))
same_by (OnHorizontal x d) (OnHorizontal x' d') ex ey = ap (λ k. OnHorizontal k d) (part_same x x' ex) ∙ ap (OnHorizontal x') (whole_same d d' ey)

pub point_same : (p q : Point) → point_cmp p q ≡ Equal → p ≡ q
point_same p q e =
    let both = exact_pairs int_cmp int_cmp int_same int_same ((y_of p).num *ℤ pos (y_of q).den, (x_of p).num *ℤ pos (x_of q).den) ((y_of q).num *ℤ pos (y_of p).den, (x_of q).num *ℤ pos (x_of p).den) (point_cmp_is p q ∙ e) in
    same_by p q (ap (λ (z : ℤ × ℤ). z.1) both) (ap (λ (z : ℤ × ℤ). z.0) both)

-- neither of two points is less
pub neither_less : (p q : Point) → point_cmp p q ≢ Less → point_cmp q p ≢ Less → p ≡ q
neither_less p q here there = by (point_cmp p q) refl
  where
    by : (o : Ordering) → point_cmp p q ≡ o → p ≡ q
    by Less is = absurd (here is)
    by Equal is = point_same p q is
    by Greater is = absurd (there (point_total.antisymm q p ∙ ap ordering_reverse is))

pub point_alone : (p q : Point) → (point_cmp p q ≡ Equal) ↔ (p ≡ q)
point_alone p q = (point_same p q, λ e. subst (λ k. point_cmp p k ≡ Equal) e (tied_itself point_total p))
