-- A segment that a line of whole coordinate crosses has a point on the line.
use Rattle.std.proofs.Common.{ap, arith, pos, refl, suc, sym, true, zero, ℕ, ℤ, ◌*ℤ◌, ◌+ℤ◌, ◌-ℤ◌, ◌*◌, ◌-◌, ◌∙◌, ◌≡◌, ◌≤◌, ◌⊎◌, inl, inr, subst, unsigned_abs}
use Rattle.plane.specs.Sign.{Null, sign}
use Rattle.osm_lattice.specs.Bounds.{IsLatitude, IsLongitude}
use Rattle.osm_lattice.specs.declared.frac.Frac.{Frac}
use Rattle.osm_lattice.specs.declared.seg.Seg.{Seg}
use Rattle.osm_lattice.specs.Meeting.{IsOnSegment}
use Rattle.osm_lattice.proofs.LatticeKit.{distance_in, frac_of, on_segment_in}
use Rattle.osm_geom.specs.declared.cut.Axis.{Axis}
use Rattle.osm_geom.specs.declared.cut.Axis.TheVariants.{X, Y}
use Rattle.osm_geom.specs.declared.cut.Cut.{Cut}
use Rattle.osm_geom.specs.declared.edge.Carrier.TheVariants.{OfSeg}
use Rattle.osm_geom.specs.declared.point.Point.{Point}
use Rattle.osm_geom.specs.declared.point.Point.TheVariants.{Lattice, OnVertical, OnHorizontal}
use Rattle.osm_geom.specs.Carrier.{is_on}
use Rattle.osm_geom.specs.Cut.{cut_order, fraction}
use Rattle.osm_geom.specs.Point.{Fraction, whole, x_of, y_of}
use Rattle.osm_geom.proofs.CutPoints.{crossed-x, crossed-y, null-x, null-y, on-at, share, whole_frac, with-x, with-y, x-in, y-in}
use Rattle.osm_geom.proofs.Parts.{part_of}

-- a point with these coordinates
pub record PointAt (x y : Fraction) : Type 0 where
  pub point : Point
  pub x_is : x_of point ≡ x
  pub y_is : y_of point ≡ y

-- a point of the segment on the line
pub record CutPointOf (s : Seg) (cut : Cut) : Type 0 where
  pub point : Point
  pub on_segment : is_on (OfSeg s) point ≡ true
  pub on_line : cut_order cut point ≡ Null

one-or-more : (d : ℕ) → 1 ≤ d → (d ≡ 1) ⊎ (2 ≤ d)
one-or-more zero h = absurd (omega arith)
one-or-more (suc zero) h = inl refl
one-or-more (suc (suc d)) h = inr (omega arith)

times-den : (n m d : ℕ) → d ≡ 1 → n ≤ m * d → n ≤ m
times-den n m d e h = let h' = subst (λ k. n ≤ m * k) e h in omega arith

pub point_at_both : (x y : ℤ) → IsLongitude x → IsLatitude y → PointAt (whole x) (whole y)
point_at_both x y hx hy = record { point = Lattice (record { x = x; y = y; x_in = hx; y_in = hy }); x_is = refl; y_is = refl }

whole-is : (f : Frac) → f.den ≡ 1 → whole f.num ≡ fraction f
whole-is f e = ap (λ d. record { num = f.num; den = d }) (sym e)

beside-by : (c : ℤ) (y : Frac) → IsLongitude c → unsigned_abs y.num ≤ 900_000_000 * y.den → y.den ≤ 3_600_000_000 → (y.den ≡ 1) ⊎ (2 ≤ y.den) → PointAt (whole c) (fraction y)
beside-by c y hc hy hd (inl e) =
    let p = point_at_both c y.num hc (times-den (unsigned_abs y.num) 900_000_000 y.den e hy) in
    record { point = p.point; x_is = p.x_is; y_is = p.y_is ∙ whole-is y e }
beside-by c y hc hy hd (inr h) = let p = part_of y (h, hd) (omega arith) in record { point = OnVertical c p.part; x_is = refl; y_is = p.is }

above-by : (x : Frac) (d : ℤ) → unsigned_abs x.num ≤ 1_800_000_000 * x.den → x.den ≤ 3_600_000_000 → IsLatitude d → (x.den ≡ 1) ⊎ (2 ≤ x.den) → PointAt (fraction x) (whole d)
above-by x d hx hd hy (inl e) =
    let p = point_at_both x.num d (times-den (unsigned_abs x.num) 1_800_000_000 x.den e hx) hy in
    record { point = p.point; x_is = p.x_is ∙ whole-is x e; y_is = p.y_is }
above-by x d hx hd hy (inr h) = let p = part_of x (h, hd) hx in record { point = OnHorizontal p.part d; x_is = p.is; y_is = refl }

within : (a : ℕ) → a ≤ 900_000_000 → a ≤ 1_800_000_000
within a h = omega arith

at-most : (a b c : ℕ) → a ≤ b → b ≤ c → a ≤ c
at-most a b c h k = omega arith

module _ (s : Seg) (cut : Cut) (c : ℤ) (is : cut.at ≡ c) where
  by-x : cut.axis ≡ X → (sign (c -ℤ s.a.x) ≡ sign (c -ℤ s.b.x) → ⊥) → CutPointOf s cut
  by-x axis n =
      let d = unsigned_abs (s.b.x -ℤ s.a.x) in let w = unsigned_abs (c -ℤ s.a.x) in
      let f = frac_of (s.a.y *ℤ pos (d - w) +ℤ s.b.y *ℤ pos w) d (share s.a.x s.b.x c n).0 in let y = f.frac in
      let on : IsOnSegment s (whole_frac c) y = with-x s c y d w n refl refl f.value in
      let p = beside-by c y (x-in s c n) (on_segment_in s (whole_frac c) y on).1 (at-most y.den d 3_600_000_000 f.at_most (distance_in s.a.x s.b.x s.a.x_in s.b.x_in)) (one-or-more y.den y.den_in) in
      record {
        point = p.point;
        on_segment = on-at s p.point (whole_frac c) y p.x_is p.y_is on;
        on_line = null-x cut p.point axis (p.x_is ∙ ap whole (sym is));
      }

  by-y : cut.axis ≡ Y → (sign (c -ℤ s.a.y) ≡ sign (c -ℤ s.b.y) → ⊥) → CutPointOf s cut
  by-y axis n =
      let d = unsigned_abs (s.b.y -ℤ s.a.y) in let w = unsigned_abs (c -ℤ s.a.y) in
      let f = frac_of (s.a.x *ℤ pos (d - w) +ℤ s.b.x *ℤ pos w) d (share s.a.y s.b.y c n).0 in let x = f.frac in
      let on : IsOnSegment s x (whole_frac c) = with-y s x c d w n refl refl f.value in
      let p = above-by x c (on_segment_in s x (whole_frac c) on).0 (at-most x.den d 3_600_000_000 f.at_most (distance_in s.a.y s.b.y (within (unsigned_abs s.a.y) s.a.y_in) (within (unsigned_abs s.b.y) s.b.y_in))) (y-in s c n) (one-or-more x.den x.den_in) in
      record {
        point = p.point;
        on_segment = on-at s p.point x (whole_frac c) p.x_is p.y_is on;
        on_line = null-y cut p.point axis (p.y_is ∙ ap whole (sym is));
      }

by-axis : (s : Seg) (cut : Cut) (axis : Axis) → cut.axis ≡ axis → (cut_order cut (Lattice s.a) ≡ cut_order cut (Lattice s.b) → ⊥) → CutPointOf s cut
by-axis s cut X e n = by-x s cut cut.at refl e (crossed-x cut s.a s.b e n)
by-axis s cut Y e n = by-y s cut cut.at refl e (crossed-y cut s.a s.b e n)

pub cut_point_exists : (s : Seg) (cut : Cut) → (cut_order cut (Lattice s.a) ≡ cut_order cut (Lattice s.b) → ⊥) → CutPointOf s cut
cut_point_exists s cut n = by-axis s cut cut.axis refl n
