-- The location next to a point is at most half a unit away, and is what the point is rounded to in the multiplied plane.
use Rattle.std.proofs.Common.{ap, arith, pos, sym, unsigned_abs, ℕ, ℤ, ◌*ℤ◌, ◌*◌, ◌-ℤ◌, ◌+ℤ◌, ◌/◌, ◌∙◌, ◌≡◌, ◌≤◌, ◌≤ℤ◌}
use Prim.Native.Nat.{◌∣◌}
use Rattle.plane.proofs.PlaneKit.{same_vector}
use Rattle.plane.proofs.SignKit.{lift, same, ◌⊠◌}
use Rattle.osm_geom.specs.declared.point.Point.{Point}
use Rattle.osm_geom.specs.Point.{Fraction, IsInWorld, den_of, x_of, y_of}
use Rattle.osm_geom.proofs.GeometryKit.{x_den-some, y_den-some}
use Rattle.osm_lattice.specs.Frac.{rounded}
use Rattle.osm_lattice.specs.Loc.{vector_of}
use Rattle.osm_lattice.proofs.LatticeKit.{signed}
use Rattle.osm_text.specs.Rounded.{location_near}
use Rattle.osm_geom.specs.InPlane.Multiple.{point_times}
use Rattle.osm_geom.proofs.EdgesKit.{factor, factor-some, nat, product-some}
use Rattle.plane_lists.specs.Rounded.RoundedEdges.{rounded_point, whole_near}
use Rattle.plane_lists.proofs.RoundedKit.{factor-rounds, rounded-near}
use Rattle.one_output.specs.RoundedPieces.Near.{IsWithinHalf, IsWithinHalfUnit}

-- ---- at most half a unit away
by-bounds : (a b : ℤ) (d : ℕ) → b ≤ℤ (a +ℤ pos d) → a ≤ℤ (b +ℤ pos d) → unsigned_abs (a -ℤ b) ≤ d
by-bounds a b d h k = omega (arith, signed)

within-half : (f : Fraction) → 1 ≤ f.den → IsWithinHalf f (rounded f.num f.den)
within-half f some =
    let n = rounded-near f.den some (record { x = f.num; y = f.num }) in
    by-bounds (pos 2 *ℤ f.num) (pos 2 *ℤ (pos f.den *ℤ rounded f.num f.den)) f.den n.x_below n.x_above

pub near : (p : Point) (inside : IsInWorld p) → IsWithinHalfUnit p (location_near p inside)
near p inside = record { x = within-half (x_of p) (x_den-some p); y = within-half (y_of p) (y_den-some p) }

-- ---- in the plane multiplied by k
rounds-by : (c d e k : ℕ) (z w : ℤ) → 1 ≤ c → 1 ≤ d → 1 ≤ e → c * d * e ≡ k → w ≡ pos (c * d) *ℤ z → whole_near w k ≡ rounded z e
rounds-by c d e k z w some_c some_d some_e h g =
    ap (λ (w : ℤ). whole_near w k) g ∙ ap (whole_near (pos (c * d) *ℤ z)) (sym h) ∙ factor-rounds (c * d) e (product-some c d some_c some_d) some_e z

module _ (k : ℕ) (p : Point) (inside : IsInWorld p) (some : 1 ≤ k) (divides : den_of p ∣ k) where
  abbrev c : ℕ
  c = k / den_of p

  abbrev x : Fraction
  x = x_of p

  abbrev y : Fraction
  y = y_of p

  whole : c * (x.den * y.den) ≡ k
  whole = factor k (den_of p) divides

  some-c : 1 ≤ c
  some-c = factor-some k (den_of p) some divides

  by-y : c * y.den * x.den ≡ k
  by-y = let w = whole in omega (arith, w)

  by-x : c * x.den * y.den ≡ k
  by-x = let w = whole in omega (arith, w)

  regrouped : (z : ℤ) (d : ℕ) → pos c *ℤ (z *ℤ pos d) ≡ pos (c * d) *ℤ z
  regrouped z d = same (nat c ⊠ (lift z ⊠ nat d)) (nat (c * d) ⊠ lift z) (omega arith)

  pub rounds-to : rounded_point k (point_times k p) ≡ vector_of (location_near p inside)
  rounds-to =
      same_vector _ _ _ _
      (rounds-by c y.den x.den k x.num _ some-c (y_den-some p) (x_den-some p) by-y (regrouped x.num y.den))
      (rounds-by c x.den y.den k y.num _ some-c (x_den-some p) (y_den-some p) by-x (regrouped y.num x.den))
