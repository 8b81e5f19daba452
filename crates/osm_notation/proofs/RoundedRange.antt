-- What a fraction between -m and m is rounded to lies between them, too.
use Rattle.std.proofs.Common.{◌≡◌, refl, ℕ, ◌*◌, ◌/◌, ◌<◌, ◌≤◌, ◌+◌, ℤ, pos, negsuc, ◌+ℤ◌, ◌*ℤ◌, ◌≤ℤ◌, ◌<ℤ◌, unsigned_abs, arith}
use Rattle.std.specs.Int.{int_div_euclid}
use Rattle.std.proofs.lemmas.Int.{ints}
use Rattle.std.proofs.lemmas.Nat.{div_below}
use Rattle.osm_lattice.specs.Bounds.{IsLatitude, IsLongitude}
use Rattle.osm_lattice.specs.Frac.{rounded}
use Rattle.osm_lattice.proofs.LatticeKit.{signed}
use Rattle.osm_geom.specs.declared.point.Point.{Point}
use Rattle.osm_geom.specs.Point.{IsInWorld, x_of, y_of}
use Rattle.osm_geom.proofs.GeometryKit.{x_den-some, y_den-some}

floor_within : (z : ℤ) (k m : ℕ) → 0 < k → pos 0 ≤ℤ (z +ℤ pos (m * k)) → z <ℤ pos ((m + 1) * k) → unsigned_abs (int_div_euclid z (pos k)) ≤ m
floor_within (pos a) k m some low high = let less : a < (m + 1) * k = omega (arith, ints) in let b : a / k < m + 1 = div_below a k (m + 1) some less in omega arith
floor_within (negsuc a) k m some low high = let less : a < m * k = omega (arith, ints) in let b : a / k < m = div_below a k m some less in omega arith

pub rounded_in : (m : ℕ) (p : ℤ) (q : ℕ) → 1 ≤ q → unsigned_abs p ≤ m * q → unsigned_abs (rounded p q) ≤ m
rounded_in m p q some h =
    floor_within (pos 2 *ℤ p +ℤ pos q) (2 * q) m (omega arith) (omega (arith, signed)) (omega (arith, signed))

-- the coordinates of a point of the world
pub rounded_longitude : (p : Point) → IsInWorld p → IsLongitude (rounded (x_of p).num (x_of p).den)
rounded_longitude p inside = rounded_in 1_800_000_000 (x_of p).num (x_of p).den (x_den-some p) inside.0

pub rounded_latitude : (p : Point) → IsInWorld p → IsLatitude (rounded (y_of p).num (y_of p).den)
rounded_latitude p inside = rounded_in 900_000_000 (y_of p).num (y_of p).den (y_den-some p) inside.1

-- ---- a whole number stays

below_half : (z w : ℤ) → z ≡ pos 2 *ℤ w +ℤ pos 1 → int_div_euclid z (pos 2) ≡ w
below_half (pos a) w is = omega (arith, ints)
below_half (negsuc a) w is = omega (arith, ints)

pub rounded_whole : (z : ℤ) → rounded z 1 ≡ z
rounded_whole z = below_half (pos 2 *ℤ z +ℤ pos 1) z refl
