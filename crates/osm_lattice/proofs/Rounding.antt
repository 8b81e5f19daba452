-- The size of a rounded fraction, and what it is next to.
use Rattle.std.proofs.Common.{ℕ, ◌*◌, ◌<◌, ◌≤◌, ℤ, pos, negsuc, ◌+ℤ◌, ◌*ℤ◌, ◌≤ℤ◌, unsigned_abs, arith}
use Rattle.std.specs.Int.{int_div_euclid}
use Rattle.std.proofs.lemmas.Nat.{div_below}
use Rattle.osm_lattice.specs.Frac.{rounded}
use Rattle.osm_lattice.proofs.Sizes.{signed}
use Rattle.lists.proofs.ListsKit.{floor_below}

div_euclid_within : (z : ℤ) (k m : ℕ) → 0 < k → unsigned_abs z < m * k → unsigned_abs (int_div_euclid z (pos k)) ≤ m
div_euclid_within (pos a) k m some h = omega (arith, div_below a k m some h)
div_euclid_within (negsuc a) k m some h = let less : a < m * k = omega arith in omega (arith, div_below a k m some less)

pub rounded_within : (p : ℤ) (q : ℕ) → 1 ≤ q → unsigned_abs p ≤ 3_600_000_000 * q → unsigned_abs (rounded p q) ≤ 3_600_000_001
rounded_within p q some h = div_euclid_within (pos 2 *ℤ p +ℤ pos q) (2 * q) 3_600_000_001 (omega arith) (omega (arith, signed))

-- the rounded number lies at most half below the fraction, and less than half above it
pub rounded_below : (p : ℤ) (q : ℕ) → 1 ≤ q → (rounded p q *ℤ pos (2 * q)) ≤ℤ (pos 2 *ℤ p +ℤ pos q)
rounded_below p q some = floor_below (pos 2 *ℤ p +ℤ pos q) (2 * q) (omega arith)
