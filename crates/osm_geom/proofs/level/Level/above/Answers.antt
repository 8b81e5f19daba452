use Rattle.std.proofs.Common.{◌≡◌, ℤ, pos, ◌*ℤ◌, ◌-ℤ◌, unsigned_abs, ◌≤◌, ◌*◌, arith, FitsSigned}
use Rattle.std.specs.Int.{w128}
use Rattle.std.proofs.lemmas.Int.{ints, to_z-of_z, fits_signed_from_abs}
use Rattle.osm_lattice.proofs.LatticeKit.{signed, product_within}
use Rattle.osm_geom.proofs.level.Level.above.Goals as goal

pub overflow_mul-result : goal.overflow_mul-result
overflow_mul-result c =
    let a : ℤ = c.args.l.y in
    let q = c.args.self.den in
    let product : unsigned_abs (a *ℤ pos q) ≤ 900_000_000 * 3_600_000_000 = product_within a (pos q) 900_000_000 3_600_000_000 c.args.l.y_in c.args.self.den_in.1 in
    let two : c.from.result ≡ pos q = c.from.ensures in
    let f1 : FitsSigned w128 a = fits_signed_from_abs w128 a (omega arith) in
    let f2 : FitsSigned w128 (pos q) = omega (arith, ints) in
    rw (two, to_z-of_z w128 a f1, to_z-of_z w128 (pos q) f2) (fits_signed_from_abs w128 (a *ℤ pos q) (omega arith))

pub overflow_sub-result : goal.overflow_sub-result
overflow_sub-result c =
    let a : ℤ = c.args.l.y in
    let q = c.args.self.den in
    let p : ℤ = c.args.self.num in
    let product : unsigned_abs (a *ℤ pos q) ≤ 900_000_000 * 3_600_000_000 = product_within a (pos q) 900_000_000 3_600_000_000 c.args.l.y_in c.args.self.den_in.1 in
    let height = c.args.self.num_in in
    let most = c.args.self.den_in.1 in
    let two : c.from.result ≡ pos q = c.from.ensures in
    let f1 : FitsSigned w128 a = fits_signed_from_abs w128 a (omega arith) in
    let f2 : FitsSigned w128 (pos q) = omega (arith, ints) in
    let f3 : FitsSigned w128 (a *ℤ pos q) = fits_signed_from_abs w128 (a *ℤ pos q) (omega arith) in
    let f4 : FitsSigned w128 p = omega (arith, ints) in
    let f5 : FitsSigned w128 (p -ℤ a *ℤ pos q) = omega (arith, signed) in
    rw (two, to_z-of_z w128 a f1, to_z-of_z w128 (pos q) f2, to_z-of_z w128 (a *ℤ pos q) f3, to_z-of_z w128 p f4) f5

pub returns-clause-value : goal.returns-clause-value
returns-clause-value c =
    let a : ℤ = c.args.l.y in
    let q = c.args.self.den in
    let p : ℤ = c.args.self.num in
    let product : unsigned_abs (a *ℤ pos q) ≤ 900_000_000 * 3_600_000_000 = product_within a (pos q) 900_000_000 3_600_000_000 c.args.l.y_in c.args.self.den_in.1 in
    let two : c.from.result ≡ pos q = c.from.ensures in
    let f1 : FitsSigned w128 a = fits_signed_from_abs w128 a (omega arith) in
    let f2 : FitsSigned w128 (pos q) = omega (arith, ints) in
    let f3 : FitsSigned w128 (a *ℤ pos q) = fits_signed_from_abs w128 (a *ℤ pos q) (omega arith) in
    let f4 : FitsSigned w128 p = omega (arith, ints) in
    let f5 : FitsSigned w128 (p -ℤ a *ℤ pos q) = omega (arith, signed) in
    rw two (simp to_z-of_z)

pub returns-clause-small : goal.returns-clause-small
returns-clause-small c =
    let a : ℤ = c.args.l.y in
    let q = c.args.self.den in
    let product : unsigned_abs (a *ℤ pos q) ≤ 900_000_000 * 3_600_000_000 = product_within a (pos q) 900_000_000 3_600_000_000 c.args.l.y_in c.args.self.den_in.1 in
    let height = c.args.self.num_in in
    let most = c.args.self.den_in.1 in
    rw (returns-clause-value c) (omega (arith, signed))
