use Rattle.std.proofs.Common.{◌<◌, ◌≤◌, rules, arith, unsigned_abs}
use Rattle.std.specs.Int.{IsGcd}
use Rattle.std.proofs.lemmas.Int.{to_z-of_z}
use Rattle.std.proofs.lemmas.Nat.{le-div}
use Rattle.osm_lattice.proofs.Divisors.{lowest, same_fraction, unsigned_abs-int_div, quotient_is, gcd-le}
use Rattle.osm_lattice.proofs.frac.Frac.new.Goals as goal

is_gcd : (c : goal.After-from-2) → IsGcd (unsigned_abs c.args.num) c.args.den c.gcd-common.result
is_gcd c =
    let num_fits = c.ranges.num in
    rw (← c.from.ensures, ← (simp to_z-of_z at c.unsigned_abs.ensures.value)) c.gcd-common.ensures.value

pub invariant_of-result : goal.invariant_of-result
invariant_of-result c =
    let some : 0 < c.gcd-common.result = search rules in
    let most : c.gcd-common.result ≤ c.args.den = gcd-le _ _ _ (is_gcd c) c.requires in
    let small = c.ranges.den.fits in
    let quotient = quotient_is c.args.num c.from-2.result c.gcd-common.result c.ranges.num c.from-2.ensures some (omega arith) in
    let low = lowest (unsigned_abs c.args.num) c.args.den c.gcd-common.result (is_gcd c) some in
    record {
      den_in = le-div 1 c.args.den c.gcd-common.result some (omega arith);
      lowest = λ d in_num in_den. low d (rw (quotient, unsigned_abs-int_div c.args.num c.gcd-common.result) at in_num) in_den;
    }

pub returns-clause-value : goal.returns-clause-value
returns-clause-value c =
    let num_fits = c.ranges.num in
    let gcd : IsGcd (unsigned_abs c.args.num) c.args.den c.gcd-common.result = rw (← c.from.ensures, ← (simp to_z-of_z at c.unsigned_abs.ensures.value)) c.gcd-common.ensures.value in
    let some : 0 < c.gcd-common.result = search rules in
    let most : c.gcd-common.result ≤ c.args.den = gcd-le _ _ _ gcd c.requires in
    let small = c.ranges.den.fits in
    let quotient = quotient_is c.args.num c.from-2.result c.gcd-common.result num_fits c.from-2.ensures some (omega arith) in
    rw quotient (same_fraction c.args.num c.args.den c.gcd-common.result gcd.0 gcd.1)
