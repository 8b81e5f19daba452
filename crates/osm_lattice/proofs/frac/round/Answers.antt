use Rattle.std.proofs.Common.{◌≡◌, ◌<◌, ◌≤◌, ◌^◌, ℤ, pos, ap, ◌∙◌, lit<, lit≤, arith, rules, refl, unsigned_abs}
use Rattle.std.specs.Int.{w64, w128}
use Rattle.std.proofs.lemmas.Int.{fits_signed_from_abs}
use Rattle.osm_lattice.specs.Frac.{rounded}
use Rattle.osm_lattice.proofs.Exact.{held, given, from_unsigned, times, plus, held_is}
use Rattle.osm_lattice.proofs.Rounding.{rounded_within}
use Rattle.osm_lattice.proofs.Sizes.{back}
use Rattle.osm_lattice.proofs.frac.round.Goals as goal

is : (c : goal.After-div_euclid) → (held c.div_euclid.result ≡ rounded c.args.f.num c.args.f.den) × (unsigned_abs (rounded c.args.f.num c.args.f.den) ≤ 3_600_000_001)
is c =
    let p : ℤ = c.args.f.num in
    let q = c.args.f.den in
    let q_fits : q < 2 ^ 64 = search rules in
    let q_is = from_unsigned c.from-den.result q 18_446_744_073_709_551_615 c.from-den.ensures (omega arith) (lit< tt) in
    let p_is = given p p 66_408_278_665_354_385_817_600_000_000 refl (omega arith) (lit< tt) in
    let two = given (pos 2) (pos 2) 2 refl (lit≤ tt) (lit< tt) in
    let above = held_is (plus (times two p_is (lit< tt)) q_is (lit< tt)) in
    let below = held_is (times two q_is (lit< tt)) in
    let value : c.div_euclid.result ≡ rounded p q = rw (above, below) at c.div_euclid.ensures in
    let within = rounded_within p q c.args.f.den_in c.requires in
    (ap held value ∙ back w128 (rounded p q) (omega arith), within)

pub overflow_cast-result : goal.overflow_cast-result
overflow_cast-result c = rw ((is c).0) (fits_signed_from_abs w64 (rounded c.args.f.num c.args.f.den) (omega (arith, (is c).1)))

pub returns : goal.returns
returns c = rw ((is c).0) (back w64 (rounded c.args.f.num c.args.f.den) (omega (arith, (is c).1)))
