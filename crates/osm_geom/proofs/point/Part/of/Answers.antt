-- The whole number below and the rest make the fraction again.
use Rattle.std.proofs.Common.{arith, rules, subst, sym, ◌≤◌, FitsSigned, to_z, of_z}
use Rattle.std.specs.Int.{w32, w128}
use Rattle.std.proofs.lemmas.Int.{to_z-of_z}
use Rattle.osm_lattice.specs.Lowest.{IsInLowestTerms}
use Rattle.osm_geom.specs.Part.{IsPartNum}
use Rattle.osm_geom.proofs.Parts.{above_is_in, num_is}
use Rattle.osm_geom.proofs.point.Part.of.Goals as goal

pub invariant_of-result : goal.invariant_of-result
invariant_of-result c =
    let f = c.args.frac in
    let fits : FitsSigned w32 c.whole_below.result = search rules in
    let back = to_z-of_z w32 c.whole_below.result fits in
    let num_fits : FitsSigned w128 f.num = search rules in
    let below = simp to_z-of_z at c.whole_below.ensures in
    let rest = simp to_z-of_z at c.rest_above.ensures in
    let den_in = c.requires.den_in in
    let some : 1 ≤ f.den = omega arith in
    let is = num_is f.num f.den some (to_z w32 (of_z w32 c.whole_below.result)) c.rest_above.result (rw back below) rest in
    record {
      den_in = c.requires.den_in;
      above_in = above_is_in f.num f.den some c.rest_above.result rest;
      num_in = subst (λ z. IsPartNum z f.den) (sym is) c.requires.num_in;
      lowest = subst (λ z. IsInLowestTerms z f.den) (sym is) f.lowest;
    }
