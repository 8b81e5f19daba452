use Rattle.std.proofs.Common.{rules, FitsSigned}
use Rattle.std.specs.Int.{w128}
use Rattle.std.proofs.lemmas.Int.{to_z-of_z}
use Rattle.osm_geom.proofs.Parts.{part_frac}
use Rattle.osm_geom.proofs.point.Part.frac.Goals as goal

pub invariant_of-result : goal.invariant_of-result
invariant_of-result c =
    let p = c.args.self in
    let fits : FitsSigned w128 c.num.result = search rules in
    let back = to_z-of_z w128 c.num.result fits in
    let whole = part_frac p in
    rw (back, c.num.ensures, c.from.ensures) (record { den_in = whole.den_in; lowest = whole.lowest })
