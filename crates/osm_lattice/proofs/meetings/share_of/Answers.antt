use Rattle.std.proofs.Common.{rules, FitsSigned}
use Rattle.std.specs.Int.{w128}
use Rattle.std.proofs.lemmas.Int.{to_z-of_z}
use Rattle.osm_lattice.proofs.Shares.{part_of_first}
use Rattle.osm_lattice.proofs.meetings.share_of.Goals as goal

pub invariant_of-result : goal.invariant_of-result
invariant_of-result c =
    let part = part_of_first c.args.s c.args.t c.requires in
    let orient_fits : FitsSigned w128 c.orient.result = search rules in
    let slant_fits : FitsSigned w128 c.slant.result = search rules in
    let above = simp to_z-of_z at c.unsigned_abs.ensures.value in
    let den = simp to_z-of_z at c.unsigned_abs-2.ensures.value in
    record {
      is_share = (
        rw (den, c.slant.ensures.value) part.den_some,
        rw (above, den, c.orient.ensures.value, c.slant.ensures.value) part.at_most,
      );
    }
