use Rattle.std.proofs.Common.{rules, FitsSigned}
use Rattle.std.specs.Int.{w32}
use Rattle.std.proofs.lemmas.Int.{to_z-of_z}
use Rattle.osm_geom.proofs.CutPoints.{share}
use Rattle.osm_geom.proofs.cut.share_between.Goals as goal

pub invariant_of-result : goal.invariant_of-result
invariant_of-result c =
    let start_fits : FitsSigned w32 c.args.start = search rules in
    let end_fits : FitsSigned w32 c.args.end = search rules in
    let at_fits : FitsSigned w32 c.args.at = search rules in
    let above = simp to_z-of_z at c.distance.ensures in
    let den = simp to_z-of_z at c.distance-2.ensures in
    record { is_share = rw (above, den) (share c.args.start c.args.end c.args.at c.requires) }
