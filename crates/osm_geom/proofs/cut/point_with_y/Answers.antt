use Rattle.std.proofs.Common.{rules, FitsSigned}
use Rattle.std.specs.Int.{w32}
use Rattle.std.proofs.lemmas.Int.{to_z-of_z}
use Rattle.osm_lattice.specs.Meeting.{IsOnSegment}
use Rattle.osm_geom.proofs.CutPoints.{on-at, whole_frac, with-y, y-in}
use Rattle.osm_lattice.proofs.LatticeKit.{on_segment_in}
use Rattle.osm_geom.proofs.cut.point_with_y.Goals as goal

on_is : (c : goal.After-number_at) → IsOnSegment c.args.s c.number_at.result (whole_frac c.args.d)
on_is c =
    let d_fits : FitsSigned w32 c.args.d = search rules in
    let ax_fits : FitsSigned w32 c.args.s.a.x = search rules in
    let bx_fits : FitsSigned w32 c.args.s.b.x = search rules in
    let ay_fits : FitsSigned w32 c.args.s.a.y = search rules in
    let by_fits : FitsSigned w32 c.args.s.b.y = search rules in
    let above = simp to_z-of_z at c.share_between.ensures.above in
    let den = simp to_z-of_z at c.share_between.ensures.den in
    let value = simp to_z-of_z at c.number_at.ensures.value in
    with-y c.args.s c.number_at.result c.args.d c.share_between.result.den c.share_between.result.above c.requires above den value

pub point_above-requires-clause-num_in : goal.point_above-requires-clause-num_in
point_above-requires-clause-num_in c = (on_segment_in c.args.s c.number_at.result (whole_frac c.args.d) (on_is c)).0

pub point_above-requires-clause-d_in : goal.point_above-requires-clause-d_in
point_above-requires-clause-d_in c =
    let d_fits : FitsSigned w32 c.args.d = search rules in
    simp to_z-of_z (y-in c.args.s c.args.d c.requires)

pub returns-clause-on : goal.returns-clause-on
returns-clause-on c =
    let d_fits : FitsSigned w32 c.args.d = search rules in
    let y = simp to_z-of_z at c.point_above.ensures.y in
    on-at c.args.s c.point_above.result c.number_at.result (whole_frac c.args.d) c.point_above.ensures.x y (on_is c.before)
