use Rattle.std.proofs.Common.{rules, FitsSigned}
use Rattle.std.specs.Int.{w32}
use Rattle.std.proofs.lemmas.Int.{to_z-of_z}
use Rattle.osm_lattice.specs.Meeting.{IsOnSegment}
use Rattle.osm_geom.proofs.CutPoints.{on-at, whole_frac, with-x, x-in}
use Rattle.osm_lattice.proofs.LatticeKit.{on_segment_in}
use Rattle.osm_geom.proofs.cut.point_with_x.Goals as goal

on_is : (c : goal.After-number_at) → IsOnSegment c.args.s (whole_frac c.args.c) c.number_at.result
on_is c =
    let c_fits : FitsSigned w32 c.args.c = search rules in
    let ax_fits : FitsSigned w32 c.args.s.a.x = search rules in
    let bx_fits : FitsSigned w32 c.args.s.b.x = search rules in
    let ay_fits : FitsSigned w32 c.args.s.a.y = search rules in
    let by_fits : FitsSigned w32 c.args.s.b.y = search rules in
    let above = simp to_z-of_z at c.share_between.ensures.above in
    let den = simp to_z-of_z at c.share_between.ensures.den in
    let value = simp to_z-of_z at c.number_at.ensures.value in
    with-x c.args.s c.args.c c.number_at.result c.share_between.result.den c.share_between.result.above c.requires above den value

pub point_beside-requires-clause-c_in : goal.point_beside-requires-clause-c_in
point_beside-requires-clause-c_in c =
    let c_fits : FitsSigned w32 c.args.c = search rules in
    simp to_z-of_z (x-in c.args.s c.args.c c.requires)

pub point_beside-requires-clause-num_in : goal.point_beside-requires-clause-num_in
point_beside-requires-clause-num_in c = (on_segment_in c.args.s (whole_frac c.args.c) c.number_at.result (on_is c)).1

pub returns-clause-on : goal.returns-clause-on
returns-clause-on c =
    let c_fits : FitsSigned w32 c.args.c = search rules in
    let x = simp to_z-of_z at c.point_beside.ensures.x in
    on-at c.args.s c.point_beside.result (whole_frac c.args.c) c.number_at.result x c.point_beside.ensures.y (on_is c.before)
