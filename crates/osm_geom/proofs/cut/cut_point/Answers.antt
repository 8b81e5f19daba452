use Rattle.std.proofs.Common.{rules, FitsSigned}
use Rattle.std.specs.Int.{w32}
use Rattle.std.proofs.lemmas.Int.{to_z-of_z}
use Rattle.osm_geom.proofs.CutPoints.{crossed-x, crossed-y, null-x, null-y}
use Rattle.osm_geom.proofs.OnlyMeetings.{only_meeting}
use Rattle.osm_geom.proofs.cut.cut_point.Goals as goal

pub point_with_x-requires : goal.point_with_x-requires
point_with_x-requires c =
    let at_fits : FitsSigned w32 c.args.cut.at = search rules in
    simp to_z-of_z (crossed-x c.args.cut c.args.s.a c.args.s.b c.in-X.is c.requires)

pub point_with_y-requires : goal.point_with_y-requires
point_with_y-requires c =
    let at_fits : FitsSigned w32 c.args.cut.at = search rules in
    simp to_z-of_z (crossed-y c.args.cut c.args.s.a c.args.s.b c.in-Y.is c.requires)

pub returns-in-X-clause-on_line : goal.returns-in-X-clause-on_line
returns-in-X-clause-on_line c =
    let at_fits : FitsSigned w32 c.args.cut.at = search rules in
    let x = simp to_z-of_z at c.point_with_x.ensures.x in
    null-x c.args.cut c.point_with_x.result c.in-X.is x

pub returns-in-Y-clause-on_line : goal.returns-in-Y-clause-on_line
returns-in-Y-clause-on_line c =
    let at_fits : FitsSigned w32 c.args.cut.at = search rules in
    let y = simp to_z-of_z at c.point_with_y.ensures.y in
    null-y c.args.cut c.point_with_y.result c.in-Y.is y

pub returns-in-X-clause-alone : goal.returns-in-X-clause-alone
returns-in-X-clause-alone c =
    let at_fits : FitsSigned w32 c.args.cut.at = search rules in
    let x = simp to_z-of_z at c.point_with_x.ensures.x in
    only_meeting c.args.s c.args.cut c.point_with_x.result c.requires c.point_with_x.ensures.on (null-x c.args.cut c.point_with_x.result c.in-X.is x)

pub returns-in-Y-clause-alone : goal.returns-in-Y-clause-alone
returns-in-Y-clause-alone c =
    let at_fits : FitsSigned w32 c.args.cut.at = search rules in
    let y = simp to_z-of_z at c.point_with_y.ensures.y in
    only_meeting c.args.s c.args.cut c.point_with_y.result c.requires c.point_with_y.ensures.on (null-y c.args.cut c.point_with_y.result c.in-Y.is y)
