use Rattle.std.proofs.Common.{rules, FitsSigned}
use Rattle.std.specs.Int.{w32}
use Rattle.std.proofs.lemmas.Int.{to_z-of_z}
use Rattle.osm_geom.proofs.GeometryKit.{in-world}
use Rattle.coast_split.proofs.Crossings.{horizontal-at-in, horizontal-d-in, horizontal-meets, horizontal-on, segment-crosses, vertical-at-in, vertical-c-in, vertical-meets, vertical-on}
use Rattle.coast_split.proofs.portion.crossing.Goals as goal

pub cut_point-requires : goal.cut_point-requires
cut_point-requires c = segment-crosses c.args.cut c.args.e.now c.in-OfSeg.s c.in-OfSeg.is c.requires

pub lattice_point-requires-clause-x_in : goal.lattice_point-requires-clause-x_in
lattice_point-requires-clause-x_in c =
    let fits : FitsSigned w32 c.in-Vertical.x = search rules in
    simp to_z-of_z (vertical-c-in c.args.e.now c.in-Vertical.x c.in-Vertical.is)

pub lattice_point-requires-clause-y_in : goal.lattice_point-requires-clause-y_in
lattice_point-requires-clause-y_in c =
    let fits : FitsSigned w32 c.args.cut.at = search rules in
    simp to_z-of_z (vertical-at-in c.args.cut c.args.e.now c.in-Vertical.x c.in-Vertical.is c.requires)

pub lattice_point-requires-in-Horizontal-clause-x_in :
    goal.lattice_point-requires-in-Horizontal-clause-x_in
lattice_point-requires-in-Horizontal-clause-x_in c =
    let fits : FitsSigned w32 c.args.cut.at = search rules in
    simp to_z-of_z (horizontal-at-in c.args.cut c.args.e.now c.in-Horizontal.y c.in-Horizontal.is c.requires)

pub lattice_point-requires-in-Horizontal-clause-y_in :
    goal.lattice_point-requires-in-Horizontal-clause-y_in
lattice_point-requires-in-Horizontal-clause-y_in c =
    let fits : FitsSigned w32 c.in-Horizontal.y = search rules in
    simp to_z-of_z (horizontal-d-in c.args.e.now c.in-Horizontal.y c.in-Horizontal.is)

pub returns-in-OfSeg-clause-in_world : goal.returns-in-OfSeg-clause-in_world
returns-in-OfSeg-clause-in_world c = in-world c.in-OfSeg.s c.cut_point.result c.cut_point.ensures.on_segment

pub returns-in-Vertical-clause-on_line : goal.returns-in-Vertical-clause-on_line
returns-in-Vertical-clause-on_line c =
    let fits : FitsSigned w32 c.args.cut.at = search rules in
    let y = simp to_z-of_z at c.lattice_point.ensures.y in
    vertical-meets c.args.cut c.args.e.now c.in-Vertical.x c.lattice_point.result c.in-Vertical.is c.requires y

pub returns-in-Vertical-clause-on_carrier : goal.returns-in-Vertical-clause-on_carrier
returns-in-Vertical-clause-on_carrier c =
    let fits : FitsSigned w32 c.in-Vertical.x = search rules in
    let x = simp to_z-of_z at c.lattice_point.ensures.x in
    vertical-on c.args.e.now.carrier c.in-Vertical.x c.lattice_point.result c.in-Vertical.is x

pub returns-in-Horizontal-clause-on_line : goal.returns-in-Horizontal-clause-on_line
returns-in-Horizontal-clause-on_line c =
    let fits : FitsSigned w32 c.args.cut.at = search rules in
    let x = simp to_z-of_z at c.lattice_point-in-Horizontal.ensures.x in
    horizontal-meets c.args.cut c.args.e.now c.in-Horizontal.y c.lattice_point-in-Horizontal.result c.in-Horizontal.is c.requires x

pub returns-in-Horizontal-clause-on_carrier : goal.returns-in-Horizontal-clause-on_carrier
returns-in-Horizontal-clause-on_carrier c =
    let fits : FitsSigned w32 c.in-Horizontal.y = search rules in
    let y = simp to_z-of_z at c.lattice_point-in-Horizontal.ensures.y in
    horizontal-on c.args.e.now.carrier c.in-Horizontal.y c.lattice_point-in-Horizontal.result c.in-Horizontal.is y
