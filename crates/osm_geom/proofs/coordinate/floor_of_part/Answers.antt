use Rattle.std.proofs.Common.{rules, ◌∙◌, FitsSigned}
use Rattle.std.specs.Int.{w32, w64}
use Rattle.std.proofs.lemmas.Int.{to_z-of_z}
use Rattle.osm_geom.proofs.Parts.{part_floor_is}
use Rattle.osm_geom.proofs.coordinate.floor_of_part.Goals as goal

pub returns : goal.returns
returns c =
    let p = c.args.p in
    let fits : FitsSigned w32 p.floor = search rules in
    let fits_from : FitsSigned w64 c.from.result = search rules in
    let from = simp to_z-of_z at c.from.ensures in
    simp to_z-of_z (from ∙ part_floor_is p)
