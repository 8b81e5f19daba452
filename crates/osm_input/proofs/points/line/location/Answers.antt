use Rattle.std.proofs.Common.{◌∙◌, ap, rules, w64, to_z, of_z, Some}
use Rattle.std.specs.Prelude.{FitsSigned}
use Rattle.std.proofs.lemmas.Int.{to_z-of_z}
use Rattle.osm_input.proofs.PointLines.Places.{location_is}
use Rattle.osm_input.proofs.points.line.location.Goals as goal

pub returns : goal.returns
returns c =
    let x = c.in_ok-x.x in
    let y = c.in_ok-y.y in
    let range_x = c.in_ok-x.ensures.found.1 in
    let range_y = c.in_ok-y.ensures.found.1 in
    let fits_x : FitsSigned w64 x = search (rules, range_x) in
    let fits_y : FitsSigned w64 y = search (rules, range_y) in
    location_is (to_z w64 (of_z w64 x)) (to_z w64 (of_z w64 y)) _ _ c.new.result (ap Some (to_z-of_z w64 x fits_x) ∙ c.in_ok-x.ensures.value)
    (ap Some (to_z-of_z w64 y fits_y) ∙ c.in_ok-y.ensures.value) c.new.ensures.valid c.new.ensures.value
