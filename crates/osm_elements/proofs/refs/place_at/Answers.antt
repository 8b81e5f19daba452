use Rattle.std.proofs.Common.{rules, ◌∙◌, ap, ℤ, w64, to_z, of_z}
use Rattle.std.proofs.lemmas.Int.{to_z-of_z}
use Rattle.osm_elements.specs.Places.{location_from}
use Rattle.osm_elements.specs.Places.{longitude, latitude}
use Rattle.osm_elements.proofs.PlaceLaws.{placed}
use Rattle.osm_elements.proofs.refs.place_at.Goals as goal

pub returns : goal.returns
returns c =
    let x = c.args.x in
    let y = c.args.y in
    placed (to_z w64 (of_z w64 x)) (to_z w64 (of_z w64 y)) c.new.result c.new.ensures.valid c.new.ensures.value
    ∙ ap (λ (z : ℤ). location_from (longitude z) (latitude (to_z w64 (of_z w64 y)))) (to_z-of_z w64 x (search rules))
    ∙ ap (λ (z : ℤ). location_from (longitude x) (latitude z)) (to_z-of_z w64 y (search rules))
