use Rattle.std.proofs.Common.{◌≡◌, ◌∙◌, sym, ap, rules, w32, w64, to_z, of_z}
use Rattle.std.specs.Prelude.{FitsSigned, option_and_then}
use Rattle.std.proofs.lemmas.Int.{to_z-of_z}
use Rattle.osm_elements.specs.Places.{latitude}
use Rattle.osm_elements.proofs.ElementsKit.{latitude-at}
use Rattle.opl_reader.proofs.place.latitude.Goals as goal

pub returns : goal.returns
returns c =
    let z = c.in_ok-units.units in
    let range = c.in_ok-units.ensures.in_range in
    let fits64 : FitsSigned w64 z = search (rules, range) in
    let fits32 : FitsSigned w32 z = search (rules, range) in
    let held : to_z w32 (of_z w32 (to_z w64 (of_z w64 z))) ≡ z = ap (λ k. to_z w32 (of_z w32 k)) (to_z-of_z w64 z fits64) ∙ to_z-of_z w32 z fits32 in
    sym (ap (option_and_then latitude) (sym c.in_ok-units.ensures.value) ∙ latitude-at z _ held)
