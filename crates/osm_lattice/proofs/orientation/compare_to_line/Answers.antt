use Rattle.std.proofs.Common.{◌∙◌, FitsSigned, arith, mul-le-mul, refl, rules}
use Rattle.std.specs.Int.{w64}
use Rattle.std.proofs.lemmas.Int.{to_z-of_z}
use Rattle.osm_lattice.proofs.LocationOrder.{int_cmp-is}
use Rattle.osm_lattice.proofs.Sizes.{back}
use Rattle.osm_lattice.proofs.orientation.compare_to_line.Goals as goal

pub short_product-leftwards-requires : goal.short_product-leftwards-requires
short_product-leftwards-requires c =
    let x = c.step_x.ensures.small in
    let y = c.step_y.ensures.small in
    rw (back w64 c.step_x.result (omega arith), back w64 c.step_y.result (omega arith)) (omega (arith, mul-le-mul x y))

pub short_product-rightwards-requires : goal.short_product-rightwards-requires
short_product-rightwards-requires c =
    let y = c.step_y-2.ensures.small in
    let x = c.step_x-2.ensures.small in
    rw (back w64 c.step_y-2.result (omega arith), back w64 c.step_x-2.result (omega arith)) (omega (arith, mul-le-mul y x))

pub returns : goal.returns
returns c =
    let left_fits : FitsSigned w64 c.short_product-leftwards.result = search rules in
    let right_fits : FitsSigned w64 c.short_product-rightwards.result = search rules in
    let x = c.step_x.ensures.small in
    let y = c.step_y.ensures.small in
    let x2 = c.step_x-2.ensures.small in
    let y2 = c.step_y-2.ensures.small in
    let left = rw (back w64 c.step_x.result (omega arith), back w64 c.step_y.result (omega arith)) at c.short_product-leftwards.ensures in
    let right = rw (back w64 c.step_y-2.result (omega arith), back w64 c.step_x-2.result (omega arith)) at c.short_product-rightwards.ensures in
    let told = simp to_z-of_z at c.cmp.ensures in
    told
    ∙ (int_cmp-is c.short_product-rightwards.result c.short_product-leftwards.result
    ∙ rw (left, right, c.step_x.ensures.value, c.step_y.ensures.value, c.step_x-2.ensures.value, c.step_y-2.ensures.value) refl)
