use Rattle.std.proofs.Common.{arith, mul-le-mul}
use Rattle.std.proofs.lemmas.Int.{to_z-of_z}
use Rattle.osm_lattice.proofs.Sizes.{signed}
use Rattle.osm_lattice.proofs.orientation.cross.Goals as goal

pub overflow_sub-result : goal.overflow_sub-result
overflow_sub-result c =
    let ux_fits = c.ranges.ux in
    let uy_fits = c.ranges.uy in
    let vx_fits = c.ranges.vx in
    let vy_fits = c.ranges.vy in
    let left = mul-le-mul c.requires.ux_in c.requires.vy_in in
    let right = mul-le-mul c.requires.uy_in c.requires.vx_in in
    let p = simp to_z-of_z at c.product.ensures.size in
    let q = simp to_z-of_z at c.product-2.ensures.size in
    omega (arith, signed)

pub returns-clause-value : goal.returns-clause-value
returns-clause-value c =
    let ux_fits = c.ranges.ux in
    let uy_fits = c.ranges.uy in
    let vx_fits = c.ranges.vx in
    let vy_fits = c.ranges.vy in
    let left = mul-le-mul c.requires.ux_in c.requires.vy_in in
    let right = mul-le-mul c.requires.uy_in c.requires.vx_in in
    let p = simp to_z-of_z at c.product.ensures.size in
    let q = simp to_z-of_z at c.product-2.ensures.size in
    let r = simp to_z-of_z at c.product.ensures.value in
    let s = simp to_z-of_z at c.product-2.ensures.value in
    omega (arith, signed)

pub returns-clause-small : goal.returns-clause-small
returns-clause-small c =
    let ux_fits = c.ranges.ux in
    let uy_fits = c.ranges.uy in
    let vx_fits = c.ranges.vx in
    let vy_fits = c.ranges.vy in
    let left = mul-le-mul c.requires.ux_in c.requires.vy_in in
    let right = mul-le-mul c.requires.uy_in c.requires.vx_in in
    let p = simp to_z-of_z at c.product.ensures.size in
    let q = simp to_z-of_z at c.product-2.ensures.size in
    omega (arith, signed)
