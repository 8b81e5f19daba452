use Rattle.std.proofs.Common.{arith, pos, rules, ◌∙◌, ◌+ℤ◌, ap, FitsSigned}
use Rattle.std.specs.Int.{w32, w64}
use Rattle.std.proofs.lemmas.Int.{ints, to_z-of_z}
use Rattle.osm_geom.proofs.Parts.{part_ceiling_is}
use Rattle.osm_geom.proofs.coordinate.ceiling_of_part.Goals as goal

pub returns : goal.returns
returns c =
    let p = c.args.p in
    let fits : FitsSigned w32 p.floor = search rules in
    let fits_from : FitsSigned w64 c.from.result = search rules in
    let from = simp to_z-of_z at c.from.ensures in
    let fits_sum : FitsSigned w64 (c.from.result +ℤ pos 1) = rw from (omega (arith, ints, fits)) in
    simp to_z-of_z (ap (λ z. z +ℤ pos 1) from ∙ part_ceiling_is p)
