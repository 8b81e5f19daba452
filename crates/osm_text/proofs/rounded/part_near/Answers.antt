-- What a part is rounded to lies between the bounds of its range.
use Rattle.std.proofs.Common.{ap, arith, rules, unsigned_abs, ◌∙◌, ◌≡◌, ◌≤◌, FitsSigned, ℤ, ℕ}
use Rattle.std.specs.Int.{w32, w64}
use Rattle.std.proofs.lemmas.Int.{fits_signed_from_abs, to_z-of_z}
use Rattle.osm_lattice.specs.Frac.{rounded}
use Rattle.osm_geom.specs.Part.{part_num}
use Rattle.osm_notation.proofs.RoundedRange.{rounded_in}
use Rattle.osm_text.proofs.rounded.part_near.Goals as goal

near_is : (c : goal.After-round) → c.round.result ≡ rounded (part_num c.args.part.floor c.args.part.above c.args.part.den) c.args.part.den
near_is c =
    c.round.ensures
    ∙ ap (λ (n : ℤ). rounded n c.frac.result.den) c.frac.ensures.num
    ∙ ap (λ (d : ℕ). rounded (part_num c.args.part.floor c.args.part.above c.args.part.den) d) c.frac.ensures.den

near_fits : (c : goal.After-round) → FitsSigned w32 c.round.result
near_fits c =
    let p = c.args.part in
    let den_in = p.den_in.0 in
    let some : 1 ≤ p.den = omega arith in
    let within : unsigned_abs (rounded (part_num p.floor p.above p.den) p.den) ≤ 1_800_000_000 = rounded_in 1_800_000_000 (part_num p.floor p.above p.den) p.den some p.num_in in
    rw (near_is c) (fits_signed_from_abs w32 _ (omega (arith, within)))

pub overflow_cast-result : goal.overflow_cast-result
overflow_cast-result c =
    let fits : FitsSigned w64 c.round.result = search rules in
    rw (to_z-of_z w64 c.round.result fits) (near_fits c)

pub returns : goal.returns
returns c =
    let wide : FitsSigned w64 c.round.result = search rules in
    let fits = near_fits c in
    rw (to_z-of_z w64 c.round.result wide, to_z-of_z w32 c.round.result fits) (near_is c)
