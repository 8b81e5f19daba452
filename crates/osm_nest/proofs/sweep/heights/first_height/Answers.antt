-- The least whole number at or above the y of a point of the world fits.
use Rattle.std.proofs.Common.{rules, sym, subst, w32, w64, FitsSigned, to_z, of_z, ◌≡◌, ◌∙◌}
use Rattle.std.proofs.lemmas.Int.{to_z-of_z}
use Rattle.osm_geom.specs.Coordinate.{ceiling_of}
use Rattle.osm_geom.specs.Point.{y_of}
use Rattle.osm_nest.proofs.WholeHeights.{ceiling_within, fits_narrow}
use Rattle.osm_nest.proofs.sweep.heights.first_height.Goals as goal

pub overflow_cast-result : goal.overflow_cast-result
overflow_cast-result c =
    let wide = to_z-of_z w64 c.ceiling_at.result (search rules) in
    let here : to_z w64 (of_z w64 c.ceiling_at.result) ≡ ceiling_of (y_of c.args.p.now) = wide ∙ c.ceiling_at.ensures in
    subst (λ z. FitsSigned w32 z) (sym here) (fits_narrow (ceiling_of (y_of c.args.p.now)) (ceiling_within c.args.p.now c.requires))

pub returns-in_default : goal.returns-in_default
returns-in_default c =
    let wide = to_z-of_z w64 c.ceiling_at.result (search rules) in
    let here : to_z w64 (of_z w64 c.ceiling_at.result) ≡ ceiling_of (y_of c.args.p.now) = wide ∙ c.ceiling_at.ensures in
    to_z-of_z w32 (to_z w64 (of_z w64 c.ceiling_at.result)) (subst (λ z. FitsSigned w32 z) (sym here) (fits_narrow (ceiling_of (y_of c.args.p.now)) (ceiling_within c.args.p.now c.requires))) ∙ here
