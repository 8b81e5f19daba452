-- The nearest edge of an outer ring.
use Rattle.std.proofs.Common.{None, true, sym, subst, ◌∙◌, ◌≡◌}
use Rattle.osm_nest.specs.Beside.{IsNearest, IsNearestRight, is_around}
use Rattle.osm_nest.proofs.Nearest.{encloser-by, no-encloser}
use Rattle.osm_nest.proofs.few.search.encloser_at.Goals as goal

pub returns-in-Some : goal.returns-in-Some
returns-in-Some c =
    let a = c.args.anchor.now in let r = c.index-rings-place.result in
    let told = c.requires.outer c.args.place c.requires.inside in
    encloser-by c.args.rings.now a c.args.place r c.in-Some.edge c.requires.inside c.index-rings-place.is (told.0.0 c.if-not-outer-place.false)
    (subst (λ l. is_around a l ≡ true) c.as_slice-ring.ensures.edges (sym c.is_around.ensures ∙ c.if-not-is_around.false))
    (subst (λ l. IsNearest a l c.in-Some.edge) c.as_slice-ring.ensures.edges (subst (λ o. IsNearestRight a c.as_slice-ring.result.now o) c.in-Some.is c.nearest_right.ensures))

pub returns-in-None : goal.returns-in-None
returns-in-None c =
    let a = c.args.anchor.now in let r = c.index-rings-place.result in
    no-encloser c.args.rings.now a c.args.place r c.requires.inside c.index-rings-place.is
    (subst (λ l. IsNearestRight a l None) c.as_slice-ring.ensures.edges (subst (λ o. IsNearestRight a c.as_slice-ring.result.now o) c.in-None.is c.nearest_right.ensures))
