use Rattle.std.proofs.Common.{Contains, inr, subst, sym}
use Rattle.osm_segments.proofs.ranges.division.unsettled.Goals as goal

pub returns-in-Ok-true : goal.returns-in-Ok-true
returns-in-Ok-true c segs told strip settled s t a b =
    let value = sym c.deref.ensures.value in
    inr (inr (inr (c.in-Ok-true.ensures c.in-Ok-true.field-0-test s t (subst (λ xs. Contains xs s) value a) (subst (λ xs. Contains xs t) value b))))
