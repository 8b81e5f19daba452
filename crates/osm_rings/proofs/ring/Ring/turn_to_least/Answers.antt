-- The ring begun at its least point is one.
use Rattle.std.proofs.Common.{All, length, get_or, subst, sym, ◌<◌, ◌∙◌, ◌≢◌}
use Rattle.std.specs.declared.cmp.Ordering.TheVariants.{Less}
use Rattle.osm_geom.specs.declared.edge.Edge.{Edge}
use Rattle.osm_geom.specs.Point.{point_cmp}
use Rattle.osm_rings.specs.Ring.{IsRing}
use Rattle.osm_rings.specs.Turned.{BeginsLeast}
use Rattle.osm_rings.proofs.TurnedRings.{ring-turned, turned-least}
use Rattle.osm_rings.proofs.ring.Ring.turn_to_least.Goals as goal

pub invariant_of-self : goal.invariant_of-self
invariant_of-self c =
    let es = c.self.inside.edges.items in let n = c.least_start-least.result in
    let own = c.as_slice.ensures.edges ∙ sym c.self.view_is in
    subst IsRing (sym c.rotate_left.ensures.items)
    (ring-turned es n (subst (λ xs. n < length xs) own c.least_start-least.ensures.inside) c.self.invariant)

pub returns-clause-least : goal.returns-clause-least
returns-clause-least c =
    let es = c.self.inside.edges.items in let n = c.least_start-least.result in
    let own = c.as_slice.ensures.edges ∙ sym c.self.view_is in
    subst BeginsLeast (sym c.rotate_left.ensures.items)
    (turned-least es n (subst (λ xs. n < length xs) own c.least_start-least.ensures.inside)
    (subst (λ xs. All (λ (e : Edge). point_cmp e.from (get_or xs n e).from ≢ Less) xs) own c.least_start-least.ensures.least))
