-- The two edges beside the anchor are beside each other among those that span its height.
use Rattle.std.proofs.Common.{arith, false, get_or, subst, sym, true, ◌+◌, ◌-◌, ◌≡◌}
use Rattle.osm_geom.specs.Span.{spans}
use Rattle.osm_nest.specs.SweptEdges.{left_at}
use Rattle.osm_nest.proofs.StatusSteps.{neighbour-kept}
use Rattle.osm_nest.proofs.sweep.status.left_neighbour.Goals as goal

pub returns-then-is_between : goal.returns-then-is_between
returns-then-is_between c =
    let a = c.args.anchor.now.edge.now in let xs = c.args.status.now in let place = c.search-place.result in
    let e = c.get-left.result in let n = c.get-next.result in
    let low = c.lower_end-at.ensures in
    let back : place - 1 + 1 ≡ place = omega arith in
    neighbour-kept a xs (place - 1) e n (omega arith) (c.get-left.ensures e) (subst (λ m. n ≡ get_or xs m n) (sym back) (c.get-next.ensures n))
    (subst (λ at. left_at at e.edge.now a ≡ true) low (c.is_between.ensures.left c.if-is_between.true))
    (subst (λ at. spans n.edge.now at ≡ true) low (c.is_between.ensures.within c.if-is_between.true))
    (subst (λ at. left_at at n.edge.now a ≡ false) low (c.is_between.ensures.next c.if-is_between.true))
