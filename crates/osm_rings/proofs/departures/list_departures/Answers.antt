-- One more departure.
use Rattle.std.proofs.Common.{◌≡◌, ◌<◌, length, get_or, subst, sym, arith, ℕ}
use Rattle.osm_geom.specs.declared.edge.Edge.{Edge}
use Rattle.osm_rings.specs.Departures.{AreInTwoLists, IsDepartureOf}
use Rattle.osm_rings.proofs.Starts.{departure-of, listed-more, listed-none, listed-other}
use Rattle.osm_rings.proofs.departures.list_departures.Goals as goal
use Rattle.osm_rings.proofs.departures.list_departures.Goals.{then-runs_up+in_ok-push, else-runs_up+in_ok-push-2}

pub loop-place-init : goal.loop-place-init
loop-place-init c = rw (c.in_ok-reserve.ensures.items, c.requires.up, c.in_ok-reserve-2.ensures.items, c.requires.down) (listed-none c.args.edges.now)

pub loop-place-preserved : goal.loop-place-preserved
loop-place-preserved c =
    let es = c.args.edges.now in
    let n = c.loop-place.place in
    let w = c.of-departure.result in
    let it = c.index-edges-place.result in
    let leaves = c.of-departure.ensures in
    let at = sym leaves.place in
    let here : it ≡ get_or es w.place it = subst (λ k. it ≡ get_or es k it) at c.index-edges-place.is in
    let right : IsDepartureOf es w = departure-of es w (subst (λ k. k < length es) at c.loop-place-test.true) (subst (λ (e : Edge). e ≡ get_or es w.place e) (sym leaves.edge) here) in
    elim c.if-runs_up.branch [
      | then-runs_up+in_ok-push b ↦ rw (b.up-is, b.down-is, b.in_ok-push.ensures.items) (listed-more es n c.loop-place.up.items c.loop-place.down.items w c.loop-place.invariant leaves.place right)
      | else-runs_up+in_ok-push-2 b ↦ rw (b.up-is, b.down-is, b.in_ok-push-2.ensures.items) (listed-other es n c.loop-place.up.items c.loop-place.down.items w c.loop-place.invariant leaves.place right)
    ]

pub returns : goal.returns
returns c =
    let whole : c.loop-place.place ≡ length c.args.edges.now = omega arith in
    subst (λ (n : ℕ). AreInTwoLists c.args.edges.now n c.loop-place.up.items c.loop-place.down.items) whole c.loop-place.invariant
