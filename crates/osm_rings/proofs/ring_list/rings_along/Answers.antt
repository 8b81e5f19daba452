-- One more walk is taken off the places left: it is a ring.
use Rattle.std.proofs.Common.{[], All, ap, arith, get_or, length, map, subst, sym, take, ◌++◌, ◌<◌, ◌∷◌, ◌≡◌, ◌∙◌}
use Rattle.std.proofs.lemmas.List.{take_all}
use Rattle.osm_rings.specs.Pieces.{edges_at}
use Rattle.osm_rings.specs.Ring.{IsRing}
use Rattle.osm_rings.specs.RingList.{AreRingsOf}
use Rattle.osm_rings.proofs.WalkedRings.{as-many, in-walks, rest-is, ring-there, rings-more, walk-fits, walk-is}
use Rattle.osm_rings.proofs.ring_list.rings_along.Goals as goal

pub loop-size-init : goal.loop-size-init
loop-size-init c are = (sym are.along.joined, c.in_ok-rings.ensures)

pub split_at-requires : goal.split_at-requires
split_at-requires c =
    let are = c.requires in
    walk-fits are.walks c.args.places.now c.args.sizes.now are.along c.loop-size.size-index c.loop-size-test.true c.loop-size.left.now (c.loop-size.invariant are).0

pub edges_at-requires : goal.edges_at-requires
edges_at-requires c =
    let es = c.args.edges.now in let are = c.requires in let k = c.loop-size.size-index in let places = c.args.places.now in let sizes = c.args.sizes.now in
    let walk = get_or are.walks k [] in
    let front : c.split_at.result.0.now ≡ walk = c.split_at.ensures.front ∙ walk-is are.walks places sizes are.along k c.loop-size-test.true c.loop-size.left.now (c.loop-size.invariant are).0 in
    subst (All (λ i. i < length es)) (sym front) (are.within k [] (in-walks are.walks places sizes are.along k c.loop-size-test.true))

pub of_edges-requires : goal.of_edges-requires
of_edges-requires c =
    let es = c.args.edges.now in let are = c.requires in let k = c.loop-size.size-index in let places = c.args.places.now in let sizes = c.args.sizes.now in
    let walk = get_or are.walks k [] in
    let front : c.split_at.result.0.now ≡ walk = c.split_at.ensures.front ∙ walk-is are.walks places sizes are.along k c.loop-size-test.true c.loop-size.left.now (c.loop-size.invariant are).0 in
    let there = ring-there are.walks places sizes are.along k c.loop-size-test.true es in
    subst IsRing (sym (c.in_ok-edges_at.ensures ∙ ap (edges_at es) front)) (are.rings.ring (edges_at es walk) there)

pub loop-size-preserved : goal.loop-size-preserved
loop-size-preserved c are =
    let es = c.args.edges.now in let k = c.loop-size.size-index in let places = c.args.places.now in let sizes = c.args.sizes.now in
    let so_far = c.loop-size.invariant are in
    let walk = get_or are.walks k [] in
    let front : c.split_at.result.0.now ≡ walk = c.split_at.ensures.front ∙ walk-is are.walks places sizes are.along k c.loop-size-test.true c.loop-size.left.now so_far.0 in (
      c.split_at.ensures.back ∙ rest-is are.walks places sizes are.along k c.loop-size-test.true c.loop-size.left.now so_far.0,
      c.in_ok-push.ensures.ok ∙ (ap (λ ring. c.loop-size.rings ++ ring ∷ []) (c.of_edges.ensures ∙ (c.in_ok-edges_at.ensures ∙ ap (edges_at es) front)) ∙ rings-more are.walks places sizes are.along k c.loop-size-test.true es c.loop-size.rings so_far.1),
    )

pub returns : goal.returns
returns c =
    let es = c.args.edges.now in let are = c.requires in
    let all = as-many are.walks c.args.places.now c.args.sizes.now are.along in
    let whole : take c.loop-size.size-index are.walks ≡ are.walks = take_all c.loop-size.size-index are.walks (omega arith) in
    subst (AreRingsOf es) (sym ((c.loop-size.invariant are).1 ∙ ap (map (edges_at es)) whole)) are.rings
