-- The pieces of one more walk, which is taken off the places left.
use Rattle.std.proofs.Common.{◌≡◌, ◌≢◌, ◌<◌, ℕ, [], All, arith, get_or, length, subst, sym, take, ◌∙◌}
use Rattle.std.proofs.lemmas.List.{take_all}
use Rattle.osm_rings.specs.Pieces.{AreAdded, AreCutAlong}
use Rattle.osm_rings.proofs.PieceSteps.{cut-more, none-cut}
use Rattle.osm_rings.proofs.Placed.{length_refilled}
use Rattle.osm_rings.proofs.WalkedRings.{as-many, in-walks, rest-is, walk-fits, walk-is}
use Rattle.osm_rings.proofs.pieces.pieces.Goals as goal

pub loop-size-init : goal.loop-size-init
loop-size-init c = record {
  room = let l = c.in_ok-depths.ensures.len in let ok = c.in_ok-depths.depths.ok.0 in omega (arith, l, ok, c.len.ensures, c.args.nodes.now.numbers.ok.0);
  cut = λ walks are. (sym are.along.joined, none-cut c.args.nodes.now.numbers.items walks c.in_ok-pieces.pieces.places.items c.in_ok-pieces.pieces.sizes.items c.in_ok-pieces.ensures);
}

pub split_at-requires : goal.split_at-requires
split_at-requires c =
    let w = c.requires.walks in
    walk-fits w.0 c.args.places.now c.args.sizes.now w.1.along c.loop-size.size-index c.loop-size-test.true c.loop-size.left.now (c.loop-size.invariant.cut w.0 w.1).0

pub add_walk-requires-clause-within : goal.add_walk-requires-clause-within
add_walk-requires-clause-within c =
    let w = c.requires.walks in let k = c.loop-size.size-index in let places = c.args.places.now in let sizes = c.args.sizes.now in
    let front : c.split_at.result.0.now ≡ get_or w.0 k [] = c.split_at.ensures.front ∙ walk-is w.0 places sizes w.1.along k c.loop-size-test.true c.loop-size.left.now (c.loop-size.invariant.cut w.0 w.1).0 in
    subst (All (λ i. i < length c.args.nodes.now.numbers.items)) (sym front) (w.1.within k [] (in-walks w.0 places sizes w.1.along k c.loop-size-test.true))

pub add_walk-requires-clause-some : goal.add_walk-requires-clause-some
add_walk-requires-clause-some c =
    let w = c.requires.walks in let k = c.loop-size.size-index in let places = c.args.places.now in let sizes = c.args.sizes.now in
    let front : c.split_at.result.0.now ≡ get_or w.0 k [] = c.split_at.ensures.front ∙ walk-is w.0 places sizes w.1.along k c.loop-size-test.true c.loop-size.left.now (c.loop-size.invariant.cut w.0 w.1).0 in
    subst (λ walk. 0 < length walk) (sym front) (w.1.some k [] (in-walks w.0 places sizes w.1.along k c.loop-size-test.true))

pub add_walk-requires-clause-once : goal.add_walk-requires-clause-once
add_walk-requires-clause-once c =
    let w = c.requires.walks in let k = c.loop-size.size-index in let places = c.args.places.now in let sizes = c.args.sizes.now in
    let front : c.split_at.result.0.now ≡ get_or w.0 k [] = c.split_at.ensures.front ∙ walk-is w.0 places sizes w.1.along k c.loop-size-test.true c.loop-size.left.now (c.loop-size.invariant.cut w.0 w.1).0 in
    subst (λ walk. (i j : ℕ) → i < j → j < length walk → get_or walk i 0 ≢ get_or walk j 0) (sym front) (w.1.once k [] (in-walks w.0 places sizes w.1.along k c.loop-size-test.true))

pub loop-size-preserved : goal.loop-size-preserved
loop-size-preserved c =
    let numbers = c.args.nodes.now.numbers.items in let k = c.loop-size.size-index in let places = c.args.places.now in let sizes = c.args.sizes.now in
    record {
      room = length_refilled c.loop-size.depths.len c.add_walk.new.depths c.loop-size.depths.items c.loop-size.depths.ok.0 ∙ (c.loop-size.depths.ok.0 ∙ c.loop-size.invariant.room);
      cut = λ walks are.
          let so_far = c.loop-size.invariant.cut walks are in
          let walk = get_or walks k [] in
          let front : c.split_at.result.0.now ≡ walk = c.split_at.ensures.front ∙ walk-is walks places sizes are.along k c.loop-size-test.true c.loop-size.left.now so_far.0 in
          let added : AreAdded numbers walk c.loop-size.pieces c.add_walk.new.pieces = subst (λ w. AreAdded numbers w c.loop-size.pieces c.add_walk.new.pieces) front c.in_ok-add_walk.ensures in (
            c.split_at.ensures.back ∙ rest-is walks places sizes are.along k c.loop-size-test.true c.loop-size.left.now so_far.0,
            cut-more numbers walks c.loop-size.pieces c.add_walk.new.pieces k (in-walks walks places sizes are.along k c.loop-size-test.true) so_far.1 added,
          );
    }

pub returns : goal.returns
returns c walks are =
    let numbers = c.args.nodes.now.numbers.items in
    let all = as-many walks c.args.places.now c.args.sizes.now are.along in
    let whole : take c.loop-size.size-index walks ≡ walks = take_all c.loop-size.size-index walks (omega arith) in
    subst (λ ws. AreCutAlong numbers ws c.loop-size.pieces.places.items c.loop-size.pieces.sizes.items) whole (c.loop-size.invariant.cut walks are).1
