use Rattle.osm_objects.proofs.RisingLemmas.{cut_rest, go_less, go_equal, go_greater}
use Rattle.osm_objects.proofs.plain.by_halves.Goals as goal

pub loop-rest-preserved-in-Less : goal.loop-rest-preserved-in-Less
loop-rest-preserved-in-Less c =
    let cut = cut_rest _ c.loop-rest.rest.now c.split_at.result.0.now c.split_at.result.1.now c.in_ok-node.node.now c.in_ok-node.behind.now c.split_at.ensures.front c.split_at.ensures.back c.in_ok-node.ensures.cases.0 in
    go_less c.args.of.id c.loop-rest.rest.now c.args.nodes.now c.split_at.result.0.now c.in_ok-node.node.now c.in_ok-node.behind.now cut c.loop-rest.invariant.0 c.loop-rest.invariant.1 c.in-Less.ensures

pub returns-in-Equal : goal.returns-in-Equal
returns-in-Equal c =
    let cut = cut_rest _ c.loop-rest.rest.now c.split_at.result.0.now c.split_at.result.1.now c.in_ok-node.node.now c.in_ok-node.behind.now c.split_at.ensures.front c.split_at.ensures.back c.in_ok-node.ensures.cases.0 in
    go_equal c.args.of.id c.loop-rest.rest.now c.args.nodes.now c.split_at.result.0.now c.in_ok-node.node.now c.in_ok-node.behind.now cut c.loop-rest.invariant.0 c.loop-rest.invariant.1 c.in-Equal.ensures

pub loop-rest-preserved : goal.loop-rest-preserved
loop-rest-preserved c =
    let cut = cut_rest _ c.loop-rest.rest.now c.split_at.result.0.now c.split_at.result.1.now c.in_ok-node.node.now c.in_ok-node.behind.now c.split_at.ensures.front c.split_at.ensures.back c.in_ok-node.ensures.cases.0 in
    go_greater c.args.of.id c.loop-rest.rest.now c.args.nodes.now c.split_at.result.0.now c.in_ok-node.node.now c.in_ok-node.behind.now cut c.loop-rest.invariant.0 c.loop-rest.invariant.1 c.in-Greater.ensures
