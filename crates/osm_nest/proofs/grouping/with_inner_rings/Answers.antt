-- One more outer ring.
use Rattle.std.proofs.Common.{rules, ◌∙◌}
use Rattle.std.proofs.lemmas.Iterator.Adapters.{YieldsList-from_vec}
use Rattle.std.proofs.lemmas.Iterator.Consumers.{YieldsList-turn}
use Rattle.osm_nest.proofs.Joining.{joined-step}
use Rattle.osm_nest.proofs.grouping.with_inner_rings.Goals as goal

pub loop-begun-preserved : goal.loop-begun-preserved
loop-begun-preserved c =
    let b = c.in-Some.begun in
    let turn = YieldsList-turn (YieldsList-from_vec {s = c.into_iter-begun-iterator.result} c.args.outers.items (search rules) (search rules)) c.loop-begun.yielded c.loop-begun.begun-iterator c.loop-begun.yielded_by c.next.result c.next.new.self b c.in-Some.is c.next.ensures.steps in
    joined-step c.args.under.items c.args.outers.items c.requires.within c.requires.once c.loop-begun.yielded c.loop-begun.under.items c.loop-begun.polygons c.push.new.self b c.replace-inners.result c.replace-inners.new.dest c.index_mut.result.now turn.0 turn.1
    (c.replace-inners.ensures.after ∙ c.new.ensures)
    (c.replace-inners.ensures.value ∙ c.index_mut.ensures.value)
    c.in_ok-push.ensures.ok
    c.loop-begun.invariant
