use Rattle.std.proofs.Common.{[], ◌∷◌, length, rules, arith}
use Rattle.std.proofs.lemmas.List.{length-append}
use Rattle.std.proofs.lemmas.Iterator.Adapters.{YieldsList-from_vec}
use Rattle.std.proofs.lemmas.Iterator.Consumers.{YieldsList-end, YieldsList-turn}
use Rattle.osm_words.specs.Answers.{coastline_seen}
use Rattle.job_coastline.proofs.Tallies.{all_lists_counted, lists_counted, no_lists}
use Rattle.job_coastline.proofs.counts.count_lists.Goals as goal

pub loop-edges-init : goal.loop-edges-init
loop-edges-init c = no_lists c.args.kind (coastline_seen c.args.settings.now) c.args.tally

pub loop-edges-preserved : goal.loop-edges-preserved
loop-edges-preserved c =
    let b = c.in-Some.edges in
    let turn = YieldsList-turn (YieldsList-from_vec {s = c.into_iter-edges-iterator.result} c.args.lists.items (search rules) (search rules)) c.loop-edges.yielded c.loop-edges.edges-iterator c.loop-edges.yielded_by c.next.result c.next.new.self b c.in-Some.is c.next.ensures.steps in
    lists_counted c.args.kind (coastline_seen c.args.settings.now) c.args.lists.items (length c.loop-edges.yielded) b turn.0 turn.1 _ (length-append c.loop-edges.yielded (b ∷ []))
    c.args.tally c.loop-edges.now c.in-Ok.after c.loop-edges.invariant c.in-Ok.ensures

pub returns : goal.returns
returns c =
    let end = YieldsList-end (YieldsList-from_vec {s = c.into_iter-edges-iterator.result} c.args.lists.items (search rules) (search rules)) c.loop-edges.yielded c.loop-edges.edges-iterator c.loop-edges.yielded_by c.next.result c.next.new.self c.in-None.is c.next.ensures.steps in
    all_lists_counted c.args.kind (coastline_seen c.args.settings.now) c.args.lists.items (length c.loop-edges.yielded) (omega (arith, end.1)) c.args.tally c.loop-edges.now c.loop-edges.invariant
