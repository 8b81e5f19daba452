use Rattle.std.proofs.Common.{[], ◌∷◌, length, rules}
use Rattle.std.proofs.lemmas.List.{length-append}
use Rattle.std.proofs.lemmas.Iterator.Adapters.{YieldsList-from_vec}
use Rattle.std.proofs.lemmas.Iterator.Consumers.{YieldsList-end, YieldsList-turn}
use Rattle.job_coastline.proofs.Made.{lists_broken, lists_next, lists_written, no_lists_written}
use Rattle.job_coastline.proofs.writing.write_lists.Goals as goal

pub loop-edges-init : goal.loop-edges-init
loop-edges-init g c = no_lists_written c.args.kind c.args.settings.now.max_points c.args.settings.now.bbox_overlap c.args.lists.items c.args.lines.now.items (g.H.Host.seen c.args.host.now)

pub loop-edges-preserved : goal.loop-edges-preserved
loop-edges-preserved g c =
    let b = c.in-Some.edges in
    let turn = YieldsList-turn (YieldsList-from_vec {s = c.into_iter-edges-iterator.result} c.args.lists.items (search rules) (search rules)) c.loop-edges.yielded c.loop-edges.edges-iterator c.loop-edges.yielded_by c.next.result c.next.new.self b c.in-Some.is c.next.ensures.steps in
    lists_next c.args.kind c.args.settings.now.max_points c.args.settings.now.bbox_overlap c.args.lists.items (length c.loop-edges.yielded) b turn.0 turn.1
    c.args.lines.now.items c.loop-edges.lines.items c.write_list.new.lines.items (g.H.Host.seen c.args.host.now) (g.H.Host.seen c.loop-edges.host) (g.H.Host.seen c.write_list.new.host)
    _ (length-append c.loop-edges.yielded (b ∷ [])) c.loop-edges.invariant c.in_default.ensures

pub returns-in-Err : goal.returns-in-Err
returns-in-Err g c =
    let b = c.in-Some.edges in
    let turn = YieldsList-turn (YieldsList-from_vec {s = c.into_iter-edges-iterator.result} c.args.lists.items (search rules) (search rules)) c.loop-edges.yielded c.loop-edges.edges-iterator c.loop-edges.yielded_by c.next.result c.next.new.self b c.in-Some.is c.next.ensures.steps in
    lists_broken c.args.kind c.args.settings.now.max_points c.args.settings.now.bbox_overlap c.args.lists.items (length c.loop-edges.yielded) b turn.0 turn.1
    c.args.lines.now.items c.loop-edges.lines.items c.write_list.new.lines.items (g.H.Host.seen c.args.host.now) (g.H.Host.seen c.loop-edges.host) (g.H.Host.seen c.write_list.new.host)
    c.pieces_exist.ensures.tiles c.pieces_exist.ensures.sided c.requires c.in-Err.broken c.loop-edges.invariant c.in-Err.ensures

pub returns : goal.returns
returns g c =
    let end = YieldsList-end (YieldsList-from_vec {s = c.into_iter-edges-iterator.result} c.args.lists.items (search rules) (search rules)) c.loop-edges.yielded c.loop-edges.edges-iterator c.loop-edges.yielded_by c.next.result c.next.new.self c.in-None.is c.next.ensures.steps in
    lists_written c.args.kind c.args.settings.now.max_points c.args.settings.now.bbox_overlap c.args.lists.items (length c.loop-edges.yielded) end.1
    c.args.lines.now.items c.loop-edges.lines.items (g.H.Host.seen c.args.host.now) (g.H.Host.seen c.loop-edges.host) c.loop-edges.invariant
