use Rattle.osm_words.specs.Answers.{coastline_seen}
use Rattle.job_coastline.proofs.Left.{counted_next, no_leaves, too_many_left}
use Rattle.job_coastline.proofs.counting.count_all.Goals as goal

pub loop-edges-init : goal.loop-edges-init
loop-edges-init c = no_leaves (coastline_seen c.args.settings.now) c.args.most

pub loop-edges-preserved : goal.loop-edges-preserved
loop-edges-preserved c =
    let counted = c.in-Ok.ensures.counted in
    counted_next (coastline_seen c.args.settings.now) c.args.lists.now c.loop-edges.edges-index c.edges-item.result c.loop-edges-test.true c.edges-item.is c.args.most c.loop-edges.count c.in-Ok.more
    c.loop-edges.invariant counted.0 counted.1 counted.2 counted.3

pub returns-in-Err-clause-many : goal.returns-in-Err-clause-many
returns-in-Err-clause-many c m is =
    too_many_left (coastline_seen c.args.settings.now) c.split_trees_exist.ensures c.args.lists.now c.loop-edges.edges-index c.edges-item.result c.loop-edges-test.true c.edges-item.is c.args.most c.loop-edges.count
    c.loop-edges.invariant (c.in-Err.ensures.many m is).1
