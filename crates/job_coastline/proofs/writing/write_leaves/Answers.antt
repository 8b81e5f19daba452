use Rattle.std.proofs.Common.{refl, ◌∙◌}
use Rattle.job_coastline.proofs.Left.{next_leaf}
use Rattle.job_coastline.proofs.Made.{next_broken, next_first, next_not_cut, none_first}
use Rattle.job_coastline.proofs.writing.write_leaves.Goals as goal

pub loop-init : goal.loop-init
loop-init g c = record {
  kept = (refl, refl);
  wrote = λ list are.
      none_first c.args.kind c.args.leaves.now.most_points c.args.leaves.now.overlap c.args.leaves.now.waiting c.args.lines.now.items (g.H.Host.seen c.args.host.now) list are;
}

pub returns-in-Err : goal.returns-in-Err
returns-in-Err g c = λ list are sided few.
    next_not_cut c.args.kind c.args.leaves.now.most_points c.args.leaves.now.overlap c.args.leaves.now.waiting c.args.lines.now.items (g.H.Host.seen c.args.host.now) list c.loop.counter c.loop.leaves.waiting c.loop.lines.items
    (g.H.Host.seen c.loop.host) (c.loop.invariant.wrote list are) c.pieces_exist.ensures.tiles sided

pub loop-preserved : goal.loop-preserved
loop-preserved g c =
    let kept = c.loop.invariant.kept in
    let same = c.in-Ok.ensures.kept in
    record {
      kept = (same.0 ∙ kept.0, same.1 ∙ kept.1);
      wrote = λ list are.
          next_first c.args.kind c.args.leaves.now.most_points c.args.leaves.now.overlap c.args.leaves.now.waiting c.args.lines.now.items (g.H.Host.seen c.args.host.now) list c.loop.counter c.loop.leaves.waiting c.loop.lines.items
          (g.H.Host.seen c.loop.host) (c.loop.invariant.wrote list are) c.in-Some.leaf c.next.new.self.waiting
          (next_leaf c.args.leaves.now.most_points c.args.leaves.now.overlap c.loop.leaves.most_points c.loop.leaves.overlap c.loop.leaves.waiting c.next.new.self.waiting c.in-Ok.next c.in-Some.leaf kept.0 kept.1 c.in-Ok.ensures.some c.in-Some.is)
          c.write_leaf.new.lines.items (g.H.Host.seen c.write_leaf.new.host) c.in_default-write_leaf.ensures;
    }

pub returns-in-Err-write_leaf : goal.returns-in-Err-write_leaf
returns-in-Err-write_leaf g c = λ list are sided few.
    let kept = c.loop.invariant.kept in
    next_broken c.args.kind c.args.leaves.now.most_points c.args.leaves.now.overlap c.args.leaves.now.waiting c.args.lines.now.items (g.H.Host.seen c.args.host.now) list c.loop.counter c.loop.leaves.waiting c.loop.lines.items
    (g.H.Host.seen c.loop.host) (c.loop.invariant.wrote list are) c.in-Some.leaf c.next.new.self.waiting
    (next_leaf c.args.leaves.now.most_points c.args.leaves.now.overlap c.loop.leaves.most_points c.loop.leaves.overlap c.loop.leaves.waiting c.next.new.self.waiting c.in-Ok.next c.in-Some.leaf kept.0 kept.1 c.in-Ok.ensures.some c.in-Some.is)
    c.write_leaf.new.lines.items (g.H.Host.seen c.write_leaf.new.host) c.pieces_exist.ensures.tiles sided c.in-Err-write_leaf.broken c.in-Err-write_leaf.ensures
