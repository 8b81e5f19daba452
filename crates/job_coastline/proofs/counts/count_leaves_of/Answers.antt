use Rattle.std.proofs.Common.{refl, ◌∙◌}
use Rattle.job_coastline.proofs.Left.{next_leaf, none_waiting}
use Rattle.job_coastline.proofs.Tallies.{all_counted, next_counted, none_counted}
use Rattle.job_coastline.proofs.counts.count_leaves_of.Goals as goal

pub loop-init : goal.loop-init
loop-init c = record { kept = (refl, refl); counts = none_counted c.args.kind c.args.leaves.now.most_points c.args.leaves.now.overlap c.args.leaves.now.waiting c.args.tally }

pub loop-preserved : goal.loop-preserved
loop-preserved c =
    let kept = c.loop.invariant.kept in
    let same = c.in_ok-next.ensures.kept in
    record {
      kept = (same.0 ∙ kept.0, same.1 ∙ kept.1);
      counts =
          next_counted c.args.kind c.args.leaves.now.most_points c.args.leaves.now.overlap c.args.leaves.now.waiting c.args.tally c.loop.leaves.waiting c.loop.now c.loop.invariant.counts c.in-Some.leaf c.next.new.self.waiting
          (next_leaf c.args.leaves.now.most_points c.args.leaves.now.overlap c.loop.leaves.most_points c.loop.leaves.overlap c.loop.leaves.waiting c.next.new.self.waiting c.in_ok-next.next c.in-Some.leaf kept.0 kept.1 c.in_ok-next.ensures.some c.in-Some.is)
          c.in_ok-now-in-Some.now c.in_ok-now-in-Some.ensures;
    }

pub returns-in-None : goal.returns-in-None
returns-in-None c =
    all_counted c.args.kind c.args.leaves.now.most_points c.args.leaves.now.overlap c.args.leaves.now.waiting c.args.tally c.loop.leaves.waiting c.loop.now c.loop.invariant.counts
    (none_waiting c.loop.leaves.waiting c.in_ok-next.next c.in_ok-next.ensures.none c.in-None.is)
