use Rattle.std.proofs.Common.{◌≡◌}
use Rattle.job_coastline.proofs.Tallies.{CountedFirst}
use Rattle.job_coastline.proofs.counts.count_leaves_of.Given as goal

abbrev pub invariant-loop : goal.invariant-loop
invariant-loop l = record {
  kept : (l.leaves.most_points ≡ l.fn.leaves.most_points) × (l.leaves.overlap ≡ l.fn.leaves.overlap);
  counts : CountedFirst l.kind l.fn.leaves.most_points l.fn.leaves.overlap l.fn.leaves.waiting l.fn.tally l.leaves.waiting l.now;
}
