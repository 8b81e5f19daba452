use Rattle.std.proofs.Common.{List, ◌≡◌}
use Rattle.coast_split.specs.LeavesLeft.{AreLeft}
use Rattle.coast_split.specs.declared.leaves.Leaf.{Leaf}
use Rattle.job_coastline.proofs.Made.{WroteFirst}
use Rattle.job_coastline.proofs.writing.write_leaves.Given as goal

abbrev pub invariant-loop : goal.invariant-loop
invariant-loop g l = record {
  kept : (l.leaves.most_points ≡ l.fn.leaves.most_points) × (l.leaves.overlap ≡ l.fn.leaves.overlap);
  wrote : (list : List Leaf) → AreLeft l.fn.leaves.most_points l.fn.leaves.overlap l.fn.leaves.waiting list →
      WroteFirst l.kind l.fn.leaves.most_points l.fn.leaves.overlap l.fn.leaves.waiting l.fn.lines.items (g.H.Host.seen l.fn.host) list l.counter l.leaves.waiting l.lines.items (g.H.Host.seen l.host);
}
