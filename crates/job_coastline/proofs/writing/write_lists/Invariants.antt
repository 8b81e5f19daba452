use Rattle.std.proofs.Common.{List, length, take, ◌≤◌, Ok}
use Rattle.coast_split.specs.LeavesLeft.{AreLeft}
use Rattle.coast_split.specs.declared.leaves.Leaf.{Leaf}
use Rattle.job_coastline.specs.Coastline.{most_leaves}
use Rattle.job_coastline.specs.WriteSteps.{WroteLeaves}
use Rattle.job_coastline.proofs.writing.write_lists.Given as goal

abbrev pub invariant-loop-edges : goal.invariant-loop-edges
invariant-loop-edges g l =
    (list : List Leaf) → AreLeft l.settings.max_points l.settings.bbox_overlap (take (length l.yielded) l.fn.lists.items) list → length list ≤ most_leaves →
    WroteLeaves {T = Unit {0}} l.kind list l.fn.lines.items l.lines.items (g.H.Host.seen l.fn.host) (g.H.Host.seen l.host) (Ok tt)
