use Rattle.std.proofs.Common.{◌≡◌, filter, not, take}
use Rattle.coast_sides.specs.KeptSegments.{is_left}
use Rattle.coast_sides.proofs.end_order.gone_of.Given as goal

abbrev pub invariant-loop-seg : goal.invariant-loop-seg
invariant-loop-seg l = l.gone.items ≡ filter (λ s. not (is_left l.left s)) (take l.seg-index l.segs)
