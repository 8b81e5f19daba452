use Rattle.std.proofs.Common.{Contains, take, ◌≤ℤ◌, ◌⊎◌}
use Rattle.osm_segments.specs.declared.ranges.strips.SegAt.{SegAt}
use Rattle.osm_segments.specs.Ranges.{height}
use Rattle.osm_segments.proofs.ranges.strips.reaching_below.Given as goal

abbrev pub invariant-loop-s : goal.invariant-loop-s
invariant-loop-s l = (s : SegAt) → Contains (take l.s-index l.all) s → Contains l.below.items s ⊎ (height l.middle ≤ℤ height s.seg.a)
