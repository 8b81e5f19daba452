use Rattle.std.proofs.Common.{◌≡◌, ◌++◌, map, take}
use Rattle.osm_segments.proofs.counts.add_greater_ends.Given as goal

abbrev pub invariant-loop-seg : goal.invariant-loop-seg
invariant-loop-seg l = l.ends.items ≡ l.initial.ends.items ++ map (λ s. s.b) (take l.seg-index l.segs)
