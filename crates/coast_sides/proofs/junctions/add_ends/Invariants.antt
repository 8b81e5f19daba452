use Rattle.std.proofs.Common.{◌≡◌, ◌++◌, take}
use Rattle.osm_segments.specs.Counts.{ends_of}
use Rattle.osm_segments.specs.Repeats.{segs_of}
use Rattle.coast_sides.proofs.junctions.add_ends.Given as goal

abbrev pub invariant-loop-repeat : goal.invariant-loop-repeat
invariant-loop-repeat l = l.nodes.items ≡ l.initial.nodes.items ++ ends_of (segs_of (take l.repeat-index l.repeats))
