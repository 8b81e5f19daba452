use Rattle.std.proofs.Common.{◌≡◌, ◌++◌, filter, take}
use Rattle.osm_segments.specs.Counts.{ends_of}
use Rattle.coast_sides.specs.WorldSides.{on_side}
use Rattle.coast_sides.proofs.side_nodes.add_ends.Given as goal

abbrev pub invariant-loop-seg : goal.invariant-loop-seg
invariant-loop-seg l = l.nodes.items ≡ l.initial.nodes.items ++ filter (on_side l.side) (ends_of (take l.seg-index l.land))
